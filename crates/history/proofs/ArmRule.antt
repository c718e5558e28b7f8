-- The arm rule of the running path, in the mission's words: a protected command from an accepted packet is let past exactly when
-- the nearest earlier accepted packet was a well-formed arm command, and its timeout was zero or fewer ticks than that timeout
-- came between. `LetPast` says the second part; let past is any answer but 30.
use Rattle.std.specs.Prelude.{◌≡◌, refl, Bool, true, false, List, [], ℕ, ◌≤◌}
use Rattle.std.proofs.Common.{sym, ap, ◌∙◌, le-leb}
use Rattle.std.proofs.lemmas.Bool.{false≢true}
use Rattle.packet_rules.specs.Layout.{command_id}
use Rattle.state.specs.Rules.{member}
use Rattle.step_effects.specs.Dispatch.{step_room}
use Rattle.image_rules.specs.Records.{Record, records_of}
use Rattle.image_load.specs.Image.{load_of}
use Rattle.history.specs.Plain.{Event, packet, Reply, accepted, armed, tables, reply}
use Rattle.history.specs.Agree.{LetPast}
use Rattle.history.proofs.Agree.{past_armed, armed_past, let_past, not_past}
use Rattle.history.specs.Calls.{Call, step_of, after_calls, heard, CallBytes}
use Rattle.history.proofs.Calls.{call_behind}
use Rattle.history.specs.ArmRule.{PastExactly}

-- of the plain reply
pub plain_arm_rule : (image : List Record) (h : List Event) (p : List ℕ) → accepted image p ≡ true → member (command_id p) (tables image).protected ≡ true → PastExactly image h (reply image h (packet p)).answer
plain_arm_rule image h p a m = record { past = let_past image h p a m; only_then = only (armed image h) refl; else_30 = not_past image h p a m }
  where
    only : (b : Bool) → armed image h ≡ b → ((reply image h (packet p)).answer ≡ 30 → ⊥) → LetPast image h
    only true e q = armed_past image h e
    only false e q = absurd (q (not_past image h p a m (λ l. false≢true (sym e ∙ past_armed image h l))))

-- of the public step, behind any calls from the load on
pub arm_rule :
    (image : List ℕ) → (load_of image).answer ≡ 0
    → (xs : List Call) → CallBytes xs
    → (p : List ℕ) → accepted (records_of image) p ≡ true → member (command_id p) (tables (records_of image)).protected ≡ true
    → (room : ℕ) → step_room ≤ room
    → PastExactly (records_of image) (heard [] xs) (step_of (load_of image).config (after_calls (load_of image).config (load_of image).run xs) (packet p) room).answer.answer
arm_rule image z xs b p a m room l =
    let e = ap (λ (r : Reply). r.answer) (call_behind image z xs b (record { event = packet p; room = room })) in
    rw (rw (le-leb step_room room l) at e) (plain_arm_rule (records_of image) (heard [] xs) p a m)
