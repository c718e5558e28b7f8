-- Demand 2 of the steps: accepted exactly when the rules say so, else the first refusal in their order; and a command sent on
-- carries exactly the id and argument bytes of its packet or fault row, its source, and the destination of its route.
use Rattle.std.proofs.Math.Path.{◌≡◌, refl, sym}
use Rattle.std.proofs.Common.{ap, ◌∙◌, drop_at}
use Rattle.std.specs.Prelude.{true, false, List, map, ℕ, ◌+◌, ◌≤◌, length, drop}
use Rattle.std.proofs.lemmas.Bool.{false≢true}
use native.Mathlib.Omega.{arith}
use Rattle.std.proofs.lemmas.List.{length-map}
use Rattle.std.proofs.Math.ListN.{get_or-map}
use Rattle.std.proofs.Math.Seq.{take-append_seam}
use Rattle.packet_rules.specs.Layout.{command_id}
use Rattle.packet_rules.specs.Judge.{arguments_of}
use Rattle.state.specs.declared.types.Config.{Config}
use Rattle.state.specs.declared.types.Run.{Run}
use Rattle.state.specs.Tables.{Tables, fault_id, tables_of}
use Rattle.state.specs.Rules.{member}
use Rattle.state.specs.Test.{keeps_rules}
use Rattle.step_rules.specs.declared.types.Stepped.{Stepped}
use Rattle.step_effects.specs.FaultStates.{meant, no_row, row_for}
use Rattle.step_effects.proofs.ActLaws.{place_row}
use Rattle.step_effects.specs.Dispatch.{command_bytes, sent, step_room}
use Rattle.step_effects.proofs.DispatchLaws.{sent_10}
use Rattle.step_answers.specs.Answers.{blocked}
use Rattle.step_rules.specs.Step.{packet_output, packet_step_of, fault_output, fault_step_of, fault_step, rejected_step}
use Rattle.step_rules.specs.StepOutcome.{stopped, miscounted, without_row, row_done, arm_taken, own_done, without_route, goes, unlisted, quiet, responds, PacketSteps, FaultSteps}
use Rattle.step_rules.proofs.StepOutcome.{packet_steps, fault_steps}
use Rattle.step_rules.specs.StepOutcome as outcomes
use Rattle.step_rules.specs.Packets.{is_accepted, OutcomeUnder, AcceptsUnder}
use Rattle.step_rules.proofs.Packets.{only_under, accepted_under_lem, rejects_under, not_under, rejected_not}
use Rattle.step_rules.proofs.Demand1.{answered_accepted}
use Rattle.step_rules.specs.Demand2.{Dispatched, Carries, Responded, with_protected}

-- ---- accepted exactly when the state keeps its rules, there is room, and the judge accepts

module _ (c : Config) (run : Run) (p : List ℕ) (room : ℕ) where
  abbrev t : Tables
  t = tables_of c

  was_accepted : (r : Stepped) → PacketSteps c run p room r → is_accepted r.answer.answer ≡ true → (keeps_rules c run ≡ true) × (step_room ≤ room) × AcceptsUnder t p
  unfolding rejected_step
  was_accepted r (outcomes.breaks e) h = absurd (false≢true h)
  was_accepted r (outcomes.cramped e q) h = absurd (false≢true h)
  was_accepted r (outcomes.rejects e q n o z) h = absurd (false≢true (sym (rejected_not n (rejects_under t p o z)) ∙ h))
  was_accepted r (outcomes.does e q a n o) h = (e, q, a)

  pub accepted_only_if : is_accepted (packet_step_of c run p room).answer.answer ≡ true → (keeps_rules c run ≡ true) × (step_room ≤ room) × AcceptsUnder t p
  accepted_only_if = was_accepted (packet_step_of c run p room) (packet_steps c run p room)

  is_accepted_lem : (r : Stepped) → PacketSteps c run p room r → keeps_rules c run ≡ true → step_room ≤ room → AcceptsUnder t p → is_accepted r.answer.answer ≡ true
  unfolding rejected_step
  is_accepted_lem r (outcomes.breaks e) k q a = absurd (false≢true (sym e ∙ k))
  is_accepted_lem r (outcomes.cramped e w) k q a = absurd (omega arith)
  is_accepted_lem r (outcomes.rejects e w n o z) k q a = absurd (z (only_under t p o ∙ accepted_under_lem t p a))
  is_accepted_lem r (outcomes.does e w b n o) k q a = answered_accepted o

  pub accepted_if : keeps_rules c run ≡ true → step_room ≤ room → AcceptsUnder t p → is_accepted (packet_step_of c run p room).answer.answer ≡ true
  accepted_if = is_accepted_lem (packet_step_of c run p room) (packet_steps c run p room)

  -- else, on such a state, it gets the first refusal in the order of the judge's rules, and no other
  is_refused : (r : Stepped) → PacketSteps c run p room r → keeps_rules c run ≡ true → step_room ≤ room → (n : ℕ) → OutcomeUnder t p n → (n ≡ 0 → ⊥) → r.answer.answer ≡ n
  unfolding rejected_step
  is_refused r (outcomes.breaks e) k q n o z = absurd (false≢true (sym e ∙ k))
  is_refused r (outcomes.cramped e w) k q n o z = absurd (omega arith)
  is_refused r (outcomes.rejects e w m b y) k q n o z = only_under t p b ∙ sym (only_under t p o)
  is_refused r (outcomes.does e w b m d) k q n o z = absurd (z (only_under t p o ∙ accepted_under_lem t p b))

  pub refused_first : keeps_rules c run ≡ true → step_room ≤ room → (n : ℕ) → OutcomeUnder t p n → (n ≡ 0 → ⊥) → (packet_step_of c run p room).answer.answer ≡ n
  refused_first = is_refused (packet_step_of c run p room) (packet_steps c run p room)

  dispatched_as : (r : Stepped) → PacketSteps c run p room r → r.answer.answer ≡ 10 → Dispatched c run p room r
  unfolding rejected_step
  dispatched_as r (outcomes.breaks e) h = absurd (omega arith)
  dispatched_as r (outcomes.cramped e q) h = absurd (omega arith)
  dispatched_as r (outcomes.rejects e q n o z) h = absurd (not_under t p o z 10 refl h)
  dispatched_as r (outcomes.does e q a n (stopped b)) h = absurd (omega arith)
  dispatched_as r (outcomes.does e q a n (miscounted b k d f)) h = absurd (omega arith)
  dispatched_as r (outcomes.does e q a n (without_row b k d f g i)) h = absurd (omega arith)
  dispatched_as r (outcomes.does e q a n (row_done b k d f g place i)) h = absurd (omega arith)
  dispatched_as r (outcomes.does e q a n (arm_taken b d f)) h = absurd (omega arith)
  dispatched_as r (outcomes.does e q a n (own_done b k d f g i)) h = absurd (omega arith)
  dispatched_as r (outcomes.does e q a n (without_route b d f)) h = absurd (omega arith)
  dispatched_as r (outcomes.does e q a n (goes b d f)) h = record { let_past = b; is_routed = f; id_is = refl; dest_is = refl; written_is = refl }

  pub dispatched : (packet_step_of c run p room).answer.answer ≡ 10 → Dispatched c run p room (packet_step_of c run p room)
  dispatched = dispatched_as (packet_step_of c run p room) (packet_steps c run p room)

  -- a protected command from a packet that finds the path unarmed is never dispatched
  pub unarmed_never_dispatched : run.standing.arm.armed ≡ false → member (command_id p) (tables_of c).protected ≡ true → (packet_step_of c run p room).answer.answer ≡ 10 → ⊥
  unfolding blocked
  unarmed_never_dispatched u m h = let d = simp (u, m) at (dispatched h).let_past in let z : ◌≡◌ {A = ℕ} 0 1 = cc d in omega arith

carries : (source id : ℕ) (args out : List ℕ) → Carries source id args out (sent 10 source id args out)
carries source id args out =
    let bytes = command_bytes source id args in
    let e : length bytes ≡ 5 + length args = omega arith in
    rw (← sent_10 10 source id args out refl)
    (record {
      source_is = omega arith;
      id_is = omega arith;
      count_is = refl;
      args_are = take-append_seam args _;
      later_stay = drop_at bytes (drop (length bytes) out) (5 + length args) e ∙ ap (λ (k : ℕ). drop k out) e;
    })

-- a packet's command carries the ground source, the packet's own id and its own arguments
pub packet_carries : (t : Tables) (p out : List ℕ) → Carries t.settings.ground_source (command_id p) (arguments_of p) out (packet_output t 10 p out)
unfolding packet_output
packet_carries t p out = carries t.settings.ground_source (command_id p) (arguments_of p) out

-- a response carries the fault source, the row's own command id and its own arguments
pub fault_carries : (t : Tables) (f : ℕ) (out : List ℕ) → let row = row_for (meant t f) t.rows in Carries t.settings.fault row.response row.args out (fault_output t 10 f out)
unfolding fault_output
fault_carries t f out = let row = row_for (meant t f) t.rows in carries t.settings.fault row.response row.args out

-- ---- a dispatched fault: its id means a row, which is enabled; that row's response, its route's destination, 5 + count bytes

module _ (c : Config) (run : Run) (f room : ℕ) where
  responded_as : (r : Stepped) → FaultSteps c run f room r → r.answer.answer ≡ 10 → Responded c run f room r
  responded_as r (outcomes.breaks e) h = absurd (omega arith)
  responded_as r (outcomes.cramped e q) h = absurd (omega arith)
  responded_as r (outcomes.does e q n (unlisted m)) h = absurd (omega arith)
  responded_as r (outcomes.does e q n (quiet k m s)) h = absurd (omega arith)
  responded_as r (outcomes.does e q n (responds k m s)) h =
      let p = place_row f (map fault_id (tables_of c).rows) k m in
      record {
        place = k;
        listed = m;
        there = rw (length-map (tables_of c).rows fault_id) at p.0;
        its_id = sym (get_or-map fault_id (tables_of c).rows k no_row) ∙ p.1;
        was_enabled = s;
        id_is = rw m;
        dest_is = rw m;
        written_is = rw m;
      }

  pub responded : (fault_step_of c run f room).answer.answer ≡ 10 → Responded c run f room (fault_step_of c run f room)
  responded = responded_as (fault_step_of c run f room) (fault_steps c run f room)

pub protection_not_asked : (t : Tables) (ids : List ℕ) (run : Run) (f : ℕ) → fault_step (with_protected ids t) run f ≡ fault_step t run f
unfolding fault_step
protection_not_asked t ids run f = refl
