-- What a caller of a replay may rely on: an output with its room for each event holds every answer, a shorter one the first of
-- them; each answer stands at its event's place and keeps the arm rule; a piece that stops with 20 has done nothing; and a list
-- of events in pieces gets the answers of the whole.
use Rattle.std.specs.Prelude.{◌≡◌, refl, Bool, true, false, cond, ◌&&◌, ◌⊎◌, List, [], ◌∷◌, ◌++◌, ℕ, zero, suc, ◌-◌, ◌*◌, ◌≤◌, ◌<◌, eqb, leb, ltb, length, take}
use Rattle.std.proofs.Common.{ap, ◌∙◌, inl, inr, arith, lit≤, eq-eqb, le-leb}
use Rattle.packet_rules.specs.Layout.{command_id}
use Rattle.wire.specs.Check.{check}
use Rattle.state.specs.declared.types.Config.{Config}
use Rattle.state.specs.declared.types.Run.{Run}
use Rattle.state.specs.Tables.{Tables, routed, tables_of}
use Rattle.state.specs.Test.{keeps_rules}
use Rattle.state.specs.Rules.{member}
use Rattle.state.specs.Keeps.{Each, RowOk}
use Rattle.state.proofs.KeepsLaws.{keeps}
use Rattle.image_rules.specs.Records.{Record, records_of}
use Rattle.image_load.specs.Image.{load_of}
use Rattle.image_load.proofs.LoadTheorems.{loaded_keeps}
use Rattle.history.specs.Plain.{Event, packet, Reply, accepted, latest_first, tables, reply, replies}
use Rattle.history.specs.Path.{step, reply_of, run, after}
use Rattle.history.proofs.Agree.{agree}
use Rattle.history.proofs.Outputs.{step_fits}
use Rattle.history.specs.ArmRule.{PastExactly}
use Rattle.history.proofs.ArmRule.{plain_arm_rule}
use Rattle.replay_rules.specs.Recording.{cut_short, other_kind, wrong_length, output_full, event_sized, kind_refusal, event_refusal, events_of, first_refusal, reply_bytes, fitting, head_size, event_room}
use Rattle.replay_rules.specs.Replay.{stop_of, path_replies, idle, piece_of, piece_bytes, plain_replies}
use Rattle.replay_rules.specs.ReplayTheorems.{reply_at}
use Rattle.replay_rules.proofs.PlainReplies.{plain_at}

-- ---- the answers that find room

-- the room that an event asks for: a head of six bytes, and the 260 of a step
pub event_266 : (head_size ≡ 6) × (event_room ≡ 266)
event_266 = (refl, refl)

-- the first ones, in their order
pub first_replies : (room : ℕ) (xs : List Reply) → fitting room xs ≡ take (length (fitting room xs)) xs
first_replies room [] = refl
first_replies room (x ∷ xs) = go (leb event_room room) (first_replies (room - length (reply_bytes x)) xs)
  where
    rest : List Reply
    rest = fitting (room - length (reply_bytes x)) xs

    go : (b : Bool) → rest ≡ take (length rest) xs → cond b (x ∷ rest) [] ≡ take (length (cond b (x ∷ rest) [])) (x ∷ xs)
    go true ih = ap (λ (l : List Reply). x ∷ l) ih
    go false ih = refl

-- all of them, where there is room for each
abbrev Short : Reply → Type 0
Short x = length (reply_bytes x) ≤ event_room

all_fit : (room : ℕ) (xs : List Reply) → Each Short xs → event_room * length xs ≤ room → fitting room xs ≡ xs
all_fit room [] h l = refl
all_fit room (x ∷ xs) h l =
    rw (le-leb event_room room (omega arith)) (ap (λ (r : List Reply). x ∷ r) (all_fit (room - length (reply_bytes x)) xs h.1 (omega (arith, h.0))))

module _ (t : Tables) where
  -- one for each event
  pub run_long : (s : Run) (es : List Event) → length (run t s es) ≡ length es
  run_long s [] = refl
  run_long s (e ∷ es) = ap suc (run_long (step t s e).run es)

  module _ (ok : Each (RowOk (routed t)) t.rows) where
    short : (s : Run) (e : Event) → Short (reply_of t e (step t s e))
    short s e = omega (arith, (step_fits t ok s e).short)

    all_short : (s : Run) (es : List Event) → Each Short (run t s es)
    all_short s [] = tt
    all_short s (e ∷ es) = (short s e, all_short (step t s e).run es)

-- of a state that keeps its rules
pub path_answered : (c : Config) (s : Run) → keeps_rules c s ≡ true → (es : List Event) (room : ℕ) → event_room * length es ≤ room → fitting room (run (tables_of c) s es) ≡ run (tables_of c) s es
path_answered c s k es room l =
    let t = tables_of c in
    all_fit room (run t s es) (all_short t (keeps c s k).rules.rows_ok s es) (omega (arith, run_long t s es))

pub replies_long : (image : List Record) (h es : List Event) → length (replies image h es) ≡ length es
replies_long image h [] = refl
replies_long image h (e ∷ es) = ap suc (replies_long image (e ∷ h) es)

-- and of an image, by the plain reading
pub all_answered : (image : List ℕ) → (load_of image).answer ≡ 0 → (recording : List ℕ) (room : ℕ) → event_room * length (events_of (records_of recording)) ≤ room
    → plain_replies image recording room ≡ replies (records_of image) [] (events_of (records_of recording))
all_answered image z recording room l =
    let es = events_of (records_of recording) in
    rw (eq-eqb _ _ z, ← agree image z es) (path_answered (load_of image).config (load_of image).run (loaded_keeps image z) es room l)

fitting_at : (room : ℕ) (xs : List Reply) (k : ℕ) → k < length (fitting room xs) → reply_at (fitting room xs) k ≡ reply_at xs k
fitting_at room [] k l = refl
fitting_at room (x ∷ xs) k l = go (leb event_room room) k l (λ k l. fitting_at (room - length (reply_bytes x)) xs k l)
  where
    rest : List Reply
    rest = fitting (room - length (reply_bytes x)) xs

    go : (b : Bool) (k : ℕ) → k < length (cond b (x ∷ rest) []) → ((k : ℕ) → k < length rest → reply_at rest k ≡ reply_at xs k) → reply_at (cond b (x ∷ rest) []) k ≡ reply_at (x ∷ xs) k
    go true zero l ih = refl
    go true (suc k) l ih = ih k (omega arith)
    go false k l ih = absurd (omega arith)

module _ (image recording : List ℕ) (room : ℕ) (before later : List Event) where
  -- the event behind `before`, where an answer to it was given, has the plain reply that the events before it ask for
  pub replay_at : (e : Event) → events_of (records_of recording) ≡ before ++ (e ∷ later) → length before < length (plain_replies image recording room)
      → reply_at (plain_replies image recording room) (length before) ≡ reply (records_of image) (latest_first [] before) e
  replay_at e s l = go (eqb (load_of image).answer 0) l
    where
      whole : List Reply
      whole = replies (records_of image) [] (events_of (records_of recording))

      go : (b : Bool) → length before < length (cond b (fitting room whole) []) → reply_at (cond b (fitting room whole) []) (length before) ≡ reply (records_of image) (latest_first [] before) e
      go true l = fitting_at room whole (length before) l ∙ rw s (plain_at (records_of image) [] before e later)
      go false l = absurd (omega arith)

  -- the arm rule of a replay: a protected command from an accepted packet is let past exactly when the events before it say so
  pub replay_arm_rule :
      (p : List ℕ) → accepted (records_of image) p ≡ true → member (command_id p) (tables (records_of image)).protected ≡ true
      → events_of (records_of recording) ≡ before ++ (packet p ∷ later) → length before < length (plain_replies image recording room)
      → PastExactly (records_of image) (latest_first [] before) (reply_at (plain_replies image recording room) (length before)).answer
  replay_arm_rule p a m s l = rw (replay_at (packet p) s l) (plain_arm_rule (records_of image) (latest_first [] before) p a m)

-- ---- a state that breaks its rules

-- the stops by a bad record, which are neither a broken state's nor a full output's
pub refusal_range : (rs : List Record) → (first_refusal rs ≡ 0) ⊎ ((cut_short ≤ first_refusal rs) × (first_refusal rs ≤ wrong_length))
unfolding kind_refusal
refusal_range [] = inl refl
refusal_range (r ∷ rs) = go (eqb (event_refusal r) 0) r.whole (leb 16 r.kind && leb r.kind 18) (event_sized r.kind (length r.body)) (refusal_range rs)
  where
    go : (z w k n : Bool) → (first_refusal rs ≡ 0) ⊎ ((cut_short ≤ first_refusal rs) × (first_refusal rs ≤ wrong_length))
        → let m = cond z (first_refusal rs) (check w cut_short (check k other_kind (check n wrong_length 0))) in (m ≡ 0) ⊎ ((cut_short ≤ m) × (m ≤ wrong_length))
    go true w k n ih = ih
    go false false k n ih = inr (lit≤ tt, lit≤ tt)
    go false true false n ih = inr (lit≤ tt, lit≤ tt)
    go false true true false ih = inr (lit≤ tt, lit≤ tt)
    go false true true true ih = inl refl

stop_not_20 : (xs : List Reply) (rs : List Record) → stop_of xs rs ≡ 20 → ⊥
stop_not_20 xs rs e = go (ltb (length xs) (length (events_of rs))) (refusal_range rs) e
  where
    go : (b : Bool) → (first_refusal rs ≡ 0) ⊎ ((cut_short ≤ first_refusal rs) × (first_refusal rs ≤ wrong_length)) → cond b output_full (first_refusal rs) ≡ 20 → ⊥
    go true r e = omega arith
    go false (inl z) e = omega arith
    go false (inr (l, h)) e = omega arith

-- a piece that stops with 20 has read, answered and written nothing, and leaves the run as it was
pub piece_20 : (c : Config) (s : Run) (recording : List ℕ) (room : ℕ) → (piece_of c s recording room).stop ≡ 20
    → (piece_of c s recording room ≡ idle s 20) × (piece_bytes c s recording room ≡ [])
unfolding piece_of piece_bytes
piece_20 c s recording room e = go (keeps_rules c s) refl
  where
    go : (b : Bool) → keeps_rules c s ≡ b → (piece_of c s recording room ≡ idle s 20) × (piece_bytes c s recording room ≡ [])
    go true k = absurd (stop_not_20 (path_replies (tables_of c) s (records_of recording) room) (records_of recording) (rw k at e))
    go false k = rw k (refl, refl)

-- ---- a list of events in pieces

module _ (t : Tables) where
  pub run_pieces : (s : Run) (es fs : List Event) → run t s (es ++ fs) ≡ run t s es ++ run t (after t s es) fs
  run_pieces s [] fs = refl
  run_pieces s (e ∷ es) fs = ap (λ (l : List Reply). reply_of t e (step t s e) ∷ l) (run_pieces (step t s e).run es fs)

  pub after_pieces : (s : Run) (es fs : List Event) → after t s (es ++ fs) ≡ after t (after t s es) fs
  after_pieces s [] fs = refl
  after_pieces s (e ∷ es) fs = after_pieces (step t s e).run es fs
