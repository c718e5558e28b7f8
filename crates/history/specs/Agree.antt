-- Demand 3: for any good configuration and any list of packets, ticks and faults, the running path agrees on every answer with
-- the plain reading of the list.
use Rattle.std.specs.Prelude.{◌≡◌, true, ◌⊎◌, List, ℕ, ◌<◌}
use Rattle.std.proofs.Math.Option.{some}
use Rattle.image_rules.specs.Records.{Record}
use Rattle.history.specs.Plain.{Event, nearest, ticks_since, is_arm, timeout}

-- ---- the arm rule, in the mission's words

-- a protected command from an accepted packet is let past (gets any answer but 30) exactly when the nearest earlier accepted
-- packet was a well-formed arm command, and its timeout was zero or fewer ticks than that timeout came between
pub data LetPast (image : List Record) (h : List Event) : Type 0 where
  armed_by : (p : List ℕ) → nearest image h ≡ some p → is_arm image p ≡ true → (timeout image p ≡ 0) ⊎ (ticks_since image h < timeout image p) → LetPast image h
