-- The constant table of the code follows its rule, by one computed test of all twelve entries; and a walk that clears each
-- state.
use Rattle.std.specs.Prelude.{◌≡◌, ℕ, ◌≤◌, List, [], ◌∷◌, length}
use Rattle.std.proofs.Math.Seq.{paste}
use Rattle.step_effects.specs.FaultStates.{disabled, enabled, latched, clear_all}

abbrev pub table : List (List ℕ)
table =
    (enabled ∷ disabled ∷ disabled ∷ disabled ∷ [])
    ∷ (enabled ∷ disabled ∷ enabled ∷ latched ∷ [])
    ∷ (latched ∷ disabled ∷ enabled ∷ latched ∷ [])
    ∷ []

-- ---- clearing each state in its place: after k turns the first k are cleared

pub record Cleared (ss out : List ℕ) (k : ℕ) : Type 0 where
  pub upto : k ≤ length ss
  pub is : out ≡ paste ss 0 (clear_all ss) k
  pub long : length out ≡ length ss
