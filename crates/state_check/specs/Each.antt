-- What the walks over one array decide: a test of each number, and that each number is above the one before it.
use Rattle.std.specs.Prelude.{Bool, true, not, ◌&&◌, List, [], ◌∷◌, ℕ, suc, leb}
use Rattle.state.specs.Rules.{own}

module _ {A : Type 0} where
  abbrev pub each : (A → Bool) → List A → Bool
  each p [] = true
  each p (x ∷ xs) = p x && each p xs

-- the first is at least low
abbrev pub rises : ℕ → List ℕ → Bool
rises low [] = true
rises low (x ∷ xs) = leb low x && rises (suc x) xs

abbrev pub within : ℕ → ℕ → Bool
within most x = leb x most

abbrev pub dest_ok : ℕ → Bool
dest_ok dest = leb 1 dest && leb dest 31

abbrev pub foreign : ℕ → ℕ → Bool
foreign base id = not (own base id)
