-- What a lookup finds: the place of an id among ids, and the number of ids where it is not there.
use Rattle.std.specs.Prelude.{◌≡◌, cond, List, [], ◌∷◌, ℕ, suc, ◌<◌, ◌≤◌, eqb, length, take, Option, None, Some}
use Rattle.state.specs.Keeps.{Rising}

abbrev pub place_in : ℕ → List ℕ → ℕ
place_in id [] = 0
place_in id (x ∷ xs) = cond (eqb id x) 0 (suc (place_in id xs))

-- what a lookup among the first n of a column hands back: the place of the id, if it is there
abbrev pub Placed : ℕ → List ℕ → ℕ → Option ℕ → Type 0
Placed id ids n None = n ≤ place_in id (take n ids)
Placed id ids n (Some k) = (k ≡ place_in id (take n ids)) × (k < n)

-- an array of so many places of which the first n are in use
pub record Slots (limit : ℕ) (ids : List ℕ) (n : ℕ) : Type 0 where
  pub long : length ids ≡ limit
  pub within : n ≤ limit

-- no id is below the one before, the first at least low: all that a search asks of the order
abbrev pub NeverFalling : ℕ → List ℕ → Type 0
NeverFalling low [] = Unit {0}
NeverFalling low (x ∷ xs) = (low ≤ x) × NeverFalling x xs

-- a table's column of ids: those in use rise
pub record Column (limit : ℕ) (ids : List ℕ) (n : ℕ) : Type 0 where
  pub slots : Slots limit ids n
  pub rise : Rising 0 (take n ids)
