-- Laws of the search. Of every column: few places are looked at, each within the ids and none twice, and another column of as many
-- ids that has the same ids there gives the same place. Of a column that never falls: a hop is taken exactly if it does not lead
-- before the first id not below, so enough hops end there, and what is found is what a walk over all ids finds. Equal neighbours
-- are allowed: the first of them is found.
use Rattle.std.specs.Prelude.{◌≡◌, List, [], ◌∷◌, ℕ, get_or}
use Rattle.state.specs.Keeps.{Each}

-- ---- each within the ids, and none twice

-- no two are the same
abbrev pub Apart : List ℕ → Type 0
Apart [] = Unit {0}
Apart (k ∷ ks) = Each (λ j. j ≡ k → ⊥) ks × Apart ks

-- ---- no other place matters

-- the two columns have the same id at this place
abbrev pub Same : List ℕ → List ℕ → ℕ → Type 0
Same xs ys k = get_or xs k 0 ≡ get_or ys k 0
