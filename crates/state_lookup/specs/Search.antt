-- The search in a column of rising ids: from behind the last id it goes down in hops, each half as long as the one before, each
-- taken where the id that it leads to is not below the wanted one. They end at the first id not below, where a walk would stop.
-- A column is the list of the ids in use.
use Rattle.std.specs.Prelude.{Bool, cond, ◌&&◌, List, [], ◌∷◌, ◌++◌, ℕ, zero, suc, ◌+◌, ◌-◌, leb, ltb, eqb, length, get_or}

-- the place of the first id that is not below the wanted one; the number of ids where all are below
abbrev pub first_not_below : ℕ → List ℕ → ℕ
first_not_below id [] = 0
first_not_below id (x ∷ xs) = cond (ltb x id) (suc (first_not_below id xs)) 0

-- 1, 2, 4 .., and the half of each: 0, 1, 2 ..
abbrev pub twos : ℕ → ℕ
twos zero = 1
twos (suc e) = twos e + twos e

abbrev pub half : ℕ → ℕ
half zero = 0
half (suc e) = twos e

-- ---- the hops

-- a hop down stays within the ids, and the id that it leads to is not below the wanted one
abbrev pub leads : ℕ → List ℕ → ℕ → ℕ → Bool
leads id xs at step = leb step at && leb id (get_or xs (at - step) 0)

abbrev pub hop : ℕ → List ℕ → ℕ → ℕ → ℕ
hop id xs at step = cond (leads id xs at step) (at - step) at

-- where so many hops end, the last of them of 1
abbrev pub hops : ℕ → List ℕ → ℕ → ℕ → ℕ
hops id xs at zero = at
hops id xs at (suc e) = hops id xs (hop id xs at (twos e)) e

-- the place, if the id stands there; else the number of ids
abbrev pub found : ℕ → List ℕ → ℕ → ℕ
found id xs k = cond (ltb k (length xs) && eqb id (get_or xs k 0)) k (length xs)

-- what a search of so many hops finds
abbrev pub sought : ℕ → ℕ → List ℕ → ℕ
sought e id xs = found id xs (hops id xs (length xs) e)

-- ---- the places looked at

-- a hop that would lead before the first id looks at nothing
abbrev pub look : ℕ → ℕ → List ℕ
look at step = cond (leb step at) ((at - step) ∷ []) []

-- one after the other: the place that each hop leads to. What stands where they end was seen by the last hop that was taken
abbrev pub looks_from : ℕ → List ℕ → ℕ → ℕ → List ℕ
looks_from id xs at zero = []
looks_from id xs at (suc e) = look at (twos e) ++ looks_from id xs (hop id xs at (twos e)) e

abbrev pub looks : ℕ → ℕ → List ℕ → List ℕ
looks e id xs = looks_from id xs (length xs) e
