-- Rows read, counted by the definitions: what the walk of before read, what a walk reads that stops once past, and what the
-- search looks at; and all three for tables of 1, 4, 16, 64 and 128 rows.
use Rattle.std.specs.Prelude.{List, [], ◌∷◌, map, ℕ, suc, ◌+◌, ◌*◌, length, take}
use Rattle.state.specs.Tables.{listed}
use Rattle.state.specs.Lookup.{place_in}
use Rattle.state_lookup.specs.Search.{first_not_below, looks}

-- from the first row to the id itself, or all
abbrev pub read_before : ℕ → List ℕ → ℕ
read_before id xs = length (take (suc (place_in id xs)) xs)

-- from the first row to the first not below, or all
abbrev pub read_by_walk : ℕ → List ℕ → ℕ
read_by_walk id xs = length (take (suc (first_not_below id xs)) xs)

abbrev pub read_by_search : ℕ → List ℕ → ℕ
read_by_search id xs = length (looks 8 id xs)

-- a table with the ids 10, 20, 30 ..
abbrev pub tens : ℕ → List ℕ
tens n = listed (λ k. 10 * k + 10) 0 n

-- before, walk, search
abbrev pub read : ℕ → ℕ → List ℕ
read n id = read_before id (tens n) ∷ read_by_walk id (tens n) ∷ read_by_search id (tens n) ∷ []

-- for the ids named
abbrev pub rows : ℕ → List ℕ → List (List ℕ)
rows n ids = map (read n) ids
