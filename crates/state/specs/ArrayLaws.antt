-- Laws of tables in arrays: what is written is read back, a store behind the last row is a row more, the ids in use are the
-- first of their column, and the arrays are as long as the types say.
use Rattle.std.specs.Prelude.{List, ℕ, ◌≤◌, length}
use Rattle.state.specs.Tables.{FaultRow}
use Rattle.state.specs.Keeps.{Each}

-- ---- argument bytes

-- each row's bytes fit its 16 places
abbrev pub ShortArgs : List (List ℕ) → Type 0
ShortArgs rows = Each (λ (xs : List ℕ). length xs ≤ 16) rows

abbrev pub Short : List FaultRow → Type 0
Short rows = Each (λ (r : FaultRow). length r.args ≤ 16) rows
