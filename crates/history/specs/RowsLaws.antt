-- Fault rows by place: the path and the plain reading mean the same row by a fault id; and what an event on the row at a place makes
-- of the states, of which those of unused rows stay zero.
use Rattle.std.specs.Prelude.{List, ℕ}
use Rattle.state.specs.Tables.{listed, padded}

-- ---- the states of the first n rows, and zero behind them

abbrev pub states_for : (ℕ → ℕ) → ℕ → List ℕ
states_for st n = padded 32 (listed st 0 n)
