-- `states_keep`: what was gathered says whether the states that were passed keep their rule.
use Rattle.std.proofs.Common.{◌≤◌, []}
use Rattle.state.specs.Tables.{row_at, listed}
use Rattle.state.specs.Test.{states_ok}
use Rattle.state_check.specs.Apart.{states_from}
use Rattle.state_check.specs.Walks.{Gathered}
use Rattle.state_check.proofs.tables.states_keep.Given as goal

abbrev pub invariant-loop-k : goal.invariant-loop-k
invariant-loop-k l =
    let f = row_at [] [] l.latching [] [] in
    (l.k ≤ l.n) × Gathered (states_ok (listed f 0 l.n) l.states) (states_from f l.n l.states l.k) l.ok
