-- `bytes_unused`: what was gathered says whether all that was passed is zero.
use Rattle.std.proofs.Common.{◌&&◌, drop}
use Rattle.state.specs.Test.{all_zero}
use Rattle.state_check.specs.Walks.{Gathered}
use Rattle.state_check.proofs.tables.bytes_unused.Given as goal

abbrev pub invariant-loop-k : goal.invariant-loop-k
invariant-loop-k l =
    Gathered
    (all_zero (drop l.n l.latching) && (all_zero (drop l.n l.argcounts) && all_zero (drop l.n l.states)))
    (all_zero (drop l.k l.latching) && (all_zero (drop l.k l.argcounts) && all_zero (drop l.k l.states)))
    l.ok
