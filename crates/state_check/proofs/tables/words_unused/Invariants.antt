-- `words_unused`: what was gathered says whether all that was passed is zero.
use Rattle.std.proofs.Common.{◌&&◌, drop}
use Rattle.state.specs.Test.{all_zero}
use Rattle.state_check.specs.Walks.{Gathered}
use Rattle.state_check.proofs.tables.words_unused.Given as goal

abbrev pub invariant-loop-k : goal.invariant-loop-k
invariant-loop-k l =
    Gathered
    (all_zero (drop l.n l.faultids) && all_zero (drop l.n l.responses))
    (all_zero (drop l.k l.faultids) && all_zero (drop l.k l.responses))
    l.ok
