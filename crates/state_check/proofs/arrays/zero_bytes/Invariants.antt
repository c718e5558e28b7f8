-- `zero_bytes`: what was gathered says whether all that was passed is zero.
use Rattle.std.proofs.Common.{drop}
use Rattle.state.specs.Test.{all_zero}
use Rattle.state_check.specs.Walks.{Gathered}
use Rattle.state_check.proofs.arrays.zero_bytes.Given as goal

abbrev pub invariant-loop-k : goal.invariant-loop-k
invariant-loop-k l = Gathered (all_zero (drop l.from l.xs)) (all_zero (drop l.k l.xs)) l.ok
