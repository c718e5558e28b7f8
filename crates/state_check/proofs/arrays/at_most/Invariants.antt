-- `at_most`: what was gathered says whether each that was passed is at most this.
use Rattle.std.proofs.Common.{drop}
use Rattle.state_check.specs.Each.{each, within}
use Rattle.state_check.specs.Walks.{Gathered}
use Rattle.state_check.proofs.arrays.at_most.Given as goal

abbrev pub invariant-loop-x : goal.invariant-loop-x
invariant-loop-x l = let p = within l.most in Gathered (each p l.xs) (each p (drop l.x-index l.xs)) l.ok
