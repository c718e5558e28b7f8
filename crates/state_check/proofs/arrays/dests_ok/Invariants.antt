-- `dests_ok`: what was gathered says whether each that was passed is a destination.
use Rattle.std.proofs.Common.{drop}
use Rattle.state_check.specs.Each.{each, dest_ok}
use Rattle.state_check.specs.Walks.{Gathered}
use Rattle.state_check.proofs.arrays.dests_ok.Given as goal

abbrev pub invariant-loop-dest : goal.invariant-loop-dest
invariant-loop-dest l = let p = dest_ok in Gathered (each p l.dests) (each p (drop l.dest-index l.dests)) l.ok
