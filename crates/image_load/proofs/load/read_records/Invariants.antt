-- `Walked`; the measure is what is left of the image
use Rattle.std.proofs.Common.{length, ◌-◌}
use Rattle.image_load.specs.LoadWalk.{Walked}
use Rattle.image_load.proofs.load.read_records.Given as goal

abbrev pub invariant-loop-at : goal.invariant-loop-at
invariant-loop-at l = Walked l.image l.config l.states l.last l.at

abbrev pub decreases-loop-at : goal.decreases-loop-at
decreases-loop-at l = length l.image - l.at
