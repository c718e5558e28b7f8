-- `write` is safe and ends: each turn leaves fewer bytes of the replies.
use Rattle.std.proofs.Common.{length}
use Rattle.step.proofs.lines.write.Given as goal

abbrev pub decreases-loop-head : goal.decreases-loop-head
decreases-loop-head g l = length l.rest
