-- `none_own`: what was gathered says whether none that was passed is an own id.
use Rattle.std.proofs.Common.{arith}
use Rattle.std.proofs.Math.Bool.{and_comm}
use Rattle.state_check.specs.Each.{foreign}
use Rattle.state_check.specs.Walks.{on, each_here, is_foreign}
use Rattle.state_check.proofs.arrays.none_own.Goals as goal

pub loop-id-preserved : goal.loop-id-preserved
loop-id-preserved c =
    on c.loop-id.invariant (each_here (foreign c.args.base) c.args.ids.now c.loop-id.id-index (omega arith)) (is_foreign c.args.base _) (and_comm c.loop-id.ok _)
