-- `search`: the hops that are left lead where all of them do.
use Rattle.std.proofs.Common.{arith}
use Rattle.state_lookup.proofs.Hopping.{not_taken, taken, other, here}
use Rattle.state_lookup.proofs.search.Goals as goal

pub loop-step-preserved-then-x-id : goal.loop-step-preserved-then-x-id
loop-step-preserved-then-x-id c = not_taken c.loop-step.invariant (omega arith) (omega arith)

pub loop-step-preserved : goal.loop-step-preserved
loop-step-preserved c = taken c.loop-step.invariant (omega arith) (omega arith)

pub returns-then-next-id : goal.returns-then-next-id
returns-then-next-id c e q = other c.loop-step.invariant (omega arith) e q c.if-next-id.true

pub returns : goal.returns
returns c e q = here c.loop-step.invariant (omega arith) e q (omega arith)
