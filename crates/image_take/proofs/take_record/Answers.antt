-- `take_record`: each kind by its own function, and none else.
use Rattle.std.proofs.Common.{arith}
use Rattle.image_take.specs.Taking.{no_such_kind}
use Rattle.image_take.proofs.take_record.Goals as goal

pub returns-in-2-clause-takes : goal.returns-in-2-clause-takes
returns-in-2-clause-takes c = rw c.in-2.is (c.take_route.ensures.takes _)

pub returns-in-3-clause-takes : goal.returns-in-3-clause-takes
returns-in-3-clause-takes c = rw c.in-3.is (c.take_protected.ensures.takes _)

pub returns-in-1-clause-takes : goal.returns-in-1-clause-takes
returns-in-1-clause-takes c = rw c.in-1.is (c.take_one.ensures.takes _)

pub returns-in_default-clause-takes : goal.returns-in_default-clause-takes
returns-in_default-clause-takes c = no_such_kind _ _ (λ known. omega arith)
