-- after k turns the buffer is the copy of the first k zeros
use Rattle.std.proofs.Common.{◌≡◌}
use lib.Seq.{paste}
use Rattle.wire.specs.Put.{zero_bytes}
use Rattle.wire.proofs.put.zeros.Given as goal

abbrev pub invariant-loop-k : goal.invariant-loop-k
invariant-loop-k l = l.out ≡ paste l.fn.out l.at (zero_bytes l.n) l.k
