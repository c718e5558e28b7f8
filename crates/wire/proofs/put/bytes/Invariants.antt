-- after i turns the buffer is the copy of the first i bytes
use Rattle.std.proofs.Common.{◌≡◌}
use lib.Seq.{paste}
use Rattle.wire.proofs.put.bytes.Given as goal

abbrev pub invariant-loop-i : goal.invariant-loop-i
invariant-loop-i l = l.out ≡ paste l.fn.out l.at l.s l.i
