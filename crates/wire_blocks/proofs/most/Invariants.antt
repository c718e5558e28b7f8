-- the buffer is the copy of the bytes done
use Rattle.std.proofs.Common.{length, ◌-◌, ◌≡◌, ◌≤◌}
use Rattle.std.proofs.Math.Seq.{paste}
use Rattle.wire_blocks.proofs.most.Given as goal

abbrev pub invariant-loop-done : goal.invariant-loop-done
invariant-loop-done l = (l.done ≤ length l.s) × (l.out ≡ paste l.fn.out l.at l.s l.done) × (length l.out ≡ length l.fn.out)

abbrev pub decreases-loop-done : goal.decreases-loop-done
decreases-loop-done l = length l.s - l.done
