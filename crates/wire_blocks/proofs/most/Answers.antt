-- `most`: the buffer is the copy of the bytes done; the last sixty-four join on to them.
use Rattle.std.proofs.Common.{◌+◌, arith}
use Rattle.wire.specs.PutLaws.{put_on, put_last}
use Rattle.wire_blocks.proofs.most.Goals as goal

pub loop-done-preserved : goal.loop-done-preserved
loop-done-preserved c =
    let a = c.args in
    let l = c.loop-done in
    let joined = put_on a.out.now a.at a.s.now l.done l.done 64 (l.done + 64) _ _ l.invariant.1 c.block.ensures in
    (omega arith, joined (omega arith) (omega arith) (omega arith) (omega arith) (omega arith), omega arith)

pub returns : goal.returns
returns c =
    let a = c.args in
    put_last a.out.now a.at a.s.now c.loop-done.done 64 _ _ c.loop-done.invariant.1 c.block-2.ensures (omega arith) (omega arith) (omega arith) (omega arith)
