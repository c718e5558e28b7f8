-- `ends`: two blocks that reach each other put the whole.
use Rattle.std.proofs.Common.{arith}
use Rattle.wire.specs.PutLaws.{put_both}
use Rattle.wire_blocks.proofs.ends.Goals as goal

pub returns : goal.returns
returns g c = put_both c.args.out.now c.args.at c.args.s.now _ _ _ c.block.ensures c.block-2.ensures (omega arith) (omega arith) (omega arith)
