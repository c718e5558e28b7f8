-- `bytes`: after i turns the buffer is the copy of the first i bytes.
use Rattle.std.proofs.Common.{◌≡◌, length, arith, add-one, ◌∙◌}
use lib.Seq.{paste-zero, paste-suc}
use Rattle.wire.specs.PutLaws.{put_whole}
use Rattle.wire.proofs.put.bytes.Goals as goal

pub loop-i-init : goal.loop-i-init
loop-i-init c = paste-zero c.args.out.now c.args.at c.args.s.now

pub loop-i-preserved : goal.loop-i-preserved
loop-i-preserved c =
    let l = c.loop-i in
    rw (l.invariant, add-one l.i) (paste-suc c.args.out.now c.args.at c.args.s.now l.i 0 (omega arith) (omega arith))

pub returns : goal.returns
returns c =
    let e : c.loop-i.i ≡ length c.args.s.now = omega arith in
    c.loop-i.invariant ∙ rw e (put_whole c.args.out.now c.args.at c.args.s.now)
