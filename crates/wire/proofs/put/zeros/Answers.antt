-- `zeros`: after k turns the buffer is the copy of the first k zeros.
use Rattle.std.proofs.Common.{◌≡◌, ℕ, length, arith, add-one, ◌∙◌}
use Rattle.std.proofs.Math.ListN.{length-replicate, get_or-replicate}
use lib.Seq.{paste-zero, paste-suc}
use Rattle.wire.specs.Put.{zero_bytes}
use Rattle.wire.specs.PutLaws.{put_whole}
use Rattle.wire.proofs.put.zeros.Goals as goal

pub loop-k-init : goal.loop-k-init
loop-k-init c = paste-zero c.args.out.now c.args.at (zero_bytes c.args.n)

pub loop-k-preserved : goal.loop-k-preserved
loop-k-preserved c =
    let l = c.loop-k in
    let zero_there = get_or-replicate {A = ℕ} c.args.n l.k 0 0 (omega arith) in
    let one_more = paste-suc c.args.out.now c.args.at (zero_bytes c.args.n) l.k 0 (omega arith) (omega (arith, length-replicate {A = ℕ} c.args.n 0)) in
    rw (l.invariant, add-one l.k) (rw zero_there at one_more)

pub returns : goal.returns
returns c =
    let n = c.args.n in
    let all_of_them : c.loop-k.k ≡ length (zero_bytes n) = omega (arith, length-replicate {A = ℕ} n 0) in
    c.loop-k.invariant ∙ rw all_of_them (put_whole c.args.out.now c.args.at (zero_bytes n))
