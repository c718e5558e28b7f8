-- `clear_all`: after k turns the first k states are cleared, in the lent array itself.
use Rattle.std.proofs.Common.{◌∙◌, arith}
use Rattle.step_effects.proofs.FaultLaws.{clear_kept, clear_next}
use Rattle.step_effects.proofs.faults.clear_all.Goals as goal

pub loop-k-preserved : goal.loop-k-preserved
loop-k-preserved c =
    let i = c.loop-k.invariant.cleared in record { cleared = clear_next i _ (omega arith) (c.next.ensures ∙ rw (clear_kept i)) }
