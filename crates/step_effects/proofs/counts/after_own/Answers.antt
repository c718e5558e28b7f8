-- `after_own`: A alone, or zeros by a reset.
use Rattle.std.proofs.Common.{◌∙◌}
use Rattle.step_effects.proofs.CountLaws.{counts_own, counts_12, counts_reset}
use Rattle.step_effects.proofs.counts.after_own.Goals as goal
use Rattle.step_effects.proofs.counts.after_own.Goals.{else-n-eq12-via-then-n-eq12+else-reset, else-n-eq12-via-else-n-eq12}

pub returns-then-reset : goal.returns-then-reset
returns-then-reset c = c.no_counts.ensures ∙ counts_reset _ _ _ c.if-n-eq12.true c.if-reset.true

pub returns-else-n-eq12 : goal.returns-else-n-eq12
returns-else-n-eq12 c =
    rw c.bump.ensures
    (elim c.else-n-eq12.branch [
      | else-n-eq12-via-then-n-eq12+else-reset w ↦ counts_12 _ _ _ w.if-n-eq12.true w.if-reset.false
      | else-n-eq12-via-else-n-eq12 w ↦ counts_own _ _ _ c.requires.0 c.requires.1 w.if-n-eq12.false
    ])
