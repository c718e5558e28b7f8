-- `tz_lent_tick`: an armed number that is neither 0 nor 1, or the step handed out.
use Rattle.export_rules.proofs.BoundaryLaws.{tick_untold, tick_told}
use Rattle.export.proofs.calls.tz_lent_tick.Goals as goal

pub returns-then-standing-gt1 : goal.returns-then-standing-gt1
returns-then-standing-gt1 c = rw c.step_refused.ensures (tick_untold _ _ c.if-standing-gt1.true)

pub returns : goal.returns
returns c = rw c.into-2.ensures (tick_told _ _ c.if-standing-gt1.false _ (rw (c.lent-config.ensures, c.into.ensures) at c.lent_tick.ensures))
