-- `tz_lent_fault`: an armed number that is neither 0 nor 1, or the step handed out.
use Rattle.export_rules.proofs.BoundaryLaws.{fault_untold, fault_told}
use Rattle.export.proofs.calls.tz_lent_fault.Goals as goal

pub returns-then-standing-gt1 : goal.returns-then-standing-gt1
returns-then-standing-gt1 c = rw c.step_refused.ensures (fault_untold c.if-standing-gt1.true)

pub returns : goal.returns
returns c = rw c.into-2.ensures (fault_told c.if-standing-gt1.false (rw (c.lent-config.ensures, c.into.ensures) at c.lent_fault.ensures))
