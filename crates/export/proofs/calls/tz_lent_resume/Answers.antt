-- `tz_lent_resume`: an armed number that is neither 0 nor 1, or the piece handed out.
use Rattle.export_rules.proofs.BoundaryLaws.{resume_untold, resume_told}
use Rattle.export.proofs.calls.tz_lent_resume.Goals as goal

pub returns-then-standing-gt1 : goal.returns-then-standing-gt1
returns-then-standing-gt1 c = rw c.piece_refused.ensures (resume_untold c.if-standing-gt1.true)

pub returns : goal.returns
returns c = rw c.into-2.ensures (resume_told c.if-standing-gt1.false (rw (c.lent-config.ensures, c.into.ensures) at c.lent_resume.ensures))
