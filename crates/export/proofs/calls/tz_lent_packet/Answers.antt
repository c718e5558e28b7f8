-- `tz_lent_packet`: an armed number that is neither 0 nor 1, or the step handed out.
use Rattle.export_rules.proofs.BoundaryLaws.{packet_untold, packet_told}
use Rattle.export.proofs.calls.tz_lent_packet.Goals as goal

pub returns-then-standing-gt1 : goal.returns-then-standing-gt1
returns-then-standing-gt1 c = rw c.step_refused.ensures (packet_untold c.if-standing-gt1.true)

pub returns : goal.returns
returns c = rw c.into-2.ensures (packet_told c.if-standing-gt1.false (rw (c.lent-config.ensures, c.into.ensures) at c.lent_packet.ensures))
