-- `inner_packet`: what was decided, and the command written where it is to be sent on.
use Rattle.std.proofs.Common.{arith}
use Rattle.packet_rules.proofs.JudgeLaws.{accepts}
use Rattle.packet_rules.proofs.PacketParts.{arguments_few}
use Rattle.state.specs.Tables.{config_of_lent}
use Rattle.step_rules.proofs.MovedLaws.{moves_unsent, moves_sent}
use Rattle.step_packet.proofs.inner_packet.Goals as goal

-- it is to be sent on: the judge accepts it
pub command_id-id-requires : goal.command_id-id-requires
command_id-id-requires c = accepts _ ((c.decided-d.ensures (config_of_lent c.args.config.now)).sends c.if-d.true).accepted

pub accepted_part-args-requires : goal.accepted_part-args-requires
accepted_part-args-requires c = accepts _ ((c.decided-d.ensures (config_of_lent c.args.config.now)).sends c.if-d.true).accepted

pub write-requires : goal.write-requires
write-requires c = (omega arith, rw c.accepted_part-args.ensures.content (arguments_few _))

pub returns-then-d : goal.returns-then-d
returns-then-d c other =
    moves_sent (c.decided-d.ensures other) _ c.if-d.true c.command_id-id.ensures c.accepted_part-args.ensures.content _ _ c.write.ensures

pub returns-else-d : goal.returns-else-d
returns-else-d c other = moves_unsent (c.decided-d.ensures other) _ c.if-d.false
