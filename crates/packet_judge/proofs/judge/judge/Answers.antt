-- `judge`: a refusal with zeros, or the id and the count of an accepted packet.
use Rattle.std.proofs.Common.{sym}
use Rattle.packet_rules.proofs.JudgeLaws.{accepts, judge_refused, judge_accepted}
use Rattle.packet_rules.proofs.RejectionLaws.{number_not_0}
use Rattle.packet_judge.proofs.judge.judge.Goals as goal

pub returns-in-Err : goal.returns-in-Err
returns-in-Err c = rw c.into.ensures (judge_refused _ _ (c.in-Err.ensures, number_not_0 c.in-Err.r))

pub command_id-requires : goal.command_id-requires
command_id-requires c = accepts _ (sym c.in-Ok.ensures)

pub arg_count-requires : goal.arg_count-requires
arg_count-requires c = accepts _ (sym c.in-Ok.ensures)

pub returns-in-Ok : goal.returns-in-Ok
returns-in-Ok c = judge_accepted _ _ _ (sym c.in-Ok.ensures, c.command_id.ensures, c.arg_count.ensures)
