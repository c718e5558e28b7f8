-- `head_refusal`: each return is one line of `BadForm`, of every packet that begins with the byte.
use Rattle.std.proofs.Common.{arith}
use Rattle.packet_rules.specs.JudgeOutcome.{not_version_0, not_telecommand, not_secondary}
use Rattle.packet_judge.proofs.form.head_refusal.Goals as goal

pub returns-then-version-ne0 : goal.returns-then-version-ne0
returns-then-version-ne0 c s e = not_version_0 (omega arith)

pub returns-then-packet_type-ne1 : goal.returns-then-packet_type-ne1
returns-then-packet_type-ne1 c s e = not_telecommand (omega arith) (omega arith)

pub returns : goal.returns
returns c s e = not_secondary (omega arith) (omega arith) (omega arith)
