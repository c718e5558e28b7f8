-- `is_blocked`: armed lets all past, else the id is looked up.
use Rattle.std.proofs.Common.{refl, ◌∙◌}
use Rattle.step_answers.proofs.AnswerLaws.{armed_free, unarmed_blocked}
use Rattle.step_packet.proofs.is_blocked.Goals as goal

pub returns-then-not-armed : goal.returns-then-not-armed
returns-then-not-armed c = rw c.if-not-armed.true (c.holds.ensures 6 refl ∙ unarmed_blocked _ _)

pub returns-else-not-armed : goal.returns-else-not-armed
returns-else-not-armed c = rw c.if-not-armed.false (armed_free _ _)
