-- `lent_fault`: a state that breaks its rules, too little room, or the inner step.
use Rattle.std.proofs.Common.{sym, ◌∙◌}
use Rattle.state.specs.Tables.{config_of_lent}
use Rattle.state.proofs.KeepsLaws.{keeps}
use Rattle.step_rules.proofs.MovedOn.{lend_rows}
use Rattle.step_rules.proofs.LentSteps.{fault_breaks, fault_cramped, fault_leaves}
use Rattle.step_any_fault.proofs.lent_fault.Goals as goal

pub returns-then-not-lent_keeps : goal.returns-then-not-lent_keeps
returns-then-not-lent_keeps c = rw c.kept.ensures (fault_breaks (sym c.lent_keeps.ensures.0 ∙ c.if-not-lent_keeps.true))

pub returns-then-out-lt-STEP_ROOM : goal.returns-then-out-lt-STEP_ROOM
returns-then-out-lt-STEP_ROOM c =
    rw c.kept-then-out-lt-STEP_ROOM.ensures
    (fault_cramped (sym c.lent_keeps.ensures.0 ∙ c.if-not-lent_keeps.false) c.if-out-lt-STEP_ROOM.true)

pub inner_fault-answer-requires : goal.inner_fault-answer-requires
inner_fault-answer-requires c =
    let s = c.lent_keeps.ensures.1 in
    (lend_rows (keeps _ _ (sym c.lent_keeps.ensures.0 ∙ c.if-not-lent_keeps.false)) s.columns, s.states_32, c.if-out-lt-STEP_ROOM.false)

pub returns : goal.returns
returns c =
    rw c.left_of.ensures
    (fault_leaves (sym c.lent_keeps.ensures.0 ∙ c.if-not-lent_keeps.false) c.if-out-lt-STEP_ROOM.false (c.inner_fault-answer.ensures (config_of_lent c.args.config.now))
    c.after_fault-counted.ensures c.with_counts.ensures)
