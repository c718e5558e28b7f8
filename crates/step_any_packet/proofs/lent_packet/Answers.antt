-- `lent_packet`: a state that breaks its rules, too little room, or the inner step.
use Rattle.std.proofs.Common.{sym, ◌∙◌}
use Rattle.state.specs.Tables.{config_of_lent}
use Rattle.state.proofs.KeepsLaws.{keeps}
use Rattle.step_rules.proofs.Found.{lend}
use Rattle.step_rules.proofs.MovedOn.{lend_states}
use Rattle.step_rules.proofs.LentSteps.{packet_breaks, packet_cramped, packet_leaves}
use Rattle.step_any_packet.proofs.lent_packet.Goals as goal

pub returns-then-not-lent_keeps : goal.returns-then-not-lent_keeps
returns-then-not-lent_keeps c = rw c.kept.ensures (packet_breaks (sym c.lent_keeps.ensures.0 ∙ c.if-not-lent_keeps.true))

pub returns-then-out-lt-STEP_ROOM : goal.returns-then-out-lt-STEP_ROOM
returns-then-out-lt-STEP_ROOM c =
    rw c.kept-then-out-lt-STEP_ROOM.ensures
    (packet_cramped (sym c.lent_keeps.ensures.0 ∙ c.if-not-lent_keeps.false) c.if-out-lt-STEP_ROOM.true)

pub inner_packet-m-requires : goal.inner_packet-m-requires
inner_packet-m-requires c =
    let s = c.lent_keeps.ensures.1 in
    let k = keeps _ _ (sym c.lent_keeps.ensures.0 ∙ c.if-not-lent_keeps.false) in
    (lend k s.columns, lend_states k (record { states_32 = s.states_32 }), c.if-out-lt-STEP_ROOM.false)

pub returns : goal.returns
returns c =
    rw c.left_of.ensures
    (packet_leaves (sym c.lent_keeps.ensures.0 ∙ c.if-not-lent_keeps.false) c.if-out-lt-STEP_ROOM.false (c.inner_packet-m.ensures (config_of_lent c.args.config.now))
    c.after_packet-counted.ensures c.with_counts.ensures c.with_arm-left.ensures)
