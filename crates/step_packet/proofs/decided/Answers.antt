-- `decided`: each way of a packet, by its law.
use Rattle.std.proofs.Common.{◌≤◌, length, refl, sym, ◌∙◌, arith}
use Rattle.packet_rules.proofs.JudgeLaws.{accepts}
use Rattle.packet_rules.proofs.PacketParts.{arguments_few}
use Rattle.packet_rules.proofs.RejectionLaws.{number_not_0}
use Rattle.step_answers.proofs.OwnLaws.{command_is, nothing_is}
use Rattle.step_rules.proofs.MovedLaws.{decided_rejected, decided_30, decided_own, decided_33, decided_10}
use Rattle.step_packet.proofs.decided.Goals as goal

pub returns-in-Err : goal.returns-in-Err
returns-in-Err c other =
    rw (c.decision_of.ensures, c.rejected.ensures, c.from.ensures) (decided_rejected _ c.requires.0 _ _ _ _ (c.in-Err.ensures, number_not_0 c.in-Err.r))

pub command_id-id-requires : goal.command_id-id-requires
command_id-id-requires c = accepts _ (sym c.in_default.ensures)

pub accepted_part-args-requires : goal.accepted_part-args-requires
accepted_part-args-requires c = accepts _ (sym c.in_default.ensures)

pub returns-then-is_blocked : goal.returns-then-is_blocked
returns-then-is_blocked c other =
    rw (c.decision_of-then-is_blocked.ensures, c.quiet.ensures)
    (decided_30 _ c.requires.0 _ _ _ (sym c.in_default.ensures) c.command_id-id.ensures c.accepted_part-args.ensures.content refl
    (sym c.is_blocked.ensures ∙ c.if-is_blocked.true))

pub returns-in-Some : goal.returns-in-Some
returns-in-Some c other =
    rw c.decision_of-in-Some.ensures
    (decided_own _ c.requires.0 _ _ _ (sym c.in_default.ensures) c.command_id-id.ensures c.accepted_part-args.ensures.content refl
    (sym c.is_blocked.ensures ∙ c.if-is_blocked.false) _ (command_is _ _ _ c.selected-selection.ensures c.in-Some.is).0 c.own_step-m.ensures)

pub returns-in_default-place : goal.returns-in_default-place
returns-in_default-place c other =
    rw (c.decision_of-in_default-place.ensures, c.quiet-in_default-place.ensures)
    (decided_33 _ c.requires.0 _ _ _ (sym c.in_default.ensures) c.command_id-id.ensures c.accepted_part-args.ensures.content refl
    (sym c.is_blocked.ensures ∙ c.if-is_blocked.false) (nothing_is _ c.selected-selection.ensures c.in_default-selection.is) refl (c.in_default-place.ensures 8 refl))

pub bounds-dests-at : goal.bounds-dests-at
bounds-dests-at c = omega (arith, (c.in-Some-place.ensures 8 refl).1, c.requires.0.route_ids.slots.within)

-- its arguments can be counted in a byte
pub overflow_cast-args : goal.overflow_cast-args
overflow_cast-args c =
    let few : length c.accepted_part-args.result.now ≤ 255 = rw c.accepted_part-args.ensures.content (arguments_few _) in
    omega (arith, few)

pub overflow_add-args : goal.overflow_add-args
overflow_add-args c =
    let few : length c.accepted_part-args.result.now ≤ 255 = rw c.accepted_part-args.ensures.content (arguments_few _) in
    omega (arith, few)

pub returns : goal.returns
returns c other =
    let at = c.in-Some-place.ensures 8 refl in
    rw (c.decision_of-2.ensures, c.moved_of.ensures, c.after_packet.ensures, c.dispatched-answer.ensures)
    (decided_10 _ c.requires.0 _ _ _ (sym c.in_default.ensures) c.command_id-id.ensures c.accepted_part-args.ensures.content refl
    (sym c.is_blocked.ensures ∙ c.if-is_blocked.false) (nothing_is _ c.selected-selection.ensures c.in_default-selection.is) at.0 at.1)
