-- `row_step`: the row at the place found, or none.
use Rattle.std.proofs.Common.{refl, arith}
use Rattle.step_effects.proofs.ActLaws.{place_below, place_past}
use Rattle.step_rules.proofs.MovedLaws.{row_moves_32, row_moves_12}
use Rattle.step_packet.proofs.row_step.Goals as goal

pub returns-in_default : goal.returns-in_default
returns-in_default c =
    rw c.quiet.ensures
    (row_moves_32 _ _ _ _ _ (rw c.fault_arg-wanted.ensures at (place_past c.requires.0.slots _ _ refl (c.in_default.ensures 6 refl))))

pub bounds-states-at : goal.bounds-states-at
bounds-states-at c = omega (arith, (c.in-Some.ensures 6 refl).1, c.requires.0.slots.within)

pub bounds-states-at-2 : goal.bounds-states-at-2
bounds-states-at-2 c = omega (arith, (c.in-Some.ensures 6 refl).1, c.requires.0.slots.within)

pub returns : goal.returns
returns c =
    let at = c.in-Some.ensures 6 refl in
    rw c.quiet-2.ensures
    (row_moves_12 _ _ _ _ _ _ _ (rw c.fault_arg-wanted.ensures at (place_below c.requires.0.slots _ _ at.0 at.1)) c.next.ensures)
