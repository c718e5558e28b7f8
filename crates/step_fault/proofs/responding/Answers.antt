-- `responding`: no row, a row that is not enabled, or the response of the row at the place found.
use Rattle.std.proofs.Common.{refl, arith}
use Rattle.step_rules.proofs.Found.{member_found}
use Rattle.step_rules.proofs.FaultMovedLaws.{responds_34, responds_13, responds_10}
use Rattle.step_fault.proofs.responding.Goals as goal

pub returns-in_default : goal.returns-in_default
returns-in_default c other long = rw (c.responding_of.ensures, c.bare.ensures) (responds_34 _ c.requires.0 _ _ _ refl (c.in_default.ensures 6 refl))

pub bounds-states-k : goal.bounds-states-k
bounds-states-k c = omega (arith, (c.in-Some.ensures 6 refl).1, c.requires.0.fault_ids.slots.within)

pub returns-then-states-k-ne-ENABLED : goal.returns-then-states-k-ne-ENABLED
returns-then-states-k-ne-ENABLED c other long =
    let k = c.in-Some.ensures 6 refl in
    rw (c.responding_of-then-states-k-ne-ENABLED.ensures, c.bare-then-states-k-ne-ENABLED.ensures)
    (responds_13 _ c.requires.0 _ _ _ k.0 k.1 c.if-states-k-ne-ENABLED.true)

-- the response of a row in use is routed
pub unwrap-at-requires : goal.unwrap-at-requires
unwrap-at-requires c =
    member_found c.requires.0.route_ids.slots _ _ (c.requires.0.routed c.in-Some.k (c.in-Some.ensures 6 refl).1) (c.place-2.ensures 8 refl)

pub bounds-dests-at : goal.bounds-dests-at
bounds-dests-at c =
    let at = rw c.unwrap-at.ensures at (c.place-2.ensures 8 refl) in omega (arith, at.1, c.requires.0.route_ids.slots.within)

pub returns : goal.returns
returns c other long =
    let k = c.in-Some.ensures 6 refl in
    let at = rw c.unwrap-at.ensures at (c.place-2.ensures 8 refl) in
    rw (c.responding_of-2.ensures, c.dispatched-answer.ensures)
    (responds_10 _ c.requires.0 _ _ _ k.0 k.1 long c.if-states-k-ne-ENABLED.false _ at.0 at.1)
