-- `inner_fault`: what was found, and the response written and its row latched where it is to be sent on.
use Rattle.std.proofs.Common.{[], arith}
use Rattle.step_rules.specs.Moved.{seen_by_faults}
use Rattle.step_rules.proofs.FaultMovedLaws.{row_below_32, args_there, not_10, moves_unsent, moves_sent}
use Rattle.step_fault.proofs.inner_fault.Goals as goal

pub returns-in_default : goal.returns-in_default
returns-in_default c other =
    let d = c.responding-row.ensures (seen_by_faults c.args.config.now other) c.requires.0.args_512 in
    moves_unsent d _ (not_10 d [] c.in_default.is)

-- it is to be sent on: the row is in the table and enabled
pub bounds-argcounts-k : goal.bounds-argcounts-k
bounds-argcounts-k c = row_below_32 c.args.config.now c.requires.0 c.responding-row.ensures c.in-Some.is

pub bounds-latching-k : goal.bounds-latching-k
bounds-latching-k c = row_below_32 c.args.config.now c.requires.0 c.responding-row.ensures c.in-Some.is

pub bounds-states-k : goal.bounds-states-k
bounds-states-k c = row_below_32 c.args.config.now c.requires.0 c.responding-row.ensures c.in-Some.is

pub respond-requires : goal.respond-requires
respond-requires c =
    (omega arith, row_below_32 c.args.config.now c.requires.0 c.responding-row.ensures c.in-Some.is, args_there c.args.config.now c.requires.0 c.responding-row.ensures c.in-Some.is)

pub returns : goal.returns
returns c other =
    let d = c.responding-row.ensures (seen_by_faults c.args.config.now other) c.requires.0.args_512 in
    moves_sent d _ _ c.in-Some.is _ _ _ c.respond.ensures (rw (rw c.in-Some.is at d.sends).was_enabled c.row_after.ensures)
