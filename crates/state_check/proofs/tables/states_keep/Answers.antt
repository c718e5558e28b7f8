-- `states_keep`: what was gathered says whether the states that were passed keep their rule.
use Rattle.std.proofs.Common.{[], arith}
use Rattle.std.proofs.Math.Bool.{and_comm}
use Rattle.state.specs.Tables.{row_at}
use Rattle.state_check.specs.Walks.{on}
use Rattle.state_check.specs.Apart.{states_at}
use Rattle.state_check.proofs.tables.states_keep.Goals as goal

pub loop-k-preserved : goal.loop-k-preserved
loop-k-preserved c =
    let f = row_at [] [] c.args.latching.now [] [] in
    (omega arith, on c.loop-k.invariant.1 (states_at f c.args.n c.args.states.now c.loop-k.k (omega arith)) c.state_ok-ok.ensures (and_comm c.loop-k.ok _))
