-- `routes_judged`: the walks over routes and protected ids, and zero behind them.
use Rattle.std.proofs.Common.{sym, ◌∙◌, arith}
use Rattle.state_check.specs.StateJudgeLaws.{routes_column}
use Rattle.state_check.proofs.routes_judged.Goals as goal

pub protected_keep-requires : goal.protected_keep-requires
protected_keep-requires c = (
  routes_column c.args.base c.args.ids.now c.args.dests.now c.args.n (omega arith) (sym c.routes_keep.ensures ∙ c.if-routes_keep.true),
  omega arith,
)
