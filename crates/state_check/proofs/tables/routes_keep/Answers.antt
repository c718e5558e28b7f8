-- `routes_keep`: the routes taken apart into their columns.
use Rattle.std.proofs.Common.{sym, arith}
use Rattle.state_check.specs.Apart.{routes_apart}
use Rattle.state_check.proofs.tables.routes_keep.Goals as goal

pub returns : goal.returns
returns c =
    rw (c.none_own.ensures, c.dests_ok.ensures, c.rising.ensures)
    (sym (routes_apart c.args.base c.args.ids.now c.args.dests.now c.args.n (omega arith)))
