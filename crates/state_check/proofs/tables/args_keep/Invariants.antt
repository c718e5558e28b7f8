-- `args_keep`: the rows that were passed have few arguments, and zeros behind them.
use Rattle.state_check.specs.Walks.{ArgsWalked}
use Rattle.state_check.proofs.tables.args_keep.Given as goal

abbrev pub invariant-loop-k : goal.invariant-loop-k
invariant-loop-k l = ArgsWalked l.counts l.n l.args l.k
