-- `args_keep`: the rows that were passed have few arguments, and zeros behind them.
use Rattle.std.proofs.Common.{sym, ◌∙◌, arith}
use Rattle.state_check.specs.Walks.{args_left, args_on}
use Rattle.state_check.proofs.tables.args_keep.Goals as goal

pub returns-then-not-zero_bytes : goal.returns-then-not-zero_bytes
returns-then-not-zero_bytes c = args_left c.loop-k.invariant (omega arith) (sym c.zero_bytes.ensures ∙ c.if-not-zero_bytes.true)

pub loop-k-preserved : goal.loop-k-preserved
loop-k-preserved c = args_on c.loop-k.invariant (omega arith) (omega arith) (sym c.zero_bytes.ensures ∙ c.if-not-zero_bytes.false)
