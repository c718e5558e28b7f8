-- `none_own`: what was gathered says whether each that was passed is no own id.
use Rattle.std.proofs.Common.{drop}
use Rattle.state_check.specs.Each.{each, foreign}
use Rattle.state_check.specs.Walks.{Gathered}
use Rattle.state_check.proofs.arrays.none_own.Given as goal

abbrev pub invariant-loop-id : goal.invariant-loop-id
invariant-loop-id l = let p = foreign l.base in Gathered (each p l.ids) (each p (drop l.id-index l.ids)) l.ok
