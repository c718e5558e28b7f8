-- `rising`: what was gathered says whether all that was passed rises.
use Rattle.std.proofs.Common.{◌-◌, drop}
use Rattle.std.specs.Prelude.{suc, get_or}
use Rattle.state_check.specs.Each.{rises}
use Rattle.state_check.specs.Walks.{Gathered}
use Rattle.state_check.proofs.arrays.rising.Given as goal

abbrev pub invariant-loop-k : goal.invariant-loop-k
invariant-loop-k l = Gathered (rises 0 l.ids) (rises (suc (get_or l.ids (l.k - 1) 0)) (drop l.k l.ids)) l.ok
