-- `protected_keep`: the protected ids rise, and those that were passed keep their rule.
use Rattle.std.proofs.Common.{true, take, drop}
use Rattle.state.specs.Test.{protected_passes, protected_kept}
use Rattle.state_check.specs.Each.{each}
use Rattle.state_check.specs.Walks.{Gathered}
use Rattle.state_check.proofs.tables.protected_keep.Given as goal

abbrev pub invariant-loop-id : goal.invariant-loop-id
invariant-loop-id l =
    let is = take l.n l.ids in
    Gathered (protected_kept l.base is (take l.m l.protected)) (each (protected_passes l.base is) (drop l.id-index (take l.m l.protected))) true
