-- `rows_keep`: the fault ids rise, latching is 0 or 1, and the responses that were passed are routed.
use Rattle.std.proofs.Common.{true, take, drop}
use Rattle.state.specs.Test.{rows_kept}
use Rattle.state_check.specs.TableParts.{argless}
use Rattle.state_check.specs.Apart.{among}
use Rattle.state_check.specs.Each.{each}
use Rattle.state_check.specs.Walks.{Gathered}
use Rattle.state_check.proofs.tables.rows_keep.Given as goal

abbrev pub invariant-loop-id : goal.invariant-loop-id
invariant-loop-id l =
    let is = take l.n l.ids in
    Gathered (rows_kept is (argless l.faultids l.responses l.latching l.m)) (each (among is) (drop l.id-index (take l.m l.responses))) true
