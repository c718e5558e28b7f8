-- `rows_keep`: the fault ids rise, latching is 0 or 1, and the responses that were passed are routed.
use Rattle.std.proofs.Common.{refl, sym, ◌∙◌, take, arith}
use Rattle.state_check.specs.Walks.{unwalked, refuses, passes, here_refuses, here_passes}
use Rattle.state_check.specs.Apart.{among, rows_apart, rows_latch}
use Rattle.state_check.proofs.tables.rows_keep.Goals as goal

pub returns-then-not-rising : goal.returns-then-not-rising
returns-then-not-rising c =
    refuses (rows_apart (take c.args.n c.args.ids.now) c.args.faultids.now c.args.responses.now c.args.latching.now c.args.m (omega arith))
    (sym c.rising.ensures ∙ c.if-not-rising.true)

pub returns-then-not-at_most : goal.returns-then-not-at_most
returns-then-not-at_most c =
    refuses (rows_latch (take c.args.n c.args.ids.now) c.args.faultids.now c.args.responses.now c.args.latching.now c.args.m (omega arith)
    (sym c.rising.ensures ∙ c.if-not-rising.false))
    (sym c.at_most.ensures ∙ c.if-not-at_most.true)

pub loop-id-init : goal.loop-id-init
loop-id-init c =
    passes (rows_latch (take c.args.n c.args.ids.now) c.args.faultids.now c.args.responses.now c.args.latching.now c.args.m (omega arith)
    (sym c.rising.ensures ∙ c.if-not-rising.false))
    (sym c.at_most.ensures ∙ c.if-not-at_most.false) unwalked

pub returns-then-not-holds : goal.returns-then-not-holds
returns-then-not-holds c =
    let p = among (take c.args.n c.args.ids.now) in
    here_refuses p (take c.args.m c.args.responses.now) c.loop-id.id-index (omega arith) c.loop-id.invariant
    (sym (c.holds.ensures 8 refl) ∙ c.if-not-holds.true)

pub loop-id-preserved : goal.loop-id-preserved
loop-id-preserved c =
    let p = among (take c.args.n c.args.ids.now) in
    here_passes p (take c.args.m c.args.responses.now) c.loop-id.id-index (omega arith) c.loop-id.invariant
    (sym (c.holds.ensures 8 refl) ∙ c.if-not-holds.false)
