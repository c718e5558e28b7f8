-- `protected_keep`: the protected ids rise, and those that were passed keep their rule.
use Rattle.std.proofs.Common.{refl, sym, ◌∙◌, take, arith}
use Rattle.state.specs.Test.{protected_passes}
use Rattle.state_check.specs.Walks.{unwalked, refuses, passes, here_refuses, here_passes}
use Rattle.state_check.specs.Apart.{protected_apart}
use Rattle.state_check.proofs.tables.protected_keep.Goals as goal

pub returns-then-not-rising : goal.returns-then-not-rising
returns-then-not-rising c =
    refuses (protected_apart c.args.base (take c.args.n c.args.ids.now) (take c.args.m c.args.protected.now))
    (sym c.rising.ensures ∙ c.if-not-rising.true)

pub loop-id-init : goal.loop-id-init
loop-id-init c =
    passes (protected_apart c.args.base (take c.args.n c.args.ids.now) (take c.args.m c.args.protected.now))
    (sym c.rising.ensures ∙ c.if-not-rising.false) unwalked

pub returns-then-not-protected_ok : goal.returns-then-not-protected_ok
returns-then-not-protected_ok c =
    let p = protected_passes c.args.base (take c.args.n c.args.ids.now) in
    here_refuses p (take c.args.m c.args.protected.now) c.loop-id.id-index (omega arith) c.loop-id.invariant
    (sym (c.protected_ok.ensures ∙ rw (c.holds-routed.ensures 8 refl)) ∙ c.if-not-protected_ok.true)

pub loop-id-preserved : goal.loop-id-preserved
loop-id-preserved c =
    let p = protected_passes c.args.base (take c.args.n c.args.ids.now) in
    here_passes p (take c.args.m c.args.protected.now) c.loop-id.id-index (omega arith) c.loop-id.invariant
    (sym (c.protected_ok.ensures ∙ rw (c.holds-routed.ensures 8 refl)) ∙ c.if-not-protected_ok.false)
