-- `one_refusal`: size, order, and the settings with what it sets; one law for each way out.
use Rattle.std.proofs.Common.{◌≡◌, true, false, ◌∙◌}
use borrow.Author.Tests.{ne_eqb}
use Rattle.image_rules.specs.Kinds.{one}
use Rattle.image_rules.specs.Checks.{is_in_order}
use Rattle.image_rules.proofs.RecordPartLaws.{by_one, missized, one_misplaced, one_judged}
use Rattle.image_check.proofs.one_refusal.Goals as goal

pub returns-then-body-size : goal.returns-then-body-size
returns-then-body-size c t h = by_one _ _ t _ c.requires (missized (one c.args.size) _ _ _ t _ (ne_eqb _ _ c.if-body-size.true))

pub returns-then-not-one_in_order : goal.returns-then-not-one_in_order
returns-then-not-one_in_order c t h =
    let o : is_in_order true c.args.last c.args.kind ≡ false = cc in
    by_one _ _ t _ c.requires (one_misplaced _ _ t _ c.if-body-size.false o)

pub returns : goal.returns
returns c t h =
    let o : is_in_order true c.args.last c.args.kind ≡ true = cc in
    by_one _ _ t _ c.requires
    (one_judged _ _ t _ c.if-body-size.false o (c.settings_ok.ensures ∙ rw (c.settings_with.ensures, h)) c.rule_refusal.ensures)
