-- `route_refusal`: a row of kind 2, and one law for each way out.
use Rattle.std.proofs.Common.{◌≡◌, rules, refl, ◌∙◌}
use borrow.Author.Tests.{eq-eqb, ne_eqb}
use Rattle.image_rules.proofs.RefusalLaws.{not_zero}
use Rattle.image_rules.specs.Refusals.{number_of, told}
use Rattle.image_check.proofs.Ways.{routes, row_missized, row_stops, row_ends}
use Rattle.image_check.proofs.route_refusal.Goals as goal

pub returns-then-body-ne3 : goal.returns-then-body-ne3
returns-then-body-ne3 c t h = row_missized routes _ _ t _ (ne_eqb _ _ c.if-body-ne3.true)

pub returns-in_err-place_refusal : goal.returns-in_err-place_refusal
returns-in_err-place_refusal c t h =
    let s : told c.from_residual.result ≡ number_of c.in_err-place_refusal.field-0.0 = search rules in
    s ∙ row_stops routes _ _ t _ (eq-eqb _ _ c.if-body-ne3.false) c.word_at-id.ensures c.in_err-place_refusal.ensures (not_zero _)

pub returns : goal.returns
returns c t h =
    let i = c.word_at-id.ensures in
    row_ends routes _ _ t _ (eq-eqb _ _ c.if-body-ne3.false) i c.in_ok-place_refusal.ensures refl
    (c.route_ok.ensures ∙ rw (h, i)) c.rule_refusal.ensures
