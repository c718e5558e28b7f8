-- `fault_row_refusal`: a row of kind 4, and one law for each way out.
use Rattle.std.proofs.Common.{◌≡◌, true, false, rules, refl, ◌∙◌}
use Rattle.image_rules.specs.Kinds.{row_sized}
use Rattle.image_rules.proofs.RefusalLaws.{not_zero}
use Rattle.image_rules.specs.Refusals.{number_of, told}
use Rattle.image_check.proofs.Ways.{fault_rows, row_missized, row_stops, row_ends}
use Rattle.image_check.proofs.fault_row_refusal.Goals as goal

pub returns-then-not-is_row_sized : goal.returns-then-not-is_row_sized
returns-then-not-is_row_sized c t h =
    let f : row_sized c.args.body.now ≡ false = cc in
    row_missized fault_rows _ _ t _ f

pub returns-in_err-place_refusal : goal.returns-in_err-place_refusal
returns-in_err-place_refusal c t h =
    let f : row_sized c.args.body.now ≡ true = cc in
    let s : told c.from_residual.result ≡ number_of c.in_err-place_refusal.field-0.0 = search rules in
    s ∙ row_stops fault_rows _ _ t _ f c.word_at-id.ensures c.in_err-place_refusal.ensures (not_zero _)

pub returns : goal.returns
returns c t h =
    let f : row_sized c.args.body.now ≡ true = cc in
    row_ends fault_rows _ _ t _ f c.word_at-id.ensures c.in_ok-place_refusal.ensures refl
    (c.row_ok.ensures ∙ rw (h, c.word_at-response.ensures)) c.rule_refusal.ensures
