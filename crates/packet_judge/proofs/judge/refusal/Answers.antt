-- `refusal`: each return is one line of `Outcome`; the form's checks count as `form_refusal` found them.
use Rattle.std.proofs.Common.{sym, ◌∙◌, arith}
use Rattle.std.proofs.lemmas.Result.{err_from_is_err_and}
use Rattle.packet_rules.specs.JudgeOutcome.{below_6, not_whole, no_room, too_many, taken}
use Rattle.packet_rules.proofs.JudgeLaws.{only, formed, form_counts}
use Rattle.packet_rules.proofs.RejectionLaws.{refused}
use Rattle.packet_judge.proofs.judge.refusal.Goals as goal

pub returns-then-size-lt6 : goal.returns-then-size-lt6
returns-then-size-lt6 c = only (below_6 (omega arith))

pub returns-then-size-field : goal.returns-then-size-field
returns-then-size-field c = only (not_whole (omega arith) (omega arith))

pub returns-in_err-form_refusal : goal.returns-in_err-form_refusal
returns-in_err-form_refusal c =
    let n = c.in_err-form_refusal.ensures in
    let same = err_from_is_err_and c.from_residual.result c.from_residual.ensures.1 in
    rw (same.1, same.2) (n ∙ form_counts _ (omega arith) (refused _ n))

pub returns-then-size-pads : goal.returns-then-size-pads
returns-then-size-pads c = only (no_room (omega arith) (formed _ (sym c.in_ok-form_refusal.ensures)) (omega arith))

pub returns-then-size-pads-gt255 : goal.returns-then-size-pads-gt255
returns-then-size-pads-gt255 c = only (too_many (omega arith) (formed _ (sym c.in_ok-form_refusal.ensures)) (omega arith) (omega arith))

pub returns : goal.returns
returns c =
    only
    (taken
    (record {
      sized = record { long = omega arith; whole = omega arith };
      formed = formed _ (sym c.in_ok-form_refusal.ensures);
      room = omega arith;
      few = omega arith;
    }))
