-- `form_refusal`: each return is one line of `BadForm`, or the form is right.
use Rattle.std.proofs.Common.{refl, arith}
use Rattle.wire.specs.XorLaws.{zero_first, first_zero}
use Rattle.packet_rules.specs.JudgeOutcome.{not_xor_0}
use Rattle.packet_rules.proofs.JudgeLaws.{form_bad, form_good}
use Rattle.packet_judge.proofs.form.form_refusal.Goals as goal

pub returns-then-b0-ne3 : goal.returns-then-b0-ne3
returns-then-b0-ne3 c = form_bad (c.head_refusal.ensures _ refl)

pub returns-then-all-b0 : goal.returns-then-all-b0
returns-then-all-b0 c =
    form_bad
    (not_xor_0 (omega arith) (omega arith) (omega arith)
    (λ e. c.if-all-b0.true (zero_first c.args.packet.now (omega arith) _ c.all.ensures e)))

pub returns : goal.returns
returns c =
    form_good
    (record {
      version_0 = omega arith;
      telecommand = omega arith;
      with_secondary = omega arith;
      xor_0 = first_zero c.args.packet.now (omega arith) _ c.all.ensures c.if-all-b0.false;
    })
