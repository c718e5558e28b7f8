-- `selected`: each arm by its number, and the rest beyond them.
use Rattle.std.proofs.Common.{◌≡◌, ℕ, ◌-◌, ◌<◌, ◌≤◌, sym, ap, ◌∙◌, arith}
use Rattle.std.proofs.Math.Option.{some}
use Rattle.step_answers.specs.Own.{rule_of, selection_of, own_command}
use Rattle.step_answers.specs.declared.own.Own.{Own}
use Rattle.step_answers.specs.declared.own.Own.TheVariants.{Arm, ResetCounters, NoOp, NoOpWithArgument, Enable, Disable, Clear, ClearAll}
use Rattle.step_answers.proofs.OwnLaws.{below_base, above_base, from_base}
use Rattle.step_answers.proofs.own.selected.Goals as goal

arm : {base id n : ℕ} → (base ≤ id) × (n ≡ id - base) → (k : Own) → n ≡ (rule_of k).number → (rule_of k).number < 8 → selection_of (some k) ≡ selection_of (own_command base id)
arm (h, m) k e l = ap selection_of (from_base _ _ h k (sym m ∙ e) l)

pub returns-in_err-checked_sub : goal.returns-in_err-checked_sub
returns-in_err-checked_sub c = c.from_residual.ensures ∙ ap selection_of (below_base _ _ (omega (arith, c.in_err-checked_sub.ensures)))

pub returns-in-0 : goal.returns-in-0
returns-in-0 c = arm (c.in_ok-checked_sub.ensures) Arm c.in-0.is (omega arith)

pub returns-in-1 : goal.returns-in-1
returns-in-1 c = arm (c.in_ok-checked_sub.ensures) ResetCounters c.in-1.is (omega arith)

pub returns-in-2 : goal.returns-in-2
returns-in-2 c = arm (c.in_ok-checked_sub.ensures) NoOp c.in-2.is (omega arith)

pub returns-in-3 : goal.returns-in-3
returns-in-3 c = arm (c.in_ok-checked_sub.ensures) NoOpWithArgument c.in-3.is (omega arith)

pub returns-in-4 : goal.returns-in-4
returns-in-4 c = arm (c.in_ok-checked_sub.ensures) Enable c.in-4.is (omega arith)

pub returns-in-5 : goal.returns-in-5
returns-in-5 c = arm (c.in_ok-checked_sub.ensures) Disable c.in-5.is (omega arith)

pub returns-in-6 : goal.returns-in-6
returns-in-6 c = arm (c.in_ok-checked_sub.ensures) Clear c.in-6.is (omega arith)

pub returns-in-7 : goal.returns-in-7
returns-in-7 c = arm (c.in_ok-checked_sub.ensures) ClearAll c.in-7.is (omega arith)

pub returns-in_default : goal.returns-in_default
returns-in_default c = ap selection_of (above_base _ _ c.in_ok-checked_sub.ensures.0 (omega (arith, c.in_ok-checked_sub.ensures.1)))
