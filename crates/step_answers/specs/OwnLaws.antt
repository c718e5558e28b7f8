-- Laws of the own commands: which one an id selects, and each way to an answer.
use Rattle.std.specs.Prelude.{◌≡◌, ℕ, ◌-◌}
use Rattle.std.proofs.Math.Bool.{true, false}
use Rattle.std.proofs.Math.Option.{Option, none, some}
use Rattle.state.specs.Rules.{own}
use Rattle.step_answers.specs.declared.own.Own.{Own}
use Rattle.step_answers.specs.Own.{rule_of}

-- ---- which one an id selects, in both directions

pub data Selects (base id : ℕ) : Option Own → Type 0 where
  is_own : (k : Own) → own base id ≡ true → id - base ≡ (rule_of k).number → Selects base id (some k)
  not_own : own base id ≡ false → Selects base id none
