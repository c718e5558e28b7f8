-- The plain reading's answer to an accepted packet is the answer of the step, where the path is armed as the list says.
use Rattle.std.specs.Prelude.{ℕ}
use Rattle.std.proofs.Math.Option.{Option, none, some}
use Rattle.step_answers.specs.declared.own.Own.{Own}
use Rattle.step_answers.specs.Own.{rule_of}

-- ---- the plain reading knows an own command by its number, the path by its name

-- 8 where an id selects none
abbrev pub number_for : Option Own → ℕ
number_for none = 8
number_for (some k) = (rule_of k).number
