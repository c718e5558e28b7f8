-- Laws of the fault states after an own command: as many as there were, and each way of the code.
use Rattle.std.specs.Prelude.{List, ℕ}
use Rattle.std.proofs.Math.Option.{Option}
use Rattle.step_effects.specs.FaultStates.{commanded}
use Rattle.step_answers.specs.declared.own.Own.{Own}
use Rattle.step_rules.specs.Step.{states_by}

-- what a command that is done makes of them, on the row at a place
abbrev pub done_on : Option ℕ → Own → List ℕ → List ℕ
done_on place k ss = states_by (λ e. commanded e place ss) k ss
