-- `clear_all`: after k turns the first k states are cleared, in the lent array itself.
use Rattle.step_effects.specs.FaultLaws.{Cleared}
use Rattle.step_effects.proofs.faults.clear_all.Given as goal

abbrev pub invariant-loop-k : goal.invariant-loop-k
invariant-loop-k l = record { cleared : Cleared l.fn.states l.states l.k }
