-- Laws of the fault states after an own command: as many as there were, and each way of the code.
use Rattle.std.specs.Prelude.{◌≡◌, Bool, true, false, cond, List, ℕ, eqb, length}
use Rattle.std.proofs.Math.Path.{refl}
use Rattle.std.proofs.Math.Option.{Option, none, some}
use Rattle.std.proofs.lemmas.List.{length-map}
use Rattle.std.proofs.Common.{ne_eqb}
use Rattle.step_effects.specs.FaultStates.{enable, disable, clear, next_state, place_of}
use Rattle.step_effects.proofs.ActLaws.{onward_long}
use Rattle.step_answers.specs.declared.own.Own.{Own}
use Rattle.step_answers.specs.declared.own.Own.TheVariants.{Arm, ResetCounters, NoOp, NoOpWithArgument, Enable, Disable, Clear, ClearAll}
use Rattle.step_answers.specs.Own.{rule_of, fault_arg}
use Rattle.step_rules.specs.Step.{states_after}
use Rattle.step_rules.specs.StateLaws.{done_on}

-- ---- as many states as there were

own_long : (place : Option ℕ) (k : Own) (ss : List ℕ) → length (done_on place k ss) ≡ length ss
own_long place Arm ss = refl
own_long place ResetCounters ss = refl
own_long place NoOp ss = refl
own_long place NoOpWithArgument ss = refl
own_long place Enable ss = onward_long (λ s. next_state s enable) ss place
own_long place Disable ss = onward_long (λ s. next_state s disable) ss place
own_long place Clear ss = onward_long (λ s. next_state s clear) ss place
own_long place ClearAll ss = length-map ss (λ (s : ℕ). next_state s clear)

pub states_long : (ids : List ℕ) (n : ℕ) (k : Option Own) (args ss : List ℕ) → length (states_after ids n k args ss) ≡ length ss
unfolding states_after
states_long ids n none args ss = refl
states_long ids n (some k) args ss = go (eqb n 12)
  where
    go : (a : Bool) → length (cond a (done_on (place_of (fault_arg args) ids) k ss) ss) ≡ length ss
    go true = own_long (place_of (fault_arg args) ids) k ss
    go false = refl

-- ---- each way of the code

module _ (ids : List ℕ) (args ss : List ℕ) where
  pub states_same : (n : ℕ) (k : Option Own) → (n ≡ 12 → ⊥) → ss ≡ states_after ids n k args ss
  unfolding states_after
  states_same n none h = refl
  states_same n (some k) h = simp (ne_eqb n 12 h)

  pub states_12 : (k : Own) → done_on (place_of (fault_arg args) ids) k ss ≡ states_after ids 12 (some k) args ss
  unfolding states_after
  states_12 k = refl

  -- what a command makes of them once it is done, whatever it is answered
  pub states_done : (k : Own) → done_on (place_of (fault_arg args) ids) k ss ≡ states_after ids (rule_of k).done (some k) args ss
  unfolding states_after
  states_done Arm = refl
  states_done ResetCounters = refl
  states_done NoOp = refl
  states_done NoOpWithArgument = refl
  states_done Enable = refl
  states_done Disable = refl
  states_done Clear = refl
  states_done ClearAll = refl
