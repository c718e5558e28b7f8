-- The parts that make up a fault step: its answer and the states that it leaves, and its output.
use Rattle.std.specs.Prelude.{◌≡◌, false, cond, List, ℕ, eqb, get_or}
use Rattle.std.proofs.Math.Path.{refl}
use Rattle.std.proofs.Common.{◌∙◌}
use Rattle.std.proofs.Math.Option.{some}
use Rattle.state.specs.declared.types.Run.{Run}
use Rattle.state.specs.Tables.{FaultRow, Tables, with_counts, run_from}
use Rattle.step_rules.specs.declared.types.Answer.{Answer}
use Rattle.step_rules.specs.Makers.{step_from}
use Rattle.step_effects.specs.FaultStates.{meant, no_row, latched_by}
use Rattle.step_effects.specs.Counters.{fault_counts}
use Rattle.step_effects.specs.Dispatch.{command_bytes, over, sent}
use Rattle.step_effects.proofs.DispatchLaws.{sent_10}
use Rattle.step_answers.specs.Answers.{fault_answer}
use Rattle.step_rules.specs.Step.{faulted_answer, fault_step, fault_output}

module _ (t : Tables) (f : ℕ) where
  -- the answer, and the states: only a response that is dispatched may latch
  pub fault_is : (run : Run) {r : Answer} {states : List ℕ} → let n = fault_answer run.states (meant t f) in
      r ≡ faulted_answer t (meant t f) n
      → states ≡ cond (eqb n 10) (latched_by t.rows (meant t f) run.states) run.states
      → step_from (run_from (with_counts (fault_counts r.answer run.standing.counts) run.standing) states) r ≡ fault_step t run f
  unfolding fault_step
  fault_is run er es = rw (er, es)

  module _ (out : List ℕ) where
    -- what an answer that is no 10 leaves of the output
    pub fault_unsent : (n m : ℕ) → n ≡ m → eqb m 10 ≡ false → out ≡ fault_output t n f out
    unfolding fault_output sent
    fault_unsent n m e h = simp (e, h)

    -- what the response of the row at place k makes of it
    pub fault_output_lem : (k : ℕ) → meant t f ≡ some k → let row : FaultRow = get_or t.rows k no_row in
        (id : ℕ) (args : List ℕ) → id ≡ row.response → args ≡ row.args → over (command_bytes t.settings.fault id args) out ≡ fault_output t 10 f out
    unfolding fault_output
    fault_output_lem k e id args ei ea = sent_10 10 t.settings.fault id args out refl ∙ rw (ei, ea, e)
