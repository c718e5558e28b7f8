-- Laws of the three steps: the parts that make one up, and each way on any state.
use Rattle.std.specs.Prelude.{◌≡◌, true, false, List, map, ℕ, ◌+◌, ◌<◌, ◌≤◌, eqb, length}
use Rattle.std.proofs.Common.{ap, ne_eqb, le-leb}
use Rattle.std.proofs.Math.Option.{Option}
use Rattle.std.proofs.lemmas.Bool.{lt-leb}
use Rattle.packet_rules.specs.Layout.{command_id}
use Rattle.packet_rules.specs.Judge.{arguments_of}
use Rattle.state.specs.declared.types.Config.{Config}
use Rattle.state.specs.declared.types.Run.{Run}
use Rattle.state.specs.declared.types.Arm.{Arm}
use Rattle.state.specs.declared.types.Counts.{Counts}
use Rattle.state.specs.Tables.{Tables, fault_id, routed, with_arm, with_counts, run_from}
use Rattle.state.specs.Test.{keeps_rules}
use Rattle.step_rules.specs.declared.types.Stepped.{Stepped}
use Rattle.step_rules.specs.Packets.{refusal_under}
use Rattle.step_rules.specs.Makers.{answer_from, step_from, unchanged}
use Rattle.step_answers.specs.declared.own.Own.{Own}
use Rattle.step_answers.specs.Own.{own_command, is_reset}
use Rattle.step_arm.specs.Arming.{arm_after}
use Rattle.step_effects.specs.Counters.{packet_counts}
use Rattle.step_effects.specs.Dispatch.{sent, for10, dest_of, step_room}
use Rattle.step_answers.specs.Answers.{answer_for}
use Rattle.step_rules.specs.Step.{states_after, acted, accepted_step, rejected_step, packet_step, packet_output, judged, tick_step, tick_step_of}

-- the parts that make up the step of an accepted packet; the tables' ids are those that the code was lent
pub accepted_is : (t : Tables) (run : Run) (id : ℕ) (args : List ℕ) {routedIds faultIds : List ℕ} {k : Option Own} {n dest written : ℕ} {arm : Arm} {counts : Counts} {states : List ℕ}
    → routed t ≡ routedIds
    → map fault_id t.rows ≡ faultIds
    → k ≡ own_command t.settings.base id
    → n ≡ answer_for routedIds t.protected faultIds run.standing.arm.armed id k args
    → arm ≡ arm_after n args
    → counts ≡ packet_counts n (is_reset k) run.standing.counts
    → states ≡ states_after faultIds n k args run.states
    → dest ≡ for10 n (dest_of id t.routes)
    → written ≡ for10 n (5 + length args)
    → step_from (run_from (with_arm arm (with_counts counts run.standing)) states) (answer_from n id dest written) ≡ accepted_step t run id args
unfolding accepted_step
accepted_is t run id args {n = n} er ef ek en ea ec es ed ew =
    rw (ea, ec, es, ed, ew, ek, ← ef) (ap (acted t run id args) (rw (← er, ← ef, ek) at en))

module _ (t : Tables) (run : Run) (p : List ℕ) where
  pub packet_rejected : (n : ℕ) → (n ≡ refusal_under t p) × (n ≡ 0 → ⊥) → rejected_step run n ≡ packet_step t run p
  unfolding packet_step
  packet_rejected n (e, h) = rw (← e) (simp (ne_eqb n 0 h))

  pub packet_accepted : (id : ℕ) (args : List ℕ) → refusal_under t p ≡ 0 → id ≡ command_id p → args ≡ arguments_of p → accepted_step t run id args ≡ packet_step t run p
  unfolding packet_step
  packet_accepted id args z ei ea = rw (z, ei, ea)

-- ---- the output

module _ (t : Tables) (p out : List ℕ) where
  pub packet_unsent : (n m : ℕ) → n ≡ m → eqb m 10 ≡ false → out ≡ packet_output t n p out
  unfolding packet_output sent
  packet_unsent n m e h = simp (e, h)

-- ---- on any state

module _ (c : Config) (run : Run) where
  module _ (room : ℕ) (step : Stepped) where
    pub judged_20 : keeps_rules c run ≡ false → unchanged run 20 ≡ judged c run room step
    judged_20 k = simp k

    pub judged_21 : keeps_rules c run ≡ true → room < step_room → unchanged run 21 ≡ judged c run room step
    judged_21 k h = simp (k, lt-leb step_room room h)

    pub judged_on : keeps_rules c run ≡ true → step_room ≤ room → step ≡ judged c run room step
    judged_on k h = simp (k, le-leb step_room room h)

  pub tick_20 : keeps_rules c run ≡ false → unchanged run 20 ≡ tick_step_of c run
  unfolding tick_step_of
  tick_20 k = simp k

  pub tick_on : keeps_rules c run ≡ true → tick_step run ≡ tick_step_of c run
  unfolding tick_step_of
  tick_on k = simp k
