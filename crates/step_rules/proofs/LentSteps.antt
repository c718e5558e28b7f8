-- The steps on any state where the columns and the fault states are lent: what such a step leaves, with the fault states that it
-- leaves, is the step of document 01 on the configuration and the run that they are. Each way of one, by the inner step.
use Rattle.std.specs.Prelude.{◌≡◌, true, false, List, ℕ, ◌<◌, ◌≤◌, length}
use Rattle.std.proofs.Math.Path.{refl}
use Rattle.std.proofs.Common.{◌∙◌}
use Rattle.state.specs.declared.types.Config.{Config}
use Rattle.state.specs.declared.types.Run.{Run}
use Rattle.state.specs.declared.types.Counts.{Counts}
use Rattle.state.specs.declared.types.Standing.{Standing}
use Rattle.state.specs.Tables.{tables_of, with_arm, with_counts}
use Rattle.state.specs.Test.{keeps_rules}
use Rattle.step_effects.specs.Dispatch.{step_room}
use Rattle.step_arm.specs.declared.Ticked.{Ticked}
use Rattle.step_arm.specs.Arming.{ticked_by}
use Rattle.step_effects.specs.Counters.{moved_counts, fault_counts}
use Rattle.step_rules.specs.declared.types.Answer.{Answer}
use Rattle.step_rules.specs.declared.types.Moved.{Moved}
use Rattle.step_rules.specs.Makers.{bare_answer, left_from, left_as, step_left}
use Rattle.step_rules.specs.Step.{packet_step, fault_step, packet_step_of, fault_step_of, tick_step_of}
use Rattle.step_rules.proofs.StepLaws.{judged_20, judged_21, judged_on, packet_unsent, tick_20, tick_on}
use Rattle.step_rules.proofs.FaultStepLaws.{fault_unsent}
use Rattle.step_rules.specs.Moved.{PacketMoves, FaultMoves}
use Rattle.step_rules.proofs.MovedOn.{packet_moved, tick_moved, fault_moved}
use Rattle.step_rules.specs.LentSteps.{PacketLeaves, FaultLeaves}

-- ---- a state that breaks its rules, too little room, or the inner step

module _ {c : Config} {run : Run} {p out : List ℕ} where
  pub packet_breaks : keeps_rules c run ≡ false → PacketLeaves c run p out (left_as run.standing 20) run.states out
  unfolding packet_step_of
  packet_breaks k = record { step = judged_20 c run (length out) (packet_step (tables_of c) run p) k; output = packet_unsent (tables_of c) p out 20 20 refl refl }

  module _ (k : keeps_rules c run ≡ true) where
    pub packet_cramped : length out < step_room → PacketLeaves c run p out (left_as run.standing 21) run.states out
    unfolding packet_step_of
    packet_cramped h = record { step = judged_21 c run (length out) (packet_step (tables_of c) run p) k h; output = packet_unsent (tables_of c) p out 21 21 refl refl }

    pub packet_leaves : step_room ≤ length out → {m : Moved} {after left : List ℕ} → PacketMoves c run.standing.arm run.states p out m after left
        → {k : Counts} {counted next : Standing} → k ≡ moved_counts m.answer.answer m.reset run.standing.counts
        → counted ≡ with_counts k run.standing → next ≡ with_arm m.arm counted
        → PacketLeaves c run p out (left_from next m.answer) after left
    unfolding packet_step_of
    packet_leaves h moves ek ec en = record { step = packet_moved run.standing moves ek ec en ∙ judged_on c run (length out) (packet_step (tables_of c) run p) k h; output = moves.output }

module _ {c : Config} {run : Run} {f : ℕ} {out : List ℕ} where
  pub fault_breaks : keeps_rules c run ≡ false → FaultLeaves c run f out (left_as run.standing 20) run.states out
  unfolding fault_step_of
  fault_breaks k = record { step = judged_20 c run (length out) (fault_step (tables_of c) run f) k; output = fault_unsent (tables_of c) f out 20 20 refl refl }

  module _ (k : keeps_rules c run ≡ true) where
    pub fault_cramped : length out < step_room → FaultLeaves c run f out (left_as run.standing 21) run.states out
    unfolding fault_step_of
    fault_cramped h = record { step = judged_21 c run (length out) (fault_step (tables_of c) run f) k h; output = fault_unsent (tables_of c) f out 21 21 refl refl }

    pub fault_leaves : step_room ≤ length out → {a : Answer} {after left : List ℕ} → FaultMoves c run.states f out a after left
        → {k : Counts} {next : Standing} → k ≡ fault_counts a.answer run.standing.counts → next ≡ with_counts k run.standing
        → FaultLeaves c run f out (left_from next a) after left
    unfolding fault_step_of
    fault_leaves h moves ek en =
        record { step = fault_moved run moves ek en ∙ judged_on c run (length out) (fault_step (tables_of c) run f) k h; output = moves.output }

module _ (c : Config) (run : Run) where
  pub tick_breaks : keeps_rules c run ≡ false → step_left (left_as run.standing 20) run.states ≡ tick_step_of c run
  tick_breaks k = tick_20 c run k

  pub tick_leaves : keeps_rules c run ≡ true → {t : Ticked} {a : Answer} {next : Standing} → t ≡ ticked_by run.standing.arm → a ≡ bare_answer t.answer
      → next ≡ with_arm t.arm run.standing → step_left (left_from next a) run.states ≡ tick_step_of c run
  tick_leaves k e q n = tick_moved run e q n ∙ tick_on c run k
