-- The answers read as statements: what each answer to an accepted packet, to a fault and to any step says, in both directions.
use Rattle.std.specs.Prelude.{◌≡◌, Bool, true, false, List, ℕ, ◌<◌, ◌≤◌, length, get_or}
use Rattle.std.proofs.Math.Option.{none, some}
use Rattle.packet_rules.specs.Layout.{command_id}
use Rattle.packet_rules.specs.Judge.{arguments_of}
use Rattle.state.specs.declared.types.Config.{Config}
use Rattle.state.specs.declared.types.Run.{Run}
use Rattle.state.specs.Tables.{Tables, routed, tables_of}
use Rattle.state.specs.Rules.{member}
use Rattle.state.specs.Test.{keeps_rules}
use Rattle.step_effects.specs.Dispatch.{step_room}
use Rattle.step_rules.specs.declared.types.Stepped.{Stepped}
use Rattle.step_rules.specs.Packets.{OutcomeUnder, AcceptsUnder}
use Rattle.step_rules.specs.Makers.{unchanged}
use Rattle.step_effects.specs.FaultStates.{enabled, meant}
use Rattle.step_answers.specs.declared.own.Own.{Own}
use Rattle.step_answers.specs.declared.own.Own.TheVariants.{Arm}
use Rattle.step_answers.specs.Own.{rule_of, own_command, fault_arg}
use Rattle.step_answers.specs.Answers.{blocked}
use Rattle.step_rules.specs.Step.{acted, rejected_step, faulted, tick_step}

-- ---- an accepted packet: the first condition that holds, in the paper's order

pub data Answered (t : Tables) (armed : Bool) (id : ℕ) (args : List ℕ) : ℕ → Type 0 where
  -- protected and unarmed
  stopped : blocked t.protected armed id ≡ true → Answered t armed id args 30
  -- own command, wrong argument count
  miscounted : blocked t.protected armed id ≡ false → (k : Own) → own_command t.settings.base id ≡ some k → (length args ≡ (rule_of k).wanted → ⊥) → Answered t armed id args 31
  -- own command, fault id not in the table
  without_row : blocked t.protected armed id ≡ false → (k : Own) → own_command t.settings.base id ≡ some k → length args ≡ (rule_of k).wanted → (rule_of k).is_on_row ≡ true → meant t (fault_arg args) ≡ none → Answered t armed id args 32
  -- own command done on a row
  row_done : blocked t.protected armed id ≡ false → (k : Own) → own_command t.settings.base id ≡ some k → length args ≡ (rule_of k).wanted → (rule_of k).is_on_row ≡ true → (place : ℕ) → meant t (fault_arg args) ≡ some place → Answered t armed id args 12
  -- arm taken
  arm_taken : blocked t.protected armed id ≡ false → own_command t.settings.base id ≡ some Arm → length args ≡ 1 → Answered t armed id args 11
  -- another own command done
  own_done : blocked t.protected armed id ≡ false → (k : Own) → own_command t.settings.base id ≡ some k → length args ≡ (rule_of k).wanted → (rule_of k).is_on_row ≡ false → (rule_of k).done ≡ 12 → Answered t armed id args 12
  -- neither own nor routed
  without_route : blocked t.protected armed id ≡ false → own_command t.settings.base id ≡ none → member id (routed t) ≡ false → Answered t armed id args 33
  -- command dispatched
  goes : blocked t.protected armed id ≡ false → own_command t.settings.base id ≡ none → member id (routed t) ≡ true → Answered t armed id args 10

-- ---- a fault

pub data Faulted (t : Tables) (states : List ℕ) (f : ℕ) : ℕ → Type 0 where
  -- fault id not in the table
  unlisted : meant t f ≡ none → Faulted t states f 34
  -- its response disabled or latched
  quiet : (place : ℕ) → meant t f ≡ some place → (get_or states place 0 ≡ enabled → ⊥) → Faulted t states f 13
  -- its response dispatched
  responds : (place : ℕ) → meant t f ≡ some place → get_or states place 0 ≡ enabled → Faulted t states f 10

-- ---- any step, on any state and any room

pub data PacketSteps (c : Config) (run : Run) (p : List ℕ) (room : ℕ) : Stepped → Type 0 where
  breaks : keeps_rules c run ≡ false → PacketSteps c run p room (unchanged run 20)
  cramped : keeps_rules c run ≡ true → room < step_room → PacketSteps c run p room (unchanged run 21)
  rejects : keeps_rules c run ≡ true → step_room ≤ room → (n : ℕ) → OutcomeUnder (tables_of c) p n → (n ≡ 0 → ⊥) → PacketSteps c run p room (rejected_step run n)
  does : keeps_rules c run ≡ true → step_room ≤ room → AcceptsUnder (tables_of c) p → (n : ℕ) → Answered (tables_of c) run.standing.arm.armed (command_id p) (arguments_of p) n → PacketSteps c run p room (acted (tables_of c) run (command_id p) (arguments_of p) n)

pub data FaultSteps (c : Config) (run : Run) (f room : ℕ) : Stepped → Type 0 where
  breaks : keeps_rules c run ≡ false → FaultSteps c run f room (unchanged run 20)
  cramped : keeps_rules c run ≡ true → room < step_room → FaultSteps c run f room (unchanged run 21)
  does : keeps_rules c run ≡ true → step_room ≤ room → (n : ℕ) → Faulted (tables_of c) run.states f n → FaultSteps c run f room (faulted (tables_of c) run (meant (tables_of c) f) n)

pub data TickSteps (c : Config) (run : Run) : Stepped → Type 0 where
  breaks : keeps_rules c run ≡ false → TickSteps c run (unchanged run 20)
  does : keeps_rules c run ≡ true → TickSteps c run (tick_step run)
