-- The steps on any state where the columns and the fault states are lent: what such a step leaves, with the fault states that it
-- leaves, is the step of document 01 on the configuration and the run that they are. Each way of one, by the inner step.
use Rattle.std.specs.Prelude.{◌≡◌, List, ℕ, length}
use Rattle.state.specs.declared.types.Config.{Config}
use Rattle.state.specs.declared.types.Run.{Run}
use Rattle.state.specs.Tables.{tables_of}
use Rattle.step_rules.specs.declared.types.Left.{Left}
use Rattle.step_rules.specs.Makers.{step_left}
use Rattle.step_rules.specs.Step.{packet_output, fault_output, packet_step_of, fault_step_of}

-- a packet: what it leaves, and what it leaves of the output
pub record PacketLeaves (c : Config) (run : Run) (p out : List ℕ) (l : Left) (states left : List ℕ) : Type 0 where
  pub step : step_left l states ≡ packet_step_of c run p (length out)
  pub output : left ≡ packet_output (tables_of c) l.answer.answer p out

-- a fault
pub record FaultLeaves (c : Config) (run : Run) (f : ℕ) (out : List ℕ) (l : Left) (states left : List ℕ) : Type 0 where
  pub step : step_left l states ≡ fault_step_of c run f (length out)
  pub output : left ≡ fault_output (tables_of c) l.answer.answer f out
