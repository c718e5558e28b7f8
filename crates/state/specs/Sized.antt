-- The lengths of the arrays that a Config and a Run of the code always have; a record of lists by itself does not say so.
use Rattle.std.specs.Prelude.{◌≡◌, List, ℕ, length}
use Rattle.state.specs.declared.types.Config.{Config}
use Rattle.state.specs.declared.types.Run.{Run}
use Rattle.state.specs.Keeps.{Keeps}

pub record Sized (c : Config) : Type 0 where
  pub routeids_128 : length c.routeids ≡ 128
  pub dests_128 : length c.dests ≡ 128
  pub protected_32 : length c.protected ≡ 32
  pub faultids_32 : length c.faultids ≡ 32
  pub responses_32 : length c.responses ≡ 32
  pub latching_32 : length c.latching ≡ 32
  pub argcounts_32 : length c.argcounts ≡ 32
  pub args_512 : length c.args ≡ 512

pub record SizedRun (r : Run) : Type 0 where
  pub states_32 : length r.states ≡ 32

-- the same of lent columns and fault states
pub record LentSized (c : Config) (states : List ℕ) : Type 0 where
  pub columns : Sized c
  pub states_32 : length states ≡ 32

-- a state that keeps its rules, whose columns and fault states may be lent
pub record LentState (c : Config) (r : Run) : Type 0 where
  pub keeps : Keeps c r
  pub sized : Sized c
  pub sized_run : SizedRun r
