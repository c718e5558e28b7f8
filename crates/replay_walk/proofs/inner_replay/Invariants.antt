-- `inner_replay`: `Going`, no reason to stop so far, and the fault states as long as they were; the measure is what is left of the
-- recording.
use Rattle.std.proofs.Common.{◌≡◌, ◌-◌, length}
use Rattle.state.specs.Tables.{config_of_lent, run_from}
use Rattle.replay_rules.proofs.ReplayWalk.{Going}
use Rattle.replay_walk.proofs.inner_replay.Given as goal

abbrev pub invariant-loop-at : goal.invariant-loop-at
invariant-loop-at l = record {
  going : Going (config_of_lent l.config) l.recording l.fn.out (run_from l.fn.standing l.fn.states) l.out (run_from l.at.standing l.states) l.at.read l.at.count l.at.wrote;
  goes : l.at.stop ≡ 0;
  long : length l.states ≡ 32;
}

abbrev pub decreases-loop-at : goal.decreases-loop-at
decreases-loop-at l = length l.recording - l.at.read
