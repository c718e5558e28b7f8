-- `lent_resume`: a state that breaks its rules, or the loop.
use Rattle.std.proofs.Common.{sym, ◌∙◌}
use Rattle.state.proofs.KeepsLaws as state
use Rattle.replay_rules.proofs.ReplayLaws.{breaks, keeps}
use Rattle.replay.proofs.replay.lent_resume.Goals as goal

pub returns-then-not-lent_keeps : goal.returns-then-not-lent_keeps
returns-then-not-lent_keeps c = rw c.reached_at.ensures (breaks _ _ _ _ (sym c.lent_keeps.ensures.0 ∙ c.if-not-lent_keeps.true))

pub inner_replay-requires : goal.inner_replay-requires
inner_replay-requires c =
    let z = c.lent_keeps.ensures.1 in
    record {
      keeps = state.keeps _ _ (sym c.lent_keeps.ensures.0 ∙ c.if-not-lent_keeps.false);
      sized = z.columns;
      sized_run = record { states_32 = z.states_32 };
    }

pub returns : goal.returns
returns c = keeps _ _ _ _ (sym c.lent_keeps.ensures.0 ∙ c.if-not-lent_keeps.false) c.inner_replay.ensures
