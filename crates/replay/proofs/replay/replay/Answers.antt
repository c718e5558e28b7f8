-- `replay`: an image that is refused, or the loop behind the state that it loads.
use Rattle.std.proofs.Common.{◌≡◌, ℕ, List, sym, ap, subst, ◌∙◌}
use Rattle.state.specs.declared.types.Config.{Config}
use Rattle.state.specs.declared.types.Run.{Run}
use Rattle.image_load.specs.declared.types.Loaded.{Loaded}
use Rattle.image_load.proofs.LoadTheorems.{loaded_lent}
use Rattle.replay_rules.specs.declared.types.Reached.{Reached}
use Rattle.replay_rules.specs.Replay.{Replays}
use Rattle.replay_rules.proofs.ReplayLaws.{refused, loaded}
use Rattle.replay.proofs.replay.replay.Goals as goal

-- the configuration that is lent is the one that was loaded
of_loaded : {a b : Config} → a ≡ b → {s : Run} {bs out : List ℕ} {r : Reached} {states left : List ℕ} → Replays a s bs out r states left → Replays b s bs out r states left
of_loaded e {s} {bs} {out} {r} {states} {left} h = subst (λ (x : Config). Replays x s bs out r states left) e h

pub returns-then-loaded-ne0 : goal.returns-then-loaded-ne0
returns-then-loaded-ne0 c =
    let r = refused c.args.image.now c.args.recording.now c.args.out.now c.load-loaded.ensures c.if-loaded-ne0.true in
    record { told = rw c.no_counts.ensures r.0; output = r.1 }

-- the state that was loaded may be lent
pub inner_replay-reached-requires : goal.inner_replay-reached-requires
inner_replay-reached-requires c =
    rw (c.lent.ensures, c.load-loaded.ensures)
    (loaded_lent _ (ap (λ (x : Loaded). x.answer) (sym c.load-loaded.ensures) ∙ c.if-loaded-ne0.false))

pub returns : goal.returns
returns c =
    let walked = of_loaded c.lent.ensures c.inner_replay-reached.ensures in
    let r = loaded c.args.image.now c.args.recording.now c.args.out.now c.load-loaded.ensures c.if-loaded-ne0.false walked.told walked.output in
    record { told = r.0; output = r.1 }
