-- `own_step`: each own command, by its law.
use Rattle.std.proofs.Common.{◌≡◌, ◌⊎◌, inl, inr, take, refl, sym, ◌∙◌}
use Rattle.step_effects.specs.FaultStates.{enable, disable, clear}
use Rattle.step_answers.specs.declared.own.Own.TheVariants.{Arm, ResetCounters, NoOp, NoOpWithArgument, Enable, Disable, Clear, ClearAll}
use Rattle.step_rules.specs.Moved.{OwnMoves}
use Rattle.step_rules.proofs.MovedLaws.{own_moves_31, own_moves_off, own_moves_on}
use Rattle.step_packet.proofs.own_step.Goals as goal

pub returns-then-args-wanted : goal.returns-then-args-wanted
returns-then-args-wanted c = rw c.quiet.ensures (own_moves_31 _ _ _ _ _ (λ e. c.if-args-wanted.true (e ∙ sym c.requires.2)))

-- what acts on no row
pub returns-in-Arm : goal.returns-in-Arm
returns-in-Arm c =
    rw c.quiet-in-Arm.ensures (own_moves_off _ _ _ _ (c.if-args-wanted.false ∙ c.requires.2) Arm c.in-Arm.is refl)

pub returns-in-ResetCounters : goal.returns-in-ResetCounters
returns-in-ResetCounters c =
    rw c.quiet-in-ResetCounters.ensures (own_moves_off _ _ _ _ (c.if-args-wanted.false ∙ c.requires.2) ResetCounters c.in-ResetCounters.is refl)

pub returns-in-NoOp : goal.returns-in-NoOp
returns-in-NoOp c = go c.in-NoOp.is
  where
    go : (c.args.command ≡ NoOp) ⊎ (c.args.command ≡ NoOpWithArgument)
        → OwnMoves (take c.args.config.now.numbers.nrows c.args.config.now.faultids.now) c.args.command c.args.id c.args.args.now c.args.states.now c.quiet-in-NoOp.result c.args.states.now
    go (inl is) = rw c.quiet-in-NoOp.ensures (own_moves_off _ _ _ _ (c.if-args-wanted.false ∙ c.requires.2) NoOp is refl)
    go (inr is) = rw c.quiet-in-NoOp.ensures (own_moves_off _ _ _ _ (c.if-args-wanted.false ∙ c.requires.2) NoOpWithArgument is refl)

-- what acts on a row
pub returns-in-Enable : goal.returns-in-Enable
returns-in-Enable c =
    own_moves_on _ _ _ _ (c.if-args-wanted.false ∙ c.requires.2) Enable c.in-Enable.is enable refl refl refl c.row_step.ensures

pub returns-in-Disable : goal.returns-in-Disable
returns-in-Disable c =
    own_moves_on _ _ _ _ (c.if-args-wanted.false ∙ c.requires.2) Disable c.in-Disable.is disable refl refl refl c.row_step-in-Disable.ensures

pub returns-in-Clear : goal.returns-in-Clear
returns-in-Clear c =
    own_moves_on _ _ _ _ (c.if-args-wanted.false ∙ c.requires.2) Clear c.in-Clear.is clear refl refl refl c.row_step-in-Clear.ensures

pub returns-in-ClearAll : goal.returns-in-ClearAll
returns-in-ClearAll c =
    rw (c.quiet-in-ClearAll.ensures, c.clear_all.ensures)
    (own_moves_off _ _ _ _ (c.if-args-wanted.false ∙ c.requires.2) ClearAll c.in-ClearAll.is refl)
