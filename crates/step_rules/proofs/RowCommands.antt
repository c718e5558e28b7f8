-- Document 01, "Own commands": an enable, disable or clear that was done acts on the row that its fault id means, by the event of
-- its name, and on no other row.
use Rattle.std.specs.Prelude.{◌≡◌, Bool, true, false, List, ℕ, ◌≤◌, length, get_or}
use Rattle.std.proofs.Math.Path.{refl, ap}
use Rattle.std.proofs.Common.{sym, ◌∙◌, arith}
use Rattle.std.proofs.lemmas.Bool.{false≢true}
use Rattle.std.proofs.Math.Option.{Option, none, some}
use Rattle.std.proofs.lemmas.List.{length-map}
use Rattle.packet_rules.specs.Layout.{command_id}
use Rattle.packet_rules.specs.Judge.{arguments_of}
use Rattle.state.specs.declared.types.Config.{Config}
use Rattle.state.specs.declared.types.Run.{Run}
use Rattle.state.specs.Tables.{FaultRow, fault_id, tables_of}
use Rattle.step_effects.specs.FaultStates.{next_state, meant, state_for, commanded}
use Rattle.step_effects.proofs.ActLaws.{place_row, acts_on_its_row, acts_on_no_other}
use Rattle.step_answers.specs.declared.own.Own.{Own}
use Rattle.step_answers.specs.Own.{rule_of, own_command, fault_arg}
use Rattle.step_rules.specs.declared.types.Stepped.{Stepped}
use Rattle.step_rules.specs.Step.{rejected_step, states_by, states_after, packet_step_of}
use Rattle.step_rules.proofs.Packets.{not_under}
use Rattle.step_rules.specs.StepOutcome.{PacketSteps, stopped, miscounted, without_row, row_done, arm_taken, own_done, without_route, goes}
use Rattle.step_rules.proofs.StepOutcome.{packet_steps}
use Rattle.step_rules.specs.StepOutcome as outcomes
use Rattle.step_rules.specs.RowCommands.{RowCommand, enables, disables, clears}

on_row : {k : Own} {e : ℕ} → RowCommand k e → (rule_of k).is_on_row ≡ true
on_row enables = refl
on_row disables = refl
on_row clears = refl

by_event : {k : Own} {e : ℕ} → RowCommand k e → (act : ℕ → List ℕ) (ss : List ℕ) → states_by act k ss ≡ act e
by_event enables act ss = refl
by_event disables act ss = refl
by_event clears act ss = refl

abbrev asks_row : Option Own → Bool
asks_row none = false
asks_row (some k) = (rule_of k).is_on_row

module _ (c : Config) (run : Run) (p : List ℕ) (room : ℕ) {k : Own} {e : ℕ} (w : RowCommand k e) (own : own_command (tables_of c).settings.base (command_id p) ≡ some k) where
  abbrev rows : List FaultRow
  rows = (tables_of c).rows

  -- the place that its fault id means
  abbrev place : Option ℕ
  place = meant (tables_of c) (fault_arg (arguments_of p))

  abbrev after : List ℕ
  after = (packet_step_of c run p room).run.states

  record Acts (r : Stepped) : Type 0 where
    pub row : ℕ
    pub there : place ≡ some row
    pub states : r.run.states ≡ commanded e place run.states

  -- where it was done: its fault id means a row, and the states are those after its event on that row
  acts : (r : Stepped) → PacketSteps c run p room r → r.answer.answer ≡ 12 → Acts r
  unfolding rejected_step states_after
  acts r (outcomes.breaks x) d = absurd (omega arith)
  acts r (outcomes.cramped x q) d = absurd (omega arith)
  acts r (outcomes.rejects x q n o y) d = absurd (not_under (tables_of c) p o y 12 refl d)
  acts r (outcomes.does x q a n (stopped b)) d = absurd (omega arith)
  acts r (outcomes.does x q a n (miscounted b j o h)) d = absurd (omega arith)
  acts r (outcomes.does x q a n (without_row b j o l h m)) d = absurd (omega arith)
  acts r (outcomes.does x q a n (row_done b j o l h i m)) d = record { row = i; there = m; states = rw own (by_event w (λ e. commanded e place run.states) run.states) }
  acts r (outcomes.does x q a n (arm_taken b o l)) d = absurd (omega arith)
  acts r (outcomes.does x q a n (own_done b j o l h m)) d = absurd (false≢true (sym h ∙ ap asks_row (sym o ∙ own) ∙ on_row w))
  acts r (outcomes.does x q a n (without_route b o m)) d = absurd (omega arith)
  acts r (outcomes.does x q a n (goes b o m)) d = absurd (omega arith)

  module _ (done : (packet_step_of c run p room).answer.answer ≡ 12) where
    acted : Acts (packet_step_of c run p room)
    acted = acts (packet_step_of c run p room) (packet_steps c run p room) done

    -- the row that its fault id means is in the state that the table of events gives; each row has a state
    pub command_on_its_row : length rows ≤ length run.states → state_for place after ≡ next_state (state_for place run.states) e
    command_on_its_row l =
        let a = acted in
        let i = (place_row (fault_arg (arguments_of p)) _ a.row a.there).0 in
        rw (a.states, a.there) (acts_on_its_row (λ s. next_state s e) run.states a.row (omega (arith, i, length-map rows fault_id)))

    -- the row at any other place is as it was
    pub command_on_no_other : (j : ℕ) → (place ≡ some j → ⊥) → get_or after j 0 ≡ get_or run.states j 0
    command_on_no_other j h = rw acted.states (acts_on_no_other (λ s. next_state s e) run.states place j h)
