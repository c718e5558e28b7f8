-- Laws of one step of the running path: the bytes of its command, as they stand in the output (passed on from `history`) and as
-- its answer counts them.
use Rattle.std.specs.Prelude.{◌≡◌, refl, Bool, true, false, cond, List, [], ℕ, ◌+◌, eqb, length}
use Rattle.std.proofs.Common.{arith, eqb-true}
use Rattle.std.proofs.lemmas.Bool.{eqb-false}
use Rattle.packet_rules.specs.Layout.{command_id}
use Rattle.packet_rules.specs.Judge.{arguments_of}
use Rattle.state.specs.declared.types.Run.{Run}
use Rattle.state.specs.Tables.{Tables}
use Rattle.step_effects.specs.Dispatch.{command_bytes, for10}
use Rattle.step_effects.specs.FaultStates.{meant, row_for}
use Rattle.step_answers.specs.Answers.{answer_to, fault_answer}
use Rattle.step_rules.specs.Step.{accepted_step, rejected_step, packet_step, tick_step, fault_step}
use Rattle.step_rules.proofs.StepLaws.{packet_rejected, packet_accepted}
use Rattle.step_rules.specs.Packets.{refusal_under, accepted_under}
use Rattle.step_rules.proofs.Packets.{refusal_under_not}
use Rattle.history.specs.Plain.{Event, packet, tick, fault}
use Rattle.history.specs.Path.{step, bytes_for}

command_long : (n source id : ℕ) (args : List ℕ) → length (cond (eqb n 10) (command_bytes source id args) []) ≡ for10 n (5 + length args)
command_long n source id args = go (eqb n 10)
  where
    go : (b : Bool) → length (cond b (command_bytes source id args) []) ≡ cond b (5 + length args) 0
    go true = omega arith
    go false = refl

-- the answer counts the bytes of the command
pub written_is : (t : Tables) (s : Run) (e : Event) → length (bytes_for t e (step t s e).answer.answer) ≡ (step t s e).answer.written
unfolding accepted_step rejected_step tick_step fault_step
written_is t s (packet p) = go (accepted_under t p) refl
  where
    go : (z : Bool) → accepted_under t p ≡ z → length (bytes_for t (packet p) (packet_step t s p).answer.answer) ≡ (packet_step t s p).answer.written
    go false e =
        rw (← packet_rejected t s p (refusal_under t p) (refl, eqb-false _ _ e))
        (simp (refusal_under_not t p (eqb-false _ _ e) 10 refl))
    go true e =
        rw (← packet_accepted t s p (command_id p) (arguments_of p) (eqb-true _ _ e) refl refl)
        (command_long (answer_to t s.standing.arm.armed (command_id p) (arguments_of p)) t.settings.ground_source (command_id p) (arguments_of p))
written_is t s tick = refl
written_is t s (fault f) =
    let row = row_for (meant t f) t.rows in command_long (fault_answer s.states (meant t f)) t.settings.fault row.response row.args
