-- The answers read as statements: what each answer to an accepted packet, to a fault and to any step says, in both directions.
use Rattle.std.specs.Prelude.{◌≡◌, Bool, true, false, ◌⊎◌, List, map, ℕ, eqb, leb, length}
use Rattle.std.proofs.Math.Path.{refl, sym}
use Rattle.std.proofs.Common.{ap, ◌∙◌, inl, inr, eqb-true, leb-true, leb-false}
use Rattle.std.proofs.Math.Option.{Option, none, some}
use Rattle.std.proofs.lemmas.Bool.{eqb-false}
use Rattle.packet_rules.specs.Layout.{command_id}
use Rattle.packet_rules.specs.Judge.{arguments_of}
use Rattle.state.specs.declared.types.Config.{Config}
use Rattle.state.specs.declared.types.Run.{Run}
use Rattle.state.specs.Tables.{Tables, fault_id, routed, tables_of}
use Rattle.state.specs.Rules.{member}
use Rattle.state.specs.Test.{keeps_rules}
use Rattle.step_effects.specs.Dispatch.{step_room}
use Rattle.step_rules.specs.Packets.{refusal_under, accepted_under}
use Rattle.step_rules.proofs.Packets.{outcome_under, accepts_under}
use Rattle.step_effects.specs.FaultStates.{enabled, meant, state_for}
use Rattle.step_answers.specs.declared.own.Own.{Own}
use Rattle.step_answers.specs.declared.own.Own.TheVariants.{Arm}
use Rattle.step_answers.specs.Own.{rule_of, own_command, fault_arg}
use Rattle.step_answers.specs.Answers.{blocked, route_answer, answer_to, fault_answer}
use Rattle.step_answers.proofs.OwnLaws.{done_is, done_11, own_31, own_32, own_row, own_taken}
use Rattle.step_answers.proofs.AnswerLaws.{answer_30, answer_own, answer_route, fault_34, fault_13, fault_10}
use Rattle.step_rules.specs.Step.{accepted_step, packet_step_of, fault_step, fault_step_of, tick_step_of}
use Rattle.step_rules.proofs.StepLaws.{packet_rejected, packet_accepted}
use Rattle.step_rules.specs.StepOutcome.{Answered, stopped, miscounted, without_row, row_done, arm_taken, own_done, without_route, goes, Faulted, unlisted, quiet, responds, PacketSteps, breaks, cramped, rejects, does, FaultSteps, breaks, cramped, does, TickSteps, breaks, does}

module _ {t : Tables} {armed : Bool} {id : ℕ} {args : List ℕ} where
  -- no other answer fits
  pub only : {n : ℕ} → Answered t armed id args n → n ≡ answer_to t armed id args
  unfolding route_answer
  only (stopped b) = answer_30 _ _ _ _ _ _ _ b
  only (miscounted b k o h) = own_31 _ k _ h ∙ answer_own _ _ _ _ _ _ k o b
  only (without_row b k o e r h) = own_32 _ k _ e r h ∙ answer_own _ _ _ _ _ _ k o b
  only (row_done b k o e r place h) = own_row _ k _ e r place h ∙ answer_own _ _ _ _ _ _ k o b
  only (arm_taken b o e) = own_taken _ Arm _ e refl ∙ answer_own _ _ _ _ _ _ Arm o b
  only (own_done b k o e r h) = sym h ∙ own_taken _ k _ e r ∙ answer_own _ _ _ _ _ _ k o b
  only (without_route b o h) = rw (← answer_route (routed t) t.protected (map fault_id t.rows) armed id args o b, h)
  only (goes b o h) = rw (← answer_route (routed t) t.protected (map fault_id t.rows) armed id args o b, h)

-- some answer's conditions hold
pub answered : (t : Tables) (armed : Bool) (id : ℕ) (args : List ℕ) → Answered t armed id args (answer_to t armed id args)
answered t armed id args = go (blocked t.protected armed id) refl (own_command t.settings.base id) refl
  where
    as_is : {n : ℕ} → Answered t armed id args n → Answered t armed id args (answer_to t armed id args)
    as_is a = rw (← only a) a

    own : blocked t.protected armed id ≡ false → (k : Own) → own_command t.settings.base id ≡ some k
        → (b : Bool) → eqb (length args) (rule_of k).wanted ≡ b
        → (r : Bool) → (rule_of k).is_on_row ≡ r
        → (i : Option ℕ) → meant t (fault_arg args) ≡ i
        → ((rule_of k).done ≡ 11) ⊎ ((rule_of k).done ≡ 12)
        → Answered t armed id args (answer_to t armed id args)
    own u k o false e r er i ei d = as_is (miscounted u k o (eqb-false _ _ e))
    own u k o true e true er none ei d = as_is (without_row u k o (eqb-true _ _ e) er ei)
    own u k o true e true er (some place) ei d = as_is (row_done u k o (eqb-true _ _ e) er place ei)
    own u k o true e false er i ei (inl d) =
        let z = done_11 k d in
        as_is (arm_taken u (o ∙ ap some z) (eqb-true _ _ e ∙ ap (λ (a : Own). (rule_of a).wanted) z))
    own u k o true e false er i ei (inr d) = as_is (own_done u k o (eqb-true _ _ e) er d)

    other : blocked t.protected armed id ≡ false → own_command t.settings.base id ≡ none → (i : Bool) → member id (routed t) ≡ i → Answered t armed id args (answer_to t armed id args)
    other u o true e = as_is (goes u o e)
    other u o false e = as_is (without_route u o e)

    go : (b : Bool) → blocked t.protected armed id ≡ b → (o : Option Own) → own_command t.settings.base id ≡ o → Answered t armed id args (answer_to t armed id args)
    go true e o eo = as_is (stopped e)
    go false e (some k) eo = own e k eo (eqb (length args) (rule_of k).wanted) refl (rule_of k).is_on_row refl (meant t (fault_arg args)) refl (done_is k)
    go false e none eo = other e eo (member id (routed t)) refl

pub only_fault : {t : Tables} {states : List ℕ} {f n : ℕ} → Faulted t states f n → n ≡ fault_answer states (meant t f)
only_fault (unlisted m) = fault_34 _ m
only_fault (quiet place m h) = fault_13 _ place m h
only_fault (responds place m h) = fault_10 _ place m h

pub faulted_as : (t : Tables) (states : List ℕ) (f : ℕ) → Faulted t states f (fault_answer states (meant t f))
faulted_as t states f = go (meant t f) refl (eqb (state_for (meant t f) states) enabled) refl
  where
    as_is : {n : ℕ} → Faulted t states f n → Faulted t states f (fault_answer states (meant t f))
    as_is a = rw (← only_fault a) a

    go : (m : Option ℕ) → meant t f ≡ m → (s : Bool) → eqb (state_for m states) enabled ≡ s → Faulted t states f (fault_answer states (meant t f))
    go none em s es = as_is (unlisted em)
    go (some place) em false es = as_is (quiet place em (eqb-false _ _ es))
    go (some place) em true es = as_is (responds place em (eqb-true _ _ es))

pub packet_steps : (c : Config) (run : Run) (p : List ℕ) (room : ℕ) → PacketSteps c run p room (packet_step_of c run p room)
unfolding packet_step_of accepted_step
packet_steps c run p room = go (keeps_rules c run) refl (leb step_room room) refl (accepted_under (tables_of c) p) refl
  where
    t : Tables
    t = tables_of c

    go : (k : Bool) → keeps_rules c run ≡ k → (l : Bool) → leb step_room room ≡ l → (z : Bool) → accepted_under t p ≡ z → PacketSteps c run p room (packet_step_of c run p room)
    go false e l el z ez = rw e (breaks e)
    go true e false el z ez = rw (e, el) (cramped e (leb-false _ _ el))
    go true e true el false ez =
        rw (e, el, ← packet_rejected t run p (refusal_under t p) (refl, eqb-false _ _ ez)) (rejects e (leb-true _ _ el) (refusal_under t p) (outcome_under t p) (eqb-false _ _ ez))
    go true e true el true ez =
        rw (e, el, ← packet_accepted t run p (command_id p) (arguments_of p) (eqb-true _ _ ez) refl refl)
        (does e (leb-true _ _ el) (accepts_under t p (eqb-true _ _ ez)) (answer_to t run.standing.arm.armed (command_id p) (arguments_of p)) (answered t run.standing.arm.armed (command_id p) (arguments_of p)))

pub fault_steps : (c : Config) (run : Run) (f room : ℕ) → FaultSteps c run f room (fault_step_of c run f room)
unfolding fault_step_of fault_step
fault_steps c run f room = go (keeps_rules c run) refl (leb step_room room) refl
  where
    go : (k : Bool) → keeps_rules c run ≡ k → (l : Bool) → leb step_room room ≡ l → FaultSteps c run f room (fault_step_of c run f room)
    go false e l el = rw e (breaks e)
    go true e false el = rw (e, el) (cramped e (leb-false _ _ el))
    go true e true el = rw (e, el) (does e (leb-true _ _ el) (fault_answer run.states (meant (tables_of c) f)) (faulted_as (tables_of c) run.states f))

pub tick_steps : (c : Config) (run : Run) → TickSteps c run (tick_step_of c run)
unfolding tick_step_of
tick_steps c run = go (keeps_rules c run) refl
  where
    go : (k : Bool) → keeps_rules c run ≡ k → TickSteps c run (tick_step_of c run)
    go false e = rw e (breaks e)
    go true e = rw e (does e)
