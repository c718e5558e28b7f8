-- A step keeps the rules of the state: so a loop may judge its state once and go on with the inner steps.
use Rattle.std.specs.Prelude.{◌≡◌, Bool, cond, not, List, [], ◌∷◌, map, ℕ, zero, suc, ◌+◌, ◌-◌, ◌≤◌, ◌<◌, length, get_or, set, take, drop}
use Rattle.std.proofs.Math.Path.{refl}
use Rattle.std.proofs.Math.Bool.{true, false}
use Rattle.std.proofs.Math.Option.{Option, none, some}
use Rattle.std.proofs.Common.{arith, get_or-take, get_or-drop}
use Rattle.std.proofs.Math.Dec.{eqb, lit≤}
use Rattle.std.proofs.lemmas.List.{length-map}
use borrow.Author.Tests.{eqb-true, eqb-false}
use Rattle.packet_rules.specs.Layout.{arg_count, command_id}
use Rattle.packet_rules.specs.Judge.{arguments_of}
use Rattle.packet_rules.proofs.JudgeLaws.{arguments_accepted}
use Rattle.state.specs.declared.types.Config.{Config}
use Rattle.state.specs.declared.types.Run.{Run}
use Rattle.state.specs.declared.types.Arm.{Arm}
use Rattle.state.specs.Tables.{FaultRow, Tables, fault_id, tables_of}
use Rattle.state.specs.Keeps.{AllZero, StateOk, StatesOk, ArmOk, RunOk, Keeps}
use Rattle.step_rules.specs.Packets.{refusal_under, accepted_under, AcceptsUnder}
use Rattle.step_rules.proofs.Packets.{accepts_under}
use Rattle.step_effects.specs.FaultStates.{disabled, enabled, latched, enable, disable, clear, fault, next_state, row_after, place_of, meant, no_row, row_for, onward, clear_all}
use Rattle.step_effects.proofs.ActLaws.{place_row}
use Rattle.step_answers.specs.declared.own.Own.{Own}
use Rattle.step_answers.specs.declared.own.Own.TheVariants as own
use Rattle.step_answers.specs.Own.{fault_arg}
use Rattle.step_arm.specs.Arming.{unarmed, armed_for, full_time, arm_set, arm_after, ticked}
use Rattle.step_answers.specs.Answers.{answer_to, fault_answer}
use Rattle.step_rules.specs.Step.{states_after, accepted_step, rejected_step, packet_step, tick_step, faulted, fault_step}
use Rattle.step_rules.specs.StateLaws.{done_on}
use Rattle.step_rules.proofs.StepLaws.{packet_rejected, packet_accepted}
use Rattle.wire.specs.Bytes.{Bytes}

-- ---- fault states

-- each event on a row keeps its rule: a row that doesn't latch never gets latched
module _ (latching s : ℕ) (h : StateOk latching s) where
  low : (x : ℕ) → x ≤ 1 → StateOk latching x
  low x l = record { known = omega arith; may_latch = λ p q. omega arith }

  enable_ok : StateOk latching (next_state s enable)
  enable_ok = go (eqb s latched) refl
    where
      go : (b : Bool) → eqb s latched ≡ b → StateOk latching (cond b latched enabled)
      go true e = record { known = lit≤ tt; may_latch = λ p q. h.may_latch (eqb-true s latched e) q }
      go false e = low 1 (lit≤ tt)

  clear_ok : StateOk latching (next_state s clear)
  clear_ok = go (eqb s disabled)
    where
      go : (b : Bool) → StateOk latching (cond b disabled enabled)
      go true = low 0 (lit≤ tt)
      go false = low 1 (lit≤ tt)

  fault_ok : StateOk latching (row_after latching s fault)
  unfolding row_after
  fault_ok = go (eqb latching 0) refl (eqb s disabled)
    where
      go : (l : Bool) → eqb latching 0 ≡ l → (z : Bool) → StateOk latching (cond l s (cond z disabled latched))
      go true e z = h
      go false e true = low 0 (lit≤ tt)
      go false e false = record { known = lit≤ tt; may_latch = λ p q. eqb-false latching 0 e q }

set_ok : (rows : List FaultRow) (ss : List ℕ) (k v : ℕ) → k < length rows → (StateOk (get_or rows k no_row).latching (get_or ss k 0) → StateOk (get_or rows k no_row).latching v)
    → StatesOk rows ss → StatesOk rows (set ss k v)
set_ok [] ss k v l f h = absurd (omega arith)
set_ok (r ∷ rows) [] k v l f h = tt
set_ok (r ∷ rows) (s ∷ ss) zero v l f h = (f h.0, h.1)
set_ok (r ∷ rows) (s ∷ ss) (suc k) v l f h = (h.0, set_ok rows ss k v (omega arith) f h.1)

-- and so does one on the row that a fault id means
onward_ok : (rows : List FaultRow) (f : ℕ) (next : FaultRow → ℕ → ℕ) (ss : List ℕ) → ((r : FaultRow) (s : ℕ) → StateOk r.latching s → StateOk r.latching (next r s))
    → StatesOk rows ss → let place = place_of f (map fault_id rows) in StatesOk rows (onward (next (row_for place rows)) place ss)
onward_ok rows f next ss ok h = go (place_of f (map fault_id rows)) refl
  where
    go : (o : Option ℕ) → place_of f (map fault_id rows) ≡ o → StatesOk rows (onward (next (row_for o rows)) o ss)
    go none e = h
    go (some k) e = set_ok rows ss k _ (omega (arith, (place_row f (map fault_id rows) k e).0, length-map rows fault_id)) (ok (get_or rows k no_row) (get_or ss k 0)) h

clear_zero : (s : ℕ) → s ≡ 0 → next_state s clear ≡ 0
clear_zero s e = rw e

clear_zeros : (ss : List ℕ) → AllZero ss → AllZero (clear_all ss)
clear_zeros [] h = tt
clear_zeros (s ∷ ss) h = (clear_zero s h.0, clear_zeros ss h.1)

all_ok : (rows : List FaultRow) (ss : List ℕ) → StatesOk rows ss → StatesOk rows (clear_all ss)
all_ok [] ss h = clear_zeros ss h
all_ok (r ∷ rows) [] h = tt
all_ok (r ∷ rows) (s ∷ ss) h = (clear_ok r.latching s h.0, all_ok rows ss h.1)

own_ok : (rows : List FaultRow) (k : Own) (f : ℕ) (ss : List ℕ) → StatesOk rows ss → StatesOk rows (done_on (place_of f (map fault_id rows)) k ss)
own_ok rows own.Arm f ss h = h
own_ok rows own.ResetCounters f ss h = h
own_ok rows own.NoOp f ss h = h
own_ok rows own.NoOpWithArgument f ss h = h
own_ok rows own.Enable f ss h = onward_ok rows f (λ r s. next_state s enable) ss (λ r s. enable_ok r.latching s) h
own_ok rows own.Disable f ss h = onward_ok rows f (λ r s. next_state s disable) ss (λ r s ok. low r.latching s ok 0 (lit≤ tt)) h
own_ok rows own.Clear f ss h = onward_ok rows f (λ r s. next_state s clear) ss (λ r s. clear_ok r.latching s) h
own_ok rows own.ClearAll f ss h = all_ok rows ss h

states_are_ok : (rows : List FaultRow) (n : ℕ) (k : Option Own) (args ss : List ℕ) → StatesOk rows ss → StatesOk rows (states_after (map fault_id rows) n k args ss)
unfolding states_after
states_are_ok rows n none args ss h = h
states_are_ok rows n (some k) args ss h = go (eqb n 12)
  where
    go : (a : Bool) → StatesOk rows (cond a (done_on (place_of (fault_arg args) (map fault_id rows)) k ss) ss)
    go true = own_ok rows k (fault_arg args) ss h
    go false = h

-- ---- the arm record

arm_after_ok : (n : ℕ) (args : List ℕ) → get_or args 0 0 < 256 → ArmOk (arm_after n args).armed (arm_after n args).ticks
unfolding arm_after arm_set
arm_after_ok n args h = go (eqb n 11)
  where
    go : (b : Bool) → ArmOk (cond {A = Arm} b (armed_for (full_time (get_or args 0 0))) unarmed).armed (cond {A = Arm} b (armed_for (full_time (get_or args 0 0))) unarmed).ticks
    go true = omega arith
    go false = refl

ticked_ok : (armed : Bool) (ticks : ℕ) → ArmOk armed ticks → ArmOk (ticked armed ticks).armed (ticked armed ticks).ticks
unfolding ticked
ticked_ok false ticks h = h
ticked_ok true ticks h = go (not (eqb ticks 0)) (eqb ticks 1)
  where
    next : Bool → Bool → Arm
    next a b = cond a (cond b unarmed (armed_for (ticks - 1))) (record { armed = true; ticks = ticks })

    go : (a b : Bool) → ArmOk (next a b).armed (next a b).ticks
    go true true = refl
    go true false = omega arith
    go false b = h

first_byte : (n : ℕ) (p : List ℕ) → Bytes p → get_or (take n (drop 10 p)) 0 0 < 256
first_byte zero p h = lit≤ tt
first_byte (suc n) p h = rw (get_or-take (suc n) (drop 10 p) 0 0 (omega arith), get_or-drop 10 p 0 0) (h (10 + 0))

argument_byte : (t : Tables) (p : List ℕ) → AcceptsUnder t p → Bytes p → get_or (arguments_of p) 0 0 < 256
argument_byte t p a h = rw (arguments_accepted p a) (first_byte (arg_count p) p h)

-- ---- the run of each step

module _ (t : Tables) (run : Run) (h : RunOk t run) where
  pub packet_run_ok : (p : List ℕ) → Bytes p → RunOk t (packet_step t run p).run
  unfolding accepted_step rejected_step
  packet_run_ok p b = go (accepted_under t p) refl
    where
      go : (z : Bool) → accepted_under t p ≡ z → RunOk t (packet_step t run p).run
      go false e = rw (← packet_rejected t run p (refusal_under t p) (refl, eqb-false _ _ e)) (record { arm_is_ok = h.arm_is_ok; states_are_ok = h.states_are_ok })
      go true e =
          rw (← packet_accepted t run p (command_id p) (arguments_of p) (eqb-true _ _ e) refl refl)
          (record {
            arm_is_ok = arm_after_ok (answer_to t run.standing.arm.armed (command_id p) (arguments_of p)) (arguments_of p) (argument_byte t p (accepts_under t p (eqb-true _ _ e)) b);
            states_are_ok = states_are_ok t.rows _ _ (arguments_of p) run.states h.states_are_ok;
          })

  pub tick_run_ok : RunOk t (tick_step run).run
  unfolding tick_step
  tick_run_ok = record { arm_is_ok = ticked_ok run.standing.arm.armed run.standing.arm.ticks h.arm_is_ok; states_are_ok = h.states_are_ok }

  pub fault_run_ok : (f : ℕ) → RunOk t (fault_step t run f).run
  unfolding fault_step
  fault_run_ok f = go (fault_answer run.states (meant t f))
    where
      go : (n : ℕ) → RunOk t (faulted t run (meant t f) n).run
      go n = by (eqb n 10) refl
        where
          by : (b : Bool) → eqb n 10 ≡ b → RunOk t (faulted t run (meant t f) n).run
          by true e = record { arm_is_ok = h.arm_is_ok; states_are_ok = rw e (onward_ok t.rows f (λ r s. row_after r.latching s fault) run.states (λ r s. fault_ok r.latching s) h.states_are_ok) }
          by false e = record { arm_is_ok = h.arm_is_ok; states_are_ok = rw e h.states_are_ok }

-- ---- the state that each step leaves

module _ {c : Config} {run : Run} (k : Keeps c run) where
  with_run : (next : Run) → RunOk (tables_of c) next → Keeps c next
  with_run next h = record { within = k.within; rules = k.rules; unused = k.unused; run_ok = h }

  pub packet_keeps : (p : List ℕ) → Bytes p → Keeps c (packet_step (tables_of c) run p).run
  packet_keeps p b = with_run _ (packet_run_ok (tables_of c) run k.run_ok p b)

  pub tick_keeps : Keeps c (tick_step run).run
  tick_keeps = with_run _ (tick_run_ok (tables_of c) run k.run_ok)

  pub fault_keeps : (f : ℕ) → Keeps c (fault_step (tables_of c) run f).run
  fault_keeps f = with_run _ (fault_run_ok (tables_of c) run k.run_ok f)
