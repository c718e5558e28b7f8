-- Demand 1 of the steps: what a refusal leaves as it was. Answers 20 and 21 change nothing at all; any answer but 10 changes
-- no output byte; a rejected packet moves only R; a tick and a fault leave what they must.
use Rattle.std.proofs.Math.Path.{◌≡◌, refl}
use Rattle.std.proofs.Common.{sym, ap, ◌∙◌}
use Rattle.std.specs.Prelude.{Bool, cond, ◌&&◌, List, ℕ, ◌+◌, ◌%◌, ◌≤◌}
use Rattle.std.proofs.Math.Bool.{true, false}
use Rattle.std.proofs.lemmas.Bool.{false≢true}
use Rattle.std.proofs.Math.Option.{Option}
use native.Mathlib.Omega.{arith}
use Rattle.std.proofs.Math.Dec.{eqb}
use Rattle.packet_rules.specs.Rejection.{is_rejection}
use Rattle.state.specs.declared.types.Config.{Config}
use Rattle.state.specs.declared.types.Run.{Run}
use Rattle.state.specs.declared.types.Counts.{Counts}
use Rattle.state.specs.Tables.{Tables, tables_of, run_counted}
use Rattle.state.specs.Test.{keeps_rules}
use Rattle.step_rules.specs.declared.types.Stepped.{Stepped}
use Rattle.step_effects.specs.FaultStates.{enabled, meant, row_for, state_for}
use Rattle.step_effects.proofs.ActLaws.{non_latching_keeps}
use Rattle.step_arm.specs.Arming.{tick_answer}
use Rattle.step_effects.specs.Counters.{rejected_counts}
use Rattle.step_effects.specs.Dispatch.{step_room}
use Rattle.step_effects.proofs.DispatchLaws.{sent_not}
use Rattle.step_rules.specs.Packets.{is_accepted}
use Rattle.step_rules.proofs.Packets.{not_under, rejected_not, accepted_not}
use Rattle.step_rules.specs.Makers.{unchanged}
use Rattle.step_rules.specs.Step.{packet_output, packet_step_of, fault_output, fault_step_of, tick_step, tick_step_of, rejected_step}
use Rattle.step_rules.specs.StepOutcome.{Answered, stopped, miscounted, without_row, row_done, arm_taken, own_done, without_route, goes, Faulted, unlisted, quiet, responds, PacketSteps, FaultSteps, TickSteps}
use Rattle.step_rules.proofs.StepOutcome.{packet_steps, fault_steps, tick_steps}
use Rattle.step_rules.specs.StepOutcome as outcome

-- ---- the numbers

-- the output room that a step asks for
pub room_260 : step_room ≡ 260
room_260 = refl

-- an accepted packet gets none of 20 to 29
pub answered_accepted : {t : Tables} {armed : Bool} {id : ℕ} {args : List ℕ} {n : ℕ} → Answered t armed id args n → is_accepted n ≡ true
answered_accepted (stopped a) = refl
answered_accepted (miscounted a k b c) = refl
answered_accepted (without_row a k b c d e) = refl
answered_accepted (row_done a k b c d place e) = refl
answered_accepted (arm_taken a b c) = refl
answered_accepted (own_done a k b c d e) = refl
answered_accepted (without_route a b c) = refl
answered_accepted (goes a b c) = refl

faulted_range : {t : Tables} {states : List ℕ} {f n : ℕ} → Faulted t states f n → 20 ≤ n → n ≤ 21 → ⊥
faulted_range (unlisted m) h l = omega arith
faulted_range (quiet place m s) h l = omega arith
faulted_range (responds place m s) h l = omega arith

-- ---- 20 and 21 change nothing at all

module _ (c : Config) (run : Run) (p : List ℕ) (room : ℕ) where
  abbrev t : Tables
  t = tables_of c

  nothing : (r : Stepped) → PacketSteps c run p room r → 20 ≤ r.answer.answer → r.answer.answer ≤ 21 → r ≡ unchanged run r.answer.answer
  unfolding rejected_step
  nothing r (outcome.breaks e) h l = refl
  nothing r (outcome.cramped e q) h l = refl
  nothing r (outcome.rejects e q n o z) h l = absurd (omega (arith, not_under t p o z 20 refl, not_under t p o z 21 refl))
  nothing r (outcome.does e q a n o) h l =
      let y = answered_accepted o in
      absurd (omega (arith, accepted_not n y 20 refl, accepted_not n y 21 refl))

  -- the run as it was, and every number of the answer zero but the refusal
  pub packet_refused_unchanged : 20 ≤ (packet_step_of c run p room).answer.answer → (packet_step_of c run p room).answer.answer ≤ 21
      → packet_step_of c run p room ≡ unchanged run (packet_step_of c run p room).answer.answer
  packet_refused_unchanged = nothing (packet_step_of c run p room) (packet_steps c run p room)

  pub packet_refused_changes_nothing : 20 ≤ (packet_step_of c run p room).answer.answer → (packet_step_of c run p room).answer.answer ≤ 21 → (packet_step_of c run p room).run ≡ run
  packet_refused_changes_nothing h l = ap (λ (s : Stepped). s.run) (packet_refused_unchanged h l)

  -- 20 is given only where the state breaks its rules
  only_broken : (r : Stepped) → PacketSteps c run p room r → r.answer.answer ≡ 20 → keeps_rules c run ≡ false
  unfolding rejected_step
  only_broken r (outcome.breaks e) h = e
  only_broken r (outcome.cramped e q) h = absurd (omega arith)
  only_broken r (outcome.rejects e q n o z) h = absurd (not_under t p o z 20 refl h)
  only_broken r (outcome.does e q a n o) h = absurd (accepted_not n (answered_accepted o) 20 refl h)

  pub packet_20_broken : (packet_step_of c run p room).answer.answer ≡ 20 → keeps_rules c run ≡ false
  packet_20_broken = only_broken (packet_step_of c run p room) (packet_steps c run p room)

  -- a rejected packet moves only the rejected count
  only_r_lem : (r : Stepped) → PacketSteps c run p room r → is_rejection r.answer.answer ≡ true → r.run ≡ run_counted (rejected_counts run.standing.counts) run
  unfolding rejected_step
  only_r_lem r (outcome.breaks e) h = absurd (false≢true h)
  only_r_lem r (outcome.cramped e q) h = absurd (false≢true h)
  only_r_lem r (outcome.rejects e q n o z) h = refl
  only_r_lem r (outcome.does e q a n o) h = absurd (false≢true (sym (rejected_not n h) ∙ answered_accepted o))

  pub rejected_moves_only_r : is_rejection (packet_step_of c run p room).answer.answer ≡ true
      → (packet_step_of c run p room).run ≡ run_counted (rejected_counts run.standing.counts) run
  rejected_moves_only_r = only_r_lem (packet_step_of c run p room) (packet_steps c run p room)

-- R by one, modulo 65,536, and the six others stay
pub rejected_counts_are : (k : Counts) → rejected_counts k ≡ record { a = k.a; r = (k.r + 1) % 65536; d = k.d; p = k.p; u = k.u; i = k.i; f = k.f }
unfolding rejected_counts
rejected_counts_are k = refl

module _ (c : Config) (run : Run) (f room : ℕ) where
  nothing_f : (r : Stepped) → FaultSteps c run f room r → 20 ≤ r.answer.answer → r.answer.answer ≤ 21 → r ≡ unchanged run r.answer.answer
  nothing_f r (outcome.breaks e) h l = refl
  nothing_f r (outcome.cramped e q) h l = refl
  nothing_f r (outcome.does e q n o) h l = absurd (faulted_range o h l)

  pub fault_refused_unchanged : 20 ≤ (fault_step_of c run f room).answer.answer → (fault_step_of c run f room).answer.answer ≤ 21
      → fault_step_of c run f room ≡ unchanged run (fault_step_of c run f room).answer.answer
  fault_refused_unchanged = nothing_f (fault_step_of c run f room) (fault_steps c run f room)

  pub fault_refused_changes_nothing : 20 ≤ (fault_step_of c run f room).answer.answer → (fault_step_of c run f room).answer.answer ≤ 21 → (fault_step_of c run f room).run ≡ run
  fault_refused_changes_nothing h l = ap (λ (s : Stepped). s.run) (fault_refused_unchanged h l)

  only_broken_f : (r : Stepped) → FaultSteps c run f room r → r.answer.answer ≡ 20 → keeps_rules c run ≡ false
  only_broken_f r (outcome.breaks e) h = e
  only_broken_f r (outcome.cramped e q) h = absurd (omega arith)
  only_broken_f r (outcome.does e q n o) h = absurd (faulted_range o (omega arith) (omega arith))

  pub fault_20_broken : (fault_step_of c run f room).answer.answer ≡ 20 → keeps_rules c run ≡ false
  fault_20_broken = only_broken_f (fault_step_of c run f room) (fault_steps c run f room)

  -- a fault leaves the arm record, whatever its answer
  same_arm : (r : Stepped) → FaultSteps c run f room r → r.run.standing.arm ≡ run.standing.arm
  same_arm r (outcome.breaks e) = refl
  same_arm r (outcome.cramped e q) = refl
  same_arm r (outcome.does e q n o) = refl

  pub fault_leaves_arm : (fault_step_of c run f room).run.standing.arm ≡ run.standing.arm
  fault_leaves_arm = same_arm (fault_step_of c run f room) (fault_steps c run f room)

  -- only a fault that is answered 10 may change a fault state
  same_states : (r : Stepped) → FaultSteps c run f room r → (r.answer.answer ≡ 10 → ⊥) → r.run.states ≡ run.states
  same_states r (outcome.breaks e) h = refl
  same_states r (outcome.cramped e q) h = refl
  same_states r (outcome.does e q n (unlisted m)) h = refl
  same_states r (outcome.does e q n (quiet place m s)) h = refl
  same_states r (outcome.does e q n (responds place m s)) h = absurd (h refl)

  pub undispatched_fault_leaves_states : ((fault_step_of c run f room).answer.answer ≡ 10 → ⊥) → (fault_step_of c run f room).run.states ≡ run.states
  undispatched_fault_leaves_states = same_states (fault_step_of c run f room) (fault_steps c run f room)

  abbrev place : Option ℕ
  place = meant (tables_of c) f

  -- nor does a fault of a row that doesn't latch, whatever its answer
  same_unlatched : (row_for place (tables_of c).rows).latching ≡ 0 → (r : Stepped) → FaultSteps c run f room r → r.run.states ≡ run.states
  same_unlatched z r (outcome.breaks e) = refl
  same_unlatched z r (outcome.cramped e q) = refl
  same_unlatched z r (outcome.does e q n (unlisted m)) = refl
  same_unlatched z r (outcome.does e q n (quiet k m s)) = refl
  same_unlatched z r (outcome.does e q n (responds k m s)) = non_latching_keeps (tables_of c).rows place run.states z

  pub non_latching_leaves_states : (row_for place (tables_of c).rows).latching ≡ 0 → (fault_step_of c run f room).run.states ≡ run.states
  non_latching_leaves_states z = same_unlatched z (fault_step_of c run f room) (fault_steps c run f room)

  -- so a row that doesn't latch stays enabled
  pub non_latching_stays : (row_for place (tables_of c).rows).latching ≡ 0 → state_for place run.states ≡ enabled
      → state_for place (fault_step_of c run f room).run.states ≡ enabled
  non_latching_stays z e = rw (non_latching_leaves_states z) e

module _ (c : Config) (run : Run) where
  only_broken_t : (r : Stepped) → TickSteps c run r → r.answer.answer ≡ 20 → (keeps_rules c run ≡ false) × (r ≡ unchanged run 20)
  unfolding tick_step tick_answer
  only_broken_t r (outcome.breaks e) h = (e, refl)
  only_broken_t r (outcome.does e) h = absurd (go (run.standing.arm.armed && eqb run.standing.arm.ticks 1) h)
    where
      go : (b : Bool) → ◌≡◌ {A = ℕ} (cond b 15 14) 20 → ⊥
      go true h = omega arith
      go false h = omega arith

  pub tick_20_broken : (tick_step_of c run).answer.answer ≡ 20 → keeps_rules c run ≡ false
  tick_20_broken h = (only_broken_t (tick_step_of c run) (tick_steps c run) h).0

  -- a tick that is answered 20 changes nothing at all
  pub tick_refused_unchanged : (tick_step_of c run).answer.answer ≡ 20 → tick_step_of c run ≡ unchanged run 20
  tick_refused_unchanged h = (only_broken_t (tick_step_of c run) (tick_steps c run) h).1

  pub tick_refused_changes_nothing : (tick_step_of c run).answer.answer ≡ 20 → (tick_step_of c run).run ≡ run
  tick_refused_changes_nothing h = ap (λ (s : Stepped). s.run) (tick_refused_unchanged h)

  -- a tick leaves the counters and the fault states, whatever its answer
  keeps_rest : (r : Stepped) → TickSteps c run r → (r.run.standing.counts ≡ run.standing.counts) × (r.run.states ≡ run.states)
  unfolding tick_step
  keeps_rest r (outcome.breaks e) = (refl, refl)
  keeps_rest r (outcome.does e) = (refl, refl)

  pub tick_leaves_rest : ((tick_step_of c run).run.standing.counts ≡ run.standing.counts) × ((tick_step_of c run).run.states ≡ run.states)
  tick_leaves_rest = keeps_rest (tick_step_of c run) (tick_steps c run)

-- ---- any answer but 10 changes no output byte

pub packet_output_stays : (t : Tables) (n : ℕ) (p out : List ℕ) → (n ≡ 10 → ⊥) → packet_output t n p out ≡ out
unfolding packet_output
packet_output_stays t n p out h = sym (sent_not n _ _ _ out h)

pub fault_output_stays : (t : Tables) (n f : ℕ) (out : List ℕ) → (n ≡ 10 → ⊥) → fault_output t n f out ≡ out
unfolding fault_output
fault_output_stays t n f out h = sym (sent_not n _ _ _ out h)
