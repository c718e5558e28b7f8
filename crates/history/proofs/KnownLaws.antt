-- A step of the running path takes the run that a history leaves to the run that the history with one event more leaves, and
-- its reply is the plain reading's.
use Rattle.std.specs.Prelude.{◌≡◌, Bool, ◌&&◌, ◌||◌, List, ◌∷◌, map, ◌⊎◌, length}
use Rattle.std.proofs.Math.Path.{refl, sym, ap}
use Rattle.std.proofs.Common.{◌∙◌, inl, inr, lit<}
use Rattle.std.proofs.Math.Bool.{true, false, cond, not}
use Rattle.std.proofs.Math.Option.{Option, none, some}
use Prim.Native.Nat.{ℕ, zero, suc, ◌+◌, ◌-◌, ◌%◌, ◌<◌}
use Rattle.std.proofs.Math.Nat.{mod-add-mod, sub-zero, zero-sub}
use native.Mathlib.Omega.{arith}
use Rattle.std.proofs.Math.Dec.{eqb, ltb}
use borrow.Author.Tests.{lt-ltb, le-ltb, ne_eqb, eqb-true, eqb-false}
use Rattle.packet_rules.specs.Layout.{command_id}
use Rattle.wire.specs.Check.{check}
use Rattle.packet_rules.specs.Judge.{arguments_of}
use Rattle.packet_rules.specs.Rejection.{is_rejection}
use Rattle.state.specs.declared.types.Arm.{Arm}
use Rattle.state.specs.declared.types.Run.{Run}
use Rattle.state.specs.Tables.{fault_id}
use Rattle.image_rules.specs.Records.{Record}
use Rattle.step_effects.specs.FaultStates.{next_state, row_after, latched_by}
use Rattle.step_arm.specs.Arming.{unarmed, armed_for, arm_set, arm_after, ticked, tick_answer}
use Rattle.step_effects.specs.Counters.{up, packet_counts, rejected_counts, fault_counts}
use Rattle.step_answers.specs.declared.own.Own.{Own}
use Rattle.step_answers.specs.declared.own.Own.TheVariants as own
use Rattle.step_answers.specs.Own.{rule_of, own_command, is_reset}
use Rattle.step_answers.specs.Answers as steps
use Rattle.step_effects.specs.FaultStates as events
use Rattle.step_rules.specs.Step.{states_after, acted, accepted_step, rejected_step, packet_step, tick_step, faulted, fault_step}
use Rattle.step_rules.specs.StateLaws.{done_on}
use Rattle.step_rules.proofs.Packets.{refusal_under_not}
use Rattle.step_rules.proofs.StepLaws.{packet_rejected, packet_accepted}
use Rattle.history.specs.Plain.{Event, packet, tick, fault, refusal, accepted, nearest, ticks_since, this_row, when_enabled, when_cleared, when_faulted, fault_answer, fault_reply, more, tables, rows, row_at, meant_by, row_meant, selects, is_arm, timeout, lasts, armed, packet_answer, done, state_of, fault_named, packet_reply, reply}
use Rattle.history.specs.Path.{step, reply_of}
use Rattle.history.specs.Known.{left, known_counts, known}
use Rattle.history.proofs.RowsLaws.{meant_is, row_is, named_row, states_by_lem, state_here, onward_known, clear_known}
use Rattle.history.specs.RowsLaws.{states_for}
use Rattle.history.specs.AnswersLaws.{number_for}
use Rattle.history.proofs.AnswersLaws.{resets_by_number, selects_is, answer_is, arm_answer}
use Rattle.history.specs.KnownLaws.{Sound}

-- ---- counters

up_more : (b : Bool) (x : ℕ) → up b (x % 65536) ≡ more b x % 65536
up_more true x = mod-add-mod x 65536 1
up_more false x = refl

-- ---- fault states

module _ (n : ℕ) (st : ℕ → ℕ) (place : Option ℕ) (below : (k : ℕ) → place ≡ some k → k < n) where
  -- what own command k, done, makes of the state of the row at place j
  abbrev told_by : ℕ → ℕ → ℕ
  told_by k j =
      cond (eqb k 4 && this_row j place) (when_enabled (st j))
      (cond (eqb k 5 && this_row j place) 0
      (cond (eqb k 6 && this_row j place) (when_cleared (st j))
      (cond (eqb k 7) (when_cleared (st j))
      (st j))))

  done_known : (k : Own) → done_on place k (states_for st n) ≡ states_for (told_by (rule_of k).number) n
  done_known own.Arm = refl
  done_known own.ResetCounters = refl
  done_known own.NoOp = refl
  done_known own.NoOpWithArgument = refl
  done_known own.Enable = onward_known st n (λ s. next_state s events.enable) place below
  done_known own.Disable = onward_known st n (λ s. next_state s events.disable) place below
  done_known own.Clear = onward_known st n (λ s. next_state s events.clear) place below
  done_known own.ClearAll = clear_known st n

-- ---- the arm record

-- from the moment of arming on it lasts
armed_now : (n : ℕ) → (eqb n 0 || ltb 0 n) ≡ true
armed_now zero = refl
armed_now (suc n) = simp (ne_eqb (suc n) 0 (λ q. omega arith), lt-ltb 0 (suc n) (omega arith))

and_true : (b : Bool) → (b && true) ≡ b
and_true true = refl
and_true false = refl

module _ (image : List Record) where
  arm_packet : (p : List ℕ) (n : ℕ) → eqb n 11 ≡ is_arm image p
      → arm_after n (arguments_of p) ≡ record { armed = lasts image (some p) 0; ticks = left image (some p) 0 }
  unfolding arm_after arm_set
  arm_packet p n e = rw (e, armed_now (timeout image p), and_true (is_arm image p), sub-zero (timeout image p)) (go (is_arm image p))
    where
      go : (b : Bool) → cond {A = Arm} b (armed_for (timeout image p)) unarmed ≡ record { armed = b; ticks = cond b (timeout image p) 0 }
      go true = refl
      go false = refl

  -- a tick, by what remains of the timeout n after k ticks: nothing, one, more
  ticks_on : (n k m : ℕ) → n - k ≡ m → ticked (eqb n 0 || ltb k n) (n - k) ≡ record { armed = eqb n 0 || ltb (k + 1) n; ticks = n - (k + 1) }
  unfolding ticked
  ticks_on zero k m e = simp zero-sub
  ticks_on (suc n) k zero e =
      let q : suc n - (k + 1) ≡ 0 = omega arith in
      simp (e, q, ne_eqb (suc n) 0 (λ z. omega arith), le-ltb k (suc n) (omega arith), le-ltb (k + 1) (suc n) (omega arith))
  ticks_on (suc n) k (suc zero) e =
      let q : suc n - (k + 1) ≡ 0 = omega arith in
      simp (e, q, ne_eqb (suc n) 0 (λ z. omega arith), lt-ltb k (suc n) (omega arith), le-ltb (k + 1) (suc n) (omega arith))
  ticks_on (suc n) k (suc (suc m)) e =
      let q : suc n - (k + 1) ≡ suc m = omega arith in
      let r : suc (suc m) - 1 ≡ suc m = omega arith in
      simp (e, q, ne_eqb (suc (suc m)) 0 (λ z. omega arith), ne_eqb (suc (suc m)) 1 (λ z. omega arith), r, ne_eqb (suc n) 0 (λ z. omega arith), lt-ltb k (suc n) (omega arith), lt-ltb (k + 1) (suc n) (omega arith))

  answer_on : (n k m : ℕ) → n - k ≡ m → tick_answer (eqb n 0 || ltb k n) (n - k) ≡ cond ((eqb n 0 || ltb k n) && not (eqb n 0 || ltb (k + 1) n)) 15 14
  unfolding tick_answer
  answer_on zero k m e = simp zero-sub
  answer_on (suc n) k zero e =
      simp (e, ne_eqb (suc n) 0 (λ z. omega arith), le-ltb k (suc n) (omega arith))
  answer_on (suc n) k (suc zero) e =
      simp (e, ne_eqb (suc n) 0 (λ z. omega arith), lt-ltb k (suc n) (omega arith), le-ltb (k + 1) (suc n) (omega arith))
  answer_on (suc n) k (suc (suc m)) e =
      simp (e, ne_eqb (suc (suc m)) 1 (λ z. omega arith), ne_eqb (suc n) 0 (λ z. omega arith), lt-ltb k (suc n) (omega arith), lt-ltb (k + 1) (suc n) (omega arith))

  arm_tick : (o : Option (List ℕ)) (k : ℕ) → ticked (lasts image o k) (left image o k) ≡ record { armed = lasts image o (k + 1); ticks = left image o (k + 1) }
  unfolding ticked
  arm_tick none k = refl
  arm_tick (some p) k = go (is_arm image p)
    where
      go : (b : Bool) → ticked (b && (eqb (timeout image p) 0 || ltb k (timeout image p))) (cond b (timeout image p - k) 0) ≡ record { armed = b && (eqb (timeout image p) 0 || ltb (k + 1) (timeout image p)); ticks = cond b (timeout image p - (k + 1)) 0 }
      go true = ticks_on (timeout image p) k (timeout image p - k) refl
      go false = refl

  answer_tick : (o : Option (List ℕ)) (k : ℕ) → tick_answer (lasts image o k) (left image o k) ≡ cond (lasts image o k && not (lasts image o (k + 1))) 15 14
  unfolding tick_answer
  answer_tick none k = refl
  answer_tick (some p) k = go (is_arm image p)
    where
      go : (b : Bool) → tick_answer (b && (eqb (timeout image p) 0 || ltb k (timeout image p))) (cond b (timeout image p - k) 0) ≡ cond ((b && (eqb (timeout image p) 0 || ltb k (timeout image p))) && not (b && (eqb (timeout image p) 0 || ltb (k + 1) (timeout image p)))) 15 14
      go true = answer_on (timeout image p) k (timeout image p - k) refl
      go false = refl

module _ (image : List Record) where
  abbrev count : ℕ
  count = length (rows image)

  below : (f k : ℕ) → meant_by image f ≡ some k → k < count
  below f k e = (named_row image f k e).0

  module _ (s : Sound image) (h : List Event) where
    abbrev st : ℕ → ℕ
    st = state_of image h

    -- ---- an accepted packet

    module _ (p : List ℕ) (a : accepted image p ≡ true) where
      abbrev n : ℕ
      n = packet_answer image h p

      abbrev o : Option Own
      o = own_command (tables image).settings.base (command_id p)

      done_is : (j : ℕ) → eqb n 12 ≡ true → done image j h p ≡ eqb (selects image p) j
      done_is j e = rw (a, e, and_true (eqb (selects image p) j))

      done_not : (j : ℕ) → eqb n 12 ≡ false → done image j h p ≡ false
      done_not j e = rw (a, e) (go (eqb (selects image p) j))
        where
          go : (b : Bool) → (b && false) ≡ false
          go true = refl
          go false = refl

      done_none : (j : ℕ) → selects image p ≡ 8 → eqb 8 j ≡ false → done image j h p ≡ false
      done_none j q e = rw (a, q, e)

      states_known : states_after (map fault_id (tables image).rows) n o (arguments_of p) (states_for st count) ≡ states_for (state_of image (packet p ∷ h)) count
      unfolding states_after
      states_known = go o (selects_is image p) (eqb n 12) refl
        where
          f : ℕ
          f = fault_named (arguments_of p)

          go : (c : Option Own) → selects image p ≡ number_for c → (b : Bool) → eqb n 12 ≡ b
              → states_after (map fault_id (tables image).rows) n c (arguments_of p) (states_for st count) ≡ states_for (state_of image (packet p ∷ h)) count
          go none q b e = states_by_lem count (λ k. sym (simp (done_none 4 q refl, done_none 5 q refl, done_none 6 q refl, done_none 7 q refl)))
          go (some c) q true e =
              let by : (j : ℕ) → done image j h p ≡ eqb (rule_of c).number j = λ j. done_is j e ∙ ap (λ m. eqb m j) q in
              rw (e, meant_is image f)
              (done_known count st (meant_by image f) (below f) c ∙ states_by_lem count (λ k. sym (simp (by 4, by 5, by 6, by 7))))
          go (some c) q false e = simp e (states_by_lem count (λ k. sym (simp (done_not 4 e, done_not 5 e, done_not 6 e, done_not 7 e))))

      reply_answer : (reply image h (packet p)).answer ≡ n
      reply_answer = rw a (go (eqb n 10) refl)
        where
          go : (b : Bool) → eqb n 10 ≡ b → (packet_reply image p n).answer ≡ n
          go true e = simp e (sym (eqb-true n 10 e))
          go false e = simp e

      is_reset_lem : is_reset o ≡ eqb (selects image p) 1
      is_reset_lem = resets_by_number o ∙ ap (λ k. eqb k 1) (sym (selects_is image p))

      counts_known : packet_counts n (eqb (selects image p) 1) (known_counts image h) ≡ known_counts image (packet p ∷ h)
      unfolding packet_counts
      counts_known = go (eqb n 12) refl (eqb (selects image p) 1) refl
        where
          plain : done image 1 h p ≡ false → (eqb n 12 && eqb (selects image p) 1) ≡ false → packet_counts n (eqb (selects image p) 1) (known_counts image h) ≡ known_counts image (packet p ∷ h)
          plain d e =
              rw (d, e, reply_answer)
              (simp (a, up_more true, up_more (eqb n 10), up_more (eqb n 30), up_more (eqb n 33), up_more (eqb n 31 || eqb n 32)))

          go : (b : Bool) → eqb n 12 ≡ b → (c : Bool) → eqb (selects image p) 1 ≡ c → packet_counts n (eqb (selects image p) 1) (known_counts image h) ≡ known_counts image (packet p ∷ h)
          go true e true f = let d : done image 1 h p ≡ true = done_is 1 e ∙ f in rw (d, e, f)
          go true e false f = plain (done_is 1 e ∙ f) (simp (e, f))
          go false e c f = plain (done_not 1 e) (simp e)

      reply_known : (run : Run) → reply_of (tables image) (packet p) (acted (tables image) run (command_id p) (arguments_of p) n) ≡ packet_reply image p n
      reply_known run = go (eqb n 10) refl
        where
          go : (b : Bool) → eqb n 10 ≡ b → reply_of (tables image) (packet p) (acted (tables image) run (command_id p) (arguments_of p) n) ≡ packet_reply image p n
          go true e = rw (eqb-true n 10 e)
          go false e = simp e

      accepted_step_lem : packet_step (tables image) (known image h) p ≡ acted (tables image) (known image h) (command_id p) (arguments_of p) n
      unfolding accepted_step
      accepted_step_lem =
          sym (packet_accepted (tables image) (known image h) p (command_id p) (arguments_of p) (eqb-true _ _ a) refl refl)
          ∙ ap (acted (tables image) (known image h) (command_id p) (arguments_of p)) (sym (answer_is image h p))

      accepted_run : (acted (tables image) (known image h) (command_id p) (arguments_of p) n).run ≡ known image (packet p ∷ h)
      accepted_run =
          rw (arm_packet image p n (arm_answer image s.free h p), is_reset_lem, counts_known, states_known) (simp a)

    -- ---- a rejected packet

    module _ (p : List ℕ) (a : accepted image p ≡ false) where
      rejected_step_lem : packet_step (tables image) (known image h) p ≡ rejected_step (known image h) (refusal image p)
      rejected_step_lem = sym (packet_rejected (tables image) (known image h) p (refusal image p) (refl, eqb-false _ _ a))

      never : (m : ℕ) → is_rejection m ≡ false → eqb (refusal image p) m ≡ false
      never = refusal_under_not (tables image) p (eqb-false _ _ a)

      rejected_reply : reply_of (tables image) (packet p) (rejected_step (known image h) (refusal image p)) ≡ reply image h (packet p)
      unfolding rejected_step
      rejected_reply = simp (a, never 10 refl)

      same_states : states_for (state_of image (packet p ∷ h)) count ≡ states_for st count
      same_states = states_by_lem count (λ k. simp a)

      rejected_run : (rejected_step (known image h) (refusal image p)).run ≡ known image (packet p ∷ h)
      unfolding rejected_step rejected_counts
      rejected_run =
          rw same_states
          (simp (a, up_more true, never 10 refl, never 30 refl, never 33 refl, never 31 refl, never 32 refl))

    -- ---- a tick

    tick_not : (m : ℕ) → (m < 14) ⊎ (15 < m) → (b : Bool) → eqb (cond b 15 14) m ≡ false
    tick_not m (inl l) true = ne_eqb 15 m (λ e. omega arith)
    tick_not m (inl l) false = ne_eqb 14 m (λ e. omega arith)
    tick_not m (inr l) true = ne_eqb 15 m (λ e. omega arith)
    tick_not m (inr l) false = ne_eqb 14 m (λ e. omega arith)

    tick_run : (tick_step (known image h)).run ≡ known image (tick ∷ h)
    unfolding tick_step
    tick_run =
        let b = armed image h && not (armed image (tick ∷ h)) in
        rw (arm_tick image (nearest image h) (ticks_since image h))
        (simp (tick_not 10 (inl (lit< tt)) b, tick_not 30 (inr (lit< tt)) b, tick_not 33 (inr (lit< tt)) b, tick_not 31 (inr (lit< tt)) b, tick_not 32 (inr (lit< tt)) b))

    tick_reply : reply_of (tables image) tick (tick_step (known image h)) ≡ reply image h tick
    unfolding tick_step
    tick_reply = rw (answer_tick image (nearest image h) (ticks_since image h))

    -- ---- a fault

    module _ (f : ℕ) where
      abbrev place : Option ℕ
      place = meant_by image f

      abbrev fn : ℕ
      fn = fault_answer st place

      fault_is : fn ≡ steps.fault_answer (states_for st count) place
      unfolding steps.fault_answer
      fault_is = go place (below f)
        where
          checks : (e : Bool) → cond e 10 13 ≡ check e 13 10
          checks true = refl
          checks false = refl

          go : (o : Option ℕ) → ((k : ℕ) → o ≡ some k → k < count) → fault_answer st o ≡ steps.fault_answer (states_for st count) o
          go none b = refl
          go (some k) b = rw (state_here st count k (b k refl)) (checks (eqb (st k) 1))

      fault_step_lem : fault_step (tables image) (known image h) f ≡ faulted (tables image) (known image h) place fn
      unfolding fault_step
      fault_step_lem = rw (meant_is image f) (ap (faulted (tables image) (known image h) place) (sym fault_is))

      fault_not : (m : ℕ) → eqb 10 m ≡ false → eqb 13 m ≡ false → eqb 34 m ≡ false → eqb fn m ≡ false
      fault_not m a b c = go place
        where
          by : (e : Bool) → eqb (cond e 10 13) m ≡ false
          by true = a
          by false = b

          go : (o : Option ℕ) → eqb (fault_answer st o) m ≡ false
          go none = c
          go (some k) = by (eqb (st k) 1)

      fault_reply_answer : (reply image h (fault f)).answer ≡ fn
      fault_reply_answer = go (eqb fn 10) refl
        where
          go : (b : Bool) → eqb fn 10 ≡ b → (fault_reply image place fn).answer ≡ fn
          go true e = simp e (sym (eqb-true fn 10 e))
          go false e = simp e

      -- a fault answered 10 found its row enabled, so the table of events gives what the plain reading says
      enabled_faults : (latching s : ℕ) → s ≡ 1 → row_after latching s events.fault ≡ cond (eqb latching 0) 1 2
      unfolding row_after
      enabled_faults latching s e = rw e

      faulted_known : fn ≡ 10 → (k : ℕ) → cond (this_row k place) (row_after (row_meant image place).latching (st k) events.fault) (st k) ≡ cond (this_row k place) (when_faulted (row_at image k).row) (st k)
      faulted_known e k = go place e
        where
          this : (j : ℕ) → fault_answer st (some j) ≡ 10 → (b : Bool) → eqb j k ≡ b
              → cond b (row_after (row_at image j).row.latching (st k) events.fault) (st k) ≡ cond b (when_faulted (row_at image k).row) (st k)
          this j e false q = refl
          this j e true q = rw (eqb-true j k q) (enabled_faults (row_at image k).row.latching (st k) (on (eqb (st k) 1) refl (rw (eqb-true j k q) at e)))
            where
              on : (b : Bool) → eqb (st k) 1 ≡ b → fault_answer st (some k) ≡ 10 → st k ≡ 1
              on true w z = eqb-true _ _ w
              on false w z = absurd (omega (arith, rw w at z))

          go : (o : Option ℕ) → fault_answer st o ≡ 10
              → cond (this_row k o) (row_after (row_meant image o).latching (st k) events.fault) (st k) ≡ cond (this_row k o) (when_faulted (row_at image k).row) (st k)
          go none z = refl
          go (some j) z = this j z (eqb j k) refl

      fault_states : cond (eqb fn 10) (latched_by (tables image).rows place (states_for st count)) (states_for st count) ≡ states_for (state_of image (fault f ∷ h)) count
      fault_states = go (eqb fn 10) refl
        where
          neither : (b : Bool) (k : ℕ) → cond (b && false) (when_faulted (row_at image k).row) (st k) ≡ st k
          neither true k = refl
          neither false k = refl

          go : (b : Bool) → eqb fn 10 ≡ b → cond (eqb fn 10) (latched_by (tables image).rows place (states_for st count)) (states_for st count) ≡ states_for (state_of image (fault f ∷ h)) count
          go true e =
              rw (e, row_is image place)
              (onward_known st count (λ s. row_after (row_meant image place).latching s events.fault) place (below f)
              ∙ states_by_lem count (λ k. faulted_known (eqb-true fn 10 e) k ∙ sym (rw (e, and_true (this_row k place)))))
          go false e = rw e (states_by_lem count (λ k. sym (rw e (neither (this_row k place) k))))

      fault_run : (faulted (tables image) (known image h) place fn).run ≡ known image (fault f ∷ h)
      unfolding fault_counts
      fault_run =
          rw (fault_states, fault_reply_answer, fault_not 30 refl refl refl, fault_not 33 refl refl refl, fault_not 31 refl refl refl, fault_not 32 refl refl refl)
          (simp (up_more true, up_more (eqb fn 10)))

      fault_replies : reply_of (tables image) (fault f) (faulted (tables image) (known image h) place fn) ≡ reply image h (fault f)
      fault_replies = go (eqb fn 10) refl
        where
          go : (b : Bool) → eqb fn 10 ≡ b → reply_of (tables image) (fault f) (faulted (tables image) (known image h) place fn) ≡ fault_reply image place fn
          go true e = rw (eqb-true fn 10 e, meant_is image f, row_is image place)
          go false e = simp e

    -- ---- any event

    pub step_known : (e : Event) → (reply_of (tables image) e (step (tables image) (known image h) e) ≡ reply image h e) × ((step (tables image) (known image h) e).run ≡ known image (e ∷ h))
    step_known (packet p) = go (accepted image p) refl
      where
        go : (b : Bool) → accepted image p ≡ b → (reply_of (tables image) (packet p) (packet_step (tables image) (known image h) p) ≡ reply image h (packet p)) × ((packet_step (tables image) (known image h) p).run ≡ known image (packet p ∷ h))
        go true a = rw (accepted_step_lem p a) (reply_known p a (known image h) ∙ rw a, accepted_run p a)
        go false a = rw (rejected_step_lem p a) (rejected_reply p a, rejected_run p a)
    step_known tick = (tick_reply, tick_run)
    step_known (fault f) = rw (fault_step_lem f) (fault_replies f, fault_run f)
