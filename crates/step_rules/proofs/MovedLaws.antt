-- Laws of what a packet step hands back: each way of an own command, and each way of a packet.
use Rattle.std.specs.Prelude.{◌≡◌, refl, Bool, false, cond, not, ◌&&◌, ◌||◌, ◌⊎◌, List, map, ℕ, ◌+◌, ◌<◌, ◌≤◌, eqb, length, get_or, set, take}
use Rattle.std.proofs.Math.Path.{sym}
use Rattle.std.proofs.Common.{ap, ◌∙◌, inl, inr, arith, eq-eqb, ne_eqb, eqb-true}
use Rattle.std.proofs.Math.Bool.{true}
use Rattle.std.proofs.lemmas.Bool.{false≢true}
use Rattle.std.proofs.Math.Option.{Option, none, some}
use Rattle.wire.specs.Check.{check}
use Rattle.packet_rules.specs.Layout.{command_id}
use Rattle.packet_rules.specs.Judge.{arguments_of}
use Rattle.packet_rules.specs.Rejection.{is_rejection}
use Rattle.packet_rules.proofs.RejectionLaws.{rejection_not}
use Rattle.state.specs.declared.types.Config.{Config}
use Rattle.state.specs.declared.types.Run.{Run}
use Rattle.state.specs.declared.types.Arm.{Arm}
use Rattle.state.specs.declared.types.Counts.{Counts}
use Rattle.state.specs.declared.types.Standing.{Standing}
use Rattle.state.specs.Tables.{fault_id, routed, tables_of, with_arm, run_from}
use Rattle.state.specs.Rules.{member}
use Rattle.state.specs.Lookup.{place_in}
use Rattle.state.proofs.ArrayLaws.{routed_is}
use Rattle.step_rules.specs.declared.types.Moved.{Moved}
use Rattle.step_rules.specs.declared.types.Decision.{Decision}
use Rattle.step_arm.specs.Arming.{arm_after}
use Rattle.step_effects.specs.Counters.{no_counts, accepted_counts, packet_counts, rejected_counts, moved_counts}
use Rattle.step_effects.specs.Dispatch.{Wrote, dest_of}
use Rattle.step_effects.proofs.DispatchLaws.{sent_10}
use Rattle.step_effects.specs.FaultStates.{next_state, place_of, is_place, commanded}
use Rattle.step_answers.specs.declared.own.Own.{Own}
use Rattle.step_answers.specs.Own.{rule_of, own_command, is_reset, fault_arg}
use Rattle.step_answers.specs.Answers.{blocked, own_answer, route_answer, answer_for}
use Rattle.step_answers.proofs.OwnLaws.{done_is, resets_12, own_31, own_32, own_row, own_taken, own_not_10}
use Rattle.step_answers.proofs.AnswerLaws.{answer_30, answer_own, answer_route, route_none, route_found, route_dest}
use Rattle.step_answers.specs.AnswerLaws.{Lent}
use Rattle.step_rules.specs.Step.{states_after, rejected_step, packet_output}
use Rattle.step_rules.specs.StateLaws.{done_on}
use Rattle.step_rules.proofs.StateLaws.{states_long, states_same, states_12, states_done}
use Rattle.step_rules.proofs.StepLaws.{accepted_is, packet_rejected, packet_accepted, packet_unsent}
use Rattle.step_rules.specs.Packets.{refusal_under}
use Rattle.step_rules.proofs.Packets.{outcome_under, rejects_under}
use Rattle.step_rules.specs.Makers.{dispatched_answer, moved_from, decision_from}
use Rattle.step_rules.proofs.Found.{ids_are}
use Rattle.step_rules.specs.Moved.{moved_by, quietly, rejected_by, OwnMoves, RowMoves, PacketDecided, PacketMoves}

-- ---- an answer that sends nothing on

quiet_is : (n : ℕ) (k : Option Own) (id : ℕ) (args : List ℕ) (dest : ℕ) (reset : Bool) → (n ≡ 10 → ⊥) → reset ≡ (eqb n 12 && is_reset k) → quietly n id args reset ≡ moved_by n k id args dest
quiet_is n k id args dest reset a e = simp (ne_eqb n 10 a, e)

-- ---- an own command

module _ (ids : List ℕ) (id : ℕ) (args ss : List ℕ) where
  abbrev place : Option ℕ
  place = place_of (fault_arg args) ids

  module _ (k : Own) where
    not_sent_on : own_answer ids k args ≡ 10 → ⊥
    not_sent_on z = false≢true (sym (own_not_10 ids k args) ∙ eq-eqb _ 10 z)

    -- an answer that changes no state
    still : (n : ℕ) → n ≡ own_answer ids k args → (n ≡ 12 → ⊥) → OwnMoves ids k id args ss (quietly n id args false) ss
    still n e h =
        record {
          moved = rw e (quiet_is (own_answer ids k args) (some k) id args 0 false not_sent_on (rw (ne_eqb (own_answer ids k args) 12 (λ z. h (e ∙ z)))));
          states = states_same ids args ss (own_answer ids k args) (some k) (λ z. h (e ∙ z));
        }

    pub own_moves_31 : (length args ≡ (rule_of k).wanted → ⊥) → OwnMoves ids k id args ss (quietly 31 id args false) ss
    own_moves_31 h = still 31 (own_31 ids k args h) (λ e. omega arith)

  -- a command that is known, with as many arguments as it takes
  module _ {command : Own} (e : length args ≡ (rule_of command).wanted) (k : Own) (known : command ≡ k) where
    counted : length args ≡ (rule_of k).wanted
    counted = e ∙ ap (λ (c : Own). (rule_of c).wanted) known

    -- one that acts on no row is done
    pub own_moves_off : (rule_of k).is_on_row ≡ false → OwnMoves ids command id args ss (quietly (rule_of k).done id args (rule_of k).resets) (done_on place k ss)
    own_moves_off r =
        let n = own_taken ids k args counted r in
        rw known
        (record {
          moved = rw (← n) (quiet_is (rule_of k).done (some k) id args 0 (rule_of k).resets (λ z. not_sent_on k (sym n ∙ z)) (resets_12 k));
          states = rw (← n) (states_done ids args ss k);
        })

    -- one that acts on a row does so by its event
    pub own_moves_on : (event : ℕ) → (rule_of k).is_on_row ≡ true → (rule_of k).resets ≡ false → done_on place k ss ≡ commanded event place ss
        → {r : Moved} {after : List ℕ} → RowMoves ids event id args ss r after → OwnMoves ids command id args ss r after
    own_moves_on event o q b {r} {after} m = rw known (go place refl)
      where
        go : (f : Option ℕ) → place ≡ f → OwnMoves ids k id args ss r after
        go none f =
            let s = still k 32 (own_32 ids k args counted o f) (λ e. omega arith) in
            record { moved = m.moved ∙ rw f s.moved; states = m.states ∙ rw f s.states }
        go (some at) f =
            let n = own_row ids k args counted o at f in
            record {
              moved = m.moved ∙ rw f (rw (← n) (quiet_is 12 (some k) id args 0 false (λ z. omega arith) (sym q)));
              states = m.states ∙ rw (← n) (sym b ∙ states_12 ids args ss k);
            }

  -- an event on the row at the place found, and on none where none is found
  module _ (event : ℕ) where
    pub row_moves_32 : place ≡ none → RowMoves ids event id args ss (quietly 32 id args false) ss
    row_moves_32 e = record { moved = rw e; states = rw e }

    pub row_moves_12 : (at v : ℕ) → place ≡ some at → v ≡ next_state (get_or ss at 0) event → RowMoves ids event id args ss (quietly 12 id args false) (set ss at v)
    row_moves_12 at v e w = record { moved = rw e; states = rw (e, w) }

-- ---- the counters

counts_accepted : (n : ℕ) (k : Option Own) (c : Counts) → is_rejection n ≡ false → moved_counts n (eqb n 12 && is_reset k) c ≡ packet_counts n (is_reset k) c
unfolding moved_counts packet_counts
counts_accepted n k c h = go (eqb n 12) refl
  where
    go : (b : Bool) → eqb n 12 ≡ b → cond (is_rejection n) (rejected_counts c) (cond (eqb n 12 && (eqb n 12 && is_reset k)) no_counts (accepted_counts n c)) ≡ cond (eqb n 12 && is_reset k) no_counts (accepted_counts n c)
    go true e = rw (h, e) refl
    go false e = rw (h, e) refl

counts_rejected : (n : ℕ) (c : Counts) → is_rejection n ≡ true → moved_counts n false c ≡ rejected_counts c
unfolding moved_counts
counts_rejected n c h = rw h

no_rejection : (routed protected ids : List ℕ) (armed : Bool) (id : ℕ) (k : Option Own) (args : List ℕ) → is_rejection (answer_for routed protected ids armed id k args) ≡ false
unfolding answer_for own_answer route_answer
no_rejection routed protected ids armed id none args = go (blocked protected armed id) (member id routed)
  where
    go : (a m : Bool) → is_rejection (check (not a) 30 (check m 33 10)) ≡ false
    go true m = refl
    go false true = refl
    go false false = refl
no_rejection routed protected ids armed id (some k) args =
    go (blocked protected armed id) (eqb (length args) (rule_of k).wanted) (not (rule_of k).is_on_row || is_place (place_of (fault_arg args) ids)) (done_is k)
  where
    go : (a b d : Bool) → ((rule_of k).done ≡ 11) ⊎ ((rule_of k).done ≡ 12) → is_rejection (check (not a) 30 (check b 31 (check d 32 (rule_of k).done))) ≡ false
    go true b d e = refl
    go false false d e = refl
    go false true false e = refl
    go false true true (inl e) = rw e
    go false true true (inr e) = rw e

-- ---- a packet, with the columns lent

module _ (c : Config) (l : Lent c.numbers c.routeids c.dests c.protected c.faultids) (arm : Arm) (before p : List ℕ) where
  abbrev routed_ids : List ℕ
  routed_ids = take c.numbers.nroutes c.routeids

  abbrev protected_ids : List ℕ
  protected_ids = take c.numbers.nprotected c.protected

  abbrev fault_ids : List ℕ
  fault_ids = take c.numbers.nrows c.faultids

  abbrev run : Standing → Run
  run s = run_from (with_arm arm s) before

  routed_are : routed (tables_of c) ≡ routed_ids
  routed_are = let t = l.route_ids.slots in routed_is c (omega (arith, t.long, t.within))

  fault_ids_are : map fault_id (tables_of c).rows ≡ fault_ids
  fault_ids_are = ids_are c l.fault_ids.slots

  pub decided_rejected : (n : ℕ) → (n ≡ refusal_under (tables_of c) p) × (n ≡ 0 → ⊥) → PacketDecided c arm before p (decision_from (rejected_by arm n) false) before
  unfolding rejected_step
  decided_rejected n (e, h) =
      let y : is_rejection n ≡ true = rejects_under (tables_of c) p (rw (← e) at (outcome_under (tables_of c) p)) h in
      record {
        step = λ s. rw (counts_rejected n s.counts y) (packet_rejected (tables_of c) (run s) p n (e, h));
        for_10 = sym (ne_eqb n 10 (rejection_not y 10 refl));
        sends = λ s. absurd (false≢true s);
        long = refl;
      }

  module _ {id : ℕ} {k : Option Own} {args : List ℕ} (z : refusal_under (tables_of c) p ≡ 0) (ei : id ≡ command_id p) (ea : args ≡ arguments_of p) (ek : k ≡ own_command c.numbers.settings.base id) where
    decided_accepted : {n : ℕ} {r : Moved} {after : List ℕ}
        → n ≡ answer_for routed_ids protected_ids fault_ids arm.armed id k args
        → r ≡ moved_by n k id args (dest_of id (tables_of c).routes)
        → after ≡ states_after fault_ids n k args before
        → (sends : Bool) → sends ≡ eqb n 10
        → PacketDecided c arm before p (decision_from r sends) after
    decided_accepted {n} {r} {after} en er es sends on =
        let y : is_rejection n ≡ false = rw en (no_rejection routed_ids protected_ids fault_ids arm.armed id k args) in
        record {
          step = λ s.
              rw er
              (accepted_is (tables_of c) (run s) id args routed_are fault_ids_are ek en refl (counts_accepted n k s.counts y) es refl refl
              ∙ packet_accepted (tables_of c) (run s) p id args z ei ea);
          for_10 = on ∙ rw er;
          sends = λ s.
              let m : n ≡ 10 = eqb-true n 10 (sym on ∙ s) in
              record {
                accepted = z;
                answered = rw (← ei, ← ea, routed_are, fault_ids_are, ← ek) (sym m ∙ en);
                moved = er ∙ rw (m, ei, ea);
                states = es ∙ sym (states_same fault_ids args before n k (λ d. omega (arith, m, d)));
              };
          long = rw es (states_long fault_ids n k args before);
        }

    -- an answer that sends nothing on, and changes no state
    decided_quiet : (n : ℕ) → (n ≡ 10 → ⊥) × (n ≡ 12 → ⊥)
        → n ≡ answer_for routed_ids protected_ids fault_ids arm.armed id k args
        → PacketDecided c arm before p (decision_from (quietly n id args false) false) before
    decided_quiet n (a, b) en =
        decided_accepted en (quiet_is n k id args (dest_of id (tables_of c).routes) false a (rw (ne_eqb n 12 b))) (states_same fault_ids args before n k b)
        false (sym (ne_eqb n 10 a))

    pub decided_30 : blocked protected_ids arm.armed id ≡ true → PacketDecided c arm before p (decision_from (quietly 30 id args false) false) before
    decided_30 b = decided_quiet 30 (λ e. omega arith, λ e. omega arith) (answer_30 _ _ _ _ _ _ _ b)

    module _ (b : blocked protected_ids arm.armed id ≡ false) where
      pub decided_own : {r : Moved} {after : List ℕ} (o : Own) → k ≡ some o → OwnMoves fault_ids o id args before r after → PacketDecided c arm before p (decision_from r false) after
      decided_own o q m =
          let t : eqb (own_answer fault_ids o args) 10 ≡ false = own_not_10 fault_ids o args in
          decided_accepted (answer_own _ _ _ _ _ _ o q b) (m.moved ∙ rw (t, q)) (m.states ∙ rw (← q)) false (sym t)

      module _ (h : k ≡ none) {at : ℕ} (f : at ≡ place_in id routed_ids) where
        pub decided_33 : c.numbers.nroutes ≤ at → PacketDecided c arm before p (decision_from (quietly 33 id args false) false) before
        decided_33 g =
            decided_quiet 33 (λ e. omega arith, λ e. omega arith) (route_none l.route_ids id at f g ∙ answer_route _ _ _ _ _ _ h b)

        pub decided_10 : at < c.numbers.nroutes
            → PacketDecided c arm before p (decision_from (moved_from (arm_after 10 args) false (dispatched_answer id (get_or c.dests at 0) (5 + length args))) true) before
        decided_10 g =
            decided_accepted {n = 10} (route_found l.route_ids id at f g ∙ answer_route _ _ _ _ _ _ h b)
            (rw (route_dest l.route_ids id at f c.dests g))
            (states_same fault_ids args before 10 k (λ e. omega arith))
            true refl

-- ---- the output: what was decided is the step, and a command that is sent on is written

module _ {c : Config} {arm : Arm} {before p : List ℕ} {r : Decision} {after : List ℕ} (d : PacketDecided c arm before p r after) (out : List ℕ) where
  pub moves_unsent : r.sends ≡ false → PacketMoves c arm before p out r.moved after out
  moves_unsent h =
      record { step = d.step; output = packet_unsent (tables_of c) p out r.moved.answer.answer _ refl (sym d.for_10 ∙ h); long = d.long }

  pub moves_sent : r.sends ≡ true → {id : ℕ} {args : List ℕ} → id ≡ command_id p → args ≡ arguments_of p → (written : ℕ) (left : List ℕ)
      → Wrote c.numbers.settings.ground_source id args out written left → PacketMoves c arm before p out r.moved after left
  unfolding packet_output
  moves_sent h {id} {args} ei ea written left (w, o) =
      record {
        step = d.step;
        output = o ∙ sent_10 r.moved.answer.answer c.numbers.settings.ground_source id args out (ap (λ (x : Moved). x.answer.answer) (d.sends h).moved) ∙ rw (ei, ea);
        long = d.long;
      }
