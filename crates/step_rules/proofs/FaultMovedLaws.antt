-- Each way of a fault with lent columns: what it comes to before anything is sent on, and the step that it is then.
use Rattle.std.specs.Prelude.{◌≡◌, refl, false, List, ℕ, ◌+◌, ◌*◌, ◌<◌, ◌≤◌, eqb, length, get_or, set, take, drop, is_some, None, Some}
use Rattle.std.proofs.Common.{sym, ap, ◌∙◌, arith, length-set, length-take, length-drop, eqb-true, eq-eqb, ne_eqb}
use Rattle.std.proofs.lemmas.Bool.{false≢true}
use Rattle.std.proofs.Math.Option.{some}
use Rattle.state.specs.declared.types.Config.{Config}
use Rattle.state.specs.declared.lent.LentConfig.{LentConfig}
use Rattle.state.specs.Tables.{FaultRow, Tables, tables_of, config_of_lent, run_from}
use Rattle.state.specs.Lookup.{place_in}
use Rattle.step_effects.specs.FaultStates.{fault, enabled, meant, row_after}
use Rattle.step_effects.specs.Dispatch.{Wrote}
use Rattle.step_answers.specs.Answers.{fault_answer}
use Rattle.step_answers.proofs.AnswerLaws.{route_dest, fault_34, fault_13, fault_10}
use Rattle.step_rules.specs.declared.types.Answer.{Answer}
use Rattle.step_rules.specs.declared.types.Responding.{Responding}
use Rattle.step_rules.specs.Makers.{bare_answer, dispatched_answer, responding_from}
use Rattle.step_rules.proofs.FaultStepLaws.{fault_unsent, fault_is, fault_output_lem}
use Rattle.step_rules.proofs.Found.{row_here, unknown, known}
use Rattle.step_rules.specs.Moved.{ResponsesLent, FaultsLent, seen_by_responses, FaultResponds, FaultMoves}

-- the fault id was looked up, and is at place k or nowhere
module _ (c : Config) (l : ResponsesLent c.numbers c.routeids c.dests c.faultids c.responses c.argcounts)
    (states : List ℕ) (f k : ℕ) (e : k ≡ place_in f (take c.numbers.nrows c.faultids)) where
  pub responds_34 : c.numbers.nrows ≤ k → FaultResponds c states f (responding_from (bare_answer 34) None)
  responds_34 h =
      record { answered = rw (← fault_34 states (unknown c l.fault_ids.slots f k e h)); for_10 = refl; sends = tt }

  module _ (h : k < c.numbers.nrows) where
    here : meant (tables_of c) f ≡ some k
    here = known c l.fault_ids.slots f k e h

    pub responds_13 : (get_or states k 0 ≡ enabled → ⊥) → FaultResponds c states f (responding_from (bare_answer 13) None)
    responds_13 d = record { answered = rw (← fault_13 states k here d); for_10 = refl; sends = tt }

    pub responds_10 : length c.args ≡ 512 → get_or states k 0 ≡ enabled → (at : ℕ)
        → at ≡ place_in (get_or c.responses k 0) (take c.numbers.nroutes c.routeids) → at < c.numbers.nroutes
        → FaultResponds c states f (responding_from (dispatched_answer (get_or c.responses k 0) (get_or c.dests at 0) (5 + get_or c.argcounts k 0)) (Some k))
    responds_10 long on at ea la =
        let d = route_dest l.route_ids (get_or c.responses k 0) at ea c.dests la in
        let w : length (take (get_or c.argcounts k 0) (drop (k * 16) c.args)) ≡ get_or c.argcounts k 0 =
        simp (length-take, length-drop) (omega (arith, long, l.args_within k h)) in
        record {
          answered = rw (← fault_10 states k here on, here, row_here c k h, d, w);
          for_10 = refl;
          sends = record { place = here; there = h; was_enabled = on; answer_is = rw (row_here c k h, d, w) };
        }

-- the row of a response that is to be sent on is in use, and its arguments have their places
module _ (l : LentConfig) (lent : FaultsLent l) {states : List ℕ} {f : ℕ} {r : Responding}
    (found : (other : Config) → length other.args ≡ 512 → FaultResponds (seen_by_responses l other) states f r) {k : ℕ} (e : r.row ≡ Some k) where
  in_use : k < l.numbers.nrows
  in_use = (rw e at (found (config_of_lent l) lent.args_512).sends).there

  pub row_below_32 : k < 32
  row_below_32 = omega (arith, in_use, lent.responses_lent.fault_ids.slots.within)

  pub args_there : k * 16 + get_or l.argcounts.now k 0 ≤ length l.args.now
  args_there = omega (arith, lent.args_512, lent.responses_lent.args_within k in_use)

-- ---- the step: what was found is its answer; a response that is sent on is written, and its row may latch

module _ {c : Config} {before : List ℕ} {f : ℕ} {r : Responding} (d : FaultResponds c before f r) (out : List ℕ) where
  abbrev t : Tables
  t = tables_of c

  -- the answer by its rule
  answer_is : r.answer.answer ≡ fault_answer before (meant t f)
  answer_is = ap (λ (x : Answer). x.answer) d.answered

  -- no row is told, so nothing is to be sent on
  pub not_10 : r.row ≡ None → r.answer.answer ≡ 10 → ⊥
  not_10 h e = false≢true (sym (ap is_some h) ∙ d.for_10 ∙ eq-eqb _ 10 e)

  pub moves_unsent : (r.answer.answer ≡ 10 → ⊥) → FaultMoves c before f out r.answer before out
  moves_unsent h =
      let no : eqb (fault_answer before (meant t f)) 10 ≡ false = ne_eqb _ 10 (λ e. h (answer_is ∙ e)) in
      record {
        step = λ standing. fault_is t f (run_from standing before) d.answered (rw no);
        output = fault_unsent t f out r.answer.answer _ answer_is no;
        long = refl;
      }

  pub moves_sent : (k : ℕ) → r.row ≡ Some k → (written v : ℕ) (left : List ℕ)
      → Wrote c.numbers.settings.fault r.answer.id (take (get_or c.argcounts k 0) (drop (k * 16) c.args)) out written left
      → v ≡ row_after (get_or c.latching k 0) (get_or before k 0) fault
      → FaultMoves c before f out r.answer (set before k v) left
  moves_sent k is_k written v left (ew, eo) ev =
      let s = rw is_k at d.sends in
      let row = sym (row_here c k s.there) in
      let h : r.answer.answer ≡ 10 = eqb-true _ 10 (sym d.for_10 ∙ ap is_some is_k) in
      let ten : fault_answer before (meant t f) ≡ 10 = sym answer_is ∙ h in
      record {
        step = λ standing. fault_is t f (run_from standing before) d.answered (rw (ten, s.place, ← row, ev));
        output =
            eo
            ∙ rw h (fault_output_lem t f out k s.place _ _ (ap (λ (x : Answer). x.id) s.answer_is) (ap (λ (x : FaultRow). x.args) row));
        long = length-set before k v;
      }
