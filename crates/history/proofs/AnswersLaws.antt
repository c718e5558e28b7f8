-- The plain reading's answer to an accepted packet is the answer of the step, where the path is armed as the list says.
use Rattle.std.specs.Prelude.{◌≡◌, Bool, ◌&&◌, ◌||◌, List, map, ℕ, zero, suc, ◌-◌, eqb, length}
use Rattle.std.proofs.Math.Path.{refl, ap}
use Rattle.std.proofs.Common.{sym, ◌∙◌, arith, ne_eqb}
use Rattle.std.proofs.Math.Bool.{true, false, cond, not}
use Rattle.std.proofs.lemmas.Bool.{false≢true}
use Rattle.std.proofs.Math.Option.{Option, none, some}
use Rattle.std.proofs.Math.Dec.{eqb-suc-zero}
use Rattle.packet_rules.specs.Layout.{command_id}
use Rattle.wire.specs.Check.{check}
use Rattle.packet_rules.specs.Judge.{arguments_of}
use Rattle.state.specs.Tables.{Tables, fault_id, routed}
use Rattle.state.specs.Rules.{member}
use Rattle.state.specs.Rules as rules
use Rattle.image_rules.specs.Records.{Record}
use Rattle.step_effects.specs.Dispatch.{dest_of}
use Rattle.step_answers.specs.declared.own.Own.{Own}
use Rattle.step_answers.specs.declared.own.Own.TheVariants.{Arm, ResetCounters, NoOp, NoOpWithArgument, Enable, Disable, Clear, ClearAll}
use Rattle.step_answers.specs.Own.{rule_of, own_command, is_reset}
use Rattle.state.proofs.Settings.{both}
use Rattle.step_answers.specs.OwnLaws as own
use Rattle.step_answers.proofs.OwnLaws as own_laws
use Rattle.step_answers.specs.Answers.{blocked, route_answer, selected_answer, answer_for, answer_to}
use Rattle.step_answers.specs.Answers as steps
use Rattle.history.specs.Plain.{Event, wanted, names_fault, fault_named, any_row, tables, meant_by, selects, is_arm, armed, stopped, own_answer, packet_answer}
use Rattle.history.proofs.RowsLaws.{meant_is, any_is}
use Rattle.state.specs.Tables.{Route}
use Rattle.history.specs.Plain.{destination}
use Rattle.history.specs.AnswersLaws.{number_for}

pub destination_is : (id : ℕ) (routes : List Route) → dest_of id routes ≡ destination id routes
destination_is id routes = refl

pub resets_by_number : (o : Option Own) → is_reset o ≡ eqb (number_for o) 1
resets_by_number none = refl
resets_by_number (some Arm) = refl
resets_by_number (some ResetCounters) = refl
resets_by_number (some NoOp) = refl
resets_by_number (some NoOpWithArgument) = refl
resets_by_number (some Enable) = refl
resets_by_number (some Disable) = refl
resets_by_number (some Clear) = refl
resets_by_number (some ClearAll) = refl

wanted_is : (k : Own) → wanted (rule_of k).number ≡ (rule_of k).wanted
wanted_is Arm = refl
wanted_is ResetCounters = refl
wanted_is NoOp = refl
wanted_is NoOpWithArgument = refl
wanted_is Enable = refl
wanted_is Disable = refl
wanted_is Clear = refl
wanted_is ClearAll = refl

names_is : (k : Own) → names_fault (rule_of k).number ≡ (rule_of k).is_on_row
names_is Arm = refl
names_is ResetCounters = refl
names_is NoOp = refl
names_is NoOpWithArgument = refl
names_is Enable = refl
names_is Disable = refl
names_is Clear = refl
names_is ClearAll = refl

done_is : (k : Own) → cond (eqb (rule_of k).number 0) 11 12 ≡ (rule_of k).done
done_is Arm = refl
done_is ResetCounters = refl
done_is NoOp = refl
done_is NoOpWithArgument = refl
done_is Enable = refl
done_is Disable = refl
done_is Clear = refl
done_is ClearAll = refl

module _ (image : List Record) where
  abbrev t : Tables
  t = tables image

  pub selects_is : (p : List ℕ) → selects image p ≡ number_for (own_command t.settings.base (command_id p))
  selects_is p = go (own_laws.selects t.settings.base (command_id p))
    where
      go : {o : Option Own} → own.Selects t.settings.base (command_id p) o → selects image p ≡ number_for o
      go (own.is_own k o e) = simp (o, e)
      go (own.not_own o) = simp o

  own_is : (k : Own) (args : List ℕ) → own_answer image (rule_of k).number args ≡ steps.own_answer (map fault_id t.rows) k args
  unfolding steps.own_answer
  own_is k args =
      rw (wanted_is k, names_is k, done_is k, meant_is image (fault_named args), any_is (meant_by image (fault_named args)))
      (go (eqb (length args) (rule_of k).wanted) (rule_of k).is_on_row (any_row (meant_by image (fault_named args))) (rule_of k).done)
    where
      go : (a b m : Bool) (d : ℕ) → cond a (cond (b && not m) 32 d) 31 ≡ check a 31 (check (not b || m) 32 d)
      go true true true d = refl
      go true true false d = refl
      go true false m d = refl
      go false b m d = refl

  -- past the protection
  route_is : (m : Bool) → cond m 10 33 ≡ check m 33 10
  route_is true = refl
  route_is false = refl

  own_or_route : (p : List ℕ) {o : Option Own} → own.Selects t.settings.base (command_id p) o
      → cond (rules.own t.settings.base (command_id p)) (own_answer image (selects image p) (arguments_of p)) (cond (member (command_id p) (routed t)) 10 33)
      ≡ selected_answer (routed t) (map fault_id t.rows) (command_id p) o (arguments_of p)
  unfolding route_answer
  own_or_route p (own.is_own k o e) = simp (o, e) (own_is k (arguments_of p))
  own_or_route p (own.not_own o) = simp o (route_is (member (command_id p) (routed t)))

  protect : (m a : Bool) (x : ℕ) → cond (m && not a) 30 x ≡ check (not (not a && m)) 30 x
  protect true true x = refl
  protect true false x = refl
  protect false true x = refl
  protect false false x = refl

  pub answer_is : (h : List Event) (p : List ℕ) → packet_answer image h p ≡ answer_to t (armed image h) (command_id p) (arguments_of p)
  unfolding blocked answer_for
  answer_is h p =
      ap (λ (x : ℕ). cond (stopped image h p) 30 x) (own_or_route p (own_laws.selects t.settings.base (command_id p)))
      ∙ protect (member (command_id p) t.protected) (armed image h) _

  -- ---- 11 is a well-formed arm command, where the arm id is not protected

  arm_own : (k : ℕ) (args : List ℕ) → eqb (own_answer image k args) 11 ≡ (eqb k 0 && eqb (length args) 1)
  arm_own zero args = go (eqb (length args) 1)
    where
      go : (b : Bool) → eqb (cond b 11 31) 11 ≡ b
      go true = refl
      go false = refl
  arm_own (suc k) args = simp (eqb-suc-zero k) (go (eqb (length args) (wanted (suc k))) (names_fault (suc k) && not (any_row (meant_by image (fault_named args)))))
    where
      go : (a b : Bool) → eqb (cond a (cond b 32 12) 31) 11 ≡ false
      go true true = refl
      go true false = refl
      go false b = refl

  -- no protected id is the arm id
  module _ (free : member t.settings.base t.protected ≡ false) where
    not_arm : (p : List ℕ) → rules.own t.settings.base (command_id p) ≡ true → member (command_id p) t.protected ≡ true → eqb (selects image p) 0 ≡ false
    not_arm p o m =
        let r = own_laws.own_range t.settings.base (command_id p) o in
        simp o (ne_eqb (command_id p - t.settings.base) 0 (λ z. let e : command_id p ≡ t.settings.base = omega arith in false≢true (sym free ∙ rw e at m)))

    pub arm_answer : (h : List Event) (p : List ℕ) → eqb (packet_answer image h p) 11 ≡ is_arm image p
    arm_answer h p = go (stopped image h p) refl (rules.own t.settings.base (command_id p)) refl
      where
        no_route_11 : (m : Bool) → eqb (cond m 10 33) 11 ≡ false
        no_route_11 true = refl
        no_route_11 false = refl

        go : (s : Bool) → stopped image h p ≡ s → (o : Bool) → rules.own t.settings.base (command_id p) ≡ o → eqb (packet_answer image h p) 11 ≡ is_arm image p
        go true e true o = sym (simp (not_arm p o (both (member (command_id p) t.protected) _ e).0, e))
        go true e false o = sym (simp (o, e))
        go false e true o = simp e (simp o (arm_own (command_id p - t.settings.base) (arguments_of p)))
        go false e false o = simp (e, o) (no_route_11 (member (command_id p) (routed t)))
