-- Laws of the own commands: which one an id selects, and each way to an answer.
use Rattle.std.specs.Prelude.{◌≡◌, Bool, not, ◌&&◌, ◌||◌, ◌⊎◌, List, ℕ, zero, suc, ◌+◌, ◌-◌, ◌<◌, ◌≤◌, leb, length, Option as Handed, Some, None}
use Rattle.std.proofs.Math.Path.{refl}
use Rattle.std.proofs.Common.{sym, ap, subst, ◌∙◌, inl, inr, arith}
use Rattle.std.proofs.Math.Bool.{true, false}
use Rattle.std.proofs.lemmas.Bool.{false≢true}
use Rattle.std.proofs.Math.Option.{Option, none, some}
use Rattle.std.proofs.Math.Dec.{eqb}
use borrow.Author.Tests.{eq-eqb, ne_eqb, le-leb, lt-leb, leb-true}
use Rattle.wire.specs.Check.{check}
use Rattle.state.specs.Rules.{own}
use Rattle.state.proofs.Settings.{both}
use Rattle.step_effects.specs.FaultStates.{place_of, is_place}
use Rattle.step_answers.specs.declared.own.Own.{Own}
use Rattle.step_answers.specs.declared.own.Own.TheVariants.{Arm, ResetCounters, NoOp, NoOpWithArgument, Enable, Disable, Clear, ClearAll}
use Rattle.step_answers.specs.Own.{rule_of, selection_of, own_commands, numbered, own_command, fault_arg}
use Rattle.step_answers.specs.Answers.{own_answer}
use Rattle.step_answers.specs.OwnLaws.{Selects, is_own, not_own}

by_number : (k : Own) → some k ≡ numbered (rule_of k).number own_commands
by_number Arm = refl
by_number ResetCounters = refl
by_number NoOp = refl
by_number NoOpWithArgument = refl
by_number Enable = refl
by_number Disable = refl
by_number Clear = refl
by_number ClearAll = refl

-- each number below 8 is one's
data Numbered : ℕ → Type 0 where
  the : (k : Own) → Numbered (rule_of k).number

number_below_8 : (n : ℕ) → n < 8 → Numbered n
number_below_8 zero l = the Arm
number_below_8 (suc zero) l = the ResetCounters
number_below_8 (suc (suc zero)) l = the NoOp
number_below_8 (suc (suc (suc zero))) l = the NoOpWithArgument
number_below_8 (suc (suc (suc (suc zero)))) l = the Enable
number_below_8 (suc (suc (suc (suc (suc zero))))) l = the Disable
number_below_8 (suc (suc (suc (suc (suc (suc zero)))))) l = the Clear
number_below_8 (suc (suc (suc (suc (suc (suc (suc zero))))))) l = the ClearAll
number_below_8 (suc (suc (suc (suc (suc (suc (suc (suc n)))))))) l = absurd (omega arith)

module _ (base id : ℕ) where
  pub only_selects : {o : Option Own} → Selects base id o → o ≡ own_command base id
  unfolding own_command
  only_selects (is_own k o e) = by_number k ∙ simp (o, e)
  only_selects (not_own o) = simp o

  pub own_range : own base id ≡ true → (base ≤ id) × (id ≤ base + 7)
  unfolding own
  own_range e = let p = both (leb base id) (leb id (base + 7)) e in (leb-true _ _ p.0, leb-true _ _ p.1)

  pub selects : Selects base id (own_command base id)
  selects = go (own base id) refl
    where
      this : {c : Option Own} → Selects base id c → Selects base id (own_command base id)
      this s = subst (λ (c : Option Own). Selects base id c) (only_selects s) s

      at : own base id ≡ true → {n : ℕ} → id - base ≡ n → Numbered n → Selects base id (own_command base id)
      at o e (the k) = this (is_own k o e)

      go : (b : Bool) → own base id ≡ b → Selects base id (own_command base id)
      go true o = at o refl (number_below_8 (id - base) (omega (arith, own_range o)))
      go false o = this (not_own o)

  -- by the place of the id beside own base
  pub below_base : id < base → none ≡ own_command base id
  unfolding own
  below_base h = only_selects (not_own (simp (lt-leb base id h)))

  pub above_base : base ≤ id → 8 ≤ id - base → none ≡ own_command base id
  unfolding own
  above_base h l = only_selects (not_own (simp (le-leb base id h, lt-leb id (base + 7) (omega arith))))

  pub from_base : base ≤ id → (k : Own) → id - base ≡ (rule_of k).number → (rule_of k).number < 8 → some k ≡ own_command base id
  unfolding own
  from_base h k e l = only_selects (is_own k (simp (le-leb base id h, le-leb id (base + 7) (omega arith))) e)

-- what is handed on tells it
abbrev chosen : Handed (Own × ℕ) → Option Own
chosen (Some (k, n)) = some k
chosen None = none

abbrev asked : Handed (Own × ℕ) → ℕ
asked (Some (k, n)) = n
asked None = 0

chosen_is : (o : Option Own) → o ≡ chosen (selection_of o)
chosen_is none = refl
chosen_is (some k) = refl

pub command_is : (o : Option Own) {r : Handed (Own × ℕ)} (k : Own) (n : ℕ) → r ≡ selection_of o → r ≡ Some (k, n) → (o ≡ some k) × (n ≡ (rule_of k).wanted)
command_is o k n e c =
    let q : o ≡ some k = chosen_is o ∙ ap chosen (sym e ∙ c) in
    (q, ap asked (sym c ∙ e) ∙ ap (λ (x : Option Own). asked (selection_of x)) q)

pub nothing_is : (o : Option Own) {r : Handed (Own × ℕ)} → r ≡ selection_of o → r ≡ None → o ≡ none
nothing_is o e c = chosen_is o ∙ ap chosen (sym e ∙ c)

-- ---- the answer

-- 11 or 12 once it is done
pub done_is : (k : Own) → ((rule_of k).done ≡ 11) ⊎ ((rule_of k).done ≡ 12)
done_is Arm = inl refl
done_is ResetCounters = inr refl
done_is NoOp = inr refl
done_is NoOpWithArgument = inr refl
done_is Enable = inr refl
done_is Disable = inr refl
done_is Clear = inr refl
done_is ClearAll = inr refl

-- 11 is the arm command alone
pub done_11 : (k : Own) → (rule_of k).done ≡ 11 → k ≡ Arm
done_11 Arm e = refl
done_11 ResetCounters e = absurd (omega (arith, e))
done_11 NoOp e = absurd (omega (arith, e))
done_11 NoOpWithArgument e = absurd (omega (arith, e))
done_11 Enable e = absurd (omega (arith, e))
done_11 Disable e = absurd (omega (arith, e))
done_11 Clear e = absurd (omega (arith, e))
done_11 ClearAll e = absurd (omega (arith, e))

-- what acts on a row is answered 12, and so is what resets the counters
pub row_12 : (k : Own) → (rule_of k).is_on_row ≡ true → (rule_of k).done ≡ 12
row_12 Arm e = absurd (false≢true e)
row_12 ResetCounters e = absurd (false≢true e)
row_12 NoOp e = absurd (false≢true e)
row_12 NoOpWithArgument e = absurd (false≢true e)
row_12 Enable e = refl
row_12 Disable e = refl
row_12 Clear e = refl
row_12 ClearAll e = absurd (false≢true e)

pub resets_12 : (k : Own) → (rule_of k).resets ≡ (eqb (rule_of k).done 12 && (rule_of k).resets)
resets_12 Arm = refl
resets_12 ResetCounters = refl
resets_12 NoOp = refl
resets_12 NoOpWithArgument = refl
resets_12 Enable = refl
resets_12 Disable = refl
resets_12 Clear = refl
resets_12 ClearAll = refl

module _ (faultIds : List ℕ) (k : Own) (args : List ℕ) where
  pub own_31 : (length args ≡ (rule_of k).wanted → ⊥) → 31 ≡ own_answer faultIds k args
  unfolding own_answer
  own_31 h = simp (ne_eqb (length args) (rule_of k).wanted h)

  module _ (e : length args ≡ (rule_of k).wanted) where
    pub own_32 : (rule_of k).is_on_row ≡ true → place_of (fault_arg args) faultIds ≡ none → 32 ≡ own_answer faultIds k args
    unfolding own_answer
    own_32 r h = simp (eq-eqb (length args) (rule_of k).wanted e, r, h)

    pub own_row : (rule_of k).is_on_row ≡ true → (place : ℕ) → place_of (fault_arg args) faultIds ≡ some place → 12 ≡ own_answer faultIds k args
    unfolding own_answer
    own_row r place h = simp (eq-eqb (length args) (rule_of k).wanted e, r, h, row_12 k r)

    pub own_taken : (rule_of k).is_on_row ≡ false → (rule_of k).done ≡ own_answer faultIds k args
    unfolding own_answer
    own_taken r = simp (eq-eqb (length args) (rule_of k).wanted e, r)

  -- it is never 10
  pub own_not_10 : eqb (own_answer faultIds k args) 10 ≡ false
  unfolding own_answer
  own_not_10 = go (eqb (length args) (rule_of k).wanted) (not (rule_of k).is_on_row || is_place (place_of (fault_arg args) faultIds)) (done_is k)
    where
      go : (a b : Bool) → ((rule_of k).done ≡ 11) ⊎ ((rule_of k).done ≡ 12) → eqb (check a 31 (check b 32 (rule_of k).done)) 10 ≡ false
      go true true (inl e) = rw e
      go true true (inr e) = rw e
      go true false d = refl
      go false b d = refl

-- none of 0 to 7 is above 7
module _ (k : ℕ) where
  four_up : (k ≡ 0 → ⊥) → (k ≡ 1 → ⊥) → (k ≡ 2 → ⊥) → (k ≡ 3 → ⊥) → 4 ≤ k
  four_up a b c d = omega arith

  eight_up : 4 ≤ k → (k ≡ 4 → ⊥) → (k ≡ 5 → ⊥) → (k ≡ 6 → ⊥) → (k ≡ 7 → ⊥) → 8 ≤ k
  eight_up h a b c d = omega arith

  pub none_of_eight : (k ≡ 0 → ⊥) → (k ≡ 1 → ⊥) → (k ≡ 2 → ⊥) → (k ≡ 3 → ⊥) → (k ≡ 4 → ⊥) → (k ≡ 5 → ⊥) → (k ≡ 6 → ⊥) → (k ≡ 7 → ⊥) → 8 ≤ k
  none_of_eight a b c d e f g h = eight_up (four_up a b c d) e f g h
