-- What callers use of the judge: the statements of `Outcome` fit the computed judge in both directions, the judge's two
-- answers, and the enquiry's.
use Rattle.std.specs.Prelude.{◌≡◌, refl, List, [], ℕ, ◌+◌, ◌-◌, ◌≤◌, length, leb, eqb}
use Rattle.std.proofs.Math.Path.{sym}
use Rattle.std.proofs.Common.{◌∙◌, arith}
use borrow.Author.Tests.{leb-true, leb-false, eqb-true, eqb-false, le-leb, lt-leb, eq-eqb, ne_eqb}
use Rattle.wire.specs.Check.{check, by}
use Rattle.wire.specs.Xor.{xor_all}
use Rattle.packet_rules.specs.Layout.{version, packet_type, secondary, length_field, data_length, pads, command_id, arg_count, argument_part}
use Rattle.packet_rules.specs.Judge.{form_checks, form_refusal, refusal_of, judge_of, arguments_of, arguments_at}
use Rattle.packet_rules.specs.JudgeOutcome.{Sized, Formed, Accepts, BadForm, not_version_0, not_telecommand, not_secondary, not_xor_0, Outcome, below_6, not_whole, bad_form, no_room, too_many, taken}

-- ---- the checks of the form

module _ {s : List ℕ} where
  -- a form that is right goes on to what follows; one that is not gives its own number, whatever follows
  pub form_right : Formed s → (next : ℕ) → form_checks s next ≡ next
  form_right f next =
      simp (eq-eqb _ _ f.version_0, eq-eqb _ _ f.telecommand, eq-eqb _ _ f.with_secondary, eq-eqb _ _ f.xor_0)

  pub form_wrong : {n : ℕ} → BadForm s n → (next : ℕ) → form_checks s next ≡ n
  form_wrong (not_version_0 h) next = simp (ne_eqb _ _ h)
  form_wrong (not_telecommand v h) next = simp (eq-eqb _ _ v, ne_eqb _ _ h)
  form_wrong (not_secondary v t h) next = simp (eq-eqb _ _ v, eq-eqb _ _ t, ne_eqb _ _ h)
  form_wrong (not_xor_0 v t f h) next = simp (eq-eqb _ _ v, eq-eqb _ _ t, eq-eqb _ _ f, ne_eqb _ _ h)

-- so whatever holds in each of the five cases holds
pub by_form : (P : ℕ → Type 0) (s : List ℕ) (next : ℕ) → ((n : ℕ) → BadForm s n → P n) → (Formed s → P next) → P (form_checks s next)
by_form P s next bad right =
    by P (eqb (version s) 0) 24 _ (λ e. bad 24 (not_version_0 (eqb-false _ _ e)))
    (λ v. by P (eqb (packet_type s) 1) 25 _ (λ e. bad 25 (not_telecommand (eqb-true _ _ v) (eqb-false _ _ e)))
    (λ t. by P (eqb (secondary s) 1) 26 _ (λ e. bad 26 (not_secondary (eqb-true _ _ v) (eqb-true _ _ t) (eqb-false _ _ e)))
    (λ f. by P (eqb (xor_all s) 0) 27 _ (λ e. bad 27 (not_xor_0 (eqb-true _ _ v) (eqb-true _ _ t) (eqb-true _ _ f) (eqb-false _ _ e)))
    (λ x. right (record { version_0 = eqb-true _ _ v; telecommand = eqb-true _ _ t; with_secondary = eqb-true _ _ f; xor_0 = eqb-true _ _ x })))))

-- ---- the judge: every answer says what `Outcome` has of it, and no other answer fits

pub outcome : (s : List ℕ) → Outcome s (refusal_of s)
unfolding refusal_of
outcome s =
    by (Outcome s) (leb 6 (length s)) 22 _ (λ e. below_6 (leb-false _ _ e))
    (λ e22. by (Outcome s) (eqb (length s) (7 + length_field s)) 23 _ (λ e. not_whole (leb-true _ _ e22) (eqb-false _ _ e))
    (λ e23. let sized : Sized s = record { long = leb-true _ _ e22; whole = eqb-true _ _ e23 } in
    by_form (Outcome s) s _ (λ n bad. bad_form sized bad)
    (λ formed. by (Outcome s) (leb 4 (data_length s - pads s)) 28 _ (λ e. no_room sized formed (omega (arith, leb-false 4 (data_length s - pads s) e)))
    (λ e28. let room : pads s + 4 ≤ data_length s = omega (arith, leb-true 4 (data_length s - pads s) e28) in
    by (Outcome s) (leb (arg_count s) 255) 29 0 (λ e. too_many sized formed room (leb-false _ _ e))
    (λ e29. taken (record { sized = sized; formed = formed; room = room; few = leb-true _ _ e29 }))))))

module _ {s : List ℕ} where
  past_size : Sized s → refusal_of s ≡ form_checks s (check (leb 4 (data_length s - pads s)) 28 (check (leb (arg_count s) 255) 29 0))
  unfolding refusal_of
  past_size a = simp (le-leb _ _ a.long, eq-eqb _ _ a.whole)

  past_form : Sized s → Formed s → refusal_of s ≡ check (leb 4 (data_length s - pads s)) 28 (check (leb (arg_count s) 255) 29 0)
  past_form a f = past_size a ∙ form_right f _

  pub only : {n : ℕ} → Outcome s n → n ≡ refusal_of s
  unfolding refusal_of
  only (below_6 h) = simp (lt-leb _ _ h)
  only (not_whole a h) = simp (le-leb _ _ a, ne_eqb _ _ h)
  only (bad_form a bad) = sym (past_size a ∙ form_wrong bad _)
  only (no_room a f h) = sym (past_form a f ∙ simp (lt-leb 4 (data_length s - pads s) (omega arith)))
  only (too_many a f r h) = sym (past_form a f ∙ simp (le-leb 4 (data_length s - pads s) (omega arith), lt-leb _ _ h))
  only (taken a) = sym (past_form a.sized a.formed ∙ simp (le-leb 4 (data_length s - pads s) (omega arith), le-leb _ _ a.few))

-- accepted is 0, in both directions
pub none_refuses : {s : List ℕ} → Accepts s → refusal_of s ≡ 0
none_refuses a = sym (only (taken a))

pub accepts : (s : List ℕ) → refusal_of s ≡ 0 → Accepts s
accepts s e = go (outcome s) e
  where
    go : {n : ℕ} → Outcome s n → n ≡ 0 → Accepts s
    go (below_6 h) e = absurd (omega arith)
    go (not_whole a h) e = absurd (omega arith)
    go (bad_form a (not_version_0 h)) e = absurd (omega arith)
    go (bad_form a (not_telecommand v h)) e = absurd (omega arith)
    go (bad_form a (not_secondary v t h)) e = absurd (omega arith)
    go (bad_form a (not_xor_0 v t f h)) e = absurd (omega arith)
    go (no_room a f h) e = absurd (omega arith)
    go (too_many a f r h) e = absurd (omega arith)
    go (taken a) e = a

-- the checks 24 to 27 by themselves
module _ {s : List ℕ} where
  pub form_bad : {n : ℕ} → BadForm s n → n ≡ form_refusal s
  unfolding form_refusal
  form_bad bad = sym (form_wrong bad 0)

  pub form_good : Formed s → 0 ≡ form_refusal s
  unfolding form_refusal
  form_good f = sym (form_right f 0)

pub formed : (s : List ℕ) → form_refusal s ≡ 0 → Formed s
unfolding form_refusal
formed s = by_form (λ n. n ≡ 0 → Formed s) s 0 never (λ f e. f)
  where
    never : (n : ℕ) → BadForm s n → n ≡ 0 → Formed s
    never n (not_version_0 h) e = absurd (omega arith)
    never n (not_telecommand v h) e = absurd (omega arith)
    never n (not_secondary v t h) e = absurd (omega arith)
    never n (not_xor_0 v t f h) e = absurd (omega arith)

pub form_counts : (s : List ℕ) → Sized s → (form_refusal s ≡ 0 → ⊥) → form_refusal s ≡ refusal_of s
unfolding form_refusal
form_counts s a = by_form (λ n. (n ≡ 0 → ⊥) → n ≡ refusal_of s) s 0 (λ n bad h. only (bad_form a bad)) (λ f h. absurd (h refl))

-- ---- the judge's two answers, and the enquiry's

module _ (s : List ℕ) where
  pub judge_refused : (n : ℕ) → (n ≡ refusal_of s) × (n ≡ 0 → ⊥) → record { answer = n; id = 0; count = 0 } ≡ judge_of s
  unfolding judge_of
  judge_refused n (e, h) = rw (← e) (simp (ne_eqb _ _ h))

  pub judge_accepted : (i k : ℕ) → (refusal_of s ≡ 0) × (i ≡ command_id s) × (k ≡ arg_count s) → record { answer = 0; id = i; count = k } ≡ judge_of s
  unfolding judge_of
  judge_accepted i k (e, p, q) = simp (e, p, q)

  pub arguments_refused : (refusal_of s ≡ 0 → ⊥) → arguments_of s ≡ []
  unfolding arguments_of
  arguments_refused h = simp (ne_eqb _ _ h)

  pub arguments_accepted : Accepts s → arguments_of s ≡ argument_part s
  unfolding arguments_of
  arguments_accepted a = simp (none_refuses a)

  pub at_refused : (refusal_of s ≡ 0 → ⊥) → arguments_at s ≡ 0
  unfolding arguments_at
  at_refused h = simp (ne_eqb _ _ h)

  pub at_accepted : Accepts s → arguments_at s ≡ 10
  unfolding arguments_at
  at_accepted a = simp (none_refuses a)
