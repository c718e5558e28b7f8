-- The computed refusal of a record is the declared one, in both directions: it says what `Outcome` has of it, and no other number
-- fits. Of the kinds only the first is named here.
use Rattle.std.specs.Prelude.{◌≡◌, refl, Bool, true, false, ◌&&◌, List, ℕ, ◌≤◌, ◌<◌, ltb, eqb, length}
use Rattle.std.proofs.Math.Path.{sym}
use Rattle.std.proofs.Common.{◌∙◌, arith}
use Rattle.std.proofs.Math.Bool.{and-false}
use Rattle.std.proofs.lemmas.Bool.{false≢true}
use Rattle.std.proofs.Math.Dec.{leb}
use borrow.Author.Tests.{le-leb, lt-leb, lt-ltb, le-ltb, eq-eqb, ne_eqb, leb-true, leb-false, ltb-true, ltb-false, eqb-true, eqb-false}
use Rattle.wire.specs.Check.{check, by}
use Rattle.state.specs.Tables.{Tables}
use Rattle.state.specs.Rules.{floor}
use Rattle.state.proofs.KeepsLaws.{split}
use Rattle.state.proofs.Settings.{both}
use Rattle.image_rules.specs.Records.{Record}
use Rattle.image_rules.specs.Written.{row_id, tables_of_records}
use Rattle.image_rules.specs.Kinds.{Kind, is_single, sized, limit, rule, last_of_kinds, kind_of, ids_in}
use Rattle.image_rules.specs.Checks.{last_kind, follows, is_in_order, refusal_by, refusal_after, record_refusal}
use Rattle.image_rules.specs.RecordOutcome.{Follows, Order, begins, goes_on, BadOrder, first_not_basics, second, falls, Shaped, Verdict, no_kind, past_kinds, missized, out_of_order, not_above, too_many, rule_broken, fine, Outcome, is_cut, is_whole, GoodAfter}

-- ---- the order

module _ {last kind : ℕ} where
  follows_is : (single : Bool) → Follows single last kind → follows single last kind ≡ true
  follows_is true f = lt-ltb last kind (omega (arith, f.never_falls, f.no_second refl))
  follows_is false f = le-leb last kind f.never_falls

  is_follows : (single : Bool) → follows single last kind ≡ true → Follows single last kind
  is_follows true e = let l = ltb-true last kind e in record { never_falls = omega arith; no_second = λ s q. omega arith }
  is_follows false e = record { never_falls = leb-true last kind e; no_second = λ s q. false≢true s }

  falls_not : (single : Bool) → kind < last → follows single last kind ≡ false
  falls_not true l = le-ltb last kind (omega arith)
  falls_not false l = lt-leb last kind l

  not_follows : (single : Bool) → (last ≡ 0 → ⊥) → follows single last kind ≡ false → BadOrder single last kind
  not_follows true z e =
      let l = ltb-false last kind e in
      split (BadOrder true last kind) (eqb last kind) (λ q. second z refl (eqb-true _ _ q)) (λ q. let n = eqb-false last kind q in falls (omega arith))
  not_follows false z e = falls (leb-false last kind e)

module _ {single : Bool} {last kind : ℕ} where
  pub order_is : Order single last kind → is_in_order single last kind ≡ true
  order_is (begins z k) = simp (eq-eqb _ _ z, eq-eqb _ _ k)
  order_is (goes_on z f) = simp (ne_eqb _ _ z) (follows_is single f)

  pub order_is_not : BadOrder single last kind → is_in_order single last kind ≡ false
  order_is_not (first_not_basics z k) = simp (eq-eqb _ _ z, ne_eqb _ _ k)
  order_is_not (second z s k) = simp (ne_eqb _ _ z, s) (le-ltb last kind (omega arith))
  order_is_not (falls l) = simp (ne_eqb last 0 (λ z. omega arith)) (falls_not single l)

  in_order : is_in_order single last kind ≡ true → Order single last kind
  in_order e =
      split (Order single last kind) (eqb last 0)
      (λ z. begins (eqb-true _ _ z) (eqb-true _ _ (simp z at e)))
      (λ z. goes_on (eqb-false _ _ z) (is_follows single (simp z at e)))

  not_in_order : is_in_order single last kind ≡ false → BadOrder single last kind
  not_in_order e =
      split (BadOrder single last kind) (eqb last 0)
      (λ z. first_not_basics (eqb-true _ _ z) (eqb-false _ _ (simp z at e)))
      (λ z. not_follows single (eqb-false _ _ z) (simp z at e))

-- ---- a whole record

module _ (last : ℕ) (ids : List ℕ) (t : Tables) (kind : ℕ) (b : List ℕ) where
  abbrev Says : ℕ → Type 0
  Says n = Verdict last ids t kind b n

  abbrev k : Kind
  k = kind_of kind

  by_rows : Shaped last kind b → Says (check (leb (floor ids) (row_id b)) 4 (check (ltb (length ids) (limit k)) 6 (check (rule k kind t b) 7 0)))
  by_rows s =
      by Says (leb (floor ids) (row_id b)) 4 _ (λ e. not_above s (leb-false _ _ e))
      (λ above. by Says (ltb (length ids) (limit k)) 6 _ (λ e. too_many s (leb-true _ _ above) (ltb-false _ _ e))
      (λ room. by Says (rule k kind t b) 7 0 (rule_broken s (leb-true _ _ above) (ltb-true _ _ room))
      (λ ok. fine (record { shaped = s; above = leb-true _ _ above; room = ltb-true _ _ room; kept = ok }))))

  pub verdict : Says (refusal_after last ids t kind b)
  unfolding refusal_after refusal_by
  verdict =
      by Says (leb 1 kind && leb kind last_of_kinds) 2 _
      (λ e. split (Says 2) (leb 1 kind) (λ l. past_kinds (leb-false _ _ (simp l at e))) (λ l. no_kind (leb-false _ _ l)))
      (λ known. let p = both (leb 1 kind) _ known in
      let low = leb-true 1 kind p.0 in
      let high = leb-true kind last_of_kinds p.1 in
      by Says (sized k b) 3 _ (missized low high)
      (λ fits. by Says (is_in_order (is_single k) last kind) 4 _ (λ e. out_of_order low high fits (not_in_order e))
      (λ order. by_rows (record { kind_low = low; kind_high = high; fits = fits; order = in_order order }))))

  -- a kind of the table is judged by its entry
  pub by_entry : 1 ≤ kind → kind ≤ last_of_kinds → refusal_after last ids t kind b ≡ refusal_by (kind_of kind) last kind ids t b
  unfolding refusal_after
  by_entry l h = simp (le-leb 1 kind l, le-leb kind last_of_kinds h)

  past_shape : Shaped last kind b
      → refusal_after last ids t kind b
      ≡ check (leb (floor ids) (row_id b)) 4 (check (ltb (length ids) (limit (kind_of kind))) 6 (check (rule (kind_of kind) kind t b) 7 0))
  unfolding refusal_by
  past_shape s = by_entry s.kind_low s.kind_high ∙ simp (s.fits, order_is s.order)

module _ {last : ℕ} {ids : List ℕ} {t : Tables} {kind : ℕ} {b : List ℕ} where
  -- no other number fits a whole record
  pub verdict_only : {n : ℕ} → Verdict last ids t kind b n → n ≡ refusal_after last ids t kind b
  unfolding refusal_after refusal_by
  verdict_only (no_kind l) = simp (lt-leb 1 kind l)
  verdict_only (past_kinds h) = simp (lt-leb kind last_of_kinds h, and-false)
  verdict_only (missized l h f) = sym (by_entry last ids t kind b l h ∙ simp f)
  verdict_only (out_of_order l h f o) = sym (by_entry last ids t kind b l h ∙ simp (f, order_is_not o))
  verdict_only (not_above s a) = sym (past_shape last ids t kind b s ∙ simp (lt-leb _ _ a))
  verdict_only (too_many s a r) = sym (past_shape last ids t kind b s ∙ simp (le-leb _ _ a, le-ltb _ _ r))
  verdict_only (rule_broken s a r e) = sym (past_shape last ids t kind b s ∙ simp (le-leb _ _ a, lt-ltb _ _ r, e))
  verdict_only (fine f) = sym (past_shape last ids t kind b f.shaped ∙ simp (le-leb _ _ f.above, lt-ltb _ _ f.room, f.kept))

-- ---- a record behind those before it

module _ (before : List Record) (r : Record) where
  pub outcome : Outcome before r (record_refusal before r)
  unfolding record_refusal
  outcome =
      by (Outcome before r) r.whole 1 _ is_cut
      (λ w. is_whole w (verdict (last_kind before) (ids_in r.kind before) (tables_of_records before) r.kind r.body))

  pub outcome_only : {n : ℕ} → Outcome before r n → n ≡ record_refusal before r
  unfolding record_refusal
  outcome_only (is_cut w) = simp w
  outcome_only (is_whole w v) = simp w (verdict_only v)

  -- 0 is good, in both directions
  pub good_zero : GoodAfter before r → record_refusal before r ≡ 0
  good_zero g = sym (outcome_only (is_whole g.whole (fine g.rest)))

  pub zero_good : record_refusal before r ≡ 0 → GoodAfter before r
  zero_good e = go outcome e
    where
      whole : {n : ℕ} → r.whole ≡ true → Verdict (last_kind before) (ids_in r.kind before) (tables_of_records before) r.kind r.body n → n ≡ 0 → GoodAfter before r
      whole w (no_kind l) e = absurd (omega arith)
      whole w (past_kinds h) e = absurd (omega arith)
      whole w (missized l h f) e = absurd (omega arith)
      whole w (out_of_order l h f o) e = absurd (omega arith)
      whole w (not_above s a) e = absurd (omega arith)
      whole w (too_many s a m) e = absurd (omega arith)
      whole w (rule_broken s a m k) e = absurd (omega arith)
      whole w (fine f) e = record { whole = w; rest = f }

      go : {n : ℕ} → Outcome before r n → n ≡ 0 → GoodAfter before r
      go (is_cut w) e = absurd (omega arith)
      go (is_whole w v) e = whole w v e
