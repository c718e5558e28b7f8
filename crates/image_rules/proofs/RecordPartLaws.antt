-- Laws for the loader's parts: the record at a place, and each way out of the function of a kind.
use Rattle.std.specs.Prelude.{◌≡◌, Bool, true, List, [], ℕ, ◌+◌, ◌≤◌, ◌<◌, leb, ltb, eqb, length}
use Rattle.std.proofs.Common.{sym, ◌∙◌, arith}
use Rattle.std.proofs.Math.Bool.{false, and-false}
use Rattle.std.proofs.Math.ListN.{get_or}
use borrow.Author.Tests.{le-leb, lt-leb, eq-eqb, ne_eqb}
use Rattle.wire.specs.Check.{check}
use Rattle.state.specs.Settings.{settings_ok}
use Rattle.state.specs.Tables.{Tables}
use Rattle.state.specs.Rules.{floor}
use Rattle.image_rules.specs.Records.{cut, record_at}
use Rattle.image_rules.specs.Written.{settings_with, row_id}
use Rattle.image_rules.specs.Kinds.{Kind, one, is_single, sized, limit, rule, last_of_kinds, kind_of, row_sized}
use Rattle.image_rules.specs.Checks.{is_in_order, refusal_by, refusal_after}
use Rattle.image_rules.specs.RecordLaws.{Whole}
use Rattle.image_rules.proofs.RecordOutcomeLaws.{by_entry}
use Rattle.image_rules.specs.RecordParts.{FoundAt, place_refusal}

-- ---- the record at a place

pub none_found : {bs : List ℕ} {place kind end : ℕ} → end ≡ 0 → record_at bs place ≡ cut place → FoundAt bs place kind end
none_found z e = record { is_cut = λ q. e; is_whole = λ h. absurd (h z) }

pub one_found : {bs : List ℕ} {place kind end : ℕ} → (end ≡ 0 → ⊥) → Whole bs place kind end → FoundAt bs place kind end
one_found n w = record { is_cut = λ z. absurd (n z); is_whole = λ h. w }

-- ---- a kind of the table is judged by its entry

pub by_its_entry : (K last : ℕ) (ids : List ℕ) (t : Tables) (b : List ℕ) {r : ℕ} → (1 ≤ K) × (K ≤ last_of_kinds)
    → r ≡ refusal_by (kind_of K) last K ids t b → r ≡ refusal_after last ids t K b
by_its_entry K last ids t b (l, h) e = e ∙ sym (by_entry last ids t K b l h)

-- of any kind, by its size
pub missized : (k : Kind) (last kind : ℕ) (ids : List ℕ) (t : Tables) (b : List ℕ) → sized k b ≡ false → 3 ≡ refusal_by k last kind ids t b
unfolding refusal_by
missized k last kind ids t b f = simp f

-- ---- a record of a single kind

module _ (last kind : ℕ) (t : Tables) (b : List ℕ) where
  pub by_one : {size r : ℕ} → (1 ≤ kind) × (kind ≤ last_of_kinds) × (kind_of kind ≡ one size) → r ≡ refusal_by (one size) last kind [] t b → r ≡ refusal_after last [] t kind b
  by_one (l, h, o) e = by_its_entry kind last [] t b (l, h) (rw o e)

  module _ {size : ℕ} (fits : length b ≡ size) where
    pub one_misplaced : is_in_order true last kind ≡ false → 4 ≡ refusal_by (one size) last kind [] t b
    unfolding refusal_by
    one_misplaced o = simp (eq-eqb _ _ fits, o)

    pub one_judged : is_in_order true last kind ≡ true → {ok : Bool} {r : ℕ} → ok ≡ settings_ok (settings_with kind b t.settings) → r ≡ check ok 7 0 → r ≡ refusal_by (one size) last kind [] t b
    unfolding refusal_by
    one_judged o q p = p ∙ rw q (simp (eq-eqb _ _ fits, o, le-leb 0 (row_id b) (omega arith)))

-- ---- a row

stopped : (o a r ok : Bool) {p : ℕ} → p ≡ check o 4 (check a 4 (check r 6 0)) → (p ≡ 0 → ⊥) → p ≡ check o 4 (check a 4 (check r 6 (check ok 7 0)))
stopped true true true ok e h = absurd (h e)
stopped true true false ok e h = e
stopped true false r ok e h = e
stopped false a r ok e h = e

passed : (o a r ok : Bool) {p x : ℕ} → p ≡ check o 4 (check a 4 (check r 6 0)) → p ≡ 0 → x ≡ check ok 7 0 → x ≡ check o 4 (check a 4 (check r 6 (check ok 7 0)))
passed true true true ok e z g = g
passed true true false ok e z g = absurd (omega arith)
passed true false r ok e z g = absurd (omega arith)
passed false a r ok e z g = absurd (omega arith)

module _ (k : Kind) (last kind : ℕ) (ids : List ℕ) (t : Tables) (b : List ℕ) (many : is_single k ≡ false) (fits : sized k b ≡ true) {id p : ℕ}
    (i : id ≡ row_id b) (told : p ≡ place_refusal last kind (limit k) ids id) where
  pub row_misplaced : (p ≡ 0 → ⊥) → p ≡ refusal_by k last kind ids t b
  unfolding refusal_by place_refusal
  row_misplaced h =
      simp (fits, many)
      (stopped (is_in_order false last kind) (leb (floor ids) (row_id b)) (ltb (length ids) (limit k)) (rule k kind t b) (rw i at told) h)

  pub row_judged : p ≡ 0 → {ok : Bool} {r : ℕ} → ok ≡ rule k kind t b → r ≡ check ok 7 0 → r ≡ refusal_by k last kind ids t b
  unfolding refusal_by place_refusal
  row_judged z q e =
      simp (fits, many)
      (passed (is_in_order false last kind) (leb (floor ids) (row_id b)) (ltb (length ids) (limit k)) (rule k kind t b) (rw i at told) z (rw q at e))

-- ---- the size of a fault row

module _ (b : List ℕ) where
  pub row_short : length b < 7 → false ≡ row_sized b
  unfolding row_sized
  row_short l = simp (ne_eqb (length b) (7 + get_or b 6 0) (λ e. omega arith), and-false)

  pub row_long : 16 < get_or b 6 0 → false ≡ row_sized b
  unfolding row_sized
  row_long l = simp (lt-leb (get_or b 6 0) 16 l)

  pub row_fits : get_or b 6 0 ≤ 16 → eqb (length b) (7 + get_or b 6 0) ≡ row_sized b
  unfolding row_sized
  row_fits l = simp (le-leb (get_or b 6 0) 16 l)
