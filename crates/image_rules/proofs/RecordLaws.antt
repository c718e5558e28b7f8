-- Laws of records and of the tables that they write: the record at a place, the records from a place on, and a record more.
use Rattle.std.specs.Prelude.{◌≡◌, Bool, true, false, cond, List, [], ◌∷◌, ◌++◌, map, ℕ, zero, suc, ◌+◌, ◌-◌, ◌<◌, ◌≤◌, eqb, length, get_or}
use Rattle.std.proofs.Math.Path.{refl}
use Rattle.std.proofs.Common.{sym, ap, ◌∙◌, append-nil, arith, length-take, length-drop}
use Rattle.std.proofs.lemmas.Bool.{false≢true}
use Rattle.std.proofs.lemmas.List.{map-append, length-map}
use borrow.Author.Tests.{le-leb, lt-leb, ne_eqb, eqb-true, eqb-false}
use Rattle.state.specs.Tables.{route_id, fault_id, routed}
use Rattle.state.proofs.KeepsLaws.{split}
use Rattle.image_rules.specs.Records.{le16, Record, cut, record_at, and_then, records_from}
use Rattle.image_rules.specs.Written.{of_kind, last_or, value_in, ground_in, fault_in, base_in, row_id, route_in, protected_in, row_in, start_in, tables_of_records, starts_of_records, plus}
use Rattle.image_rules.specs.Kinds.{Kind, one, rows, is_single, basics, kinds, last_of_kinds, kind_of, ids_in}
use Rattle.image_rules.specs.Checks.{last_from}
use Rattle.image_rules.specs.RecordLaws.{body_at, Whole, RowsFrom}

-- ---- the record at a place

pub cut_head : (bs : List ℕ) (place : ℕ) → length bs < place + 4 → record_at bs place ≡ cut place
unfolding record_at
cut_head bs place h = simp (lt-leb (place + 4) (length bs) h)

pub cut_body : (bs : List ℕ) (place size : ℕ)
    → (size ≡ le16 bs place) × (place + 4 ≤ length bs) × (length bs < place + 4 + size) → record_at bs place ≡ cut place
unfolding record_at
cut_body bs place size (e, h, l) = simp (le-leb (place + 4) (length bs) h, lt-leb (place + 4 + le16 bs place) (length bs) (omega arith))

module _ {bs : List ℕ} {place kind end : ℕ} (w : Whole bs place kind end) where
  pub whole_at : record_at bs place ≡ record { place = place; whole = true; kind = kind; body = body_at bs place end }
  unfolding record_at
  whole_at =
      let m : end - (place + 4) ≡ le16 bs place = omega (arith, w.end_is) in
      simp (
        le-leb (place + 4) (length bs) (omega (arith, w.inside, w.end_is)),
        le-leb (place + 4 + le16 bs place) (length bs) (omega (arith, w.inside, w.end_is)),
        w.kind_is,
        m,
      )

  pub body_ends : place + 4 + length (body_at bs place end) ≡ end
  body_ends = simp (length-take, length-drop) (omega (arith, w.inside, w.end_is))

-- ---- the records from a place on

pub one_from : (f : ℕ) (bs : List ℕ) (place : ℕ) → length bs ≤ f + place → place < length bs
    → records_from f bs place ≡ and_then (records_from (f - 1) bs) (record_at bs place)
one_from zero bs place e l = absurd (omega arith)
one_from (suc f) bs place e l = let k : suc f - 1 ≡ f = omega arith in rw k (simp (lt-leb (length bs) place l))

pub none_from : (f : ℕ) (bs : List ℕ) (place : ℕ) → length bs ≤ place → records_from f bs place ≡ []
none_from zero bs place l = refl
none_from (suc f) bs place l = simp (le-leb (length bs) place l)

-- of the single kinds from n on
abbrev Singles : (ℕ → Type 0) → ℕ → List Kind → Type 0
Singles P n ks = (kind : ℕ) → n ≤ kind → is_single (get_or ks (kind - n) basics) ≡ true → P kind

each_from : (P : ℕ → Type 0) (n : ℕ) (ks : List Kind) → Singles P n ks → RowsFrom P n ks → (kind : ℕ) → n ≤ kind → kind < n + length ks → P kind
each_from P n [] s f kind l h = absurd (omega arith)
each_from P n (k ∷ ks) s f kind l h =
    split (P kind) (eqb kind n)
    (λ e. rw (eqb-true kind n e) (here k s f))
    (λ e. let q = eqb-false kind n e in each_from P (suc n) ks later (behind k f) kind (omega arith) (omega arith))
  where
    here : (k : Kind) → Singles P n (k ∷ ks) → RowsFrom P n (k ∷ ks) → P n
    here (one size) s f = let z : n - n ≡ 0 = omega arith in s n (omega arith) (rw z refl)
    here (rows most fits keeps) s f = f.0

    behind : (k : Kind) → RowsFrom P n (k ∷ ks) → RowsFrom P (suc n) ks
    behind (one size) f = f
    behind (rows most fits keeps) f = f.1

    later : Singles P (suc n) ks
    later kind l e = let z : kind - n ≡ suc (kind - suc n) = omega arith in s kind (omega arith) (rw z e)

-- what holds of every single kind, and of each kind of rows of the table
pub by_kind : (P : ℕ → Type 0) → ((kind : ℕ) → is_single (kind_of kind) ≡ true → P kind) → RowsFrom P 1 kinds → (kind : ℕ) → 1 ≤ kind → kind ≤ last_of_kinds → P kind
by_kind P s f kind l h = each_from P 1 kinds (λ kind l e. s kind e) f kind l (omega arith)

-- a single kind is none of rows
pub not_rows : (kind K : ℕ) → is_single (kind_of kind) ≡ true → is_single (kind_of K) ≡ false → eqb kind K ≡ false
not_rows kind K s r = ne_eqb kind K (λ e. false≢true (sym r ∙ rw e at s))

-- ---- records of a kind, and the last kind

pub of_kind_append : (k : ℕ) (rs qs : List Record) → of_kind k (rs ++ qs) ≡ of_kind k rs ++ of_kind k qs
of_kind_append k [] qs = refl
of_kind_append k (r ∷ rs) qs = go (of_kind_append k rs qs) (eqb r.kind k)
  where
    go : of_kind k (rs ++ qs) ≡ of_kind k rs ++ of_kind k qs → (b : Bool)
        → cond b (r.body ∷ of_kind k (rs ++ qs)) (of_kind k (rs ++ qs)) ≡ cond b (r.body ∷ of_kind k rs) (of_kind k rs) ++ of_kind k qs
    go ih true = ap (λ (l : List (List ℕ)). r.body ∷ l) ih
    go ih false = ih

pub last_snoc : (k : ℕ) (rs : List Record) (r : Record) → last_from k (rs ++ r ∷ []) ≡ r.kind
last_snoc k [] r = refl
last_snoc k (y ∷ rs) r = last_snoc y.kind rs r

-- ---- a record more

module _ {A : Type 0} (kind : ℕ) (f : List ℕ → A) where
  last_or_snoc : (d : A) (xs : List A) (x : A) → last_or d (xs ++ x ∷ []) ≡ x
  last_or_snoc d [] x = refl
  last_or_snoc d (y ∷ xs) x = last_or_snoc y xs x

  pub rows_more : (rs : List Record) (r : Record) → map f (of_kind kind (rs ++ r ∷ [])) ≡ cond (eqb r.kind kind) (map f (of_kind kind rs) ++ f r.body ∷ []) (map f (of_kind kind rs))
  rows_more rs r = rw (of_kind_append kind rs (r ∷ [])) (go (eqb r.kind kind))
    where
      go : (b : Bool) → map f (of_kind kind rs ++ cond b (r.body ∷ []) []) ≡ cond b (map f (of_kind kind rs) ++ f r.body ∷ []) (map f (of_kind kind rs))
      go true = map-append f (of_kind kind rs) (r.body ∷ [])
      go false = rw (append-nil (of_kind kind rs))

  pub value_more : (d : A) (rs : List Record) (r : Record) → value_in kind f d (rs ++ r ∷ []) ≡ cond (eqb r.kind kind) (f r.body) (value_in kind f d rs)
  value_more d rs r = ap (last_or d) (rows_more rs r) ∙ go (eqb r.kind kind)
    where
      go : (b : Bool) → last_or d (cond b (map f (of_kind kind rs) ++ f r.body ∷ []) (map f (of_kind kind rs))) ≡ cond b (f r.body) (value_in kind f d rs)
      go true = last_or_snoc d (map f (of_kind kind rs)) (f r.body)
      go false = refl

module _ (rs : List Record) (r : Record) where
  pub more : tables_of_records (rs ++ r ∷ []) ≡ plus (tables_of_records rs) r.kind r.body
  unfolding tables_of_records
  more =
      rw (
        value_more 1 ground_in 0 rs r,
        value_more 1 fault_in 0 rs r,
        value_more 1 base_in 0 rs r,
        rows_more 2 route_in rs r,
        rows_more 3 protected_in rs r,
        rows_more 4 row_in rs r,
      )

  pub starts_more : starts_of_records (rs ++ r ∷ []) ≡ cond (eqb r.kind 4) (starts_of_records rs ++ start_in r.body ∷ []) (starts_of_records rs)
  unfolding starts_of_records
  starts_more = rows_more 4 start_in rs r

-- the ids of a kind of rows
pub ids_more : (kind : ℕ) (rs : List Record) (r : Record) → is_single (kind_of kind) ≡ false
    → ids_in kind (rs ++ r ∷ []) ≡ cond (eqb r.kind kind) (ids_in kind rs ++ row_id r.body ∷ []) (ids_in kind rs)
ids_more kind rs r e = rw e (rows_more kind row_id rs r)

-- a start state for each row
pub starts_count : (rs : List Record) → length (starts_of_records rs) ≡ length (tables_of_records rs).rows
unfolding starts_of_records tables_of_records
starts_count rs = simp length-map

-- ---- the ids of rows are those of the tables

map_then : {A B C : Type 0} (g : B → C) (f : A → B) (xs : List A) → map g (map f xs) ≡ map (λ x. g (f x)) xs
map_then g f [] = refl
map_then {C = C} g f (x ∷ xs) = ap (λ (l : List C). g (f x) ∷ l) (map_then g f xs)

module _ (rs : List Record) where
  pub route_ids : ids_in 2 rs ≡ routed (tables_of_records rs)
  unfolding tables_of_records
  route_ids = rw (map_then route_id route_in (of_kind 2 rs))

  pub protected_ids : ids_in 3 rs ≡ (tables_of_records rs).protected
  unfolding tables_of_records
  protected_ids = refl

  pub fault_ids : ids_in 4 rs ≡ map fault_id (tables_of_records rs).rows
  unfolding tables_of_records
  fault_ids = rw (map_then fault_id row_in (of_kind 4 rs))
