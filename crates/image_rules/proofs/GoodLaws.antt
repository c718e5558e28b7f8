-- From each to all: records of which each is good behind those before it are in order, and their tables and start states keep
-- the rules.
use Rattle.std.specs.Prelude.{◌≡◌, refl, ◌⊎◌, true, cond, ℕ, suc, ◌≤◌, eqb}
use Rattle.std.proofs.Common.{◌∙◌, inl, inr, arith, length-append, ne_eqb, eqb-true}
use mathlib.Core.List.Memᴰ
use mathlib.Core.List.{List, [], ◌∷◌, ◌++◌, map, map-append, append-nil, append_assoc, Memᴰ}
use Rattle.std.proofs.lemmas.List.{length-map}
use Rattle.state.specs.Settings.{SettingsOk}
use Rattle.state.specs.Tables.{Route, FaultRow, Tables, route_id, fault_id, routed}
use Rattle.state.specs.Rules.{floor_from}
use Rattle.state.specs.Keeps.{Own, RouteOk, ProtectedOk, RowOk, Rising, Each, Rules}
use Rattle.state.specs.KeepsLaws.{Few}
use Rattle.state.proofs.KeepsLaws.{split}
use Rattle.state.proofs.ArrayLaws.{each_map, rules_few}
use Rattle.image_rules.specs.Records.{Record}
use Rattle.image_rules.specs.Written.{row_id, route_in, protected_in, row_in, start_in, tables_of_records, starts_of_records, plus}
use Rattle.image_rules.specs.Kinds.{is_single, sized, rule, basics, last_of_kinds, kind_of, ids_in}
use Rattle.image_rules.proofs.KindRules.{single_says, route_says, protected_says, row_says}
use Rattle.image_rules.specs.Checks.{last_kind}
use Rattle.image_rules.proofs.RecordLaws.{by_kind, not_rows, last_snoc, more, starts_more, ids_more, route_ids, protected_ids, fault_ids}
use Rattle.image_rules.specs.RecordOutcome.{Follows, Order, begins, goes_on, GoodAfter, AllGood}
use Rattle.image_rules.specs.Good.{GoodRecord, Ascending, InOrder, basics_first}
use Rattle.image_rules.specs.GoodLaws.{Listed}

-- ---- the order of kinds

module _ {before : List Record} {r : Record} (g : GoodAfter before r) where
  good_record : GoodRecord r
  good_record =
      let s = g.rest.shaped in
      record { whole = g.whole; kind_low = s.kind_low; kind_high = s.kind_high; fits = s.fits }

  first_kind : last_kind before ≡ 0 → r.kind ≡ 1
  first_kind z = go g.rest.shaped.order
    where
      go : Order (is_single (kind_of r.kind)) (last_kind before) r.kind → r.kind ≡ 1
      go (begins z₁ k) = k
      go (goes_on h f) = absurd (h z)

  later_kind : (last_kind before ≡ 0 → ⊥) → Follows (is_single (kind_of r.kind)) (last_kind before) r.kind
  later_kind h = go g.rest.shaped.order
    where
      go : Order (is_single (kind_of r.kind)) (last_kind before) r.kind → Follows (is_single (kind_of r.kind)) (last_kind before) r.kind
      go (begins z k) = absurd (h z)
      go (goes_on z f) = f

  -- only the first record is of kind 1
  later_not_1 : (last_kind before ≡ 0 → ⊥) → r.kind ≡ 1 → ⊥
  later_not_1 h k =
      let f = rw k at (later_kind h) in
      f.no_second refl (omega (arith, h, f.never_falls))

  next_not_0 : last_kind (before ++ r ∷ []) ≡ 0 → ⊥
  next_not_0 z = omega (arith, last_snoc 0 before r, g.rest.shaped.kind_low)

pub all_records : (before rs : List Record) → AllGood before rs → Each GoodRecord rs
all_records before [] a = tt
all_records before (r ∷ rs) a = (good_record a.0, all_records (before ++ r ∷ []) rs a.1)

ascending : (before rs : List Record) → (last_kind before ≡ 0 → ⊥) → AllGood before rs → Ascending (last_kind before) rs
ascending before [] h a = tt
ascending before (r ∷ rs) h a =
    (later_kind a.0 h, rw (last_snoc 0 before r) at (ascending (before ++ r ∷ []) rs (next_not_0 a.0) a.1))

rising_snoc : (low : ℕ) (xs : List ℕ) (x : ℕ) → Rising low xs → floor_from low xs ≤ x → Rising low (xs ++ x ∷ [])
rising_snoc low [] x h l = (l, tt)
rising_snoc low (y ∷ xs) x h l = (h.0, rising_snoc (suc y) xs x h.1 l)

module _ (kind : ℕ) where
  none_listed : Listed kind []
  none_listed =
      split (Listed kind []) (is_single (kind_of kind))
      (λ e. record { rise = rw e tt; few = rw e (omega arith) })
      (λ e. record { rise = rw e tt; few = rw e (omega arith) })

  listed_more : (before : List Record) (r : Record) → Listed kind before → GoodAfter before r → Listed kind (before ++ r ∷ [])
  listed_more before r h g =
      split (Listed kind (before ++ r ∷ [])) (is_single (kind_of kind))
      (λ e. record { rise = rw e tt; few = rw e (omega arith) })
      (λ e. split (Listed kind (before ++ r ∷ [])) (eqb r.kind kind)
      (λ q. let k = eqb-true r.kind kind q in
      let m : ids_in kind (before ++ r ∷ []) ≡ ids_in kind before ++ row_id r.body ∷ [] = ids_more kind before r e ∙ rw q in
      let room = rw k at g.rest.room in
      record {
        rise = rw m (rising_snoc 0 (ids_in kind before) (row_id r.body) h.rise (rw k at g.rest.above));
        few = rw m (simp length-append (omega arith));
      })
      (λ q. let m : ids_in kind (before ++ r ∷ []) ≡ ids_in kind before = ids_more kind before r e ∙ rw q in
      record { rise = rw m h.rise; few = rw m h.few }))

  all_listed_on : (before rs : List Record) → Listed kind before → AllGood before rs → Listed kind (before ++ rs)
  all_listed_on before [] h a = rw (append-nil before) h
  all_listed_on before (r ∷ rs) h a =
      rw (← append_assoc before (r ∷ []) rs) (all_listed_on (before ++ r ∷ []) rs (listed_more before r h a.0) a.1)

  pub all_listed : (rs : List Record) → AllGood [] rs → Listed kind rs
  all_listed rs a = all_listed_on [] rs none_listed a

-- ---- the other rules

-- each row by itself, with the base and the routes
record RowsKept (base : ℕ) (routes : List Route) (protected : List ℕ) (rows : List FaultRow) : Type 0 where
  routes_ok : Each (RouteOk base) routes
  protected_is_ok : Each (ProtectedOk base (map route_id routes)) protected
  rows_ok : Each (RowOk (map route_id routes)) rows

abbrev KeptBy : Tables → Type 0
KeptBy t = SettingsOk t.settings × RowsKept t.settings.base t.routes t.protected t.rows

pub each_snoc : {A : Type 0} (P : A → Type 0) (xs : List A) (x : A) → Each P xs → P x → Each P (xs ++ x ∷ [])
each_snoc P [] x h p = (p, tt)
each_snoc P (y ∷ xs) x h p = (h.0, each_snoc P xs x h.1 p)

-- an id that is routed stays so
more_protected : {base : ℕ} {ids : List ℕ} (js : List ℕ) (id : ℕ) → ProtectedOk base ids id → ProtectedOk base (ids ++ js) id
more_protected {base} {ids} js id k = record { known = go k.known; not_arm = k.not_arm }
  where
    go : Memᴰ id ids ⊎ Own base id → Memᴰ id (ids ++ js) ⊎ Own base id
    go (inl m) = inl (Memᴰ.append_left js m)
    go (inr o) = inr o

more_row : {ids : List ℕ} (js : List ℕ) (r : FaultRow) → RowOk ids r → RowOk (ids ++ js) r
more_row js r k =
    record { response_routed = Memᴰ.append_left js k.response_routed; latching_0_1 = k.latching_0_1; few_args = k.few_args }

-- a record more, by its kind
module _ (t : Tables) (b : List ℕ) (kept : KeptBy t) where
  abbrev k : RowsKept t.settings.base t.routes t.protected t.rows
  k = kept.1

  route_more : RouteOk t.settings.base (route_in b) → KeptBy (plus t 2 b)
  route_more ok =
      let more = map-append route_id t.routes in (
        kept.0,
        record {
          routes_ok = each_snoc (RouteOk t.settings.base) t.routes (route_in b) k.routes_ok ok;
          protected_is_ok = rw more (each_map (more_protected (row_id b ∷ [])) t.protected k.protected_is_ok);
          rows_ok = rw more (each_map (more_row (row_id b ∷ [])) t.rows k.rows_ok);
        },
      )

  protected_more : ProtectedOk t.settings.base (routed t) (protected_in b) → KeptBy (plus t 3 b)
  protected_more ok = (
    kept.0,
    record {
      routes_ok = k.routes_ok;
      protected_is_ok = each_snoc (ProtectedOk t.settings.base (routed t)) t.protected (protected_in b) k.protected_is_ok ok;
      rows_ok = k.rows_ok;
    },
  )

  row_more : RowOk (routed t) (row_in b) → KeptBy (plus t 4 b)
  row_more ok = (
    kept.0,
    record {
      routes_ok = k.routes_ok;
      protected_is_ok = k.protected_is_ok;
      rows_ok = each_snoc (RowOk (routed t)) t.rows (row_in b) k.rows_ok ok;
    },
  )

  -- that such a record keeps the rules too
  abbrev Keeps : ℕ → Type 0
  Keeps kind = (kind ≡ 1 → ⊥) → sized (kind_of kind) b ≡ true → rule (kind_of kind) kind t b ≡ true → KeptBy (plus t kind b)

  -- of a single kind, behind the first record: no rows, and not own base
  single_more : (kind : ℕ) → is_single (kind_of kind) ≡ true → Keeps kind
  single_more kind s n f e = (
    single_says (kind_of kind) kind t b s e,
    rw (ne_eqb kind 1 n, not_rows kind 2 s refl, not_rows kind 3 s refl, not_rows kind 4 s refl) k,
  )

  kept_more : (kind : ℕ) → 1 ≤ kind → kind ≤ last_of_kinds → Keeps kind
  kept_more =
      by_kind Keeps single_more
      (λ n f e. route_more (route_says t b e), (λ n f e. protected_more (protected_says t b e), (λ n f e. row_more (row_says t b f e).0, tt)))

all_kept : (before rs : List Record) → (last_kind before ≡ 0 → ⊥) → KeptBy (tables_of_records before) → AllGood before rs → KeptBy (tables_of_records (before ++ rs))
all_kept before [] h k a = rw (append-nil before) k
all_kept before (r ∷ rs) h k a =
    let f = a.0.rest in
    let s = f.shaped in
    rw (← append_assoc before (r ∷ []) rs)
    (all_kept (before ++ r ∷ []) rs (next_not_0 a.0)
    (rw (more before r) (kept_more (tables_of_records before) r.body k r.kind s.kind_low s.kind_high (later_not_1 a.0 h) s.fits f.kept))
    a.1)

-- the first record writes the basics
first_kept : (r : Record) → GoodAfter [] r → KeptBy (tables_of_records (r ∷ []))
unfolding tables_of_records
first_kept r g =
    let k = first_kind g refl in
    simp k (single_says basics 1 (tables_of_records []) r.body refl (rw k at g.rest.kept), record { routes_ok = tt; protected_is_ok = tt; rows_ok = tt })

all_starts : (before rs : List Record) → Each (λ s. s ≤ 1) (starts_of_records before) → AllGood before rs → Each (λ s. s ≤ 1) (starts_of_records (before ++ rs))
all_starts before [] s a = rw (append-nil before) s
all_starts before (r ∷ rs) s a =
    rw (← append_assoc before (r ∷ []) rs)
    (all_starts (before ++ r ∷ []) rs
    (rw (starts_more before r)
    (split (Each (λ s. s ≤ 1) (cond (eqb r.kind 4) (starts_of_records before ++ start_in r.body ∷ []) (starts_of_records before))) (eqb r.kind 4)
    (λ e. let k = eqb-true r.kind 4 e in
    let f = a.0.rest in
    rw e (each_snoc (λ s. s ≤ 1) (starts_of_records before) (start_in r.body) s (row_says (tables_of_records before) r.body (rw k at f.shaped.fits) (rw k at f.kept)).1))
    (λ e. rw e s)))
    a.1)

-- ---- all records of an image

pub all_in_order : (rs : List Record) → (rs ≡ [] → ⊥) → AllGood [] rs → InOrder rs
all_in_order [] h a = absurd (h refl)
all_in_order (r ∷ rs) h a =
    let k = first_kind a.0 refl in
    basics_first r rs k (rw k at (ascending (r ∷ []) rs (λ z. omega arith) a.1))

pub all_tables : (rs : List Record) → (rs ≡ [] → ⊥) → AllGood [] rs → Rules (tables_of_records rs)
all_tables [] h a = absurd (h refl)
all_tables (r ∷ rs) h a =
    let k = first_kind a.0 refl in
    let kept = all_kept (r ∷ []) rs (λ z. omega arith) (first_kept r a.0) a.1 in
    let t = tables_of_records (r ∷ rs) in
    let routes = all_listed 2 (r ∷ rs) a in
    let protected = all_listed 3 (r ∷ rs) a in
    let faults = all_listed 4 (r ∷ rs) a in
    record {
      settings_are_ok = kept.0;
      few_routes = rw (route_ids (r ∷ rs), length-map t.routes route_id) at routes.few;
      routes_rise = rw (route_ids (r ∷ rs)) at routes.rise;
      routes_ok = kept.1.routes_ok;
      few_protected = rw (protected_ids (r ∷ rs)) at protected.few;
      protected_rise = rw (protected_ids (r ∷ rs)) at protected.rise;
      protected_is_ok = kept.1.protected_is_ok;
      few_rows = rw (fault_ids (r ∷ rs), length-map t.rows fault_id) at faults.few;
      rows_rise = rw (fault_ids (r ∷ rs)) at faults.rise;
      rows_ok = kept.1.rows_ok;
    }

-- so the tables fit their arrays
pub all_few : (rs : List Record) → AllGood [] rs → Few (tables_of_records rs)
unfolding tables_of_records
all_few [] a = record { few_routes = omega arith; few_protected = omega arith; few_rows = omega arith; few_args = tt }
all_few (r ∷ rs) a = rules_few (all_tables (r ∷ rs) (λ e. let z : ◌≡◌ {A = ℕ} 0 1 = cc e in omega arith) a)

-- and one more may follow
pub all_good_more : (before rs : List Record) (r : Record) → AllGood before rs → GoodAfter (before ++ rs) r → AllGood before (rs ++ r ∷ [])
all_good_more before [] r a g = (rw (append-nil before) at g, tt)
all_good_more before (q ∷ rs) r a g = (a.0, all_good_more (before ++ q ∷ []) rs r a.1 (rw (append_assoc before (q ∷ []) rs) g))

pub all_start : (rs : List Record) → AllGood [] rs → Each (λ s. s ≤ 1) (starts_of_records rs)
unfolding starts_of_records
all_start rs a = all_starts [] rs tt a
