-- From all to each: where records are in order and their tables and start states keep the rules, each record is good behind those
-- before it. Kinds never fall, so all routes stand before any record that asks for a routed id.
use Rattle.std.specs.Prelude.{◌≡◌, refl, true, false, List, [], ◌∷◌, ◌++◌, map, ℕ, suc, ◌≤◌, ◌<◌, leb, eqb, length}
use Rattle.std.proofs.Common.{sym, ap, ◌∙◌, append-nil, append_assoc, arith, length-append}
use Rattle.std.proofs.lemmas.List.{map-append, length-map}
use borrow.Author.Tests.{eq-eqb, ne_eqb, leb-true, leb-false, eqb-true, eqb-false}
use Rattle.state.specs.Settings.{SettingsOk}
use Rattle.state.specs.Tables.{Tables, route_id, fault_id, routed}
use Rattle.state.specs.Rules.{floor_from, floor}
use Rattle.state.specs.Keeps.{RouteOk, ProtectedOk, RowOk, Rising, Each, Rules}
use Rattle.state.proofs.KeepsLaws.{split}
use Rattle.image_rules.specs.Records.{Record}
use Rattle.image_rules.specs.Written.{of_kind, last_or, value_in, base_in, settings_of_records, row_id, route_in, protected_in, row_in, start_in, tables_of_records, starts_of_records}
use Rattle.image_rules.specs.Kinds.{is_single, limit, rule, last_of_kinds, kind_of, ids_in}
use Rattle.image_rules.proofs.KindRules.{single_limit, says_single, says_route, says_protected, says_row}
use Rattle.image_rules.specs.Checks.{last_kind}
use Rattle.image_rules.proofs.RecordLaws.{by_kind, of_kind_append, last_snoc, more, route_ids, protected_ids, fault_ids}
use Rattle.image_rules.specs.RecordOutcome.{Follows, begins, goes_on, GoodAfter, AllGood}
use Rattle.image_rules.specs.Good.{GoodRecord, Ascending, InOrder, basics_first}
use Rattle.image_rules.specs.GoodLaws.{Listed}

-- ---- what stands in the middle of a table

rising_middle : (low : ℕ) (xs : List ℕ) (x : ℕ) (ys : List ℕ) → Rising low (xs ++ x ∷ ys) → floor_from low xs ≤ x
rising_middle low [] x ys h = h.0
rising_middle low (y ∷ xs) x ys h = rising_middle (suc y) xs x ys h.1

each_middle : {A : Type 0} (P : A → Type 0) (xs : List A) (x : A) (ys : List A) → Each P (xs ++ x ∷ ys) → P x
each_middle P [] x ys h = h.0
each_middle P (y ∷ xs) x ys h = each_middle P xs x ys h.1

-- tables that keep the rules: of each kind, the ids rise and there are not too many
listed_of : (rs : List Record) → Rules (tables_of_records rs) → (kind : ℕ) → 1 ≤ kind → kind ≤ last_of_kinds → Listed kind rs
listed_of rs rules =
    let t = tables_of_records rs in
    by_kind (λ kind. Listed kind rs) (λ kind e. record { rise = rw e tt; few = rw e (omega arith) }) (
      record { rise = rw (route_ids rs) rules.routes_rise; few = rw (route_ids rs, length-map t.routes route_id) rules.few_routes },
      (
        record { rise = rw (protected_ids rs) rules.protected_rise; few = rw (protected_ids rs) rules.few_protected },
        (record { rise = rw (fault_ids rs) rules.rows_rise; few = rw (fault_ids rs, length-map t.rows fault_id) rules.few_rows }, tt),
      ),
    )

-- ---- the tables of the records before, and of all

-- no record of a kind stands behind one of a higher kind
none_of : (k last : ℕ) (rs : List Record) → k < last → Ascending last rs → of_kind k rs ≡ []
none_of k last [] l a = refl
none_of k last (r ∷ rs) l a =
    let f = a.0.never_falls in
    simp (ne_eqb r.kind k (λ e. omega arith)) (none_of k r.kind rs (omega arith) a.1)

-- behind a record there is no other of kind 1
later_2 : {last kind : ℕ} → Follows (is_single (kind_of kind)) last kind → 1 ≤ last → 2 ≤ kind
later_2 {last} {kind} f l =
    split (2 ≤ kind) (eqb kind 1)
    (λ e. let k = eqb-true kind 1 e in let q = rw k at f in absurd (q.no_second refl (omega (arith, q.never_falls))))
    (λ e. let n = eqb-false kind 1 e in omega (arith, f.never_falls))

-- and no second of a single kind
pub none_second : (k : ℕ) → is_single (kind_of k) ≡ true → (rs : List Record) → Ascending k rs → of_kind k rs ≡ []
none_second k s [] a = refl
none_second k s (r ∷ rs) a =
    let other : r.kind ≡ k → ⊥ = λ e. a.0.no_second (rw e s) (sym e) in
    simp (ne_eqb r.kind k other) (none_of k r.kind rs (omega (arith, a.0.never_falls, other)) a.1)

module _ (before : List Record) (r : Record) (rs : List Record) where
  abbrev t : Tables
  t = tables_of_records before

  abbrev all : List Record
  all = before ++ r ∷ rs

  split_kind : (k : ℕ) → r.kind ≡ k → of_kind k all ≡ of_kind k before ++ r.body ∷ of_kind k rs
  split_kind k e = of_kind_append k before (r ∷ rs) ∙ simp (eq-eqb _ _ e)

  routes_split : r.kind ≡ 2 → (tables_of_records all).routes ≡ t.routes ++ route_in r.body ∷ map route_in (of_kind 2 rs)
  unfolding tables_of_records
  routes_split k = rw (split_kind 2 k) (map-append route_in (of_kind 2 before) (r.body ∷ of_kind 2 rs))

  protected_split : r.kind ≡ 3 → (tables_of_records all).protected ≡ t.protected ++ protected_in r.body ∷ map protected_in (of_kind 3 rs)
  unfolding tables_of_records
  protected_split k = rw (split_kind 3 k) (map-append protected_in (of_kind 3 before) (r.body ∷ of_kind 3 rs))

  rows_split : r.kind ≡ 4 → (tables_of_records all).rows ≡ t.rows ++ row_in r.body ∷ map row_in (of_kind 4 rs)
  unfolding tables_of_records
  rows_split k = rw (split_kind 4 k) (map-append row_in (of_kind 4 before) (r.body ∷ of_kind 4 rs))

  starts_split : r.kind ≡ 4 → starts_of_records all ≡ starts_of_records before ++ start_in r.body ∷ map start_in (of_kind 4 rs)
  unfolding starts_of_records
  starts_split k = rw (split_kind 4 k) (map-append start_in (of_kind 4 before) (r.body ∷ of_kind 4 rs))

  ids_split : is_single (kind_of r.kind) ≡ false → ids_in r.kind all ≡ ids_in r.kind before ++ row_id r.body ∷ map row_id (of_kind r.kind rs)
  ids_split e = rw e (rw (split_kind r.kind refl) (map-append row_id (of_kind r.kind before) (r.body ∷ of_kind r.kind rs)))

  -- ---- of the rows of its kind

  above : Listed r.kind all → floor (ids_in r.kind before) ≤ row_id r.body
  above h =
      split (floor (ids_in r.kind before) ≤ row_id r.body) (is_single (kind_of r.kind))
      (λ e. rw e (omega arith))
      (λ e. rising_middle 0 (ids_in r.kind before) _ _ (rw (ids_split e) at h.rise))

  room : GoodRecord r → Listed r.kind all → length (ids_in r.kind before) < limit (kind_of r.kind)
  room g h =
      split (length (ids_in r.kind before) < limit (kind_of r.kind)) (is_single (kind_of r.kind))
      (λ e. rw (e, single_limit (kind_of r.kind) e) (omega arith))
      (λ e. omega (arith, h.few, simp length-append at (ap length (ids_split e))))

  -- ---- the settings: what records of a single kind set up to this record is what they set in all, or the default

  module _ (low : 1 ≤ r.kind) (none_above : (k : ℕ) → r.kind < k → of_kind k before ≡ []) (climbs : Ascending r.kind rs) where
    none_behind : (k : ℕ) → is_single (kind_of k) ≡ true → k ≤ r.kind → of_kind k rs ≡ []
    none_behind k s l =
        split (of_kind k rs ≡ []) (eqb r.kind k)
        (λ e. none_second k s rs (rw (eqb-true r.kind k e) at climbs))
        (λ e. let n = eqb-false r.kind k e in none_of k r.kind rs (omega arith) climbs)

    module _ (k : ℕ) (s : is_single (kind_of k) ≡ true) where
      all_before : k ≤ r.kind → of_kind k all ≡ of_kind k (before ++ r ∷ [])
      all_before l = of_kind_append k before (r ∷ rs) ∙ rw (none_behind k s l, of_kind_append k before (r ∷ []))

      none_before : r.kind < k → of_kind k (before ++ r ∷ []) ≡ []
      none_before l = simp (of_kind_append k before (r ∷ []), none_above k l, ne_eqb r.kind k (λ e. omega arith))

      -- so what holds of no record and of all of its kind holds up to here
      bodies_keep : (P : List (List ℕ) → Type 0) → P [] → P (of_kind k all) → P (of_kind k (before ++ r ∷ []))
      bodies_keep P none some =
          split (P (of_kind k (before ++ r ∷ []))) (leb k r.kind)
          (λ e. rw (all_before (leb-true k r.kind e)) at some)
          (λ e. rw (none_before (leb-false k r.kind e)) none)

      set_keeps : (f : List ℕ → ℕ) (d : ℕ) (P : ℕ → Type 0) → P d → P (value_in k f d all) → P (value_in k f d (before ++ r ∷ []))
      set_keeps f d P default set = bodies_keep (λ bs. P (last_or d (map f bs))) default set

    settings_upto : SettingsOk (settings_of_records all) → SettingsOk (settings_of_records (before ++ r ∷ []))
    settings_upto ok =
        record {
          sources_differ = rw (all_before 1 refl low) at ok.sources_differ;
          base_fits = set_keeps 1 refl base_in 0 (λ v. v ≤ 65528) (omega arith) ok.base_fits;
        }

    single_kept : is_single (kind_of r.kind) ≡ true → SettingsOk (tables_of_records all).settings → rule (kind_of r.kind) r.kind t r.body ≡ true
    unfolding tables_of_records
    single_kept s ok = says_single (kind_of r.kind) r.kind t r.body s (rw (ap (λ (u : Tables). u.settings) (more before r)) at (settings_upto ok))

  -- ---- the rules of all, at this record
  module _ (rules : Rules (tables_of_records all)) (starts : Each (λ s. s ≤ 1) (starts_of_records all)) (from_2 : 2 ≤ r.kind) (none_above : (k : ℕ) → r.kind < k → of_kind k before ≡ []) (climbs : Ascending r.kind rs) where
    base_is : (tables_of_records all).settings.base ≡ t.settings.base
    unfolding tables_of_records
    base_is = simp (of_kind_append, ne_eqb r.kind 1 (λ e. omega arith), none_of 1 r.kind rs (omega arith) climbs, append-nil)

    routes_are : 3 ≤ r.kind → (tables_of_records all).routes ≡ t.routes
    unfolding tables_of_records
    routes_are l = simp (of_kind_append, ne_eqb r.kind 2 (λ e. omega arith), none_of 2 r.kind rs (omega arith) climbs, append-nil)

    route_is_ok : r.kind ≡ 2 → RouteOk t.settings.base (route_in r.body)
    route_is_ok k = rw base_is at (each_middle (RouteOk (tables_of_records all).settings.base) t.routes _ _ (rw (routes_split k) at rules.routes_ok))

    protected_is_ok : r.kind ≡ 3 → ProtectedOk t.settings.base (routed t) (protected_in r.body)
    protected_is_ok k =
        let p =
        each_middle (ProtectedOk (tables_of_records all).settings.base (routed (tables_of_records all))) t.protected _ _
        (rw (protected_split k) at rules.protected_is_ok) in
        rw (base_is, routes_are (omega arith)) at p

    row_is_ok : r.kind ≡ 4 → RowOk (routed t) (row_in r.body)
    row_is_ok k =
        rw (routes_are (omega arith)) at (each_middle (RowOk (routed (tables_of_records all))) t.rows _ _ (rw (rows_split k) at rules.rows_ok))

    start_is_ok : r.kind ≡ 4 → start_in r.body ≤ 1
    start_is_ok k = each_middle (λ s. s ≤ 1) (starts_of_records before) _ _ (rw (starts_split k) at starts)

    kept : GoodRecord r → rule (kind_of r.kind) r.kind t r.body ≡ true
    kept g =
        by_kind (λ k. r.kind ≡ k → rule (kind_of k) k t r.body ≡ true)
        (λ k s e. rw (← e) (single_kept g.kind_low none_above climbs (rw e s) rules.settings_are_ok)) (
          λ k. says_route t r.body (route_is_ok k),
          (
            λ k. says_protected t r.body (protected_is_ok k),
            (λ k. says_row t r.body (row_is_ok k) (start_is_ok k), tt),
          ),
        )
        r.kind g.kind_low g.kind_high refl

    -- so a record behind the first is good
    later_good : (last_kind before ≡ 0 → ⊥) → Follows (is_single (kind_of r.kind)) (last_kind before) r.kind → GoodRecord r → GoodAfter before r
    later_good h f g =
        let listed = listed_of all rules r.kind g.kind_low g.kind_high in
        record {
          whole = g.whole;
          rest =
              record {
                shaped = record { kind_low = g.kind_low; kind_high = g.kind_high; fits = g.fits; order = goes_on h f };
                above = above listed;
                room = room g listed;
                kept = kept g;
              };
        }

later_all : (before rs : List Record) → 1 ≤ last_kind before → ((k : ℕ) → last_kind before < k → of_kind k before ≡ []) → Ascending (last_kind before) rs
    → Each GoodRecord rs → Rules (tables_of_records (before ++ rs)) → Each (λ s. s ≤ 1) (starts_of_records (before ++ rs)) → AllGood before rs
later_all before [] l n a g rules starts = tt
later_all before (r ∷ rs) l n a g rules starts =
    let e = last_snoc 0 before r in
    let p = append_assoc before (r ∷ []) rs in
    let f = a.0 in
    let from_2 : 2 ≤ r.kind = later_2 f l in
    let above : (k : ℕ) → r.kind < k → of_kind k before ≡ [] = λ k h. n k (omega (arith, f.never_falls)) in (
      later_good before r rs rules starts from_2 above a.1 (λ z. omega arith) f g.0,
      later_all (before ++ r ∷ []) rs (rw e (omega arith))
          (λ k h. simp (of_kind_append k before (r ∷ []), above k (rw e at h), ne_eqb r.kind k (λ q. omega arith)))
          (rw e a.1) g.1 (rw p rules) (rw p starts),
    )

first_good : (r : Record) (rs : List Record) → r.kind ≡ 1 → Ascending 1 rs → GoodRecord r → Rules (tables_of_records (r ∷ rs)) → GoodAfter [] r
first_good r rs k a g rules =
    record {
      whole = g.whole;
      rest =
          record {
            shaped = record { kind_low = g.kind_low; kind_high = g.kind_high; fits = g.fits; order = begins refl k };
            above = rw k (omega arith);
            room = rw k (omega arith);
            kept = single_kept [] r rs g.kind_low (λ k h. refl) (rw k a) (rw k refl) rules.settings_are_ok;
          };
    }

pub each_good : (rs : List Record) → InOrder rs → Each GoodRecord rs → Rules (tables_of_records rs) → Each (λ s. s ≤ 1) (starts_of_records rs) → AllGood [] rs
each_good rs₀ (basics_first r rs k a) g rules starts =
    (first_good r rs k a g.0 rules, later_all (r ∷ []) rs (rw k (omega arith)) (λ j h. simp (ne_eqb r.kind j (λ e. omega arith))) (rw k a) g.1 rules starts)
