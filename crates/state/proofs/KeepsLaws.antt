-- The computed test of `Test` is the declared record of `Keeps`, in both directions, rule by rule and whole: a law `..kept`
-- goes from the record to the test, and its partner `..keeps` back.
use Rattle.std.specs.Prelude.{◌≡◌, refl, Bool, false, not, ◌&&◌, ◌⊎◌, ℕ, zero, suc, ◌+◌, ◌≤◌, ◌<◌, leb, length, get_or, take, drop}
use Rattle.std.proofs.Common.{sym, ◌∙◌, arith, length-take}
use Rattle.std.proofs.Math.Bool.{true, or-true, false≢true}
use Rattle.std.proofs.Math.Logic.{inl, inr}
use mathlib.Core.List.{List, [], ◌∷◌, map, map-id, Memᴰ}
use Rattle.std.proofs.Math.Dec.{eqb}
use borrow.Author.Tests.{le-leb, eq-eqb, ne_eqb, leb-true, eqb-true, eqb-false, not-true}
use Rattle.state.specs.declared.types.Config.{Config}
use Rattle.state.specs.declared.types.Counts.{Counts}
use Rattle.state.specs.declared.types.Run.{Run}
use Rattle.state.proofs.Settings.{both}
use Rattle.state.specs.Settings.{settings_ok}
use Rattle.state.proofs.Settings.{settings_kept, settings_keeps}
use Rattle.state.specs.Tables.{Route, FaultRow, Tables, route_id, fault_id, routed, listed, route_at, row_at, tables_of, run_counted}
use Rattle.state.specs.Rules.{own, member, route_ok, protected_ok, row_ok}
use Rattle.state.specs.Keeps.{Own, RouteOk, ProtectedOk, RowOk, Rising, Each, Rules, AllZero, ArgsZero, Unused, ArmOk, StateOk, StatesOk, RunOk, Keeps}
use Rattle.state.specs.Test.{rising_all, all_zero, args_zero, route_passes, protected_passes, row_passes, routes_kept, protected_kept, rows_kept, rules_kept, counted, unused_zero, config_kept, arm_ok, state_ok, states_ok, run_kept, keeps_rules}
use Rattle.state.specs.KeepsLaws.{Few}

-- ---- tests

pub split : (A : Type 0) (b : Bool) → (b ≡ true → A) → (b ≡ false → A) → A
split A true f g = f refl
split A false f g = g refl

-- ---- own ids and members

module _ {base id : ℕ} where
  pub own_kept : Own base id → own base id ≡ true
  unfolding own
  own_kept (p, q) = simp (le-leb _ _ p, le-leb _ _ q)

  pub own_keeps : own base id ≡ true → Own base id
  unfolding own
  own_keeps e = let p = both (leb base id) _ e in (leb-true _ _ p.0, leb-true _ _ p.1)

  pub not_own : (Own base id → ⊥) → own base id ≡ false
  not_own h = split (own base id ≡ false) (own base id) (λ e. absurd (h (own_keeps e))) (λ e. e)

  pub own_not : own base id ≡ false → Own base id → ⊥
  own_not e o = false≢true (sym e ∙ own_kept o)

pub member_kept : {x : ℕ} {ys : List ℕ} → Memᴰ x ys → member x ys ≡ true
member_kept {x} {ys = []} m = elim m [ ]
member_kept {x} {ys = y ∷ ys} (Memᴰ.head e) = simp (eq-eqb _ _ e)
member_kept {x} {ys = y ∷ ys} (Memᴰ.tail m) = split (member x (y ∷ ys) ≡ true) (eqb x y) (λ p. simp p) (λ p. simp (p, member_kept m))

pub member_keeps : {x : ℕ} {ys : List ℕ} → member x ys ≡ true → Memᴰ x ys
member_keeps {x} {ys = []} e = absurd (false≢true e)
member_keeps {x} {ys = y ∷ ys} e =
    split (Memᴰ x (y ∷ ys)) (eqb x y) (λ p. Memᴰ.head (eqb-true _ _ p)) (λ p. Memᴰ.tail (member_keeps (simp p at e)))

-- ---- rows

module _ {base : ℕ} {r : Route} where
  pub route_kept : RouteOk base r → route_passes base r ≡ true
  unfolding route_ok
  route_kept k = simp (le-leb 1 r.dest k.dest_low, le-leb r.dest 31 k.dest_high, not_own k.not_own)

  pub route_keeps : route_passes base r ≡ true → RouteOk base r
  unfolding route_ok
  route_keeps e =
      let a = both (leb 1 r.dest) _ e in
      let b = both (leb r.dest 31) _ a.1 in
      record { dest_low = leb-true _ _ a.0; dest_high = leb-true _ _ b.0; not_own = own_not (not-true (own base r.id) b.1) }

module _ {base : ℕ} {ids : List ℕ} {id : ℕ} where
  pub protected_kept_lem : ProtectedOk base ids id → protected_passes base ids id ≡ true
  unfolding protected_ok
  protected_kept_lem k = go k.known
    where
      go : Memᴰ id ids ⊎ Own base id → protected_passes base ids id ≡ true
      go (inl m) = simp (ne_eqb _ _ k.not_arm, member_kept m)
      go (inr o) = simp (ne_eqb _ _ k.not_arm, own_kept o, or-true)

  pub protected_keeps : protected_passes base ids id ≡ true → ProtectedOk base ids id
  unfolding protected_ok
  protected_keeps e =
      let a = both (not (eqb id base)) _ e in
      record {
        known = split (Memᴰ id ids ⊎ Own base id) (member id ids) (λ m. inl (member_keeps m)) (λ m. inr (own_keeps (simp m at a.1)));
        not_arm = eqb-false _ _ (not-true (eqb id base) a.0);
      }

-- the test of a row leaves the number of its arguments to `args_zero`
module _ {ids : List ℕ} {r : FaultRow} where
  pub row_kept : RowOk ids r → row_passes ids r ≡ true
  unfolding row_ok
  row_kept k = simp (member_kept k.response_routed, le-leb r.latching 1 k.latching_0_1)

  pub row_keeps : row_passes ids r ≡ true → length r.args ≤ 16 → RowOk ids r
  unfolding row_ok
  row_keeps e few =
      let a = both (member r.response ids) _ e in
      record { response_routed = member_keeps a.0; latching_0_1 = leb-true _ _ a.1; few_args = few }

-- ---- lists

module _ {A : Type 0} where
  pub length_listed : (f : ℕ → A) (k n : ℕ) → length (listed f k n) ≡ n
  length_listed f k zero = refl
  length_listed f k (suc n) = simp (length_listed f (suc k) n)

  -- what holds of each place in use holds of each row
  pub each_listed : (P : A → Type 0) (f : ℕ → A) (k n : ℕ) → ((i : ℕ) → i < k + n → P (f i)) → Each P (listed f k n)
  each_listed P f k zero h = tt
  each_listed P f k (suc n) h = (h k (omega arith), each_listed P f (suc k) n (λ i l. h i (omega arith)))

  pub each_both : {P Q R : A → Type 0} → ((x : A) → P x → Q x → R x) → (xs : List A) → Each P xs → Each Q xs → Each R xs
  each_both f [] g h = tt
  each_both f (x ∷ xs) g h = (f x g.0 h.0, each_both f xs g.1 h.1)

  module _ {P : A → Type 0} {p : A → Bool} (id : A → ℕ) where
    pub rising_kept : ((x : A) → P x → p x ≡ true) → (low : ℕ) (xs : List A) → Rising low (map id xs) → Each P xs → rising_all id p low xs ≡ true
    rising_kept f low [] h k = refl
    rising_kept f low (x ∷ xs) h k = simp (le-leb low (id x) h.0, f x k.0, rising_kept f (suc (id x)) xs h.1 k.1)

    pub rising_keeps : ((x : A) → p x ≡ true → P x) → (low : ℕ) (xs : List A) → rising_all id p low xs ≡ true → Rising low (map id xs) × Each P xs
    rising_keeps f low [] e = (tt, tt)
    rising_keeps f low (x ∷ xs) e =
        let a = both (leb low (id x)) _ e in
        let b = both (p x) _ a.1 in
        let r = rising_keeps f (suc (id x)) xs b.1 in
        ((leb-true _ _ a.0, r.0), (f x b.0, r.1))

pub zero_kept : (xs : List ℕ) → AllZero xs → all_zero xs ≡ true
zero_kept [] h = refl
zero_kept (x ∷ xs) h = simp (eq-eqb x 0 h.0, zero_kept xs h.1)

pub zero_keeps : (xs : List ℕ) → all_zero xs ≡ true → AllZero xs
zero_keeps [] e = tt
zero_keeps (x ∷ xs) e = let a = both (eqb x 0) _ e in (eqb-true _ _ a.0, zero_keeps xs a.1)

pub args_kept : (counts xs : List ℕ) → ArgsZero counts xs → args_zero counts xs ≡ true
args_kept [] xs h = zero_kept xs h
args_kept (n ∷ counts) xs h = simp (le-leb n 16 h.0, zero_kept (drop n (take 16 xs)) h.1, args_kept counts (drop 16 xs) h.2)

pub args_keeps : (counts xs : List ℕ) → args_zero counts xs ≡ true → ArgsZero counts xs
args_keeps [] xs e = zero_keeps xs e
args_keeps (n ∷ counts) xs e =
    let a = both (leb n 16) _ e in
    let b = both (all_zero (drop n (take 16 xs))) _ a.1 in
    (leb-true _ _ a.0, zero_keeps (drop n (take 16 xs)) b.0, args_keeps counts (drop 16 xs) b.1)

-- so a row in use has at most 16 arguments
pub few_counted : (n i : ℕ) (counts xs : List ℕ) → ArgsZero (take n counts) xs → i < n → get_or counts i 0 ≤ 16
few_counted zero i counts xs h l = absurd (omega arith)
few_counted (suc n) i [] xs h l = omega arith
few_counted (suc n) zero (c ∷ counts) xs h l = h.0
few_counted (suc n) (suc i) (c ∷ counts) xs h l = few_counted n i counts (drop 16 xs) h.2 (omega arith)

-- ---- the run

pub arm_kept : (armed : Bool) (ticks : ℕ) → ArmOk armed ticks → arm_ok armed ticks ≡ true
unfolding arm_ok
arm_kept true ticks k = le-leb _ _ k
arm_kept false ticks k = eq-eqb _ _ k

pub arm_keeps : (armed : Bool) (ticks : ℕ) → arm_ok armed ticks ≡ true → ArmOk armed ticks
unfolding arm_ok
arm_keeps true ticks e = leb-true _ _ e
arm_keeps false ticks e = eqb-true _ _ e

module _ {latching s : ℕ} where
  pub state_kept : StateOk latching s → state_ok latching s ≡ true
  unfolding state_ok
  state_kept k =
      simp (le-leb s 2 k.known)
      (split (not (eqb s 2 && eqb latching 0) ≡ true) (eqb s 2) (λ e. simp (e, ne_eqb latching 0 (k.may_latch (eqb-true _ _ e)))) (λ e. simp e))

  pub state_keeps : state_ok latching s ≡ true → StateOk latching s
  unfolding state_ok
  state_keeps e =
      let a = both (leb s 2) _ e in
      record { known = leb-true _ _ a.0; may_latch = λ p q. false≢true (simp (eq-eqb s 2 p, eq-eqb latching 0 q) at a.1) }

pub states_kept : (rows : List FaultRow) (ss : List ℕ) → StatesOk rows ss → states_ok rows ss ≡ true
states_kept [] ss h = zero_kept ss h
states_kept (r ∷ rows) [] h = refl
states_kept (r ∷ rows) (s ∷ ss) h = simp (state_kept h.0, states_kept rows ss h.1)

pub states_keeps : (rows : List FaultRow) (ss : List ℕ) → states_ok rows ss ≡ true → StatesOk rows ss
states_keeps [] ss e = zero_keeps ss e
states_keeps (r ∷ rows) [] e = tt
states_keeps (r ∷ rows) (s ∷ ss) e = let a = both (state_ok r.latching s) _ e in (state_keeps a.0, states_keeps rows ss a.1)

-- ---- the whole

pub rules_kept_lem : {t : Tables} → Rules t → rules_kept t ≡ true
unfolding rules_kept routes_kept protected_kept rows_kept
rules_kept_lem {t} k =
    simp (
      settings_kept k.settings_are_ok,
      rising_kept route_id (λ r h. route_kept h) 0 t.routes k.routes_rise k.routes_ok,
      rising_kept (λ id. id) (λ id h. protected_kept_lem h) 0 t.protected (rw map-id k.protected_rise) k.protected_is_ok,
      rising_kept fault_id (λ r h. row_kept h) 0 t.rows k.rows_rise k.rows_ok,
    )

pub rules_keeps : {t : Tables} → rules_kept t ≡ true → Few t → Rules t
unfolding rules_kept routes_kept protected_kept rows_kept
rules_keeps {t} e few =
    let a = both (settings_ok t.settings) _ e in
    let b = both (routes_kept t.settings.base t.routes) _ a.1 in
    let d = both (protected_kept t.settings.base (routed t) t.protected) _ b.1 in
    let routes = rising_keeps route_id (λ r h. route_keeps h) 0 t.routes b.0 in
    let protected = rising_keeps (λ id. id) (λ id h. protected_keeps h) 0 t.protected d.0 in
    let rows = rising_keeps {P = λ r. length r.args ≤ 16 → RowOk (routed t) r} fault_id (λ r h. row_keeps h) 0 t.rows d.1 in
    record {
      settings_are_ok = settings_keeps a.0;
      few_routes = few.few_routes;
      routes_rise = routes.0;
      routes_ok = routes.1;
      few_protected = few.few_protected;
      protected_rise = rw map-id at protected.0;
      protected_is_ok = protected.1;
      few_rows = few.few_rows;
      rows_rise = rows.0;
      rows_ok = each_both (λ r f l. f l) t.rows rows.1 few.few_args;
    }

module _ {c : Config} where
  pub unused_kept : Unused c → unused_zero c ≡ true
  unfolding unused_zero
  unused_kept k =
      simp (
        zero_kept (drop c.numbers.nroutes c.routeids) k.routeids_zero,
        zero_kept (drop c.numbers.nroutes c.dests) k.dests_zero,
        zero_kept (drop c.numbers.nprotected c.protected) k.protected_zero,
        zero_kept (drop c.numbers.nrows c.faultids) k.faultids_zero,
        zero_kept (drop c.numbers.nrows c.responses) k.responses_zero,
        zero_kept (drop c.numbers.nrows c.latching) k.latching_zero,
        zero_kept (drop c.numbers.nrows c.argcounts) k.argcounts_zero,
        args_kept (take c.numbers.nrows c.argcounts) c.args k.args_are_zero,
      )

  pub unused_keeps : unused_zero c ≡ true → Unused c
  unfolding unused_zero
  unused_keeps e =
      let a = both (all_zero (drop c.numbers.nroutes c.routeids)) _ e in
      let b = both (all_zero (drop c.numbers.nroutes c.dests)) _ a.1 in
      let d = both (all_zero (drop c.numbers.nprotected c.protected)) _ b.1 in
      let f = both (all_zero (drop c.numbers.nrows c.faultids)) _ d.1 in
      let g = both (all_zero (drop c.numbers.nrows c.responses)) _ f.1 in
      let h = both (all_zero (drop c.numbers.nrows c.latching)) _ g.1 in
      let i = both (all_zero (drop c.numbers.nrows c.argcounts)) _ h.1 in
      record {
        routeids_zero = zero_keeps (drop c.numbers.nroutes c.routeids) a.0;
        dests_zero = zero_keeps (drop c.numbers.nroutes c.dests) b.0;
        protected_zero = zero_keeps (drop c.numbers.nprotected c.protected) d.0;
        faultids_zero = zero_keeps (drop c.numbers.nrows c.faultids) f.0;
        responses_zero = zero_keeps (drop c.numbers.nrows c.responses) g.0;
        latching_zero = zero_keeps (drop c.numbers.nrows c.latching) h.0;
        argcounts_zero = zero_keeps (drop c.numbers.nrows c.argcounts) i.0;
        args_are_zero = args_keeps (take c.numbers.nrows c.argcounts) c.args i.1;
      }

module _ {t : Tables} {r : Run} where
  pub run_kept_lem : RunOk t r → run_kept t r ≡ true
  unfolding run_kept
  run_kept_lem k = simp (arm_kept r.standing.arm.armed r.standing.arm.ticks k.arm_is_ok, states_kept t.rows r.states k.states_are_ok)

  pub run_keeps : run_kept t r ≡ true → RunOk t r
  unfolding run_kept
  run_keeps e =
      let a = both (arm_ok r.standing.arm.armed r.standing.arm.ticks) _ e in
      record { arm_is_ok = arm_keeps r.standing.arm.armed r.standing.arm.ticks a.0; states_are_ok = states_keeps t.rows r.states a.1 }

module _ {nroutes nprotected nrows : ℕ} where
  pub counts_kept : (nroutes ≤ 128) × (nprotected ≤ 32) × (nrows ≤ 32) → counted nroutes nprotected nrows ≡ true
  unfolding counted
  counts_kept (l, m, n) = simp (le-leb nroutes 128 l, le-leb nprotected 32 m, le-leb nrows 32 n)

  pub counts_keeps : counted nroutes nprotected nrows ≡ true → (nroutes ≤ 128) × (nprotected ≤ 32) × (nrows ≤ 32)
  unfolding counted
  counts_keeps e =
      let a = both (leb nroutes 128) _ e in
      let b = both (leb nprotected 32) _ a.1 in
      (leb-true _ _ a.0, leb-true _ _ b.0, leb-true _ _ b.1)

pub config_kept_lem : (c : Config) → c.numbers.nprotected ≤ 32 → Rules (tables_of c) → Unused c → config_kept c ≡ true
unfolding config_kept
config_kept_lem c within rules unused =
    let n = length_listed (route_at c.routeids c.dests) 0 c.numbers.nroutes in
    let m = length_listed (row_at c.faultids c.responses c.latching c.argcounts c.args) 0 c.numbers.nrows in
    let few : (c.numbers.nroutes ≤ 128) × (c.numbers.nprotected ≤ 32) × (c.numbers.nrows ≤ 32) = omega (arith, rules.few_routes, rules.few_rows) in
    simp (counts_kept few, rules_kept_lem rules, unused_kept unused)

pub config_keeps : (c : Config) → config_kept c ≡ true → (c.numbers.nprotected ≤ 32) × Rules (tables_of c) × Unused c
unfolding config_kept
config_keeps c e =
    let a = both (counted c.numbers.nroutes c.numbers.nprotected c.numbers.nrows) _ e in
    let b = both (rules_kept (tables_of c)) _ a.1 in
    let few = counts_keeps a.0 in
    let unused = unused_keeps {c = c} b.1 in (
      few.1,
      rules_keeps b.0
          record {
            few_routes = simp length_listed few.0;
            few_protected = simp length-take (omega arith);
            few_rows = simp length_listed few.2;
            few_args =
                each_listed (λ r. length r.args ≤ 16) (row_at c.faultids c.responses c.latching c.argcounts c.args) 0 c.numbers.nrows
                (λ i l. let m = few_counted c.numbers.nrows i c.argcounts c.args unused.args_are_zero (omega arith) in simp length-take (omega arith));
          },
      unused,
    )

pub kept : (c : Config) (r : Run) → Keeps c r → keeps_rules c r ≡ true
unfolding keeps_rules
kept c r k = simp (config_kept_lem c k.within k.rules k.unused, run_kept_lem k.run_ok)

pub keeps : (c : Config) (r : Run) → keeps_rules c r ≡ true → Keeps c r
unfolding keeps_rules
keeps c r e =
    let a = both (config_kept c) _ e in
    let g = config_keeps c a.0 in
    record { within = g.0; rules = g.1; unused = g.2; run_ok = run_keeps a.1 }

-- counters have no rule: any seven numbers keep them
pub counts_free : (c : Config) (k : Counts) (r : Run) → keeps_rules c (run_counted k r) ≡ keeps_rules c r
unfolding keeps_rules run_kept
counts_free c k r = refl
