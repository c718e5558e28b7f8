-- What the judge of a state asks, one part after the other, is the test of `Test`: its walks see arrays where the test speaks of
-- rows, and a row without its arguments where they do not count.
use Rattle.std.specs.Prelude.{◌≡◌, refl, Bool, true, false, not, ◌&&◌, ℕ, zero, suc, ◌≤◌, length, get_or, take, drop}
use Rattle.std.proofs.Common.{sym, ap, ◌∙◌, arith}
use Rattle.std.proofs.Math.Bool.{and-true, and-false, and_self, and_assoc}
use mathlib.Core.List.{List, [], ◌∷◌, ◌++◌}
use Rattle.state.specs.declared.types.Config.{Config}
use Rattle.state.specs.declared.types.Standing.{Standing}
use Rattle.state.specs.declared.types.Run.{Run}
use Rattle.state.specs.Tables.{FaultRow, route_id, fault_id, listed, route_at, row_at, tables_of, run_from}
use Rattle.state.specs.Sized.{Sized, LentSized}
use Rattle.state.proofs.ArrayLaws.{column_of, routed_is}
use Rattle.state.specs.Settings.{settings_ok}
use Rattle.state.specs.Keeps.{Each}
use Rattle.state.specs.Lookup.{Column}
use Rattle.state.specs.Test.{rising_all, row_passes, all_zero, args_zero, routes_kept, rows_kept, rules_kept, counted, unused_zero, config_kept, arm_ok, state_ok, states_ok, run_kept, keeps_rules}
use Rattle.state.proofs.KeepsLaws.{split, rising_keeps, route_keeps, counts_keeps}
use Rattle.state.proofs.Settings.{both}
use Rattle.state_check.specs.Each.{each}
use Rattle.state_check.specs.Walks.{refuted, held}
use Rattle.state_check.specs.TableParts.{argless, routes_part}

-- routes that pass rise
pub routes_column : (base : ℕ) (ids dests : List ℕ) (n : ℕ) → (length ids ≡ 128) × (n ≤ length ids) → routes_kept base (listed (route_at ids dests) 0 n) ≡ true
    → Column 128 ids n
unfolding routes_kept
routes_column base ids dests n (l, m) e =
    record {
      slots = record { long = l; within = omega arith };
      rise =
          rw (column_of route_id (route_at ids dests) ids n (λ i. refl) m) at
          (rising_keeps route_id (λ r h. route_keeps h) 0 (listed (route_at ids dests) 0 n) e).0;
    }

-- a row's arguments count neither for its rule nor for its state
module _ (ids responses latching counts args : List ℕ) where
  argless_rising : (routes : List ℕ) (low k n : ℕ)
      → rising_all fault_id (row_passes routes) low (listed (row_at ids responses latching counts args) k n) ≡ rising_all fault_id (row_passes routes) low (listed (row_at ids responses latching [] []) k n)
  argless_rising routes low k zero = refl
  argless_rising routes low k (suc n) = simp (argless_rising routes (suc (get_or ids k 0)) (suc k) n)

  argless_states : (k n : ℕ) (ss : List ℕ)
      → states_ok (listed (row_at ids responses latching counts args) k n) ss ≡ states_ok (listed (row_at [] [] latching [] []) k n) ss
  argless_states k zero ss = refl
  argless_states k (suc n) [] = refl
  argless_states k (suc n) (s ∷ ss) = simp (argless_states (suc k) n ss)

and_swap : (a b c : Bool) → (a && (b && c)) ≡ (b && (a && c))
and_swap true b c = refl
and_swap false b c = sym (and-false b)

-- that zero stands behind the states is asked with the other columns, and once more
behind : (f : ℕ → FaultRow) (k n : ℕ) (ss : List ℕ) → states_ok (listed f k n) ss ≡ (all_zero (drop n ss) && states_ok (listed f k n) ss)
behind f k zero ss = sym (and_self (all_zero ss))
behind f k (suc n) [] = refl
behind f k (suc n) (s ∷ ss) =
    ap (λ (b : Bool). state_ok (f k).latching s && b) (behind f (suc k) n ss) ∙ and_swap (state_ok (f k).latching s) (all_zero (drop n ss)) (states_ok (listed f (suc k) n) ss)

-- ---- the parts in the order in which they are asked

abbrev pub asked : Config → Standing → List ℕ → List Bool
asked c standing states =
    let n = c.numbers in
    let m = n.nrows in
    counted n.nroutes n.nprotected m
    ∷ arm_ok standing.arm.armed standing.arm.ticks
    ∷ settings_ok n.settings
    ∷ routes_part n.settings.base c.routeids c.dests n.nroutes c.protected n.nprotected
    ∷ rows_kept (take n.nroutes c.routeids) (argless c.faultids c.responses c.latching m)
    ∷ (all_zero (drop m c.faultids) && all_zero (drop m c.responses))
    ∷ (all_zero (drop m c.latching) && (all_zero (drop m c.argcounts) && all_zero (drop m states)))
    ∷ args_zero (take m c.argcounts) c.args
    ∷ states_ok (argless [] [] c.latching m) states
    ∷ []

abbrev all : List Bool → Bool
all ps = each (λ p. p) ps

one_fails : (k : ℕ) (ps : List Bool) → get_or ps k true ≡ false → false ≡ all ps
one_fails k [] e = sym e
one_fails zero (p ∷ ps) e = rw e
one_fails (suc k) (p ∷ ps) e = sym (rw (← one_fails k ps e) (and-false p))

last_decides : (ps : List Bool) (b : Bool) → Each (λ p. p ≡ true) ps → b ≡ all (ps ++ b ∷ [])
last_decides [] b h = sym (and-true b)
last_decides (p ∷ ps) b h = rw h.0 (last_decides ps b h.1)

module _ (c : Config) (r : Run) (s : Sized c) where
  -- the test goes through the rows' rule before what the routes do not use, and through the run last
  asked_all : keeps_rules c r ≡ all (asked c r.standing r.states)
  unfolding keeps_rules config_kept rules_kept unused_zero run_kept rows_kept
  asked_all =
      let n = c.numbers in
      let m = n.nrows in
      let arm = arm_ok r.standing.arm.armed r.standing.arm.ticks in
      let states = states_ok (tables_of c).rows r.states in
      let rows = rows_kept (take n.nroutes c.routeids) (argless c.faultids c.responses c.latching m) in
      and_swap (config_kept c) arm states
      ∙ split ((arm && (config_kept c && states)) ≡ all (asked c r.standing r.states)) (counted n.nroutes n.nprotected m)
      (λ e. rw (
        routed_is c (omega (arith, s.routeids_128, counts_keeps e)),
        argless_rising c.faultids c.responses c.latching c.argcounts c.args,
        argless_states c.faultids c.responses c.latching c.argcounts c.args,
      )
      (simp (e, and_assoc, and-true)
      (rw (
        and_swap rows (all_zero (drop n.nroutes c.routeids)),
        and_swap rows (all_zero (drop n.nroutes c.dests)),
        and_swap rows (all_zero (drop n.nprotected c.protected)),
        and_swap (all_zero (drop m r.states)) (args_zero (take m c.argcounts) c.args),
        ← behind (row_at [] [] c.latching [] []) 0 m r.states,
      ))))
      (λ e. simp (e, and-false))

-- so the judge answers with the first part that fails, or with the last
abbrev pub Judged : Config → Standing → List ℕ → Bool → Type 0
Judged c standing states x = (x ≡ keeps_rules c (run_from standing states)) × LentSized c states

module _ {c : Config} {states : List ℕ} (s : LentSized c states) (standing : Standing) where
  abbrev pub part : ℕ → Bool
  part k = get_or (asked c standing states) k true

  pub refused : (k : ℕ) {x : Bool} → x ≡ part k → not x ≡ true → Judged c standing states false
  refused k e n = (one_fails k (asked c standing states) (refuted e n) ∙ sym (asked_all c _ s.columns), s)

  pub passed : (k : ℕ) {x : Bool} → x ≡ part k → not x ≡ false → part k ≡ true
  passed k e n = held e n

  pub judged : Each (λ p. p ≡ true) (take 8 (asked c standing states)) → {x : Bool} → x ≡ part 8 → Judged c standing states x
  judged h e = (e ∙ last_decides (take 8 (asked c standing states)) (part 8) h ∙ sym (asked_all c _ s.columns), s)

  -- what a part that has passed shows for those behind it
  pub routes_rise : c.numbers.nroutes ≤ 128 → part 3 ≡ true → Column 128 c.routeids c.numbers.nroutes
  routes_rise l e =
      let n = c.numbers in
      let t = s.columns.routeids_128 in
      routes_column n.settings.base c.routeids c.dests n.nroutes (omega arith) (both (routes_kept n.settings.base (listed (route_at c.routeids c.dests) 0 n.nroutes)) _ e).0

  pub zero_behind : part 6 ≡ true → all_zero (drop c.numbers.nrows states) ≡ true
  zero_behind e =
      let m = c.numbers.nrows in (both (all_zero (drop m c.argcounts)) _ (both (all_zero (drop m c.latching)) _ e).1).1
