-- Rows that rise and pass their test, taken apart into columns: the ids rise, and each column passes a test of its own.
use Rattle.std.specs.Prelude.{◌≡◌, refl, Bool, true, ◌&&◌, ℕ, zero, suc, ◌+◌, ◌-◌, ◌<◌, ◌≤◌, leb, length, get_or, take, drop}
use Rattle.std.proofs.Common.{sym, ◌∙◌, add-one, arith}
use Rattle.std.proofs.Math.Bool.{and_assoc, and_comm}
use mathlib.Core.List.{List, [], ◌∷◌, map, map-id}
use Rattle.state.specs.Tables.{FaultRow, route_id, fault_id, listed, route_at, row_at}
use Rattle.state.proofs.ArrayLaws.{column_is, column_of}
use Rattle.state.specs.Rules.{member, route_ok, row_ok}
use Rattle.state.specs.Test.{rising_all, all_zero, route_passes, protected_passes, row_passes, routes_kept, protected_kept, rows_kept, state_ok, states_ok}
use Rattle.state_check.specs.Each.{each, rises, within, dest_ok, foreign}
use Rattle.state_check.specs.Walks.{Gathered, passes, crossed, item_at}
use Rattle.state_check.specs.TableParts.{argless}

abbrev pub among : List ℕ → ℕ → Bool
among ids id = member id ids

module _ {A : Type 0} (id : A → ℕ) (p : A → Bool) where
  apart : (low : ℕ) (xs : List A) → rising_all id p low xs ≡ (rises low (map id xs) && each p xs)
  apart low [] = refl
  apart low (x ∷ xs) =
      let low' = suc (id x) in
      rw (apart low' xs) (sym (and_assoc (leb low (id x)) (p x) _) ∙ crossed (leb low (id x)) (p x) (rises low' (map id xs)) (each p xs))

-- a test of rows that asks one column and then another
module _ {A : Type 0} (p : A → Bool) (f : ℕ → A) (q r : ℕ → Bool) (xs ys : List ℕ) (h : (i : ℕ) → p (f i) ≡ (q (get_or xs i 0) && r (get_or ys i 0))) where
  apart_from : (k n : ℕ) → each p (listed f k n) ≡ (each q (listed (λ i. get_or xs i 0) k n) && each r (listed (λ i. get_or ys i 0) k n))
  apart_from k zero = refl
  apart_from k (suc n) =
      rw (h k, apart_from (suc k) n)
      (crossed (q (get_or xs k 0)) (r (get_or ys k 0)) (each q (listed (λ i. get_or xs i 0) (suc k) n)) (each r (listed (λ i. get_or ys i 0) (suc k) n)))

  columns : (n : ℕ) → (n ≤ length xs) × (n ≤ length ys) → each p (listed f 0 n) ≡ (each q (take n xs) && each r (take n ys))
  columns n (l, m) = apart_from 0 n ∙ rw (column_is xs n l, column_is ys n m)

pub routes_apart : (base : ℕ) (ids dests : List ℕ) (n : ℕ) → (n ≤ length ids) × (n ≤ length dests)
    → routes_kept base (listed (route_at ids dests) 0 n) ≡ (rises 0 (take n ids) && (each dest_ok (take n dests) && each (foreign base) (take n ids)))
unfolding routes_kept route_ok
routes_apart base ids dests n (l, m) =
    apart route_id (route_passes base) 0 (listed (route_at ids dests) 0 n)
    ∙ rw (column_of route_id (route_at ids dests) ids n (λ i. refl) l, columns (route_passes base) (route_at ids dests) dest_ok (foreign base) dests ids (λ i. sym (and_assoc (leb 1 (get_or dests i 0)) (leb (get_or dests i 0) 31) _)) n (m, l))

pub protected_apart : (base : ℕ) (ids ps : List ℕ) → Gathered (protected_kept base ids ps) (each (protected_passes base ids) ps) (rises 0 ps)
unfolding protected_kept
protected_apart base ids ps = record { rest = apart (λ id. id) (protected_passes base ids) 0 ps ∙ rw map-id }

module _ (ids faultids responses latching : List ℕ) (m : ℕ) where
  abbrev pub latchings : Bool
  latchings = each (within 1) (take m latching)

  abbrev pub responded : Bool
  responded = each (among ids) (take m responses)

  pub rows_apart : (m ≤ length faultids) × (m ≤ length responses) × (m ≤ length latching)
      → Gathered (rows_kept ids (argless faultids responses latching m)) (latchings && responded) (rises 0 (take m faultids))
  unfolding rows_kept row_ok
  rows_apart (l, n, o) =
      let f = row_at faultids responses latching [] [] in
      record {
        rest = apart fault_id (row_passes ids) 0 (listed f 0 m)
            ∙ rw (column_of fault_id f faultids m (λ i. refl) l, columns (row_passes ids) f (within 1) (among ids) latching responses (λ i. and_comm (among ids (get_or responses i 0)) (within 1 (get_or latching i 0))) m (o, n));
      }

  pub rows_latch : (m ≤ length faultids) × (m ≤ length responses) × (m ≤ length latching) → rises 0 (take m faultids) ≡ true
      → Gathered (rows_kept ids (argless faultids responses latching m)) responded latchings
  rows_latch l e = passes (rows_apart l) e record { rest = refl }

-- ---- fault states, row by row

module _ (f : ℕ → FaultRow) (n : ℕ) (ss : List ℕ) where
  -- the rows from k on, and their states
  abbrev pub states_from : ℕ → Bool
  states_from k = states_ok (listed f k (n - k)) (drop k ss)

  pub states_start : Gathered (states_ok (listed f 0 n) ss) (states_from 0) true
  states_start = let e : n - 0 ≡ n = omega arith in record { rest = rw e }

  module _ (k : ℕ) where
    pub states_at : (k < n) × (n ≤ length ss) → Gathered (states_from k) (states_from (k + 1)) (state_ok (f k).latching (get_or ss k 0))
    states_at l = let e : n - k ≡ suc (n - (k + 1)) = omega arith in record { rest = rw (e, item_at ss k (omega arith), add-one k) }

    pub states_past : k ≡ n → all_zero (drop n ss) ≡ true → states_from k ≡ true
    states_past l z = let e : n - k ≡ 0 = omega arith in rw (e, l) z
