-- Fault rows by place: the path and the plain reading mean the same row by a fault id; and what an event on the row at a place makes
-- of the states, of which those of unused rows stay zero.
use Rattle.std.specs.Prelude.{◌≡◌, refl, Bool, true, false, cond, List, [], ◌∷◌, ◌++◌, map, ℕ, zero, suc, ◌-◌, ◌<◌, eqb, ltb, length, get_or, set, replicate}
use Rattle.std.proofs.Math.Path.{sym, fun_ext}
use Rattle.std.proofs.Common.{ap, ◌∙◌, arith, length-set, get_or-set_same, get_or-set_other, ext_get_or, lt-ltb, eq-eqb, ne_eqb, eqb-true}
use Rattle.std.proofs.Math.Option.{Option, none, some}
use Rattle.std.proofs.Math.Decide.{ℕ_discrete}
use Rattle.std.proofs.Math.Dec.{leb-suc-suc}
use Rattle.std.proofs.lemmas.List.{length-map, set-append_left}
use Rattle.std.proofs.Math.ListN.{get_or-append, get_or-map}
use Rattle.state.specs.Tables.{FaultRow, fault_id, listed}
use Rattle.state.proofs.KeepsLaws.{length_listed}
use Rattle.state.specs.Keeps.{Rising}
use Rattle.state.specs.Lookup.{place_in}
use Rattle.state.proofs.ArrayLaws.{listed_at}
use Rattle.image_rules.specs.Records.{Record}
use Rattle.image_load.specs.Image.{of_kind, tables_of_records}
use Rattle.step_effects.specs.FaultStates.{within, place_of, meant, is_place, row_for, onward, clear_all}
use Rattle.step_effects.proofs.ActLaws.{place_row, place_of_row}
use Rattle.history.specs.Plain.{Row, row_of, no_row, further, place_named, any_row, this_row, when_cleared, tables, rows, row_at, meant_by, row_meant}
use Rattle.history.specs.RowsLaws.{states_for}

abbrev plain_row : Row → FaultRow
plain_row r = r.row

pub map_then : {A B C : Type 0} (g : B → C) (f : A → B) (xs : List A) → map g (map f xs) ≡ map (λ x. g (f x)) xs
map_then g f [] = refl
map_then {A} {B} {C} g f (x ∷ xs) = ap (λ (ys : List C). g (f x) ∷ ys) (map_then g f xs)

-- ---- which row a fault id means

one_on : (n k : ℕ) → within (suc n) (suc k) ≡ further (within n k)
one_on n k = rw (leb-suc-suc (suc k) n) (go (ltb k n))
  where
    go : (b : Bool) → cond b (some (suc k)) none ≡ further (cond b (some k) none)
    go true = refl
    go false = refl

named_is : (f : ℕ) (rs : List Row) → place_of f (map fault_id (map plain_row rs)) ≡ place_named f rs
unfolding place_of
named_is f [] = refl
named_is f (r ∷ rs) = go (named_is f rs) (eqb f r.row.id) refl
  where
    go : place_of f (map fault_id (map plain_row rs)) ≡ place_named f rs → (b : Bool) → eqb f r.row.id ≡ b → place_of f (map fault_id (map plain_row (r ∷ rs))) ≡ place_named f (r ∷ rs)
    go ih true e = simp (e, lt-ltb 0 (suc (length (map fault_id (map plain_row rs)))) (omega arith))
    go ih false e = simp e (one_on (length (map fault_id (map plain_row rs))) (place_in f (map fault_id (map plain_row rs))) ∙ ap further ih)

module _ (image : List Record) where
  rows_are : (tables image).rows ≡ map plain_row (rows image)
  unfolding tables_of_records
  rows_are = sym (map_then plain_row row_of (of_kind 4 image))

  pub meant_is : (f : ℕ) → meant (tables image) f ≡ meant_by image f
  meant_is f = ap (λ (rs : List FaultRow). place_of f (map fault_id rs)) rows_are ∙ named_is f (rows image)

  pub row_is : (place : Option ℕ) → row_for place (tables image).rows ≡ row_meant image place
  row_is none = refl
  row_is (some k) = rw rows_are (get_or-map plain_row (rows image) k no_row)

  -- a row that is meant is one of the image's, and has the id
  pub named_row : (f k : ℕ) → meant_by image f ≡ some k → (k < length (rows image)) × ((row_at image k).row.id ≡ f)
  named_row f k e =
      let r = place_row f (map fault_id (map plain_row (rows image))) k (named_is f (rows image) ∙ e) in
      let n : length (map fault_id (map plain_row (rows image))) ≡ length (rows image) = length-map (map plain_row (rows image)) fault_id ∙ length-map (rows image) plain_row in (
        omega (arith, r.0, n),
        sym (ap fault_id (get_or-map plain_row (rows image) k no_row)) ∙ sym (get_or-map fault_id (map plain_row (rows image)) k no_row.row) ∙ r.1,
      )

  -- and where ids rise, a row that has the id is meant
  pub row_named : Rising 0 (map fault_id (tables image).rows) → (f k : ℕ) → k < length (rows image) → (row_at image k).row.id ≡ f → meant_by image f ≡ some k
  row_named r f k l e =
      let ids = map fault_id (map plain_row (rows image)) in
      let i : get_or ids k 0 ≡ f = get_or-map fault_id (map plain_row (rows image)) k no_row.row ∙ ap fault_id (get_or-map plain_row (rows image) k no_row) ∙ e in
      sym (named_is f (rows image)) ∙ place_of_row f ids (rw rows_are at r) k (rw (length-map (map plain_row (rows image)) fault_id, length-map (rows image) plain_row) l) i

pub any_is : (place : Option ℕ) → is_place place ≡ any_row place
any_is none = refl
any_is (some k) = refl

pub states_by_lem : (n : ℕ) {st now : ℕ → ℕ} → ((k : ℕ) → st k ≡ now k) → states_for st n ≡ states_for now n
states_by_lem n e = ap (λ (g : ℕ → ℕ). states_for g n) (fun_ext e)

module _ (st : ℕ → ℕ) (n : ℕ) where
  padding : states_for st n ≡ listed st 0 n ++ replicate (32 - n) 0
  padding = rw (length_listed st 0 n)

  pub state_here : (k : ℕ) → k < n → get_or (states_for st n) k 0 ≡ st k
  state_here k h = get_or-append (listed st 0 n) _ 0 k (rw (length_listed st 0 n) h) ∙ listed_at st 0 n k h

  abbrev put : ℕ → ℕ → ℕ → ℕ
  put k v j = cond (eqb k j) v (st j)

  set_listed : (k v : ℕ) → k < n → set (listed st 0 n) k v ≡ listed (put k v) 0 n
  set_listed k v h =
      ext_get_or 0 (set (listed st 0 n) k v) (listed (put k v) 0 n) (length-set (listed st 0 n) k v ∙ length_listed st 0 n ∙ sym (length_listed (put k v) 0 n))
      (λ i l. at i (rw (length-set (listed st 0 n) k v, length_listed st 0 n) at l) (ℕ_discrete i k))
    where
      at : (i : ℕ) → i < n → Dec (i ≡ k) → get_or (set (listed st 0 n) k v) i 0 ≡ get_or (listed (put k v) 0 n) i 0
      at i l (yes e) =
          rw (listed_at (put k v) 0 n i l, eq-eqb k i (sym e), e) (get_or-set_same (listed st 0 n) k v 0 (rw (length_listed st 0 n) h))
      at i l (no e) =
          rw (listed_at (put k v) 0 n i l, ne_eqb k i (λ q. e (sym q))) (get_or-set_other (listed st 0 n) k i v 0 e ∙ listed_at st 0 n i l)

  -- an event on the row at a place
  pub onward_known : (next : ℕ → ℕ) (place : Option ℕ) → ((k : ℕ) → place ≡ some k → k < n)
      → onward next place (states_for st n) ≡ states_for (λ j. cond (this_row j place) (next (st j)) (st j)) n
  onward_known next none b = refl
  onward_known next (some k) b =
      let h = b k refl in
      rw (state_here k h)
      (ap (λ (l : List ℕ). set l k (next (st k))) padding
      ∙ set-append_left (listed st 0 n) (replicate (32 - n) 0) k (next (st k)) (rw (length_listed st 0 n) h)
      ∙ ap (λ (l : List ℕ). l ++ replicate (32 - n) 0) (set_listed k (next (st k)) h ∙ ap (λ (g : ℕ → ℕ). listed g 0 n) (fun_ext (λ j. same j (eqb k j) refl)))
      ∙ rw (length_listed (λ j. cond (eqb k j) (next (st j)) (st j)) 0 n))
    where
      same : (j : ℕ) (c : Bool) → eqb k j ≡ c → cond (eqb k j) (next (st k)) (st j) ≡ cond (eqb k j) (next (st j)) (st j)
      same j true e = rw (eqb-true k j e)
      same j false e = rw e

-- ---- clear all

zeros_cleared : (n : ℕ) → clear_all (replicate n 0) ≡ replicate n 0
zeros_cleared zero = refl
zeros_cleared (suc n) = ap (λ (l : List ℕ). 0 ∷ l) (zeros_cleared n)

clear_listed : (st : ℕ → ℕ) (k n : ℕ) (z : List ℕ) → clear_all (listed st k n ++ z) ≡ listed (λ j. when_cleared (st j)) k n ++ clear_all z
clear_listed st k zero z = refl
clear_listed st k (suc n) z = ap (λ (l : List ℕ). when_cleared (st k) ∷ l) (clear_listed st (suc k) n z)

pub clear_known : (st : ℕ → ℕ) (n : ℕ) → clear_all (states_for st n) ≡ states_for (λ j. when_cleared (st j)) n
clear_known st n =
    ap clear_all (padding st n) ∙ clear_listed st 0 n (replicate (32 - n) 0) ∙ rw (zeros_cleared (32 - n), length_listed (λ j. when_cleared (st j)) 0 n)
