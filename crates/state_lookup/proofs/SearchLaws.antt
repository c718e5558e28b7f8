-- Laws of the search. Of every column: few places are looked at, each within the ids and none twice, and another column of as many
-- ids that has the same ids there gives the same place. Of a column that never falls: a hop is taken exactly if it does not lead
-- before the first id not below, so enough hops end there, and what is found is what a walk over all ids finds. Equal neighbours
-- are allowed: the first of them is found.
use Rattle.std.specs.Prelude.{◌≡◌, refl, true, cond, ◌&&◌, List, [], ◌∷◌, ◌++◌, ℕ, zero, suc, ◌+◌, ◌-◌, ◌<◌, ◌≤◌, leb, ltb, eqb, length, get_or}
use Rattle.std.proofs.Common.{sym, ap, ◌∙◌, arith, length-append, lt-ltb, ltb-true, ltb-false, le-leb, leb-true, leb-false, ne_eqb}
use Rattle.std.proofs.Math.Dec.{leb-suc-suc}
use Rattle.std.proofs.lemmas.Bool.{lt-leb, eqb-false}
use Rattle.state.specs.Keeps.{Rising, Each}
use Rattle.state.proofs.KeepsLaws.{split}
use Rattle.state.proofs.ArrayLaws.{each_map}
use Rattle.state.specs.Lookup.{place_in, NeverFalling}
use Rattle.state_lookup.specs.Search.{first_not_below, twos, leads, hop, hops, found, sought, look, looks_from, looks}
use Rattle.state_lookup.specs.SearchLaws.{Apart, Same}

pub twos_positive : (e : ℕ) → 0 < twos e
twos_positive zero = omega arith
twos_positive (suc e) = omega (arith, twos_positive e)

twos_rise : (d e : ℕ) → d ≤ e → twos d ≤ twos e
twos_rise zero e l = omega (arith, twos_positive e)
twos_rise (suc d) zero l = absurd (omega arith)
twos_rise (suc d) (suc e) l = omega (arith, twos_rise d e (omega arith))

-- ---- few places

one_look : (at step : ℕ) → length (look at step) ≤ 1
one_look at step = split (length (look at step) ≤ 1) (leb step at) (λ e. simp e (omega arith)) (λ e. simp e (omega arith))

few_from : (id : ℕ) (xs : List ℕ) (at e : ℕ) → length (looks_from id xs at e) ≤ e
few_from id xs at zero = omega arith
few_from id xs at (suc e) =
    let a = one_look at (twos e) in
    let b = few_from id xs (hop id xs at (twos e)) e in
    rw (length-append (look at (twos e)) (looks_from id xs (hop id xs at (twos e)) e)) (omega arith)

-- at most one place a hop
pub few_looks : (e id : ℕ) (xs : List ℕ) → length (looks e id xs) ≤ e
few_looks e id xs = few_from id xs (length xs) e

-- so at most 8 of 128 rows, and 6 of 32
pub at_most_8 : (id : ℕ) (xs : List ℕ) → length (looks 8 id xs) ≤ 8
at_most_8 id xs = few_looks 8 id xs

pub at_most_6 : (id : ℕ) (xs : List ℕ) → length (looks 6 id xs) ≤ 6
at_most_6 id xs = few_looks 6 id xs

-- and of a small table fewer: a hop longer than the table looks at nothing
small_from : (d e id : ℕ) (xs : List ℕ) (at : ℕ) → at < twos d → length (looks_from id xs at e) ≤ d
small_from d zero id xs at l = omega arith
small_from d (suc e) id xs at l =
    split (length (looks_from id xs at (suc e)) ≤ d) (ltb e d)
    (λ q. let b = ltb-true e d q in omega (arith, few_from id xs at (suc e)))
    (λ q. let b = ltb-false e d q in
    let c = twos_rise d e (omega arith) in
    simp (lt-leb (twos e) at (omega arith)) (small_from d e id xs at l))

pub small_looks : (d e id : ℕ) (xs : List ℕ) → length xs < twos d → length (looks e id xs) ≤ d
small_looks d e id xs l = small_from d e id xs (length xs) l

-- the places that hops from here on may look at
record Ahead (at e k : ℕ) : Type 0 where
  pub before : k < at
  pub near : at < k + twos e

-- of those that a hop leaves, none is the place that it looked at
module _ (at e : ℕ) (l : twos e ≤ at) where
  on_taken : (k : ℕ) → Ahead (at - twos e) e k → Ahead at (suc e) k × (k ≡ at - twos e → ⊥)
  on_taken k a = (record { before = omega (arith, a.before); near = omega (arith, a.near) }, λ q. omega (arith, a.before))

  on_left : (k : ℕ) → Ahead at e k → Ahead at (suc e) k × (k ≡ at - twos e → ⊥)
  on_left k a = (record { before = a.before; near = omega (arith, a.near) }, λ q. omega (arith, a.near))

module _ (id : ℕ) (xs : List ℕ) where
  abbrev Good : ℕ → ℕ → List ℕ → Type 0
  Good at e ks = Each (Ahead at e) ks × Apart ks

  -- a look more, behind which come those that the hop leaves
  more : (at e : ℕ) → twos e ≤ at → (ks : List ℕ) → Each (λ k. Ahead at (suc e) k × (k ≡ at - twos e → ⊥)) ks → Apart ks → Good at (suc e) ((at - twos e) ∷ ks)
  more at e l ks h a =
      let p = twos_positive e in
      ((record { before = omega arith; near = omega arith }, each_map (λ k b. b.0) ks h), (each_map (λ k b. b.1) ks h, a))

  ahead : (at e : ℕ) → Good at e (looks_from id xs at e)
  ahead at zero = (tt, tt)
  ahead at (suc e) =
      split (Good at (suc e) (looks_from id xs at (suc e))) (leb (twos e) at)
      (λ f. let l = leb-true (twos e) at f in
      split (Good at (suc e) (looks_from id xs at (suc e))) (leb id (get_or xs (at - twos e) 0))
      (λ q. let g = ahead (at - twos e) e in
      let ks = looks_from id xs (at - twos e) e in
      simp (f, q) (more at e l ks (each_map (on_taken at e l) ks g.0) g.1))
      (λ q. let g = ahead at e in
      let ks = looks_from id xs at e in
      simp (f, q) (more at e l ks (each_map (on_left at e l) ks g.0) g.1)))
      (λ f. let g = ahead at e in
      simp f (each_map (λ k a. record { before = a.before; near = omega (arith, a.near) }) (looks_from id xs at e) g.0, g.1))

pub looks_within : (e id : ℕ) (xs : List ℕ) → Each (λ k. k < length xs) (looks e id xs)
looks_within e id xs = each_map (λ k a. a.before) (looks e id xs) (ahead id xs (length xs) e).0

pub none_twice : (e id : ℕ) (xs : List ℕ) → Apart (looks e id xs)
none_twice e id xs = (ahead id xs (length xs) e).1

each_apart : (P : ℕ → Type 0) (ks ls : List ℕ) → Each P (ks ++ ls) → Each P ks × Each P ls
each_apart P [] ls h = (tt, h)
each_apart P (k ∷ ks) ls h = let t = each_apart P ks ls h.1 in ((h.0, t.0), t.1)

module _ (id : ℕ) (xs ys : List ℕ) (n : length xs ≡ length ys) where
  seen : (at step : ℕ) → Each (Same xs ys) (look at step) → leb step at ≡ true → Same xs ys (at - step)
  seen at step h l = (simp l at h).0

  same_hop : (at step : ℕ) → Each (Same xs ys) (look at step) → hop id xs at step ≡ hop id ys at step
  same_hop at step h =
      split (hop id xs at step ≡ hop id ys at step) (leb step at) (λ e. rw (seen at step h e)) (λ e. simp e)

  -- the place where a hop leads is the same in both, if the place before it was
  same_on : (at step : ℕ) → Each (Same xs ys) (look at step) → (at < length xs → Same xs ys at)
      → let to = hop id xs at step in to < length xs → Same xs ys to
  same_on at step h here =
      split (let to = hop id xs at step in to < length xs → Same xs ys to) (leb step at)
      (λ e. split (let to = hop id xs at step in to < length xs → Same xs ys to) (leb id (get_or xs (at - step) 0))
      (λ q. simp (e, q) (λ l. seen at step h e))
      (λ q. simp (e, q) here))
      (λ e. simp e here)

  same_found : (k : ℕ) → (k < length xs → Same xs ys k) → found id xs k ≡ found id ys k
  same_found k h =
      split (found id xs k ≡ found id ys k) (ltb k (length xs)) (λ e. rw (← n, h (ltb-true _ _ e))) (λ e. simp (e, ← n))

  same_from : (at e : ℕ) → (at < length xs → Same xs ys at) → Each (Same xs ys) (looks_from id xs at e)
      → (found id xs (hops id xs at e) ≡ found id ys (hops id ys at e)) × (looks_from id xs at e ≡ looks_from id ys at e)
  same_from at zero here h = (same_found at here, refl)
  same_from at (suc e) here h =
      let t = each_apart (Same xs ys) (look at (twos e)) (looks_from id xs (hop id xs at (twos e)) e) h in
      let g = same_hop at (twos e) t.0 in
      let r = same_from (hop id xs at (twos e)) e (same_on at (twos e) t.0 here) t.1 in
      (rw (← g) r.0, rw (← g) (ap (λ (ks : List ℕ). look at (twos e) ++ ks) r.1))

-- two columns of as many ids that have the same ids at the places looked at: the same place is found, by the same looks
pub same_looks : (e id : ℕ) (xs ys : List ℕ) → length xs ≡ length ys → Each (Same xs ys) (looks e id xs)
    → (sought e id xs ≡ sought e id ys) × (looks e id xs ≡ looks e id ys)
same_looks e id xs ys n h =
    let r = same_from id xs ys n (length xs) e (λ l. absurd (omega arith)) h in
    (r.0 ∙ ap (λ (k : ℕ). found id ys (hops id ys k e)) n, r.1 ∙ ap (λ (k : ℕ). looks_from id ys k e) n)

-- ---- of a column that never falls, the hops end at the first id not below

never_falls_from : (low high : ℕ) (xs : List ℕ) → low ≤ high → NeverFalling high xs → NeverFalling low xs
never_falls_from low high [] l h = tt
never_falls_from low high (x ∷ xs) l h = (omega (arith, h.0), h.1)

pub rising_never_falls : (low : ℕ) (xs : List ℕ) → Rising low xs → NeverFalling low xs
rising_never_falls low [] h = tt
rising_never_falls low (x ∷ xs) h = (h.0, never_falls_from x (suc x) xs (omega arith) (rising_never_falls (suc x) xs h.1))

above_low : (low : ℕ) (xs : List ℕ) → NeverFalling low xs → (k : ℕ) → k < length xs → low ≤ get_or xs k 0
above_low low [] h k l = absurd (omega arith)
above_low low (x ∷ xs) h zero l = h.0
above_low low (x ∷ xs) h (suc k) l = omega (arith, h.0, above_low x xs h.1 k (omega arith))

-- the ids not below are those from the first of them on
from_first : (id low : ℕ) (xs : List ℕ) → NeverFalling low xs → (k : ℕ) → k < length xs → leb id (get_or xs k 0) ≡ leb (first_not_below id xs) k
from_first id low [] h k l = absurd (omega arith)
from_first id low (x ∷ xs) h zero l =
    split (leb id x ≡ leb (first_not_below id (x ∷ xs)) 0) (ltb x id)
    (λ e. let b = ltb-true x id e in simp e (lt-leb id x b ∙ sym (lt-leb (suc (first_not_below id xs)) 0 (omega arith))))
    (λ e. let b = ltb-false x id e in simp e (le-leb id x b ∙ sym (le-leb 0 0 (omega arith))))
from_first id low (x ∷ xs) h (suc k) l =
    split (leb id (get_or xs k 0) ≡ leb (first_not_below id (x ∷ xs)) (suc k)) (ltb x id)
    (λ e. simp e (from_first id x xs h.1 k (omega arith) ∙ sym (leb-suc-suc (first_not_below id xs) k)))
    (λ e. let a = ltb-false x id e in
    let b = above_low x xs h.1 k (omega arith) in
    simp e (le-leb id (get_or xs k 0) (omega arith) ∙ sym (le-leb 0 (suc k) (omega arith))))

pub first_within : (id : ℕ) (xs : List ℕ) → first_not_below id xs ≤ length xs
first_within id [] = omega arith
first_within id (x ∷ xs) =
    split (first_not_below id (x ∷ xs) ≤ length (x ∷ xs)) (ltb x id) (λ e. simp e (omega (arith, first_within id xs))) (λ e. simp e (omega arith))

module _ (id : ℕ) (xs : List ℕ) (c : NeverFalling 0 xs) where
  abbrev first : ℕ
  first = first_not_below id xs

  -- a hop is taken exactly if it does not lead before the first id not below
  leads_first : (at step : ℕ) → (at ≤ length xs) × (0 < step) → leads id xs at step ≡ leb (first + step) at
  leads_first at step (u, p) =
      split (leads id xs at step ≡ leb (first + step) at) (leb step at)
      (λ e. let l = leb-true step at e in
      simp e (from_first id 0 xs c (at - step) (omega arith)
      ∙ split (leb first (at - step) ≡ leb (first + step) at) (leb first (at - step))
      (λ q. let b = leb-true first (at - step) q in q ∙ sym (le-leb (first + step) at (omega arith)))
      (λ q. let b = leb-false first (at - step) q in q ∙ sym (lt-leb (first + step) at (omega arith)))))
      (λ e. let l = leb-false step at e in simp e (sym (lt-leb (first + step) at (omega arith))))

  ends_at : (at e : ℕ) → (at ≤ length xs) × (first ≤ at) × (at < first + twos e) → hops id xs at e ≡ first
  ends_at at zero (u, l, m) = omega arith
  ends_at at (suc e) (u, l, m) =
      let t = leads_first at (twos e) (u, twos_positive e) in
      split (hops id xs at (suc e) ≡ first) (leb (first + twos e) at)
      (λ q. let b = leb-true (first + twos e) at q in simp (t, q) (ends_at (at - twos e) e (omega arith, omega arith, omega arith)))
      (λ q. let b = leb-false (first + twos e) at q in simp (t, q) (ends_at at e (omega arith, omega arith, omega arith)))

  -- there the hops end
  pub ends_first : (e : ℕ) → length xs < twos e → hops id xs (length xs) e ≡ first
  ends_first e l = ends_at (length xs) e (omega arith, first_within id xs, omega arith)

-- ---- what is found is the id's place

found_on : (id x : ℕ) (xs : List ℕ) (k : ℕ) → found id (x ∷ xs) (suc k) ≡ suc (found id xs k)
found_on id x xs k =
    rw (leb-suc-suc (suc k) (length xs))
    (split (cond (ltb k (length xs) && eqb id (get_or xs k 0)) (suc k) (suc (length xs)) ≡ suc (found id xs k))
    (ltb k (length xs) && eqb id (get_or xs k 0)) (λ e. simp e) (λ e. simp e))

pub found_within : (id : ℕ) (xs : List ℕ) (k : ℕ) → found id xs k ≤ length xs
found_within id xs k =
    split (found id xs k ≤ length xs) (ltb k (length xs))
    (λ e. let l = ltb-true k (length xs) e in
    split (found id xs k ≤ length xs) (eqb id (get_or xs k 0)) (λ q. simp (e, q) (omega arith)) (λ q. simp (e, q) (omega arith)))
    (λ e. simp e (omega arith))

-- an id below all is nowhere
none_below : (id low : ℕ) (xs : List ℕ) → NeverFalling low xs → id < low → place_in id xs ≡ length xs
none_below id low [] h l = refl
none_below id low (x ∷ xs) h l = simp (ne_eqb id x (λ e. omega (arith, h.0)), none_below id x xs h.1 (omega (arith, h.0)))

place_first : (id low : ℕ) (xs : List ℕ) → NeverFalling low xs → found id xs (first_not_below id xs) ≡ place_in id xs
place_first id low [] h = refl
place_first id low (x ∷ xs) h =
    split (found id (x ∷ xs) (first_not_below id (x ∷ xs)) ≡ place_in id (x ∷ xs)) (ltb x id)
    (λ e. let b = ltb-true x id e in
    simp (e, ne_eqb id x (λ q. omega arith)) (found_on id x xs (first_not_below id xs) ∙ ap (λ (k : ℕ). suc k) (place_first id x xs h.1)))
    (λ e. let b = ltb-false x id e in
    simp (e, lt-ltb 0 (suc (length xs)) (omega arith))
    (split (cond (eqb id x) 0 (suc (length xs)) ≡ cond (eqb id x) 0 (suc (place_in id xs))) (eqb id x) (λ q. simp q)
    (λ q. simp (q, none_below id x xs h.1 (omega (arith, eqb-false id x q))))))

-- enough hops find the id's place, as a walk over all ids finds it
pub sought_place : (e id : ℕ) (xs : List ℕ) → NeverFalling 0 xs → length xs < twos e → sought e id xs ≡ place_in id xs
sought_place e id xs c l = rw (ends_first id xs c e l) (place_first id 0 xs c)

-- so in columns that never fall, their number and the ids at the places looked at alone say whether an id is there, and where
pub same_place : (e id : ℕ) (xs ys : List ℕ) → NeverFalling 0 xs × NeverFalling 0 ys → (length xs ≡ length ys) × (length xs < twos e)
    → Each (Same xs ys) (looks e id xs) → place_in id xs ≡ place_in id ys
same_place e id xs ys (c, d) (n, l) h =
    sym (sought_place e id xs c l) ∙ (same_looks e id xs ys n h).0 ∙ sought_place e id ys d (omega arith)

-- and the place of an id that is there is that of the first id not below it
pub place_is_first : (id : ℕ) (xs : List ℕ) → NeverFalling 0 xs → place_in id xs < length xs → place_in id xs ≡ first_not_below id xs
place_is_first id xs c l =
    split (place_in id xs ≡ first_not_below id xs) (ltb (first_not_below id xs) (length xs) && eqb id (get_or xs (first_not_below id xs) 0))
    (λ q. sym (place_first id 0 xs c) ∙ simp q)
    (λ q. let n : place_in id xs ≡ length xs = sym (place_first id 0 xs c) ∙ simp q in absurd (omega arith))
