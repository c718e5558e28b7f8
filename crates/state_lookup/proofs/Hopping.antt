-- What the loop of the search keeps true, and its laws: its start, a hop of each sort, each end, and what was found where the ids
-- rise. The column is the first n of an array.
use Rattle.std.specs.Prelude.{◌≡◌, refl, List, ℕ, zero, suc, ◌-◌, ◌/◌, ◌<◌, ◌≤◌, ltb, length, get_or, take}
use Rattle.std.proofs.Common.{sym, ap, ◌∙◌, arith, get_or-take, length-take-le, lt-ltb, le-ltb, ltb-true, ltb-false, le-leb, eq-eqb, ne_eqb}
use Rattle.std.proofs.lemmas.Bool.{lt-leb}
use Rattle.state.specs.Rules.{member}
use Rattle.state.proofs.KeepsLaws.{split}
use Rattle.state.specs.Lookup.{place_in, NeverFalling, Slots, Column}
use Rattle.state.proofs.LookupLaws.{count, below_member}
use Rattle.state_lookup.specs.Search.{twos, half, hop, hops, sought}
use Rattle.state_lookup.proofs.SearchLaws.{twos_positive, rising_never_falls, sought_place, found_within}
use Rattle.state_lookup.specs.Hopping.{Left, Hopped}

half_twos : (e : ℕ) → twos e / 2 ≡ half e
half_twos zero = refl
half_twos (suc e) = omega arith

pub start : (ids : List ℕ) (n id first : ℕ) → n ≤ length ids → Hopped ids n id first n 0 first
start ids n id first l =
    record {
      fits = l;
      upto = omega arith;
      next_is = λ b. absurd (omega arith);
      rest = λ e q. record { left = e; step_is = q; ends = ap (λ (k : ℕ). hops id (take n ids) k e) (length-take-le n ids l) };
    }

module _ {ids : List ℕ} {n id first at next step : ℕ} (h : Hopped ids n id first at next step) where
  -- the hops that are left behind one more
  onward : (to : ℕ) → 0 < step → to ≡ hop id (take n ids) at step → (e : ℕ) → first ≡ half e → Left ids n id e to (step / 2)
  onward to p t e f = let r = h.rest e f in go r.left r.step_is r.ends
    where
      go : (d : ℕ) → step ≡ half d → hops id (take n ids) (length (take n ids)) e ≡ hops id (take n ids) at d → Left ids n id e to (step / 2)
      go zero s r = absurd (omega arith)
      go (suc d) s r = record { left = d; step_is = rw s (half_twos d); ends = r ∙ rw (t, s) }

  pub too_far : (0 < step) × (at < step) → Hopped ids n id first at next (step / 2)
  too_far (p, l) =
      record { fits = h.fits; upto = h.upto; next_is = h.next_is; rest = onward at p (simp (lt-leb step at l)) }

  module _ (l : (0 < step) × (step ≤ at)) where
    x_is : get_or (take n ids) (at - step) 0 ≡ get_or ids (at - step) 0
    x_is = get_or-take n ids (at - step) 0 (omega (arith, h.upto))

    pub not_taken : get_or ids (at - step) 0 < id → Hopped ids n id first at next (step / 2)
    not_taken b =
        record {
          fits = h.fits;
          upto = h.upto;
          next_is = h.next_is;
          rest = onward at l.0 (rw x_is (simp (le-leb step at l.1, lt-leb id (get_or ids (at - step) 0) b)));
        }

    pub taken : id ≤ get_or ids (at - step) 0 → Hopped ids n id first (at - step) (get_or ids (at - step) 0) (step / 2)
    taken b =
        record {
          fits = h.fits;
          upto = omega (arith, h.upto);
          next_is = λ m. refl;
          rest = onward (at - step) l.0 (rw x_is (simp (le-leb step at l.1, le-leb id (get_or ids (at - step) 0) b)));
        }

  -- no hop is left
  module _ (z : step ≤ 0) (e : ℕ) (q : first ≡ half e) where
    counted : length (take n ids) ≡ n
    counted = length-take-le n ids h.fits

    ended : hops id (take n ids) (length (take n ids)) e ≡ at
    ended = let r = h.rest e q in go r.left r.step_is r.ends
      where
        go : (d : ℕ) → step ≡ half d → hops id (take n ids) (length (take n ids)) e ≡ hops id (take n ids) at d → hops id (take n ids) (length (take n ids)) e ≡ at
        go zero s r = r
        go (suc d) s r = absurd (omega (arith, twos_positive d))

    -- behind the ids no id stands
    behind : n ≤ at → n ≡ sought e id (take n ids)
    behind l = rw (ended, counted) (simp (le-ltb at n l))

    module _ (l : at < n) where
      next_at : next ≡ get_or (take n ids) at 0
      next_at = h.next_is l ∙ sym (get_or-take n ids at 0 l)

      stands : next ≡ id → at ≡ sought e id (take n ids)
      stands b = rw (ended, counted, ← next_at) (simp (lt-ltb at n l, eq-eqb id next (sym b)))

      stands_not : (next ≡ id → ⊥) → n ≡ sought e id (take n ids)
      stands_not b = rw (ended, counted, ← next_at) (simp (lt-ltb at n l, ne_eqb id next (λ p. b (sym p))))

    pub here : next ≡ id → at ≡ sought e id (take n ids)
    here b =
        split (at ≡ sought e id (take n ids)) (ltb at n) (λ t. stands (ltb-true at n t) b)
        (λ t. let l = ltb-false at n t in let k : at ≡ n = omega (arith, h.upto) in k ∙ behind l)

    pub other : (next ≡ id → ⊥) → n ≡ sought e id (take n ids)
    other b = split (n ≡ sought e id (take n ids)) (ltb at n) (λ t. stands_not (ltb-true at n t) b) (λ t. behind (ltb-false at n t))

pub half_below : (e : ℕ) → half e < twos e
half_below zero = omega arith
half_below (suc e) = omega (arith, twos_positive e)

-- ---- what was found, where the ids never fall, and so where they rise

module _ {limit : ℕ} {ids : List ℕ} {n : ℕ} (id e : ℕ) {r : ℕ} (h : r ≡ sought e id (take n ids)) (enough : limit < twos e) where
  place_in_lem : Slots limit ids n → NeverFalling 0 (take n ids) → (r ≡ place_in id (take n ids)) × (r ≤ n)
  place_in_lem s o =
      let k = count s in (
        h ∙ sought_place e id (take n ids) o (omega (arith, k, s.within)),
        omega (arith, h, k, found_within id (take n ids) (hops id (take n ids) (length (take n ids)) e)),
      )

  module _ (c : Column limit ids n) where
    pub is_place_lem : (r ≡ place_in id (take n ids)) × (r ≤ n)
    is_place_lem = place_in_lem c.slots (rising_never_falls 0 (take n ids) c.rise)

    pub is_there : ltb r n ≡ member id (take n ids)
    is_there = below_member c.slots id r is_place_lem.0
