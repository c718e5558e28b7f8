-- Laws of a lookup: what the place found says of the id.
use Rattle.std.specs.Prelude.{◌≡◌, refl, Bool, true, false, List, [], ◌∷◌, ℕ, zero, suc, ◌<◌, ◌≤◌, eqb, ltb, length, get_or, take}
use Rattle.std.proofs.Common.{sym, ap, ◌∙◌, arith, length-take-le, lt-ltb, le-ltb, ltb-true, eqb-true, eq-eqb, ne_eqb}
use Rattle.std.proofs.Math.Dec.{leb-suc-suc}
use Rattle.state.specs.Rules.{member}
use Rattle.state.specs.Keeps.{Rising}
use Rattle.state.specs.Lookup.{place_in, Slots}

-- a place within the ids is a member's, and no other's
pub found_member : (id : ℕ) (xs : List ℕ) → ltb (place_in id xs) (length xs) ≡ member id xs
found_member id [] = refl
found_member id (x ∷ xs) = go (found_member id xs) (eqb id x) refl
  where
    go : ltb (place_in id xs) (length xs) ≡ member id xs → (b : Bool) → eqb id x ≡ b → ltb (place_in id (x ∷ xs)) (length (x ∷ xs)) ≡ member id (x ∷ xs)
    go ih true e = simp e (lt-ltb 0 (suc (length xs)) (omega arith))
    go ih false e = simp e (leb-suc-suc (suc (place_in id xs)) (length xs) ∙ ih)

-- and there the id stands
pub stands_there : (id : ℕ) (xs : List ℕ) → place_in id xs < length xs → get_or xs (place_in id xs) 0 ≡ id
stands_there id [] h = absurd (omega arith)
stands_there id (x ∷ xs) h = go (stands_there id xs) (eqb id x) refl
  where
    go : (place_in id xs < length xs → get_or xs (place_in id xs) 0 ≡ id) → (b : Bool) → eqb id x ≡ b → get_or (x ∷ xs) (place_in id (x ∷ xs)) 0 ≡ id
    go ih true e = simp e (sym (eqb-true id x e))
    go ih false e = simp e (ih (omega (arith, simp e at h)))

-- and where ids rise it stands nowhere else
above_low : (low : ℕ) (xs : List ℕ) → Rising low xs → (k : ℕ) → k < length xs → low ≤ get_or xs k 0
above_low low [] r k l = absurd (omega arith)
above_low low (x ∷ xs) r zero l = r.0
above_low low (x ∷ xs) r (suc k) l = omega (arith, r.0, above_low (suc x) xs r.1 k (omega arith))

pub place_only : (id low : ℕ) (xs : List ℕ) → Rising low xs → (k : ℕ) → k < length xs → get_or xs k 0 ≡ id → place_in id xs ≡ k
place_only id low [] r k l e = absurd (omega arith)
place_only id low (x ∷ xs) r zero l e = simp (eq-eqb id x (sym e))
place_only id low (x ∷ xs) r (suc k) l e =
    simp (ne_eqb id x (λ q. omega (arith, e, above_low (suc x) xs r.1 k (omega arith))), place_only id (suc x) xs r.1 k (omega arith) e)

module _ {limit : ℕ} {ids : List ℕ} {n : ℕ} (c : Slots limit ids n) where
  -- as many are in use as the count says
  pub count : length (take n ids) ≡ n
  count = length-take-le n ids (omega (arith, c.long, c.within))

-- what the place found among the ids in use says: below n the id is there, and n stands for none
module _ {limit : ℕ} {ids : List ℕ} {n : ℕ} (c : Slots limit ids n) (id k : ℕ) (e : k ≡ place_in id (take n ids)) where
  pub below_member : ltb k n ≡ member id (take n ids)
  below_member = rw e (ap (λ (m : ℕ). ltb (place_in id (take n ids)) m) (sym (count c)) ∙ found_member id (take n ids))

  pub is_member : k < n → member id (take n ids) ≡ true
  is_member h = sym below_member ∙ lt-ltb k n h

  pub member_below : member id (take n ids) ≡ true → k < n
  member_below h = ltb-true k n (below_member ∙ h)

  pub no_member : n ≤ k → member id (take n ids) ≡ false
  no_member h = sym below_member ∙ le-ltb k n h
