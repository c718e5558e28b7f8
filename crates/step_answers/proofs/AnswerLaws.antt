-- Laws of the answers: each way to one, and what the lent tables must be.
use Rattle.std.specs.Prelude.{◌≡◌, Bool, true, false, List, [], ◌∷◌, map, ℕ, ◌<◌, ◌≤◌, eqb, get_or, take}
use Rattle.std.proofs.Math.Path.{refl}
use Rattle.std.proofs.Common.{sym, ap, ◌∙◌, arith, eq-eqb, ne_eqb}
use Rattle.std.proofs.Math.Option.{Option, none, some}
use Rattle.state.specs.Tables.{Route, route_id, listed, route_at}
use Rattle.state.specs.Rules.{member}
use Rattle.state.specs.Lookup.{place_in, Column}
use Rattle.state.proofs.LookupLaws.{is_member, no_member}
use Rattle.state.proofs.ArrayLaws.{listed_at, column_of}
use Rattle.step_effects.specs.FaultStates.{enabled}
use Rattle.step_answers.specs.declared.own.Own.{Own}
use Rattle.step_answers.specs.Answers.{blocked, own_answer, route_answer, answer_for, fault_answer}
use Rattle.step_effects.specs.Dispatch.{for10, dest_of}
use Rattle.step_answers.proofs.OwnLaws.{own_not_10}

-- ---- protection

module _ (protected : List ℕ) (id : ℕ) where
  pub armed_free : false ≡ blocked protected true id
  unfolding blocked
  armed_free = refl

  pub unarmed_blocked : member id protected ≡ blocked protected false id
  unfolding blocked
  unarmed_blocked = refl

-- ---- routes

abbrev no_route : Route
no_route = record { id = 0; dest = 0 }

dest_at : (id : ℕ) (routes : List Route) → dest_of id routes ≡ (get_or routes (place_in id (map route_id routes)) no_route).dest
dest_at id [] = refl
dest_at id (r ∷ routes) = go (dest_at id routes) (eqb id r.id) refl
  where
    go : dest_of id routes ≡ (get_or routes (place_in id (map route_id routes)) no_route).dest → (b : Bool) → eqb id r.id ≡ b
        → dest_of id (r ∷ routes) ≡ (get_or (r ∷ routes) (place_in id (map route_id (r ∷ routes))) no_route).dest
    go ih true e = simp e
    go ih false e = simp e ih

module _ {ids : List ℕ} {n : ℕ} (c : Column 128 ids n) (id k : ℕ) (e : k ≡ place_in id (take n ids)) where
  pub route_none : n ≤ k → 33 ≡ route_answer (take n ids) id
  unfolding route_answer
  route_none h = simp (no_member c.slots id k e h)

  pub route_found : k < n → 10 ≡ route_answer (take n ids) id
  unfolding route_answer
  route_found h = simp (is_member c.slots id k e h)

  pub route_dest : (dests : List ℕ) → k < n → get_or dests k 0 ≡ dest_of id (listed (route_at ids dests) 0 n)
  route_dest dests h =
      let rows = listed (route_at ids dests) 0 n in
      let are : map route_id rows ≡ take n ids = column_of route_id (route_at ids dests) ids n (λ i. refl) (omega (arith, c.slots.long, c.slots.within)) in
      sym (dest_at id rows ∙ rw (are, ← e) (ap (λ (r : Route). r.dest) (listed_at (route_at ids dests) _ n k h)))

-- a routed id gets 10, and its destination is set
pub routed_dest : (ids : List ℕ) (id n dest x : ℕ) → member id ids ≡ true → n ≡ route_answer ids id → dest ≡ for10 n x → dest ≡ x
unfolding route_answer
routed_dest ids id n dest x m e d = d ∙ rw (e, m)

-- ---- the answer to an accepted packet

module _ (routed protected faultIds : List ℕ) (armed : Bool) (id : ℕ) (args : List ℕ) where
  pub answer_30 : (k : Option Own) → blocked protected armed id ≡ true → 30 ≡ answer_for routed protected faultIds armed id k args
  unfolding answer_for
  answer_30 k b = simp b

  pub answer_own : {o : Option Own} (k : Own) → o ≡ some k → blocked protected armed id ≡ false → own_answer faultIds k args ≡ answer_for routed protected faultIds armed id o args
  unfolding answer_for
  answer_own k q b = rw q (simp b)

  pub answer_route : {o : Option Own} → o ≡ none → blocked protected armed id ≡ false → route_answer routed id ≡ answer_for routed protected faultIds armed id o args
  unfolding answer_for
  answer_route q b = rw q (simp b)

-- an own command has no destination
pub own_dest : (faultIds : List ℕ) (k : Own) (args : List ℕ) (n x : ℕ) → n ≡ own_answer faultIds k args → 0 ≡ for10 n x
own_dest faultIds k args n x e = rw (e, own_not_10 faultIds k args)

-- ---- a fault

module _ (states : List ℕ) {place : Option ℕ} where
  pub fault_34 : place ≡ none → 34 ≡ fault_answer states place
  unfolding fault_answer
  fault_34 e = rw e

  module _ (k : ℕ) (e : place ≡ some k) where
    pub fault_13 : (get_or states k 0 ≡ enabled → ⊥) → 13 ≡ fault_answer states place
    unfolding fault_answer
    fault_13 h = rw e (simp (ne_eqb _ _ h))

    pub fault_10 : get_or states k 0 ≡ enabled → 10 ≡ fault_answer states place
    unfolding fault_answer
    fault_10 h = rw e (simp (eq-eqb _ _ h))
