-- A fault id means one place at most, that of a row with this id; an event on the row at a place acts on that row, and on no other.
use Rattle.std.specs.Prelude.{◌≡◌, ℕ, ◌<◌, ◌≤◌, Bool, true, false, List, length, take, ◌≢◌, nat_lt, slice_index}
use Rattle.std.proofs.Math.Path.{refl}
use Rattle.std.proofs.Common.{sym, ap, ◌∙◌, length-set, get_or-set_same, get_or-set_other}
use Rattle.std.proofs.lemmas.Bool.{false≢true}
use Rattle.std.proofs.Math.Option.{Option, none, some, some-injective}
use Rattle.std.proofs.lemmas.List.{set-get_or}
use borrow.Author.Tests.{lt-ltb, le-ltb, ltb-true}
use Rattle.state.specs.Tables.{FaultRow}
use Rattle.state.specs.Rules.{member}
use Rattle.state.specs.Keeps.{Rising}
use Rattle.state.specs.Lookup.{place_in, Slots}
use Rattle.state.proofs.LookupLaws.{count, found_member, stands_there, place_only}
use Rattle.step_effects.specs.FaultStates.{row_after, within, place_of, is_place, row_for, onward, latched_by}

-- ---- which place a fault id means

-- the place that a lookup gives among the n ids in use, where n stands for none
module _ {limit : ℕ} {ids : List ℕ} {n : ℕ} (c : Slots limit ids n) (f k : ℕ) (e : k ≡ place_in f (take n ids)) where
  place_is : place_of f (take n ids) ≡ within n k
  unfolding place_of
  place_is = rw (count c, ← e)

  pub place_below : k < n → place_of f (take n ids) ≡ some k
  place_below h = place_is ∙ simp (lt-ltb k n h)

  pub place_past : n ≤ k → place_of f (take n ids) ≡ none
  place_past h = place_is ∙ simp (le-ltb k n h)

module _ (f : ℕ) (ids : List ℕ) where
  -- there is one exactly where some row has the id
  pub place_member : is_place (place_of f ids) ≡ member f ids
  unfolding place_of
  place_member = go (nat_lt (place_in f ids) (length ids)) refl
    where
      go : (b : Bool) → nat_lt (place_in f ids) (length ids) ≡ b → is_place (place_of f ids) ≡ member f ids
      go true e = simp e (sym e ∙ found_member f ids)
      go false e = simp e (sym e ∙ found_member f ids)

  -- and it is that of a row with the id
  pub place_row : (k : ℕ) → place_of f ids ≡ some k → (k < length ids) × (slice_index ids k ≡ f)
  unfolding place_of
  place_row k e = go (nat_lt (place_in f ids) (length ids)) refl
    where
      go : (b : Bool) → nat_lt (place_in f ids) (length ids) ≡ b → (k < length ids) × (slice_index ids k ≡ f)
      go true q =
          let h = ltb-true _ _ q in
          let j : place_in f ids ≡ k = some-injective _ k (simp q at e) in
          rw (← j) (h, stands_there f ids h)
      go false q = absurd (false≢true (ap is_place (simp q at e)))

  -- where ids rise, no other row has the id
  pub place_of_row : Rising 0 ids → (k : ℕ) → k < length ids → slice_index ids k ≡ f → place_of f ids ≡ some k
  unfolding place_of
  place_of_row r k h e = rw (place_only f 0 ids r k h e) (simp (lt-ltb k (length ids) h))

-- ---- an event on the row at a place

module _ (next : ℕ → ℕ) (ss : List ℕ) where
  -- the row is in the state that it goes to from the state that it had
  pub acts_on_its_row : (k : ℕ) → k < length ss → slice_index (onward next (some k) ss) k ≡ next (slice_index ss k)
  acts_on_its_row k h = get_or-set_same ss k (next (slice_index ss k)) 0 h

  -- and every other as it was
  pub acts_on_no_other : (place : Option ℕ) (j : ℕ) → (place ≢ some j) → slice_index (onward next place ss) j ≡ slice_index ss j
  acts_on_no_other none j h = refl
  acts_on_no_other (some k) j h = get_or-set_other ss k j (next (slice_index ss k)) 0 (λ e. h (ap some (sym e)))

  pub onward_long : (place : Option ℕ) → length (onward next place ss) ≡ length ss
  onward_long none = refl
  onward_long (some k) = length-set ss k (next (slice_index ss k))

-- a row that doesn't latch: a fault leaves every state as it was, its own too
pub non_latching_keeps : (rows : List FaultRow) (place : Option ℕ) (ss : List ℕ) → (row_for place rows).latching ≡ 0 → latched_by rows place ss ≡ ss
unfolding row_after
non_latching_keeps rows none ss z = refl
non_latching_keeps rows (some k) ss z = rw z (set-get_or ss k 0)
