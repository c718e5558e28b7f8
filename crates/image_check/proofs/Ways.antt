-- The ways out of the function of a kind of rows: a wrong size, a wrong place, or its rule.
use Rattle.std.specs.Prelude.{◌≡◌, Bool, true, false, List, ℕ, ◌≤◌, length}
use Rattle.std.proofs.Common.{refl, arith}
use Rattle.wire.specs.Check.{check}
use Rattle.state.specs.Tables.{Tables, empty}
use Rattle.image_rules.specs.Written.{row_id}
use Rattle.image_rules.specs.Kinds.{is_single, sized, row_sized, limit, rule, last_of_kinds, kind_of}
use Rattle.image_rules.proofs.KindRules.{row_7}
use Rattle.image_rules.specs.Checks.{refusal_after}
use Rattle.image_rules.proofs.RecordPartLaws.{by_its_entry, missized, row_misplaced, row_judged}
use Rattle.image_rules.specs.RecordParts.{place_refusal}

-- a kind of rows, by its number
pub record OfRows (kind : ℕ) : Type 0 where
  pub known : (1 ≤ kind) × (kind ≤ last_of_kinds)
  pub many : is_single (kind_of kind) ≡ false

pub routes : OfRows 2
routes = record { known = omega arith; many = refl }

pub protected_ids : OfRows 3
protected_ids = record { known = omega arith; many = refl }

pub fault_rows : OfRows 4
fault_rows = record { known = omega arith; many = refl }

module _ {kind : ℕ} (o : OfRows kind) (last : ℕ) (ids : List ℕ) (t : Tables) (b : List ℕ) where
  pub row_missized : sized (kind_of kind) b ≡ false → 3 ≡ refusal_after last ids t kind b
  row_missized f = by_its_entry kind last ids t b o.known (missized (kind_of kind) last kind ids t b f)

  -- what its place told
  module _ {id n : ℕ} (fits : sized (kind_of kind) b ≡ true) (i : id ≡ row_id b) (placed : n ≡ place_refusal last kind (limit (kind_of kind)) ids id) where
    pub row_stops : (n ≡ 0 → ⊥) → n ≡ refusal_after last ids t kind b
    row_stops h = by_its_entry kind last ids t b o.known (row_misplaced (kind_of kind) last kind ids t b o.many fits i placed h)

    pub row_ends : n ≡ 0 → {ok : Bool} {m : ℕ} → ok ≡ rule (kind_of kind) kind t b → m ≡ check ok 7 0 → m ≡ refusal_after last ids t kind b
    row_ends z r k = by_its_entry kind last ids t b o.known (row_judged (kind_of kind) last kind ids t b o.many fits i placed z r k)

-- a fault row of the right size has 7 bytes
pub seven : (b : List ℕ) → row_sized b ≡ true → 7 ≤ length b
seven b e = omega (arith, row_7 empty b e)
