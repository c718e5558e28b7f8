-- What the contracts of the loader's parts say: what a rule reads of the tables, the record at a place, and what refuses a row before its rules are asked.
use Rattle.std.specs.Prelude.{◌≡◌, false, List, ℕ, leb, ltb, length, Option, Some, None}
use Rattle.wire.specs.Check.{check}
use Rattle.state.specs.Tables.{Tables, routed}
use Rattle.state.specs.Rules.{floor}
use Rattle.image_rules.specs.declared.record.Found.{Found}
use Rattle.image_rules.specs.Records.{cut, record_at}
use Rattle.image_rules.specs.Checks.{is_in_order}
use Rattle.image_rules.specs.RecordLaws.{Whole}

-- tables with this own base and these routed ids
pub record Holds (t : Tables) (base : ℕ) (ids : List ℕ) : Type 0 where
  pub base_is : base ≡ t.settings.base
  pub routes_are : ids ≡ routed t

-- the record at a place, of this kind and with this end; 0 where it is cut
pub record FoundAt (bs : List ℕ) (place kind end : ℕ) : Type 0 where
  pub is_cut : end ≡ 0 → record_at bs place ≡ cut place
  pub is_whole : (end ≡ 0 → ⊥) → Whole bs place kind end

-- what is found at a place: nothing where the record is cut, else its kind and its end. `none_found` and `one_found` say of each
-- case what `FoundAt` says of it
abbrev pub FoundIn : List ℕ → ℕ → Option Found → Type 0
FoundIn bs place None = record_at bs place ≡ cut place
FoundIn bs place (Some found) = Whole bs place found.kind found.end

-- a row of the right size, by the order of kinds, the ids of the rows before it, and how many there may be
unfoldable pub place_refusal : ℕ → ℕ → ℕ → List ℕ → ℕ → ℕ
place_refusal last kind limit ids id =
    check (is_in_order false last kind) 4 (check (leb (floor ids) id) 4 (check (ltb (length ids) limit) 6 0))
