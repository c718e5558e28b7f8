-- A good image, declared as document 01 says it: whole records of known kinds and right sizes, exactly one kind 1, first, kinds
-- that never fall, and tables and start states that keep their rules.
use Rattle.std.specs.Prelude.{◌≡◌, true, List, [], ◌∷◌, ℕ, ◌≤◌}
use Rattle.state.specs.Keeps.{Each, Rules}
use Rattle.image_rules.specs.Records.{Record, records_of}
use Rattle.image_rules.specs.Written.{tables_of_records, starts_of_records}
use Rattle.image_rules.specs.Kinds.{is_single, sized, last_of_kinds, kind_of}
use Rattle.image_rules.specs.RecordOutcome.{Follows}

pub record GoodRecord (r : Record) : Type 0 where
  pub whole : r.whole ≡ true
  pub kind_low : 1 ≤ r.kind
  pub kind_high : r.kind ≤ last_of_kinds
  pub fits : sized (kind_of r.kind) r.body ≡ true

-- behind a record of the kind last: kinds never fall, and of a single kind there is no second
abbrev pub Ascending : ℕ → List Record → Type 0
Ascending last [] = Unit {0}
Ascending last (r ∷ rs) = Follows (is_single (kind_of r.kind)) last r.kind × Ascending r.kind rs

-- exactly one kind 1, first: of a single kind, as kind 1 is (`singles` of KindRules), there is no second (`none_second` of GoodEach)
pub data InOrder : List Record → Type 0 where
  basics_first : (r : Record) (rs : List Record) → r.kind ≡ 1 → Ascending 1 rs → InOrder (r ∷ rs)

pub record Good (image : List ℕ) : Type 0 where
  pub records_good : Each GoodRecord (records_of image)
  pub in_order : InOrder (records_of image)
  pub rules : Rules (tables_of_records (records_of image))
  pub starts_0_1 : Each (λ s. s ≤ 1) (starts_of_records (records_of image))
