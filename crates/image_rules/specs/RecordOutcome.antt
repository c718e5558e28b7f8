-- What each number says of a record that stands behind others, in their order: the table of refusals, declared for every kind
-- at once. What the size and the rule of each kind say, in the paper's words, stands in `KindRules`. `RecordOutcomeLaws` proves that the computed number says so, and that no other number fits.
use Rattle.std.specs.Prelude.{◌≡◌, Bool, true, false, List, [], ◌∷◌, ◌++◌, ℕ, ◌≤◌, ◌<◌, length}
use Rattle.state.specs.Tables.{Tables}
use Rattle.state.specs.Rules.{floor}
use Rattle.image_rules.specs.Records.{Record}
use Rattle.image_rules.specs.Written.{row_id, tables_of_records}
use Rattle.image_rules.specs.Kinds.{is_single, sized, limit, rule, last_of_kinds, kind_of, ids_in}
use Rattle.image_rules.specs.Checks.{last_kind}

-- kinds never fall, and of a single kind there is no second
pub record Follows (single : Bool) (last kind : ℕ) : Type 0 where
  pub never_falls : last ≤ kind
  pub no_second : single ≡ true → last ≡ kind → ⊥

-- the first record is of kind 1. The last kind is 0 where no record stands before
pub data Order (single : Bool) (last kind : ℕ) : Type 0 where
  begins : last ≡ 0 → kind ≡ 1 → Order single last kind
  goes_on : (last ≡ 0 → ⊥) → Follows single last kind → Order single last kind

pub data BadOrder (single : Bool) (last kind : ℕ) : Type 0 where
  first_not_basics : last ≡ 0 → (kind ≡ 1 → ⊥) → BadOrder single last kind
  second : (last ≡ 0 → ⊥) → single ≡ true → last ≡ kind → BadOrder single last kind
  falls : kind < last → BadOrder single last kind

-- kind, size and order are right: none of 2, 3 and the first three cases of 4
pub record Shaped (last kind : ℕ) (b : List ℕ) : Type 0 where
  pub kind_low : 1 ≤ kind
  pub kind_high : kind ≤ last_of_kinds
  pub fits : sized (kind_of kind) b ≡ true
  pub order : Order (is_single (kind_of kind)) last kind

-- a record that nothing refuses, behind rows of its kind with these ids
pub record Fine (last : ℕ) (ids : List ℕ) (t : Tables) (kind : ℕ) (b : List ℕ) : Type 0 where
  pub shaped : Shaped last kind b
  pub above : floor ids ≤ row_id b
  pub room : length ids < limit (kind_of kind)
  pub kept : rule (kind_of kind) kind t b ≡ true

-- of a whole record: its own condition fails, and those of the numbers before hold
pub data Verdict (last : ℕ) (ids : List ℕ) (t : Tables) (kind : ℕ) (b : List ℕ) : ℕ → Type 0 where
  no_kind : kind < 1 → Verdict last ids t kind b 2
  past_kinds : last_of_kinds < kind → Verdict last ids t kind b 2
  missized : 1 ≤ kind → kind ≤ last_of_kinds → sized (kind_of kind) b ≡ false → Verdict last ids t kind b 3
  out_of_order : 1 ≤ kind → kind ≤ last_of_kinds → sized (kind_of kind) b ≡ true → BadOrder (is_single (kind_of kind)) last kind → Verdict last ids t kind b 4
  not_above : Shaped last kind b → row_id b < floor ids → Verdict last ids t kind b 4
  too_many : Shaped last kind b → floor ids ≤ row_id b → limit (kind_of kind) ≤ length ids → Verdict last ids t kind b 6
  rule_broken : Shaped last kind b → floor ids ≤ row_id b → length ids < limit (kind_of kind) → rule (kind_of kind) kind t b ≡ false → Verdict last ids t kind b 7
  fine : Fine last ids t kind b → Verdict last ids t kind b 0

-- of a record behind those before it
pub data Outcome (before : List Record) (r : Record) : ℕ → Type 0 where
  is_cut : r.whole ≡ false → Outcome before r 1
  is_whole : {n : ℕ} → r.whole ≡ true → Verdict (last_kind before) (ids_in r.kind before) (tables_of_records before) r.kind r.body n → Outcome before r n

-- a record that is good behind those before it
pub record GoodAfter (before : List Record) (r : Record) : Type 0 where
  pub whole : r.whole ≡ true
  pub rest : Fine (last_kind before) (ids_in r.kind before) (tables_of_records before) r.kind r.body

-- each is good behind those before it
abbrev pub AllGood : List Record → List Record → Type 0
AllGood before [] = Unit {0}
AllGood before (r ∷ rs) = GoodAfter before r × AllGood (before ++ r ∷ []) rs
