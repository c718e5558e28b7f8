-- Document 01, "Configuration image": the kinds of records as one table, with a definition for each kind. The refusals, their
-- declared table and the laws of both are stated over the table; of the kinds they name the first alone. So order, sizes and
-- verdicts do not move with a further kind; what its records write stands in `Written`, and what its rule says in `KindRules`, of a
-- single kind in `Settings` of the state.
use Rattle.std.specs.Prelude.{Bool, true, false, cond, ◌&&◌, List, [], ◌∷◌, map, ℕ, ◌+◌, ◌-◌, leb, eqb, length, get_or}
use Rattle.state.specs.Tables.{Tables, routed}
use Rattle.state.specs.Settings.{settings_ok}
use Rattle.state.specs.Rules.{route_ok, start_ok}
use Rattle.state.specs.Test.{protected_passes, row_passes}
use Rattle.image_rules.specs.Records.{Record}
use Rattle.image_rules.specs.Written.{of_kind, settings_with, row_id, route_in, protected_in, row_in, start_in}

-- a kind: at most one record, with a body of this size, which writes settings; or rows with rising ids: at most so many, the size of
-- a body, and the other rules, by the tables that the records before it wrote
pub data Kind : Type 0 where
  one : ℕ → Kind
  rows : ℕ → (List ℕ → Bool) → (Tables → List ℕ → Bool) → Kind

abbrev pub is_single : Kind → Bool
is_single (one size) = true
is_single (rows most fits keeps) = false

abbrev pub sized : Kind → List ℕ → Bool
sized (one size) b = eqb (length b) size
sized (rows most fits keeps) b = fits b

abbrev pub limit : Kind → ℕ
limit (one size) = 1
limit (rows most fits keeps) = most

-- the other rules of a kind with its number. Of a single kind: the settings keep their rule with what its record sets
abbrev pub rule : Kind → ℕ → Tables → List ℕ → Bool
rule (one size) kind t b = settings_ok (settings_with kind b t.settings)
rule (rows most fits keeps) kind t b = keeps t b

-- 1 basics, 6 bytes: ground source, fault source, own base
abbrev pub basics : Kind
basics = one 6

-- 2 route, 3 bytes: command id, destination. At most 128; the destination is 1 to 31, no routed id is an own id
abbrev pub route : Kind
route = rows 128 (λ b. eqb (length b) 3) (λ t b. route_ok t.settings.base (route_in b).id (route_in b).dest)

-- 3 protected, 2 bytes: command id. At most 32; routed or own but never the arm id
abbrev pub protected : Kind
protected = rows 32 (λ b. eqb (length b) 2) (λ t b. protected_passes t.settings.base (routed t) (protected_in b))

-- 4 fault row, 7+n bytes, n 0 to 16. At most 32; start state and latching are 0 or 1, the response id is routed
unfoldable pub row_sized : List ℕ → Bool
row_sized b = leb (get_or b 6 0) 16 && eqb (length b) (7 + get_or b 6 0)

abbrev pub fault_row : Kind
fault_row = rows 32 row_sized (λ t b. start_ok (start_in b) && row_passes (routed t) (row_in b))

-- THE TABLE, kind 1 first
abbrev pub kinds : List Kind
kinds = basics ∷ route ∷ protected ∷ fault_row ∷ []

-- the last kind that there is: the limit of refusal 2
abbrev pub last_of_kinds : ℕ
last_of_kinds = length kinds

-- to be asked of a kind from 1 to the last
abbrev pub kind_of : ℕ → Kind
kind_of kind = get_or kinds (kind - 1) basics

-- the ids of the rows of a kind; one of which there is at most one has none
abbrev pub ids_in : ℕ → List Record → List ℕ
ids_in kind rs = cond (is_single (kind_of kind)) [] (map row_id (of_kind kind rs))
