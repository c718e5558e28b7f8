-- Document 01, "Configuration image": what refuses a record after those before it, stated once for every kind.
use Rattle.std.specs.Prelude.{Bool, cond, ◌&&◌, List, [], ◌∷◌, ℕ, leb, ltb, eqb, length}
use Rattle.wire.specs.Check.{check}
use Rattle.state.specs.Tables.{Tables}
use Rattle.state.specs.Rules.{floor}
use Rattle.image_rules.specs.Records.{Record}
use Rattle.image_rules.specs.Written.{row_id, tables_of_records}
use Rattle.image_rules.specs.Kinds.{Kind, is_single, sized, limit, rule, last_of_kinds, kind_of, ids_in}

-- the kind of the last record, 0 where there is none
abbrev pub last_from : ℕ → List Record → ℕ
last_from k [] = k
last_from k (r ∷ rs) = last_from r.kind rs

abbrev pub last_kind : List Record → ℕ
last_kind rs = last_from 0 rs

-- kinds never fall, and of a single kind there is no second
abbrev pub follows : Bool → ℕ → ℕ → Bool
follows single last kind = cond single (ltb last kind) (leb last kind)

-- the first record is of kind 1
abbrev pub is_in_order : Bool → ℕ → ℕ → Bool
is_in_order single last kind = cond (eqb last 0) (eqb kind 1) (follows single last kind)

-- by its kind: its size; the order of kinds; its id, which is above those of the rows before it; the room for it; the other rules
unfoldable pub refusal_by : Kind → ℕ → ℕ → List ℕ → Tables → List ℕ → ℕ
refusal_by k last kind ids t b =
    check (sized k b) 3
    (check (is_in_order (is_single k) last kind) 4
    (check (leb (floor ids) (row_id b)) 4
    (check (ltb (length ids) (limit k)) 6
    (check (rule k kind t b) 7 0))))

-- behind a record of the kind last, rows of its kind with these ids, and these tables
unfoldable pub refusal_after : ℕ → List ℕ → Tables → ℕ → List ℕ → ℕ
refusal_after last ids t kind b =
    check (leb 1 kind && leb kind last_of_kinds) 2 (refusal_by (kind_of kind) last kind ids t b)

-- a record after those before it: the first number, in their order, that fits; 0 where none does
unfoldable pub record_refusal : List Record → Record → ℕ
record_refusal before r =
    check r.whole 1
    (refusal_after (last_kind before) (ids_in r.kind before) (tables_of_records before) r.kind r.body)
