-- A run of records: each begins with its body length, then its kind, two bytes each, little-endian.
use Rattle.std.specs.Prelude.{Bool, true, false, cond, List, [], ◌∷◌, ℕ, zero, suc, ◌+◌, ◌*◌, leb, length, get_or, take, drop}

-- two bytes, little-endian
abbrev pub le16 : List ℕ → ℕ → ℕ
le16 bs k = get_or bs k 0 + get_or bs (k + 1) 0 * 256

-- a record: where it begins, whether the bytes hold it whole, its kind and its body
pub record Record : Type 0 where
  pub place : ℕ
  pub whole : Bool
  pub kind : ℕ
  pub body : List ℕ

-- a record whose header or body passes the end
abbrev pub cut : ℕ → Record
cut place = record { place = place; whole = false; kind = 0; body = [] }

unfoldable pub record_at : List ℕ → ℕ → Record
record_at bs place =
    cond (leb (place + 4) (length bs))
    (cond (leb (place + 4 + le16 bs place) (length bs))
    (record { place = place; whole = true; kind = le16 bs (place + 2); body = take (le16 bs place) (drop (place + 4) bs) })
    (cut place))
    (cut place)

-- a record, and those that stand behind it where it is whole
abbrev pub and_then : (ℕ → List Record) → Record → List Record
and_then from r = r ∷ cond r.whole (from (r.place + 4 + length r.body)) []

-- the records from a place on, at most f of them
abbrev pub records_from : ℕ → List ℕ → ℕ → List Record
records_from zero bs place = []
records_from (suc f) bs place = cond (leb (length bs) place) [] (and_then (records_from f bs) (record_at bs place))

-- all of them: there are never more records than bytes
abbrev pub records_of : List ℕ → List Record
records_of bs = records_from (length bs) bs 0
