-- Laws of records and of the tables that they write: the record at a place, the records from a place on, and a record more.
use Rattle.std.specs.Prelude.{◌≡◌, List, [], ◌∷◌, ℕ, suc, ◌+◌, ◌-◌, ◌≤◌, length, take, drop}
use Rattle.image_rules.specs.Records.{le16}
use Rattle.image_rules.specs.Kinds.{Kind, one, rows}

-- the bytes of the body, as the code takes them
abbrev pub body_at : List ℕ → ℕ → ℕ → List ℕ
body_at bs place end = take (end - (place + 4)) (drop (place + 4) bs)

pub record Whole (bs : List ℕ) (place kind end : ℕ) : Type 0 where
  pub kind_is : kind ≡ le16 bs (place + 2)
  pub end_is : end ≡ place + 4 + le16 bs place
  pub inside : end ≤ length bs

-- ---- the kinds of the table, one after the other

-- of the kinds of rows from n on
abbrev pub RowsFrom : (ℕ → Type 0) → ℕ → List Kind → Type 0
RowsFrom P n [] = Unit {0}
RowsFrom P n (one size ∷ ks) = RowsFrom P (suc n) ks
RowsFrom P n (rows most fits keeps ∷ ks) = P n × RowsFrom P (suc n) ks
