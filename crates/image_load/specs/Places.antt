-- Where a record begins: behind as many bytes as the records before it have, 4 for the header of each and its body.
use Rattle.std.specs.Prelude.{List, [], ◌∷◌, ℕ, ◌+◌, length}
use Rattle.image_rules.specs.Records.{Record}

-- the bytes of records
abbrev pub bytes_of : List Record → ℕ
bytes_of [] = 0
bytes_of (r ∷ rs) = 4 + length r.body + bytes_of rs
