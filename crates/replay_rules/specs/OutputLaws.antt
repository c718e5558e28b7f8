-- Laws of the output: a command written behind the place of its numbers, then the numbers, then the next reply behind both.
use Rattle.std.specs.Prelude.{List, ◌++◌, ℕ, ◌-◌, length, take, drop}

-- a buffer whose part from place n on was lent and came back as `part`
abbrev pub back_as : List ℕ → ℕ → List ℕ → List ℕ
back_as out n part = take n out ++ (part ++ drop (length out - n) (drop n out))

-- that part, as it is lent
abbrev pub part_from : List ℕ → ℕ → List ℕ
part_from out n = take (length out - n) (drop n out)
