-- What callers use of the builder's definitions: the statements of `BuildOutcome` fit the computed refusal, both ways; and what is
-- handed back and left in the output in each case.
use Rattle.std.specs.Prelude.{List, ◌∷◌, ◌++◌, ℕ, ◌/◌, ◌%◌}
use Rattle.build_rules.specs.Build.{Fields, front, back}

-- ---- how it is written: a zero for the checksum, then the XOR of all in its place

abbrev pub unsummed : Fields → List ℕ
unsummed f = front f ++ 0 ∷ back f

-- the same before its pads are put behind it
abbrev pub unpadded : Fields → List ℕ
unpadded f = front f ++ 0 ∷ f.id / 256 ∷ f.id % 256 ∷ f.args
