-- Document 01, "Configuration image": the number of each refusal, and what a check told: 0 where it refuses nothing.
use Rattle.std.specs.Prelude.{ℕ, Result, Ok, Err}
use Rattle.image_rules.specs.declared.refusal.BadImage.{BadImage}
use Rattle.image_rules.specs.declared.refusal.BadImage.TheVariants.{CutShort, UnknownKind, WrongLength, OutOfOrder, EmptyImage, NoRoom, BrokenRule}

-- the numbers
abbrev pub number_of : BadImage → ℕ
number_of CutShort = 1
number_of UnknownKind = 2
number_of WrongLength = 3
number_of OutOfOrder = 4
number_of EmptyImage = 5
number_of NoRoom = 6
number_of BrokenRule = 7

-- the definitions speak of numbers: that of the refusal, or 0
abbrev pub told : Result (Unit {0}) BadImage → ℕ
told (Ok done) = 0
told (Err refusal) = number_of refusal
