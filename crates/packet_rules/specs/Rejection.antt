-- Which answers reject a packet: the judge's refusals. The counters and the theorems ask it here.
use Rattle.std.specs.Prelude.{Bool, ◌&&◌, ℕ, leb, Result, Ok, Err, ⊤}
use Rattle.packet_rules.specs.declared.rejection.Rejection.{Rejection}
use Rattle.packet_rules.specs.declared.rejection.Rejection.TheVariants.{TooShort, WrongSize, WrongVersion, NotTelecommand, NoSecondaryHeader, XorNotZero, DataTooShort, TooManyArguments}

-- document 01's table of answers: the number of each refusal of the judge
abbrev pub number_of : Rejection → ℕ
number_of TooShort = 22
number_of WrongSize = 23
number_of WrongVersion = 24
number_of NotTelecommand = 25
number_of NoSecondaryHeader = 26
number_of XorNotZero = 27
number_of DataTooShort = 28
number_of TooManyArguments = 29

-- the number that tells a result: 0 where nothing is refused
abbrev pub told : Result ⊤ Rejection → ℕ
told (Ok nothing) = 0
told (Err r) = number_of r

-- 22 to 29
abbrev pub is_rejection : ℕ → Bool
is_rejection n = leb 22 n && leb n 29
