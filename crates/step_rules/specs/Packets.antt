-- What the steps know of a packet beside its id and arguments, told their tables: the judge's refusal and what it says.
use Rattle.std.specs.Prelude.{Bool, not, ◌||◌, List, ℕ, eqb}
use Rattle.packet_rules.specs.Judge.{refusal_of}
use Rattle.packet_rules.specs.JudgeOutcome.{Outcome, Accepts}
use Rattle.packet_rules.specs.Rejection.{is_rejection}
use Rattle.state.specs.Tables.{Tables}

-- the tables are not asked: the judge of document 01 is the same under all
abbrev pub refusal_under : Tables → List ℕ → ℕ
refusal_under t p = refusal_of p

abbrev pub OutcomeUnder : Tables → List ℕ → ℕ → Type 0
OutcomeUnder t p n = Outcome p n

abbrev pub AcceptsUnder : Tables → List ℕ → Type 0
AcceptsUnder t p = Accepts p

abbrev pub accepted_under : Tables → List ℕ → Bool
accepted_under t p = eqb (refusal_under t p) 0

-- a packet that gets none of 20 to 29 is accepted
abbrev pub is_accepted : ℕ → Bool
is_accepted n = not (is_rejection n || (eqb n 20 || eqb n 21))
