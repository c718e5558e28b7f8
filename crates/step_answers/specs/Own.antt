-- Document 01, "Own commands": which command an id selects, and the argument bytes that it takes.
use Rattle.std.specs.Prelude.{Bool, true, false, cond, List, [], ◌∷◌, ℕ, ◌-◌, eqb, Option as Handed, Some, None}
use Rattle.std.proofs.Math.Option.{Option, none, some}
use Rattle.packet_rules.specs.Layout.{byte, word}
use Rattle.state.specs.Rules.{own}
use Rattle.step_answers.specs.declared.own.Own.{Own}
use Rattle.step_answers.specs.declared.own.Own.TheVariants.{Arm, ResetCounters, NoOp, NoOpWithArgument, Enable, Disable, Clear, ClearAll}

-- what the paper says of each: its number, its argument bytes (the timeout of an arm, the fault id of enable, disable and
-- clear), whether it acts on the row of a fault id, whether it resets the counters, and what is answered once it is done
pub record Rule : Type 0 where
  pub number : ℕ
  pub wanted : ℕ
  pub is_on_row : Bool
  pub resets : Bool
  pub done : ℕ

abbrev pub rule_of : Own → Rule
rule_of Arm = record { number = 0; wanted = 1; is_on_row = false; resets = false; done = 11 }
rule_of ResetCounters = record { number = 1; wanted = 0; is_on_row = false; resets = true; done = 12 }
rule_of NoOp = record { number = 2; wanted = 0; is_on_row = false; resets = false; done = 12 }
rule_of NoOpWithArgument = record { number = 3; wanted = 4; is_on_row = false; resets = false; done = 12 }
rule_of Enable = record { number = 4; wanted = 2; is_on_row = true; resets = false; done = 12 }
rule_of Disable = record { number = 5; wanted = 2; is_on_row = true; resets = false; done = 12 }
rule_of Clear = record { number = 6; wanted = 2; is_on_row = true; resets = false; done = 12 }
rule_of ClearAll = record { number = 7; wanted = 0; is_on_row = false; resets = false; done = 12 }

abbrev pub own_commands : List Own
own_commands = Arm ∷ ResetCounters ∷ NoOp ∷ NoOpWithArgument ∷ Enable ∷ Disable ∷ Clear ∷ ClearAll ∷ []

-- the one that has a number
abbrev pub numbered : ℕ → List Own → Option Own
numbered k [] = none
numbered k (c ∷ cs) = cond (eqb k (rule_of c).number) (some c) (numbered k cs)

-- the id less own base selects; none where the id is no own id
unfoldable pub own_command : ℕ → ℕ → Option Own
own_command base id = cond (own base id) (numbered (id - base) own_commands) none

-- as it is handed on, with its argument bytes
abbrev pub selection_of : Option Own → Handed (Own × ℕ)
selection_of none = None
selection_of (some k) = Some (k, (rule_of k).wanted)

-- the fault id in the arguments
abbrev pub fault_arg : List ℕ → ℕ
fault_arg args = word (byte 0 args) (byte 1 args)

-- whether a packet's id selects the one that resets the counters
abbrev pub is_reset : Option Own → Bool
is_reset none = false
is_reset (some k) = (rule_of k).resets
