-- What a step hands back, made here and nowhere else: the four numbers of an answer, and the answer with what is left of the run.
use Rattle.std.specs.Prelude.{Bool, List, ℕ, Option}
use Rattle.state.specs.declared.types.Arm.{Arm}
use Rattle.state.specs.declared.types.Standing.{Standing}
use Rattle.state.specs.declared.types.Run.{Run}
use Rattle.state.specs.Tables.{run_from}
use Rattle.step_rules.specs.declared.types.Answer.{Answer}
use Rattle.step_rules.specs.declared.types.Stepped.{Stepped}
use Rattle.step_rules.specs.declared.types.Moved.{Moved}
use Rattle.step_rules.specs.declared.types.Decision.{Decision}
use Rattle.step_rules.specs.declared.types.Responding.{Responding}
use Rattle.step_rules.specs.declared.types.Left.{Left}

-- answer, command id, destination, bytes written
abbrev pub answer_from : ℕ → ℕ → ℕ → ℕ → Answer
answer_from n id dest written = record { answer = n; id = id; dest = dest; written = written }

-- an answer with no id; one with its id; a command dispatched
abbrev pub bare_answer : ℕ → Answer
bare_answer n = answer_from n 0 0 0

abbrev pub named_answer : ℕ → ℕ → Answer
named_answer n id = answer_from n id 0 0

abbrev pub dispatched_answer : ℕ → ℕ → ℕ → Answer
dispatched_answer id dest written = answer_from 10 id dest written

-- a step
abbrev pub step_from : Run → Answer → Stepped
step_from run answer = record { run = run; answer = answer }

-- 20 and 21 change nothing at all
abbrev pub unchanged : Run → ℕ → Stepped
unchanged run n = step_from run (bare_answer n)

-- ---- where the fault states are lent

-- an inner step of a packet: the arm record that it leaves, whether it was a reset, and the answer
abbrev pub moved_from : Arm → Bool → Answer → Moved
moved_from arm reset answer = record { arm = arm; reset = reset; answer = answer }

-- a packet before anything is sent on: what the step hands back, and whether its command is to be sent on
abbrev pub decision_from : Moved → Bool → Decision
decision_from moved sends = record { moved = moved; sends = sends }

-- a fault before anything is sent on: the answer, and the place of the row whose response is to be sent, if one is
abbrev pub responding_from : Answer → Option ℕ → Responding
responding_from answer row = record { answer = answer; row = row }

-- a step on any state: the standing that it leaves, and the answer
abbrev pub left_from : Standing → Answer → Left
left_from standing answer = record { standing = standing; answer = answer }

-- 20 and 21
abbrev pub left_as : Standing → ℕ → Left
left_as standing n = left_from standing (bare_answer n)

-- the step that it was, with the fault states that it left
abbrev pub step_left : Left → List ℕ → Stepped
step_left l states = step_from (run_from l.standing states) l.answer
