-- Document 01, "Readings that the rules exclude": a theorem for each line, against the reading that it shuts out.
use Rattle.std.specs.Prelude.{◌≡◌, true, false, List, ℕ, ◌+◌, length, take}
use Rattle.std.proofs.Common.{sym, ap, ◌∙◌, arith, ne_eqb}
use Rattle.std.proofs.lemmas.Bool.{false≢true}
use Rattle.std.specs.Int.Bits.{bit_xor}
use Rattle.wire.specs.Xor.{xor_all}
use Rattle.packet_rules.specs.Layout.{data_length, pads, pad_part}
use Rattle.packet_rules.specs.Judge.{arguments_of}
use Rattle.packet_rules.specs.JudgeOutcome.{Accepts}
use Rattle.packet_rules.specs.Rejection.{is_rejection}
use Rattle.packet_rules.proofs.PacketParts.{argument_count, xor_with_pads}
use Rattle.state.specs.declared.types.Config.{Config}
use Rattle.state.specs.declared.types.Run.{Run}
use Rattle.state.specs.Tables.{Tables, tables_of}
use Rattle.step_rules.specs.declared.types.Stepped.{Stepped}
use Rattle.step_arm.specs.declared.Ticked.{Ticked}
use Rattle.step_arm.specs.Arming.{unarmed, arm_set, arm_after, tick_answer}
use Rattle.step_arm.proofs.ArmingLaws.{tick_last}
use Rattle.step_answers.specs.Answers.{blocked, answer_to}
use Rattle.step_rules.specs.Step.{packet_step_of, fault_step_of, rejected_step, tick_step}
use Rattle.step_rules.proofs.StepOutcome.{only, packet_steps}
use Rattle.step_rules.specs.StepOutcome.{stopped, PacketSteps}
use Rattle.step_rules.specs.StepOutcome as outcomes
use Rattle.step_rules.specs.Packets.{is_accepted}
use Rattle.step_rules.proofs.Packets.{rejects_under, rejected_not}
use Rattle.step_rules.proofs.Demand1.{rejected_moves_only_r, undispatched_fault_leaves_states}

-- "Counting pads as arguments": arguments, pads and the four bytes before them are the whole data
pub pads_are_no_arguments : {p : List ℕ} → Accepts p → length (arguments_of p) + pads p + 4 ≡ data_length p
pads_are_no_arguments a = omega (arith, argument_count a)

-- ".. or leaving them out of the XOR": the ten bytes, the arguments and the pads together come to zero
pub pads_are_in_the_xor : {p : List ℕ} → Accepts p → bit_xor (xor_all (take 10 p)) (bit_xor (xor_all (arguments_of p)) (xor_all (pad_part p))) ≡ 0
pads_are_in_the_xor a = xor_with_pads a

-- "Letting a rejected packet unarm"
pub rejected_leaves_arm : (c : Config) (run : Run) (p : List ℕ) (room : ℕ) → is_rejection (packet_step_of c run p room).answer.answer ≡ true
    → (packet_step_of c run p room).run.standing.arm ≡ run.standing.arm
rejected_leaves_arm c run p room h = ap (λ (r : Run). r.standing.arm) (rejected_moves_only_r c run p room h)

-- ".. or letting an unregistered id stay armed": every accepted packet but an arm that was taken leaves the path unarmed
module _ (c : Config) (run : Run) (p : List ℕ) (room : ℕ) where
  unarms : (r : Stepped) → PacketSteps c run p room r → is_accepted r.answer.answer ≡ true → (r.answer.answer ≡ 11 → ⊥) → r.run.standing.arm ≡ unarmed
  unfolding rejected_step arm_after arm_set
  unarms r (outcomes.breaks e) h z = absurd (false≢true h)
  unarms r (outcomes.cramped e q) h z = absurd (false≢true h)
  unarms r (outcomes.rejects e q n o y) h z = absurd (false≢true (sym (rejected_not n (rejects_under (tables_of c) p o y)) ∙ h))
  unarms r (outcomes.does e q a n o) h z = simp (ne_eqb n 11 z)

  pub accepted_unarms : is_accepted (packet_step_of c run p room).answer.answer ≡ true
      → ((packet_step_of c run p room).answer.answer ≡ 11 → ⊥) → (packet_step_of c run p room).run.standing.arm ≡ unarmed
  accepted_unarms = unarms (packet_step_of c run p room) (packet_steps c run p room)

-- "Testing the timeout before the tick's subtraction, one tick late": the tick that takes the last one ends it
pub last_tick_ends : (run : Run) → run.standing.arm.armed ≡ true → run.standing.arm.ticks ≡ 1 → ((tick_step run).answer.answer ≡ 15) × ((tick_step run).run.standing.arm ≡ unarmed)
unfolding tick_step tick_answer
last_tick_ends run a e = (simp (a, e), ap (λ (t : Ticked). t.arm) (sym (tick_last run.standing.arm.armed run.standing.arm.ticks a (λ z. omega arith) e)))

-- "Checking a protected own command's length before its protection": 30, whatever the arguments
pub protection_before_length : (t : Tables) (id : ℕ) (args : List ℕ) → blocked t.protected false id ≡ true → answer_to t false id args ≡ 30
protection_before_length t id args b = sym (only {t = t} {args = args} (stopped b))

-- "Latching a response that was not dispatched"
pub undispatched_never_latches : (c : Config) (run : Run) (f room : ℕ) → ((fault_step_of c run f room).answer.answer ≡ 10 → ⊥) → (fault_step_of c run f room).run.states ≡ run.states
undispatched_never_latches = undispatched_fault_leaves_states
