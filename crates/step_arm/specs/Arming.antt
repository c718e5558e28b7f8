-- Document 01, "Arming": what an accepted packet and a tick do to the arm record.
use Rattle.std.specs.Prelude.{Bool, true, cond, not, ◌&&◌, List, ℕ, ◌-◌, eqb, get_or}
use Rattle.state.specs.declared.types.Arm.{Arm}
pub use Rattle.state.specs.Tables.{unarmed}
use Rattle.step_arm.specs.declared.Ticked.{Ticked}

abbrev pub armed_for : ℕ → Arm
armed_for ticks = record { armed = true; ticks = ticks }

-- the ticks that a timeout of seconds lasts: one tick is one second
abbrev pub full_time : ℕ → ℕ
full_time timeout = timeout

-- a well-formed arm command (answer 11) arms and sets the ticks, also when already armed; every other accepted packet unarms,
-- whatever its answer
unfoldable pub arm_set : ℕ → ℕ → Arm
arm_set n ticks = cond (eqb n 11) (armed_for ticks) unarmed

-- the ticks are those of the packet's timeout, its first argument byte
unfoldable pub arm_after : ℕ → List ℕ → Arm
arm_after n args = arm_set n (full_time (get_or args 0 0))

-- a tick takes one from a nonzero remainder while armed; reaching zero unarms
unfoldable pub ticked : Bool → ℕ → Arm
ticked armed ticks =
    cond (armed && not (eqb ticks 0)) (cond (eqb ticks 1) unarmed (armed_for (ticks - 1))) (record { armed = armed; ticks = ticks })

-- 15 is a tick that ended the armed state
unfoldable pub tick_answer : Bool → ℕ → ℕ
tick_answer armed ticks = cond (armed && eqb ticks 1) 15 14

-- a tick, with its answer
abbrev pub ticked_by : Arm → Ticked
ticked_by arm = record { arm = ticked arm.armed arm.ticks; answer = tick_answer arm.armed arm.ticks }
