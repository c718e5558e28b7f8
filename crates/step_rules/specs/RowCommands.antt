-- Document 01, "Own commands": an enable, disable or clear that was done acts on the row that its fault id means, by the event of
-- its name, and on no other row.
use Rattle.std.specs.Prelude.{ℕ}
use Rattle.step_effects.specs.FaultStates.{enable, disable, clear}
use Rattle.step_answers.specs.declared.own.Own.{Own}
use Rattle.step_answers.specs.declared.own.Own.TheVariants.{Enable, Disable, Clear}

-- the three, each with its event
pub data RowCommand : Own → ℕ → Type 0 where
  enables : RowCommand Enable enable
  disables : RowCommand Disable disable
  clears : RowCommand Clear clear
