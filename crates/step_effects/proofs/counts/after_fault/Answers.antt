-- `after_fault`: F, and D where the response was dispatched.
use Rattle.step_effects.proofs.CountLaws.{faults_10, faults_other}
use Rattle.step_effects.proofs.counts.after_fault.Goals as goal

pub returns-then-n-ne10 : goal.returns-then-n-ne10
returns-then-n-ne10 c = rw c.bump.ensures (faults_other _ _ c.if-n-ne10.true)

pub returns : goal.returns
returns c = rw (c.bump.ensures, c.bump-2.ensures) (faults_10 _ _ c.if-n-ne10.false)
