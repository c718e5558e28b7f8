-- `search`: the hops that are left lead where all of them do.
use Rattle.state_lookup.specs.Hopping.{Hopped}
use Rattle.state_lookup.proofs.search.Given as goal

abbrev pub invariant-loop-step : goal.invariant-loop-step
invariant-loop-step l = Hopped l.ids l.n l.id l.first l.at l.next l.step

abbrev pub decreases-loop-step : goal.decreases-loop-step
decreases-loop-step l = l.step
