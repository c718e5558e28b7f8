-- `again` is safe: the plain count is at most the number of turns made.
use Rattle.std.proofs.Common.{◌≤◌}
use Rattle.wrap_cases.proofs.again.Given as goal

abbrev pub invariant-loop-turn : goal.invariant-loop-turn
invariant-loop-turn l = l.plain ≤ l._turn
