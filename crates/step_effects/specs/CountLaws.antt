-- Each way of the counters after a packet, by its answer.
use Rattle.std.specs.Prelude.{true}
use Rattle.state.specs.declared.types.Counts.{Counts}
use Rattle.step_effects.specs.Counters.{up}

-- an accepted packet of which A alone is moved
abbrev pub accepted_only : Counts → Counts
accepted_only c = record { a = up true c.a; r = c.r; d = c.d; p = c.p; u = c.u; i = c.i; f = c.f }
