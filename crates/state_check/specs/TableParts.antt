-- Parts of the test of a state as the judge asks for them.
use Rattle.std.specs.Prelude.{Bool, ◌&&◌, List, [], ℕ, take, drop}
use Rattle.state.specs.Tables.{FaultRow, listed, route_at, row_at}
use Rattle.state.specs.Test.{all_zero, routes_kept, protected_kept}

-- rows without their arguments, which have a test of their own
abbrev pub argless : List ℕ → List ℕ → List ℕ → ℕ → List FaultRow
argless ids responses latching n = listed (row_at ids responses latching [] []) 0 n

abbrev pub routes_part : ℕ → List ℕ → List ℕ → ℕ → List ℕ → ℕ → Bool
routes_part base ids dests n protected m =
    routes_kept base (listed (route_at ids dests) 0 n)
    && (protected_kept base (take n ids) (take m protected)
    && (all_zero (drop n ids)
    && (all_zero (drop n dests)
    && all_zero (drop m protected))))
