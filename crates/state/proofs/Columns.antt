-- A state that keeps its rules has its ids in rising columns, and no fault state above 2: what lookups and steps ask.
use Rattle.std.specs.Prelude.{List, [], ◌∷◌, ℕ, zero, suc, ◌≤◌, get_or}
use Rattle.std.proofs.Common.{arith}
use Rattle.state.specs.declared.types.Config.{Config}
use Rattle.state.specs.declared.types.Run.{Run}
use Rattle.state.specs.Tables.{FaultRow}
use Rattle.state.specs.Keeps.{AllZero, StatesOk, Keeps}
use Rattle.state.specs.Sized.{Sized}
use Rattle.state.specs.Lookup.{Column}
use Rattle.state.proofs.ArrayLaws.{routes_count, rows_count, routed_is, fault_ids_are}

module _ {c : Config} {run : Run} (k : Keeps c run) (s : Sized c) where
  pub route_column : Column 128 c.routeids c.numbers.nroutes
  route_column =
      let n : c.numbers.nroutes ≤ 128 = omega (arith, routes_count c, k.rules.few_routes) in
      record { slots = record { long = s.routeids_128; within = n }; rise = rw (routed_is c (omega arith)) at k.rules.routes_rise }

  pub protected_column : Column 32 c.protected c.numbers.nprotected
  protected_column = record { slots = record { long = s.protected_32; within = k.within }; rise = k.rules.protected_rise }

  pub fault_column : Column 32 c.faultids c.numbers.nrows
  fault_column =
      let n : c.numbers.nrows ≤ 32 = omega (arith, rows_count c, k.rules.few_rows) in
      record { slots = record { long = s.faultids_32; within = n }; rise = rw (fault_ids_are c (omega arith)) at k.rules.rows_rise }

zero_small : (ss : List ℕ) → AllZero ss → (k : ℕ) → get_or ss k 0 ≤ 2
zero_small [] h k = omega arith
zero_small (s ∷ ss) h zero = omega (arith, h.0)
zero_small (s ∷ ss) h (suc k) = zero_small ss h.1 k

pub states_small : (rows : List FaultRow) (ss : List ℕ) → StatesOk rows ss → (k : ℕ) → get_or ss k 0 ≤ 2
states_small [] ss h k = zero_small ss h k
states_small (r ∷ rows) [] h k = omega arith
states_small (r ∷ rows) (s ∷ ss) h zero = h.0.known
states_small (r ∷ rows) (s ∷ ss) h (suc k) = states_small rows ss h.1 k
