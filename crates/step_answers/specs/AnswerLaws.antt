-- Laws of the answers: each way to one, and what the lent tables must be.
use Rattle.std.specs.Prelude.{◌≡◌, List, ℕ, length}
use Rattle.state.specs.declared.types.Numbers.{Numbers}
use Rattle.state.specs.Lookup.{Column}

-- the arrays of a state that keeps its rules, as they are lent
pub record Lent (n : Numbers) (routeids dests protected faultids : List ℕ) : Type 0 where
  pub route_ids : Column 128 routeids n.nroutes
  pub dests_long : length dests ≡ 128
  pub protected_ids : Column 32 protected n.nprotected
  pub fault_ids : Column 32 faultids n.nrows
