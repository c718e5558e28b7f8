-- What the loop of the search keeps true, and its laws: its start, a hop of each sort, each end, and what was found where the ids
-- rise. The column is the first n of an array.
use Rattle.std.specs.Prelude.{◌≡◌, List, ℕ, ◌<◌, ◌≤◌, length, get_or, take}
use Rattle.state_lookup.specs.Search.{half, hops}

-- the hops that are left, from here on, lead where all of them do
pub record Left (ids : List ℕ) (n id e at step : ℕ) : Type 0 where
  pub left : ℕ
  pub step_is : step ≡ half left
  pub ends : hops id (take n ids) (length (take n ids)) e ≡ hops id (take n ids) at left

pub record Hopped (ids : List ℕ) (n id first at next step : ℕ) : Type 0 where
  pub fits : n ≤ length ids
  pub upto : at ≤ n
  pub next_is : at < n → next ≡ get_or ids at 0
  pub rest : (e : ℕ) → first ≡ half e → Left ids n id e at step
