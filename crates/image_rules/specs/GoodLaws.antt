-- From each to all: records of which each is good behind those before it are in order, and their tables and start states keep
-- the rules.
use Rattle.std.specs.Prelude.{ℕ, ◌≤◌, length}
use mathlib.Core.List.{List}
use Rattle.state.specs.Keeps.{Rising}
use Rattle.image_rules.specs.Records.{Record}
use Rattle.image_rules.specs.Kinds.{limit, kind_of, ids_in}

-- ---- of each kind: the ids of its rows rise, and there are not too many

pub record Listed (kind : ℕ) (rs : List Record) : Type 0 where
  pub rise : Rising 0 (ids_in kind rs)
  pub few : length (ids_in kind rs) ≤ limit (kind_of kind)
