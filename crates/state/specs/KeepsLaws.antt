-- The computed test of `Test` is the declared record of `Keeps`, in both directions, rule by rule and whole: a law `..kept`
-- goes from the record to the test, and its partner `..keeps` back.
use Rattle.std.specs.Prelude.{◌≤◌, length}
use Rattle.state.specs.Tables.{Tables}
use Rattle.state.specs.Keeps.{Each}

-- the tests of rows leave the numbers of rows and of arguments to others
pub record Few (t : Tables) : Type 0 where
  pub few_routes : length t.routes ≤ 128
  pub few_protected : length t.protected ≤ 32
  pub few_rows : length t.rows ≤ 32
  pub few_args : Each (λ r. length r.args ≤ 16) t.rows
