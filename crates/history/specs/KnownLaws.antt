-- A step of the running path takes the run that a history leaves to the run that the history with one event more leaves, and
-- its reply is the plain reading's.
use Rattle.std.specs.Prelude.{◌≡◌, List}
use Rattle.std.proofs.Math.Bool.{false}
use Rattle.state.specs.Rules.{member}
use Rattle.image_rules.specs.Records.{Record}
use Rattle.history.specs.Plain.{tables}

-- ---- the conditions of a good image that the reading rests on

pub record Sound (image : List Record) : Type 0 where
  pub free : member (tables image).settings.base (tables image).protected ≡ false
