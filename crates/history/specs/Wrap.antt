-- Demand 3's counters past 65,535, beside the count that a reader trusts: the same event n times over.
use Rattle.std.specs.Prelude.{◌≡◌, ℕ, zero, suc}
use mathlib.Core.List.{List, [], ◌∷◌}
use Rattle.state.specs.declared.types.Counts.{Counts}
use Rattle.state.specs.Tables.{tables_of}
use Rattle.image_load.specs.Image.{load_of}
use Rattle.history.specs.Plain.{Event}
use Rattle.history.specs.Path.{after}

abbrev pub times : ℕ → Event → List Event
times zero e = []
times (suc n) e = e ∷ times n e

module _ (image : List ℕ) (z : (load_of image).answer ≡ 0) where
  -- the counters that n of an event leave
  abbrev pub left_by : ℕ → Event → Counts
  left_by n e = (after (tables_of (load_of image).config) (load_of image).run (times n e)).standing.counts
