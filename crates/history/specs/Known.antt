-- The run that the events of a history leave, written down as an equation: nothing else links the plain reading to the
-- running path.
use Rattle.std.specs.Prelude.{cond, List, ℕ, ◌-◌, ◌%◌, length}
use Rattle.std.proofs.Math.Option.{Option, none, some}
use Rattle.state.specs.declared.types.Run.{Run}
use Rattle.state.specs.declared.types.Counts.{Counts}
use Rattle.state.specs.Tables.{with_arm, with_counts, first_standing, run_from}
use Rattle.image_rules.specs.Records.{Record}
use Rattle.history.specs.RowsLaws.{states_for}
use Rattle.history.specs.Plain.{Event, nearest, ticks_since, is_arm, timeout, armed, rows, state_of, count, moves_a, moves_r, moves_d, moves_p, moves_u, moves_i, moves_f}

module _ (image : List Record) where
  -- what remains of the timeout
  abbrev pub left : Option (List ℕ) → ℕ → ℕ
  left none ticks = 0
  left (some p) ticks = cond (is_arm image p) (timeout image p - ticks) 0

  abbrev pub known_counts : List Event → Counts
  known_counts h =
      record {
        a = count image (moves_a image) h % 65536;
        r = count image (moves_r image) h % 65536;
        d = count image (moves_d image) h % 65536;
        p = count image (moves_p image) h % 65536;
        u = count image (moves_u image) h % 65536;
        i = count image (moves_i image) h % 65536;
        f = count image (moves_f image) h % 65536;
      }

  abbrev pub known : List Event → Run
  known h =
      run_from
      (with_arm (record { armed = armed image h; ticks = left (nearest image h) (ticks_since image h) }) (with_counts (known_counts h) first_standing))
      (states_for (state_of image h) (length (rows image)))
