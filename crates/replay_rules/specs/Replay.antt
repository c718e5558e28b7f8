-- What a replay hands back and writes: of a recording under an image, by the plain reading and nothing else; and of a piece of
-- a recording behind a state.
use Rattle.std.specs.Prelude.{◌≡◌, cond, List, [], ℕ, eqb, ltb, length, take}
use Rattle.state.specs.declared.types.Config.{Config}
use Rattle.state.specs.declared.types.Standing.{Standing}
use Rattle.state.specs.declared.types.Run.{Run}
use Rattle.state.specs.Tables.{Tables, tables_of, run_from, no_counts}
use Rattle.state.specs.Test.{keeps_rules}
use Rattle.step_effects.specs.Dispatch.{over}
use Rattle.image_rules.specs.Records.{Record, records_of}
use Rattle.image_load.specs.Image.{load_of}
use Rattle.history.specs.Plain.{Event, Reply, replies, latest_first}
use Rattle.history.specs.Path.{run, after}
use Rattle.history.specs.Known.{known_counts}
use Rattle.replay_rules.specs.declared.types.Piece.{Piece}
use Rattle.replay_rules.specs.declared.types.Reached.{Reached}
use Rattle.replay_rules.specs.declared.types.Replayed.{Replayed}
use Rattle.replay_rules.specs.Recording.{output_full, events_of, first_refusal, bytes_in, all_bytes, fitting}

-- why the reading stopped, once these replies were given: the output is full where an event is left, else what refuses the first bad record
abbrev pub stop_of : List Reply → List Record → ℕ
stop_of xs rs = cond (ltb (length xs) (length (events_of rs))) output_full (first_refusal rs)

-- the first events, as many as replies were given
abbrev pub answered : List Reply → List Record → List Event
answered xs rs = take (length xs) (events_of rs)

-- ---- a piece of a recording behind a state, by the running path

-- where a replay stopped, and why
abbrev pub stopped_at : Run → ℕ → ℕ → ℕ → ℕ → Piece
stopped_at s n read count wrote = record { run = s; stop = n; read = read; count = count; wrote = wrote }

-- and where the fault states are lent
abbrev pub reached_at : Standing → ℕ → ℕ → ℕ → ℕ → Reached
reached_at standing n read count wrote = record { standing = standing; stop = n; read = read; count = count; wrote = wrote }

-- the replies that find room
abbrev pub path_replies : Tables → Run → List Record → ℕ → List Reply
path_replies t s rs room = fitting room (run t s (events_of rs))

abbrev pub piece : Tables → Run → List Record → List Reply → Piece
piece t s rs xs = stopped_at (after t s (answered xs rs)) (stop_of xs rs) (bytes_in (take (length xs) rs)) (length xs) (length (all_bytes xs))

-- what it came to and the fault states that were lent are the piece
abbrev pub piece_left : Reached → List ℕ → Piece
piece_left r states = stopped_at (run_from r.standing states) r.stop r.read r.count r.wrote

-- nothing read, nothing answered, nothing written
abbrev pub idle : Run → ℕ → Piece
idle s n = stopped_at s n 0 0 0

-- 20 where the state breaks its rules
unfoldable pub piece_of : Config → Run → List ℕ → ℕ → Piece
piece_of c s recording room =
    cond (keeps_rules c s) (piece (tables_of c) s (records_of recording) (path_replies (tables_of c) s (records_of recording) room)) (idle s 20)

unfoldable pub piece_bytes : Config → Run → List ℕ → ℕ → List ℕ
piece_bytes c s recording room = cond (keeps_rules c s) (all_bytes (path_replies (tables_of c) s (records_of recording) room)) []

-- a recording behind a state that keeps its rules, with the fault states lent: what it comes to, and what it writes
pub record Replays (c : Config) (s : Run) (recording out : List ℕ) (r : Reached) (states left : List ℕ) : Type 0 where
  pub told : piece_left r states ≡ piece (tables_of c) s (records_of recording) (path_replies (tables_of c) s (records_of recording) (length out))
  pub output : left ≡ over (all_bytes (path_replies (tables_of c) s (records_of recording) (length out))) out

-- a recording behind any state
pub record Resumes (c : Config) (s : Run) (recording out : List ℕ) (r : Reached) (states left : List ℕ) : Type 0 where
  pub told : piece_left r states ≡ piece_of c s recording (length out)
  pub output : left ≡ over (piece_bytes c s recording (length out)) out

-- ---- a recording under an image, by the plain reading: no running state

-- the replies that find room; none where the image is refused
abbrev pub plain_replies : List ℕ → List ℕ → ℕ → List Reply
plain_replies image recording room =
    cond (eqb (load_of image).answer 0) (fitting room (replies (records_of image) [] (events_of (records_of recording)))) []

abbrev pub replayed : List ℕ → List Record → List Reply → Replayed
replayed image rs xs =
    record {
      load = 0;
      offset = 0;
      stop = stop_of xs rs;
      read = bytes_in (take (length xs) rs);
      count = length xs;
      wrote = length (all_bytes xs);
      counts = known_counts (records_of image) (latest_first [] (answered xs rs));
    }

-- the load's refusal and its offset, and zeros for all else
abbrev pub unloaded : ℕ → ℕ → Replayed
unloaded n place =
    record {
      load = n;
      offset = place;
      stop = 0;
      read = 0;
      count = 0;
      wrote = 0;
      counts = no_counts;
    }

unfoldable pub replay_of : List ℕ → List ℕ → ℕ → Replayed
replay_of image recording room =
    cond (eqb (load_of image).answer 0)
    (replayed image (records_of recording) (plain_replies image recording room))
    (unloaded (load_of image).answer (load_of image).offset)

-- the answers in bytes, one behind the other
unfoldable pub replay_bytes : List ℕ → List ℕ → ℕ → List ℕ
replay_bytes image recording room = all_bytes (plain_replies image recording room)
