-- A recording that comes in pieces: each call of `resume` goes on with what the call before left unread and the run that it
-- handed back. However the bytes are cut, and whatever room each call has, the calls answer the first events of the whole
-- recording in their order, as many as they counted; all of them, where the last call does not stop for room.
use Rattle.std.specs.Prelude.{◌≡◌, cond, List, [], ◌∷◌, ◌++◌, ℕ, ◌+◌, ◌≤◌, ltb, length, take, drop}
use Rattle.state.specs.declared.types.Config.{Config}
use Rattle.state.specs.declared.types.Run.{Run}
use Rattle.state.specs.Tables.{tables_of}
use Rattle.image_rules.specs.Records.{records_of}
use Rattle.history.specs.Path.{run, after}
use Rattle.replay_rules.specs.declared.types.Piece.{Piece}
use Rattle.replay_rules.specs.Recording.{output_full, events_of, first_refusal, bytes_in, all_bytes}
use Rattle.replay_rules.specs.Replay.{piece_of, piece_bytes}

-- what was handed back and written is what the first events of a recording come to, as many as were counted
pub record FirstAnswers (c : Config) (s : Run) (recording : List ℕ) (p : Piece) (out : List ℕ) : Type 0 where
  pub few : p.count ≤ length (events_of (records_of recording))
  pub out_is : out ≡ all_bytes (take p.count (run (tables_of c) s (events_of (records_of recording))))
  pub run_is : p.run ≡ after (tables_of c) s (take p.count (events_of (records_of recording)))
  pub read_is : p.read ≡ bytes_in (take p.count (records_of recording))
  pub stop_is : p.stop ≡ cond (ltb p.count (length (events_of (records_of recording)))) output_full (first_refusal (records_of recording))
  pub wrote_is : p.wrote ≡ length out

-- ---- two calls

-- what two calls come to: the run and the stop of the second, and sums
abbrev pub joined : Piece → Piece → Piece
joined p q = record { run = q.run; stop = q.stop; read = p.read + q.read; count = p.count + q.count; wrote = p.wrote + q.wrote }

-- ---- any number of calls

-- a further call: the bytes that came since the one before, and its room
pub record Turn : Type 0 where
  pub more : List ℕ
  pub room : ℕ

-- a first call, and further ones: each on what the one before left unread and the bytes that came since, and on the run that it handed back
abbrev pub chain : Config → Run → List ℕ → ℕ → List Turn → Piece
chain c s a room [] = piece_of c s a room
chain c s a room (x ∷ xs) =
    let p = piece_of c s a room in
    joined p (chain c p.run (drop p.read a ++ x.more) x.room xs)

-- what they write, one behind the other
abbrev pub chain_bytes : Config → Run → List ℕ → ℕ → List Turn → List ℕ
chain_bytes c s a room [] = piece_bytes c s a room
chain_bytes c s a room (x ∷ xs) =
    let p = piece_of c s a room in
    piece_bytes c s a room ++ chain_bytes c p.run (drop p.read a ++ x.more) x.room xs

-- the bytes that came after the first call
abbrev pub all_more : List Turn → List ℕ
all_more [] = []
all_more (x ∷ xs) = x.more ++ all_more xs
