-- A recording in pieces across the C boundary: a row of `tz_resume` calls, each on what the one before left unread and on the run
-- that it handed back, gives the bytes and the run of one call on the whole.
use Rattle.std.specs.Prelude.{List, [], ◌∷◌, ◌++◌, ℕ, ◌+◌, drop}
use Rattle.state.specs.declared.types.Config.{Config}
use Rattle.replay_rules.specs.Pieces.{Turn}
use Rattle.export_rules.specs.declared.types.Saved.{Saved}
use Rattle.export_rules.specs.Boundary.{Resuming, resume_call, resume_bytes}

-- what two calls come to: the run and the stop of the second, and sums
abbrev pub joined_on : Resuming → Resuming → Resuming
joined_on p q = record { run = q.run; stop = q.stop; read = p.read + q.read; count = p.count + q.count; wrote = p.wrote + q.wrote }

-- a first call, and further ones
abbrev pub chain_on : Config → Saved → List ℕ → ℕ → List Turn → Resuming
chain_on c s a room [] = resume_call c s a room
chain_on c s a room (x ∷ xs) =
    let p = resume_call c s a room in
    joined_on p (chain_on c p.run (drop p.read a ++ x.more) x.room xs)

-- what they write, one behind the other
abbrev pub chain_bytes_on : Config → Saved → List ℕ → ℕ → List Turn → List ℕ
chain_bytes_on c s a room [] = resume_bytes c s a room
chain_bytes_on c s a room (x ∷ xs) =
    let p = resume_call c s a room in
    resume_bytes c s a room ++ chain_bytes_on c p.run (drop p.read a ++ x.more) x.room xs
