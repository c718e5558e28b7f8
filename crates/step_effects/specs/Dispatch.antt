-- Document 01: the bytes of a command that is sent on, and what a step leaves in the output.
use Rattle.std.specs.Prelude.{◌≡◌, ℕ, ◌+◌, ◌/◌, ◌%◌, cond, List, [], ◌∷◌, length, ◌==◌}
use Rattle.state.specs.Tables.{Route}
pub use Rattle.wire.specs.Put.{over}

-- source, command id (big-endian, two bytes each), argument count (one byte), arguments
abbrev pub command_bytes : ℕ → ℕ → List ℕ → List ℕ
command_bytes source id args = source / 256 ∷ source % 256 ∷ id / 256 ∷ id % 256 ∷ length args ∷ args

-- the longest has 255 arguments: the room that a packet or a fault asks for
abbrev pub step_room : ℕ
step_room = 260

-- a step writes output only for answer 10
unfoldable pub sent : ℕ → ℕ → ℕ → List ℕ → List ℕ → List ℕ
sent n source id args out = cond (n == 10) (over (command_bytes source id args) out) out

-- a command that was written over an output: the bytes that it takes, and what stands in the output
abbrev pub Wrote : ℕ → ℕ → List ℕ → List ℕ → ℕ → List ℕ → Type 0
Wrote source id args out written left = (written ≡ 5 + length args) × (left ≡ over (command_bytes source id args) out)

-- a number that is set for 10 only, else 0
abbrev pub for10 : ℕ → ℕ → ℕ
for10 n x = cond (n == 10) x 0

-- the destination of a command id by its route
abbrev pub dest_of : ℕ → List Route → ℕ
dest_of id [] = 0
dest_of id (r ∷ rs) = cond (id == r.id) r.dest (dest_of id rs)
