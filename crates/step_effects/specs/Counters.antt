-- Document 01, the answer table's column "counter". Counters wrap at 65,536.
use Rattle.std.specs.Prelude.{ℕ, ◌+◌, ◌%◌, Bool, true, false, cond, ◌&&◌, ◌||◌, ◌==◌}
use Rattle.packet_rules.specs.Rejection.{is_rejection}
use Rattle.state.specs.declared.types.Counts.{Counts}
pub use Rattle.state.specs.Tables.{no_counts}

-- one more where the test holds
abbrev pub up : Bool → ℕ → ℕ
up true x = (x + 1) % 65536
up false x = x

-- an own command that was not well formed: wrong argument count, or a fault id not in the table
abbrev pub invalid_answer : ℕ → Bool
invalid_answer n = n == 31 || n == 32

-- an accepted packet with the answer n
abbrev pub accepted_counts : ℕ → Counts → Counts
accepted_counts n c =
    record {
      a = up true c.a;
      r = c.r;
      d = up (n == 10) c.d;
      p = up (n == 30) c.p;
      u = up (n == 33) c.u;
      i = up (invalid_answer n) c.i;
      f = c.f;
    }

-- a reset that was done (answer 12) leaves all seven at zero, its own count included; whether the packet's id selects it is
-- told
unfoldable pub packet_counts : ℕ → Bool → Counts → Counts
packet_counts n reset c = cond (n == 12 && reset) no_counts (accepted_counts n c)

-- a rejected packet
unfoldable pub rejected_counts : Counts → Counts
rejected_counts c = record { a = c.a; r = up true c.r; d = c.d; p = c.p; u = c.u; i = c.i; f = c.f }

-- a packet by its answer alone, rejected or accepted
unfoldable pub moved_counts : ℕ → Bool → Counts → Counts
moved_counts n reset c = cond (is_rejection n) (rejected_counts c) (packet_counts n reset c)

-- a fault with the answer n
unfoldable pub fault_counts : ℕ → Counts → Counts
fault_counts n c =
    record { a = c.a; r = c.r; d = up (n == 10) c.d; p = c.p; u = c.u; i = c.i; f = up true c.f }
