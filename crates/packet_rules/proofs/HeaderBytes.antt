-- The primary header in bytes, as a writer of packets writes it; and that the fields of `Layout` read it back, in both directions.
use Rattle.std.specs.Prelude.{◌≡◌, List, [], ◌∷◌, ◌++◌, ℕ, zero, suc, ◌+◌, ◌*◌, ◌/◌, ◌%◌, ◌≤◌, ◌<◌, length, drop}
use Rattle.std.proofs.Common.{arith, lit<, drop-cons}
use Rattle.wire.specs.Bytes.{Bytes}
use Rattle.packet_rules.specs.Layout.{byte}
use Rattle.packet_rules.specs.HeaderBytes.{header_bytes, HeaderFits, HeaderIs}

-- the fields that were written are read, whatever follows
pub header_read : (kind flag process count field : ℕ) (rest : List ℕ) → HeaderFits kind flag process count field
    → HeaderIs (header_bytes kind flag process count field ++ rest) kind flag process count field
header_read kind flag process count field rest f = record {
  version_0 = omega arith;
  kind_is = omega arith;
  flag_is = omega arith;
  apid_is = omega arith;
  both_set = omega arith;
  count_is = omega arith;
  field_is = omega arith;
}

-- they are bytes
pub header_bytes_lem : (kind flag process count field : ℕ) → HeaderFits kind flag process count field → Bytes (header_bytes kind flag process count field)
header_bytes_lem kind flag process count field f zero = omega arith
header_bytes_lem kind flag process count field f (suc zero) = omega arith
header_bytes_lem kind flag process count field f (suc (suc zero)) = omega arith
header_bytes_lem kind flag process count field f (suc (suc (suc zero))) = omega arith
header_bytes_lem kind flag process count field f (suc (suc (suc (suc zero)))) = omega arith
header_bytes_lem kind flag process count field f (suc (suc (suc (suc (suc zero))))) = omega arith
header_bytes_lem kind flag process count field f (suc (suc (suc (suc (suc (suc k)))))) = lit< tt

-- bytes 0 to 5 are the header of what was read in them, where version and flags are those of a writer
pub header_written : (s : List ℕ) (kind flag process count field : ℕ) → Bytes s → HeaderIs s kind flag process count field
    → header_bytes kind flag process count field ≡ byte 0 s ∷ byte 1 s ∷ byte 2 s ∷ byte 3 s ∷ byte 4 s ∷ byte 5 s ∷ []
header_written s kind flag process count field b h =
    let b0 = b 0 in
    let b1 = b 1 in
    let b2 = b 2 in
    let b3 = b 3 in
    let b4 = b 4 in
    let b5 = b 5 in
    let e0 : kind * 16 + flag * 8 + process / 256 ≡ byte 0 s = omega arith in
    let e1 : process % 256 ≡ byte 1 s = omega arith in
    let e2 : 3 * 64 + count / 256 ≡ byte 2 s = omega arith in
    let e3 : count % 256 ≡ byte 3 s = omega arith in
    let e4 : field / 256 ≡ byte 4 s = omega arith in
    let e5 : field % 256 ≡ byte 5 s = omega arith in
    rw (e0, e1, e2, e3, e4, e5)

-- a packet of ten bytes or more is those ten and the rest
pub first_ten : (s : List ℕ) → 10 ≤ length s
    → s ≡ byte 0 s ∷ byte 1 s ∷ byte 2 s ∷ byte 3 s ∷ byte 4 s ∷ byte 5 s ∷ byte 6 s ∷ byte 7 s ∷ byte 8 s ∷ byte 9 s ∷ drop 10 s
first_ten s h =
    rw (← from 9 (lit< tt), ← from 8 (lit< tt), ← from 7 (lit< tt), ← from 6 (lit< tt), ← from 5 (lit< tt), ← from 4 (lit< tt), ← from 3 (lit< tt), ← from 2 (lit< tt), ← from 1 (lit< tt), ← from 0 (lit< tt))
  where
    from : (k : ℕ) → k < 10 → drop k s ≡ byte k s ∷ drop (suc k) s
    from k l = drop-cons s k 0 (omega arith)
