-- The primary header in bytes, as a writer of packets writes it; and that the fields of `Layout` read it back, in both directions.
use Rattle.std.specs.Prelude.{◌≡◌, List, [], ◌∷◌, ℕ, ◌+◌, ◌*◌, ◌/◌, ◌%◌, ◌≤◌, ◌<◌}
use Rattle.packet_rules.specs.Layout.{version, packet_type, secondary, apid, seq_flags, seq_count, length_field}

-- version 0, the type, the secondary header flag, the APID (the number of a process); sequence flags both set, the count; the length field
abbrev pub header_bytes : ℕ → ℕ → ℕ → ℕ → ℕ → List ℕ
header_bytes kind flag process count field =
    (kind * 16 + flag * 8 + process / 256) ∷ process % 256 ∷ (3 * 64 + count / 256) ∷ count % 256 ∷ field / 256 ∷ field % 256 ∷ []

-- each in its bits
pub record HeaderFits (kind flag process count field : ℕ) : Type 0 where
  pub one_bit : kind < 2
  pub flag_bit : flag < 2
  pub eleven_bits : process ≤ 2047
  pub fourteen_bits : count ≤ 16383
  pub sixteen_bits : field ≤ 65535

-- what the fields of a header are
pub record HeaderIs (s : List ℕ) (kind flag process count field : ℕ) : Type 0 where
  pub version_0 : version s ≡ 0
  pub kind_is : packet_type s ≡ kind
  pub flag_is : secondary s ≡ flag
  pub apid_is : apid s ≡ process
  pub both_set : seq_flags s ≡ 3
  pub count_is : seq_count s ≡ count
  pub field_is : length_field s ≡ field
