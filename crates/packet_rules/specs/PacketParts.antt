-- What acceptance means for the bytes of a packet: which of them are arguments, which are pads, and that the XOR has the
-- pads in it; and that the high bit of the function code changes nothing.
use Rattle.std.specs.Prelude.{◌≡◌, List, ℕ, ◌%◌, length}
use Rattle.wire.specs.Xor.{xor_all}
use Rattle.packet_rules.specs.Layout.{byte}

-- two packets that differ in the high bit of the function code, and in the checksum that answers for it
pub record SameButHighBit (s t : List ℕ) : Type 0 where
  pub same_size : length s ≡ length t
  pub low_seven : byte 6 s % 128 ≡ byte 6 t % 128
  pub elsewhere : (k : ℕ) → (k ≡ 6 → ⊥) → (k ≡ 7 → ⊥) → byte k s ≡ byte k t
  pub same_xor : xor_all s ≡ xor_all t
