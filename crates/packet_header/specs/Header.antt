-- What the header reader gives: every field of the primary header, or 22 and zeros where the packet is below 6 bytes.
use Rattle.std.specs.Prelude.{◌≡◌, List, cond, ℕ, ◌≤◌, ◌<◌, length, leb}
use Rattle.std.proofs.Common.{le-leb}
use Rattle.std.proofs.lemmas.Bool.{lt-leb}
use Rattle.packet_header.specs.declared.types.Header.{Header}
use Rattle.packet_rules.specs.Layout.{version, packet_type, secondary, apid, seq_flags, seq_count, length_field}

unfoldable pub header_of : List ℕ → Header
header_of s =
    cond (leb 6 (length s))
    (record {
      answer = 0;
      version = version s;
      kind = packet_type s;
      secondary = secondary s;
      apid = apid s;
      flags = seq_flags s;
      count = seq_count s;
      length = length_field s;
    })
    (record {
      answer = 22;
      version = 0;
      kind = 0;
      secondary = 0;
      apid = 0;
      flags = 0;
      count = 0;
      length = 0;
    })

-- its two answers
module _ (s : List ℕ) where
  pub header_short : length s < 6 → record { answer = 22; version = 0; kind = 0; secondary = 0; apid = 0; flags = 0; count = 0; length = 0 } ≡ header_of s
  unfolding header_of
  header_short h = simp (lt-leb _ _ h)

  pub header_whole : (v k h a f n l : ℕ)
      → (6 ≤ length s) × (v ≡ version s) × (k ≡ packet_type s) × (h ≡ secondary s) × (a ≡ apid s) × (f ≡ seq_flags s) × (n ≡ seq_count s) × (l ≡ length_field s)
      → record { answer = 0; version = v; kind = k; secondary = h; apid = a; flags = f; count = n; length = l } ≡ header_of s
  unfolding header_of
  header_whole v k h a f n l (long, ev, ek, eh, ea, ef, en, el) = simp (le-leb _ _ long, ev, ek, eh, ea, ef, en, el)
