-- The judge's rules read as statements: when a packet is accepted, and what each refusal says of it.
-- `JudgeLaws` proves that they fit the computed judge in both directions, and that no other answer fits.
use Rattle.std.specs.Prelude.{◌≡◌, List, ℕ, ◌+◌, ◌≤◌, ◌<◌, length}
use Rattle.wire.specs.Xor.{xor_all}
use Rattle.packet_rules.specs.Layout.{version, packet_type, secondary, length_field, data_length, pads, arg_count}

-- the size is right: none of 22 and 23
pub record Sized (s : List ℕ) : Type 0 where
  pub long : 6 ≤ length s
  pub whole : length s ≡ 7 + length_field s

-- the form is right too: none of 24 to 27
pub record Formed (s : List ℕ) : Type 0 where
  pub version_0 : version s ≡ 0
  pub telecommand : packet_type s ≡ 1
  pub with_secondary : secondary s ≡ 1
  pub xor_0 : xor_all s ≡ 0

-- a packet is accepted where all the conditions hold
pub record Accepts (s : List ℕ) : Type 0 where
  pub sized : Sized s
  pub formed : Formed s
  pub room : pads s + 4 ≤ data_length s
  pub few : arg_count s ≤ 255

-- each refusal of 24 to 27: its own condition fails, and those before it hold
pub data BadForm (s : List ℕ) : ℕ → Type 0 where
  not_version_0 : (version s ≡ 0 → ⊥) → BadForm s 24
  not_telecommand : version s ≡ 0 → (packet_type s ≡ 1 → ⊥) → BadForm s 25
  not_secondary : version s ≡ 0 → packet_type s ≡ 1 → (secondary s ≡ 1 → ⊥) → BadForm s 26
  not_xor_0 : version s ≡ 0 → packet_type s ≡ 1 → secondary s ≡ 1 → (xor_all s ≡ 0 → ⊥) → BadForm s 27

-- each answer of the judge, and what it says of the packet
pub data Outcome (s : List ℕ) : ℕ → Type 0 where
  below_6 : length s < 6 → Outcome s 22
  not_whole : 6 ≤ length s → (length s ≡ 7 + length_field s → ⊥) → Outcome s 23
  bad_form : {n : ℕ} → Sized s → BadForm s n → Outcome s n
  no_room : Sized s → Formed s → data_length s < pads s + 4 → Outcome s 28
  too_many : Sized s → Formed s → pads s + 4 ≤ data_length s → 255 < arg_count s → Outcome s 29
  taken : Accepts s → Outcome s 0
