-- Laws of event records: the table of what refuses one, both ways, and the event of each kind.
use Rattle.std.specs.Prelude.{◌≡◌, ℕ}
use Rattle.replay_rules.specs.Recording.{other_kind, wrong_length}

-- a record of this kind and body length, and its refusal
pub data Sort (kind size : ℕ) : ℕ → Type 0 where
  is_packet : kind ≡ 16 → Sort kind size 0
  is_tick : kind ≡ 17 → size ≡ 0 → Sort kind size 0
  is_fault : kind ≡ 18 → size ≡ 2 → Sort kind size 0
  long_tick : kind ≡ 17 → (size ≡ 0 → ⊥) → Sort kind size wrong_length
  bad_fault : kind ≡ 18 → (size ≡ 2 → ⊥) → Sort kind size wrong_length
  other : (kind ≡ 16 → ⊥) → (kind ≡ 17 → ⊥) → (kind ≡ 18 → ⊥) → Sort kind size other_kind
