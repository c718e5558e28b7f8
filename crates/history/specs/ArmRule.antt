-- The arm rule of the running path, in the mission's words: a protected command from an accepted packet is let past exactly when
-- the nearest earlier accepted packet was a well-formed arm command, and its timeout was zero or fewer ticks than that timeout
-- came between. `LetPast` says the second part; let past is any answer but 30.
use Rattle.std.specs.Prelude.{◌≡◌, List, ℕ}
use Rattle.image_rules.specs.Records.{Record}
use Rattle.history.specs.Plain.{Event}
use Rattle.history.specs.Agree.{LetPast}

-- the answer n lets past exactly when the events of h let past, and is 30 exactly when they do not
pub record PastExactly (image : List Record) (h : List Event) (n : ℕ) : Type 0 where
  pub past : LetPast image h → n ≡ 30 → ⊥
  pub only_then : (n ≡ 30 → ⊥) → LetPast image h
  pub else_30 : (LetPast image h → ⊥) → n ≡ 30
