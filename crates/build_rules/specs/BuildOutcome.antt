-- The builder's refusals read as statements: which fields fit, and what each answer says. `BuildLaws` proves that they fit the
-- computed refusal in both directions, and that no other answer fits.
use Rattle.std.specs.Prelude.{List, ℕ, ◌≤◌, ◌<◌, length}
use Rattle.build_rules.specs.Build.{Fields, size_of}

-- fields that none of 40 to 43 refuses
pub record Fits (f : Fields) : Type 0 where
  pub apid_fits : f.apid ≤ 2047
  pub count_fits : f.count ≤ 16383
  pub few_args : length f.args ≤ 255
  pub few_pads : f.pads ≤ 127

-- they fit, and so does their packet
pub record Ready (f : Fields) (out : List ℕ) : Type 0 where
  pub fits : Fits f
  pub room : size_of f ≤ length out

-- each answer: its own condition, and that those before it don't hold
pub data BuildOutcome (f : Fields) (room : ℕ) : ℕ → Type 0 where
  high_apid : 2047 < f.apid → BuildOutcome f room 40
  high_count : f.apid ≤ 2047 → 16383 < f.count → BuildOutcome f room 41
  many_args : f.apid ≤ 2047 → f.count ≤ 16383 → 255 < length f.args → BuildOutcome f room 42
  many_pads : f.apid ≤ 2047 → f.count ≤ 16383 → length f.args ≤ 255 → 127 < f.pads → BuildOutcome f room 43
  small_output : Fits f → room < size_of f → BuildOutcome f room 44
  built : Fits f → size_of f ≤ room → BuildOutcome f room 0
