-- The theorems of loading: 0 exactly for a good image; the state that 0 comes with; what a refusal comes with; and that the state
-- handed back on refusal breaks its rules.
use Rattle.std.specs.Prelude.{◌≡◌, List, [], ℕ, length}
use Rattle.state.specs.Tables.{empty, config_of, fresh_run}
use Rattle.image_load.specs.declared.types.Loaded.{Loaded}
use Rattle.image_rules.specs.Records.{records_of}
use Rattle.image_load.specs.Loading.{FirstBad}

-- ---- a refusal: of an empty image, or of the first bad record, at its place (`first_begins`: behind the bytes of the good ones);
-- the state is all zero

pub data Refusal (image : List ℕ) : ℕ → ℕ → Type 0 where
  of_nothing : length image ≡ 0 → Refusal image 5 0
  of_record : {n place : ℕ} → FirstBad [] (records_of image) n place → Refusal image n place

pub record RefusedLoad (image : List ℕ) (l : Loaded) : Type 0 where
  pub refusal : Refusal image l.answer l.offset
  pub config_zero : l.config ≡ config_of empty
  pub run_zero : l.run ≡ fresh_run []
