-- What loading comes to, declared: the state of a good image, 5 for an empty one, or the refusal of the first bad record at its
-- place. Every load is one of these, and no other answer fits.
use Rattle.std.specs.Prelude.{◌≡◌, List, [], ◌∷◌, ◌++◌, ℕ, length}
use Rattle.image_load.specs.declared.types.Loaded.{Loaded}
use Rattle.image_rules.specs.Records.{Record, records_of}
use Rattle.image_load.specs.Image.{refused, loaded}
use Rattle.image_rules.specs.Good.{Good}
use Rattle.image_rules.specs.RecordOutcome.{Outcome, AllGood}

-- ---- declared

-- of records behind those before, the first bad one: each before it is good, this number says what is wrong with it, and there it begins
pub record FirstBad (before rs : List Record) (n place : ℕ) : Type 0 where
  pub good : List Record
  pub bad : Record
  pub rest : List Record
  pub are : rs ≡ good ++ bad ∷ rest
  pub good_before : AllGood before good
  pub refused_as : Outcome (before ++ good) bad n
  pub not_zero : n ≡ 0 → ⊥
  pub begins_at : place ≡ bad.place

pub data Loading (image : List ℕ) (l : Loaded) : Type 0 where
  loads : Good image → l ≡ loaded (records_of image) → Loading image l
  nothing : length image ≡ 0 → l ≡ refused 5 0 → Loading image l
  stops : {n place : ℕ} → FirstBad [] (records_of image) n place → l ≡ refused n place → Loading image l
