-- An image is good exactly where it has bytes and each of its records is good behind those before it.
use Rattle.std.specs.Prelude.{◌≡◌, refl, List, [], ◌∷◌, ℕ, suc, length}
use Rattle.std.proofs.Common.{arith}
use Rattle.std.proofs.lemmas.Bool.{lt-leb}
use Rattle.image_rules.specs.Records.{Record, records_of}
use Rattle.image_rules.specs.RecordOutcome.{AllGood}
use Rattle.image_rules.specs.Good.{InOrder, basics_first, Good}
use Rattle.image_rules.proofs.GoodLaws.{all_records, all_in_order, all_tables, all_start}
use Rattle.image_rules.proofs.GoodEach.{each_good}

-- bytes hold at least one record
pub some_records : (bs : List ℕ) → (length bs ≡ 0 → ⊥) → records_of bs ≡ [] → ⊥
some_records [] h e = h refl
some_records (b ∷ bs) h e =
    let q = simp (lt-leb (suc (length bs)) 0 (omega arith)) at e in
    let z : ◌≡◌ {A = ℕ} 0 1 = cc q in
    omega arith

pub no_records : (bs : List ℕ) → length bs ≡ 0 → records_of bs ≡ []
no_records bs e = rw e

pub good_image : (image : List ℕ) → (length image ≡ 0 → ⊥) → AllGood [] (records_of image) → Good image
good_image image h a =
    let some = some_records image h in
    record {
      records_good = all_records [] (records_of image) a;
      in_order = all_in_order (records_of image) some a;
      rules = all_tables (records_of image) some a;
      starts_0_1 = all_start (records_of image) a;
    }

pub image_good : {image : List ℕ} → Good image → AllGood [] (records_of image)
image_good {image} g = each_good (records_of image) g.in_order g.records_good g.rules g.starts_0_1

pub good_not_empty : {image : List ℕ} → Good image → length image ≡ 0 → ⊥
good_not_empty {image} g e = go (records_of image) (no_records image e) g.in_order
  where
    go : (rs : List Record) → rs ≡ [] → InOrder rs → ⊥
    go rs e (basics_first r qs k a) = let z : ◌≡◌ {A = ℕ} 0 1 = cc e in omega arith
