-- What loading comes to, declared: the state of a good image, 5 for an empty one, or the refusal of the first bad record at its
-- place. Every load is one of these, and no other answer fits.
use Rattle.std.specs.Prelude.{◌≡◌, refl, List, [], ◌∷◌, ◌++◌, ℕ, eqb, length}
use Rattle.std.proofs.Common.{sym, ap, ◌∙◌, append-nil, append_assoc, eq-eqb, ne_eqb, eqb-true}
use Rattle.std.proofs.lemmas.Bool.{eqb-false}
use Rattle.state.proofs.KeepsLaws.{split}
use Rattle.image_load.specs.declared.types.Loaded.{Loaded}
use Rattle.image_rules.specs.Records.{Record, records_of}
use Rattle.image_load.specs.Image.{record_refusal, refused, loaded, load_after, load_of}
use Rattle.image_rules.specs.RecordOutcome.{GoodAfter, AllGood}
use Rattle.image_rules.proofs.RecordOutcomeLaws.{outcome, outcome_only, good_zero, zero_good}
use Rattle.image_rules.proofs.GoodImage.{no_records, good_image, image_good, good_not_empty}
use Rattle.image_load.specs.Places.{bytes_of}
use Rattle.image_load.proofs.Places.{none, begins_behind}
use Rattle.image_load.specs.Loading.{FirstBad, Loading, loads, nothing, stops}

-- so it begins behind the bytes of the good ones
pub first_begins : (image : List ℕ) {n place : ℕ} (f : FirstBad [] (records_of image) n place) → place ≡ bytes_of f.good
first_begins image f = f.begins_at ∙ begins_behind image f.good f.bad f.rest f.good_before f.are

-- ---- records behind those before

data After (before rs : List Record) (l : Loaded) : Type 0 where
  passes : AllGood before rs → l ≡ loaded (before ++ rs) → After before rs l
  fails : {n place : ℕ} → FirstBad before rs n place → l ≡ refused n place → After before rs l

after : (before rs : List Record) → After before rs (load_after before rs)
after before [] = passes tt (rw (append-nil before))
after before (r ∷ rs) =
    split (After before (r ∷ rs) (load_after before (r ∷ rs))) (eqb (record_refusal before r) 0)
    (λ e. go (zero_good before r (eqb-true _ _ e)) (simp e) (after (before ++ r ∷ []) rs))
    (λ e. fails {n = record_refusal before r}
    (record {
      good = [];
      bad = r;
      rest = rs;
      are = refl;
      good_before = tt;
      refused_as = rw (append-nil before) (outcome before r);
      not_zero = eqb-false _ _ e;
      begins_at = refl;
    })
    (simp e))
  where
    go : GoodAfter before r → load_after before (r ∷ rs) ≡ load_after (before ++ r ∷ []) rs → After (before ++ r ∷ []) rs (load_after (before ++ r ∷ []) rs)
        → After before (r ∷ rs) (load_after before (r ∷ rs))
    go g e (passes a q) = passes (g, a) (e ∙ q ∙ rw (append_assoc before (r ∷ []) rs))
    go g e (fails f q) =
        fails
        (record {
          good = r ∷ f.good;
          bad = f.bad;
          rest = f.rest;
          are = ap (λ (l : List Record). r ∷ l) f.are;
          good_before = (g, f.good_before);
          refused_as = rw (append_assoc before (r ∷ []) f.good) at f.refused_as;
          not_zero = f.not_zero;
          begins_at = f.begins_at;
        })
        (e ∙ q)

all_pass : (before rs : List Record) → AllGood before rs → load_after before rs ≡ loaded (before ++ rs)
all_pass before [] a = rw (append-nil before)
all_pass before (r ∷ rs) a = simp (good_zero before r a.0) (all_pass (before ++ r ∷ []) rs a.1 ∙ rw (append_assoc before (r ∷ []) rs))

first_fails : (before good : List Record) (bad : Record) (rest : List Record) (n : ℕ)
    → AllGood before good → n ≡ record_refusal (before ++ good) bad → (n ≡ 0 → ⊥) → load_after before (good ++ bad ∷ rest) ≡ refused n bad.place
first_fails before [] bad rest n a e h =
    let q : n ≡ record_refusal before bad = rw (append-nil before) at e in
    rw (← q) (simp (ne_eqb _ _ h))
first_fails before (r ∷ good) bad rest n a e h =
    simp (good_zero before r a.0) (first_fails (before ++ r ∷ []) good bad rest n a.1 (rw (append_assoc before (r ∷ []) good) e) h)

-- ---- an image

pub loading : (image : List ℕ) → Loading image (load_of image)
unfolding load_of
loading image =
    split (Loading image (load_of image)) (eqb (length image) 0) (λ e. nothing (eqb-true _ _ e) (simp e))
    (λ e. rw e (go (eqb-false _ _ e) (after [] (records_of image))))
  where
    go : (length image ≡ 0 → ⊥) → After [] (records_of image) (load_after [] (records_of image)) → Loading image (load_after [] (records_of image))
    go h (passes a q) = loads (good_image image h a) q
    go h (fails f q) = stops f q

first_some : {rs : List Record} {n place : ℕ} → FirstBad [] rs n place → rs ≡ [] → ⊥
first_some f e = none f.good f.bad f.rest (sym e ∙ f.are)

-- no other answer fits
pub only : {image : List ℕ} {l : Loaded} → Loading image l → l ≡ load_of image
unfolding load_of
only {image} (loads g e) = e ∙ sym (simp (ne_eqb _ _ (good_not_empty g)) (all_pass [] (records_of image) (image_good g)))
only {image} (nothing z e) = e ∙ sym (simp (eq-eqb _ _ z))
only {image} (stops f e) =
    e
    ∙ sym (simp (ne_eqb (length image) 0 (λ z. first_some f (no_records image z)))
    (rw f.are
    (first_fails [] f.good f.bad f.rest _ f.good_before (outcome_only f.good f.bad f.refused_as) f.not_zero
    ∙ rw f.begins_at)))
