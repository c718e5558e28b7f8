-- The theorems of loading: 0 exactly for a good image; the state that 0 comes with; what a refusal comes with; and that the state
-- handed back on refusal breaks its rules.
use Rattle.std.specs.Prelude.{◌≡◌, refl, true, false, List, ℕ}
use Rattle.std.proofs.Common.{sym, ap, ap₂, ◌∙◌, arith}
use Rattle.state.specs.declared.types.Config.{Config}
use Rattle.state.specs.declared.types.Run.{Run}
use Rattle.state.specs.Tables.{fresh_run, tables_of}
use Rattle.state.specs.Test.{keeps_rules}
use Rattle.state.proofs.KeepsLaws.{keeps, kept}
use Rattle.state.specs.Sized.{LentState}
use Rattle.state.proofs.ArrayLaws.{padded_length, tables_back, rules_few, arrays_sized, arrays_keep}
use Rattle.image_load.specs.declared.types.Loaded.{Loaded}
use Rattle.image_rules.specs.Records.{records_of}
use Rattle.image_load.specs.Image.{tables_of_records, starts_of_records, refused, loaded, load_of}
use Rattle.image_rules.specs.Good.{Good}
use Rattle.image_rules.proofs.Zero.{zero_breaks}
use Rattle.image_rules.proofs.RecordLaws.{starts_count}
use Rattle.image_load.specs.Loading.{Loading, loads, nothing, stops}
use Rattle.image_load.proofs.Loading.{loading, only}
use Rattle.image_load.specs.LoadTheorems.{Refusal, of_nothing, of_record, RefusedLoad}

-- ---- 0 exactly for a good image

pub good_loads : {image : List ℕ} → Good image → (load_of image).answer ≡ 0
good_loads {image} g = ap (λ (l : Loaded). l.answer) (sym (only (loads g refl)))

refused_not_0 : {l : Loaded} {n place : ℕ} → l ≡ refused n place → (n ≡ 0 → ⊥) → l.answer ≡ 0 → ⊥
refused_not_0 e h z = h (sym (ap (λ (x : Loaded). x.answer) e) ∙ z)

good_of : (image : List ℕ) (l : Loaded) → Loading image l → l.answer ≡ 0 → Good image × (l ≡ loaded (records_of image))
good_of image l (loads g e) z = (g, e)
good_of image l (nothing n e) z = absurd (refused_not_0 e (λ q. omega arith) z)
good_of image l (stops f e) z = absurd (refused_not_0 e f.not_zero z)

pub loads_good : (image : List ℕ) → (load_of image).answer ≡ 0 → Good image
loads_good image z = (good_of image (load_of image) (loading image) z).0

-- ---- a good load: the tables of the image's records, unarmed, counters zero, the start states, offset 0, rules kept

module _ (image : List ℕ) (z : (load_of image).answer ≡ 0) where
  pub loaded_is : load_of image ≡ loaded (records_of image)
  loaded_is = (good_of image (load_of image) (loading image) z).1

  pub loaded_tables : tables_of (load_of image).config ≡ tables_of_records (records_of image)
  loaded_tables = rw loaded_is (tables_back (tables_of_records (records_of image)) (rules_few (loads_good image z).rules).few_args)

  pub loaded_run : (load_of image).run ≡ fresh_run (starts_of_records (records_of image))
  loaded_run = ap (λ (l : Loaded). l.run) loaded_is

  pub loaded_offset : (load_of image).offset ≡ 0
  loaded_offset = ap (λ (l : Loaded). l.offset) loaded_is

  pub loaded_keeps : keeps_rules (load_of image).config (load_of image).run ≡ true
  loaded_keeps =
      let g = loads_good image z in
      let rs = records_of image in
      rw loaded_is
      (kept _ _ (arrays_keep (tables_of_records rs) (starts_of_records rs) g.rules (starts_count rs) g.starts_0_1))

  -- so its columns and fault states may be lent
  pub loaded_lent : LentState (load_of image).config (load_of image).run
  loaded_lent =
      let rs = records_of image in
      let few = rules_few (loads_good image z).rules in
      record {
        keeps = keeps _ _ loaded_keeps;
        sized = rw loaded_is (arrays_sized (tables_of_records rs) few);
        sized_run = record { states_32 = rw loaded_run (padded_length 32 (starts_of_records rs) (omega (arith, starts_count rs, few.few_rows))) };
      }

refusal_of_lem : (image : List ℕ) (l : Loaded) → Loading image l → (l.answer ≡ 0 → ⊥) → RefusedLoad image l
refusal_of_lem image l (loads g e) h = absurd (h (ap (λ (x : Loaded). x.answer) e))
refusal_of_lem image l (nothing z e) h = rw e (record { refusal = of_nothing z; config_zero = refl; run_zero = refl })
refusal_of_lem image l (stops f e) h = rw e (record { refusal = of_record f; config_zero = refl; run_zero = refl })

pub refused_load : (image : List ℕ) → ((load_of image).answer ≡ 0 → ⊥) → RefusedLoad image (load_of image)
refused_load image h = refusal_of_lem image (load_of image) (loading image) h

-- no other answer, offset and state fit
pub refused_only : (image : List ℕ) (l : Loaded) → RefusedLoad image l → l ≡ load_of image
refused_only image l r =
    go l.answer l.offset r.refusal
    (ap₂ (λ (c : Config) (u : Run). record { answer = l.answer; offset = l.offset; config = c; run = u }) r.config_zero r.run_zero)
  where
    go : (n place : ℕ) → Refusal image n place → l ≡ refused n place → l ≡ load_of image
    go n place (of_nothing z) e = only (nothing z e)
    go n place (of_record f) e = only (stops f e)

-- ---- the all-zero state breaks its rules whatever its run, since its two sources are equal

pub refused_breaks : (image : List ℕ) → ((load_of image).answer ≡ 0 → ⊥) → (r : Run) → keeps_rules (load_of image).config r ≡ false
refused_breaks image h r = rw (refused_load image h).config_zero (zero_breaks r)
