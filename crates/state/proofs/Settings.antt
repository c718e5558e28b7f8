-- What the single records of an image set, and the rule of it: as a test, declared in the paper's words, and that the two agree in
-- both directions.
use Rattle.std.specs.Prelude.{◌≡◌, refl, Bool, true, false, not, ◌&&◌, eqb}
use Rattle.std.proofs.lemmas.Bool.{false≢true}
use borrow.Author.Tests.{le-leb, ne_eqb, leb-true, eqb-false, not-true}
use Rattle.state.specs.declared.types.Settings.{Settings}
use Rattle.state.specs.Settings.{settings_ok, SettingsOk}

pub both : (a b : Bool) → (a && b) ≡ true → (a ≡ true) × (b ≡ true)
both true b e = (refl, e)
both false b e = absurd (false≢true e)

module _ {s : Settings} where
  pub settings_kept : SettingsOk s → settings_ok s ≡ true
  unfolding settings_ok
  settings_kept k =
      simp (
        ne_eqb _ _ k.sources_differ,
        le-leb _ _ k.base_fits,
      )

  pub settings_keeps : settings_ok s ≡ true → SettingsOk s
  unfolding settings_ok
  settings_keeps e =
      let a = both (not (eqb s.ground_source s.fault)) _ e in
      record {
        sources_differ = eqb-false _ _ (not-true _ a.0);
        base_fits = leb-true _ _ a.1;
      }
