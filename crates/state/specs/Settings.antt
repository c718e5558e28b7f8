-- What the single records of an image set, and the rule of it: as a test, declared in the paper's words, and that the two agree in
-- both directions.
use Rattle.std.specs.Prelude.{◌≡◌, Bool, not, ◌&&◌, ◌≤◌, leb, eqb}
use Rattle.state.specs.declared.types.Settings.{Settings}

-- all zero, as in the state that a refused load hands back
abbrev pub no_settings : Settings
no_settings = record { ground_source = 0; fault = 0; base = 0 }

-- the ground and fault sources differ, own base is at most 65,528
unfoldable pub settings_ok : Settings → Bool
settings_ok s =
    not (eqb s.ground_source s.fault)
    && leb s.base 65528

pub record SettingsOk (s : Settings) : Type 0 where
  pub sources_differ : s.ground_source ≡ s.fault → ⊥
  pub base_fits : s.base ≤ 65528
