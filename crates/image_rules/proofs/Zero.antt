-- The all-zero state, which a refused load hands back, breaks its rules whatever its run, since its two sources are equal.
use Rattle.std.specs.Prelude.{◌≡◌, refl, false}
use Rattle.state.specs.declared.types.Run.{Run}
use Rattle.state.specs.Tables.{empty, config_of}
use Rattle.state.specs.Settings.{settings_ok}
use Rattle.state.specs.Test.{rules_kept, counted, config_kept, keeps_rules}

pub zero_breaks : (r : Run) → keeps_rules (config_of empty) r ≡ false
unfolding keeps_rules config_kept counted rules_kept settings_ok
zero_breaks r = refl
