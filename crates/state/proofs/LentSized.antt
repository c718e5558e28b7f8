-- A configuration that is lent: its columns have their lengths.
use Rattle.std.specs.Prelude.{◌≡◌, List, ℕ, length}
use Rattle.state.specs.declared.lent.LentConfig.{LentConfig}
use Rattle.state.specs.Tables.{config_of_lent}
use Rattle.state.specs.Sized.{Sized, LentSized}

module _ (l : LentConfig) where
  pub columns_sized : Sized (config_of_lent l)
  columns_sized =
      record {
        routeids_128 = l.lengths.routeids_128;
        dests_128 = l.lengths.dests_128;
        protected_32 = l.lengths.protected_32;
        faultids_32 = l.lengths.faultids_32;
        responses_32 = l.lengths.responses_32;
        latching_32 = l.lengths.latching_32;
        argcounts_32 = l.lengths.argcounts_32;
        args_512 = l.lengths.args_512;
      }

  pub lent_sized : {states : List ℕ} → length states ≡ 32 → LentSized (config_of_lent l) states
  lent_sized e = record { columns = columns_sized; states_32 = e }
