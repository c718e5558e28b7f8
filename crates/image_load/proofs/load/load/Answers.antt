-- `load`: what reading the records came to, from columns that hold nothing.
use Rattle.std.proofs.Common.{rules}
use Rattle.image_load.specs.Image.{tables_of_records}
use Rattle.image_load.proofs.load.load.Goals as goal

pub read_records-requires : goal.read_records-requires
unfolding tables_of_records
read_records-requires c =
    let z = c.zeroed-loaded.ensures in
    record { no_tables = rw (z, c.first_settings-loaded.ensures); no_starts = search (rules, z) }
