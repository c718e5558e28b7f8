-- Document 01, the marked cases (*): one table, one statement, by computation on the rules: loading, the judge and the plain
-- reading.
use Rattle.std.specs.Prelude.{◌≡◌, refl, map}
use Rattle.wire.specs.Xor.{xor_all}
use Rattle.packet_rules.specs.Judge.{refusal_of, arguments_of}
use Rattle.state.specs.Settings.{settings_ok}
use Rattle.state.specs.Rules.{own, route_ok, protected_ok, row_ok, start_ok}
use Rattle.image_rules.specs.Records.{record_at}
use Rattle.image_rules.specs.Written.{tables_of_records, starts_of_records}
use Rattle.image_rules.specs.Kinds.{row_sized}
use Rattle.image_rules.specs.Checks.{refusal_by, refusal_after, record_refusal}
use Rattle.image_load.specs.Image.{load_of}
use Rattle.marked.specs.Marked.{said, table}

pub marked : map (λ c. said c.asked) table ≡ map (λ c. c.wanted) table
unfolding xor_all refusal_of arguments_of own settings_ok route_ok protected_ok row_ok start_ok record_at tables_of_records starts_of_records row_sized refusal_by refusal_after record_refusal load_of
marked = refl
