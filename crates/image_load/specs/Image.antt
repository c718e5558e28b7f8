-- Document 01, "Configuration image": loading. The tables that records write and what refuses a record are in `image_rules`, and
-- are passed on here.
use Rattle.std.specs.Prelude.{cond, List, [], ◌∷◌, ◌++◌, ℕ, eqb, length}
use Rattle.state.specs.Tables.{empty, config_of, fresh_run}
use Rattle.image_load.specs.declared.types.Loaded.{Loaded}
use Rattle.image_rules.specs.Records.{Record, records_of}
pub use Rattle.image_rules.specs.Written.{of_kind, route_in, protected_in, row_in, start_in}
unfoldable pub use Rattle.image_rules.specs.Written.{tables_of_records, starts_of_records}
pub use Rattle.image_rules.specs.Checks.{last_kind}
unfoldable pub use Rattle.image_rules.specs.Checks.{refusal_after, record_refusal}

-- ---- loading

-- the state handed back on refusal is all zero, all tables empty
abbrev pub refused : ℕ → ℕ → Loaded
refused n place = record { answer = n; offset = place; config = config_of empty; run = fresh_run [] }

-- the state that records make
abbrev pub loaded : List Record → Loaded
loaded rs =
    record { answer = 0; offset = 0; config = config_of (tables_of_records rs); run = fresh_run (starts_of_records rs) }

-- the first bad record and its offset, or the state that all of them make
abbrev pub load_after : List Record → List Record → Loaded
load_after before [] = loaded before
load_after before (r ∷ rs) =
    cond (eqb (record_refusal before r) 0)
    (load_after (before ++ r ∷ []) rs)
    (refused (record_refusal before r) r.place)

-- an empty image gives 5
unfoldable pub load_of : List ℕ → Loaded
load_of bs = cond (eqb (length bs) 0) (refused 5 0) (load_after [] (records_of bs))
