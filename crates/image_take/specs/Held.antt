-- Arrays that hold the tables and the start states of good records: what the loader's parts ask of them, and a good record more.
use Rattle.std.specs.Prelude.{◌≡◌, refl, true, List, [], ◌∷◌, ◌++◌, map, ℕ, ◌+◌, ◌-◌, ◌*◌, ◌<◌, ◌≤◌, length, get_or, take, drop, set, replicate}
use Rattle.std.proofs.Common.{sym, ◌∙◌, arith}
use Rattle.std.proofs.lemmas.List.{length-map}
use Rattle.wire.specs.Put.{put_at}
use Rattle.state.specs.declared.types.Config.{Config}
use Rattle.state.specs.Tables.{Tables, route_id, fault_id, routed, padded, config_of}
use Rattle.state.specs.Lookup.{Slots, Column}
use Rattle.state.specs.KeepsLaws.{Few}
use Rattle.state.specs.Sized.{Sized}
use Rattle.state.proofs.ArrayLaws.{padded_length, padded_take, padded_more, arrays_sized}
use Rattle.image_rules.specs.Records.{le16, Record}
use Rattle.image_rules.specs.Written.{start_in, tables_of_records, starts_of_records}
use Rattle.image_rules.specs.Kinds.{is_single, kind_of, ids_in}
use Rattle.image_rules.proofs.KindRules.{route_3, protected_2, row_7}
use Rattle.image_rules.proofs.RecordLaws.{not_rows, more, starts_more, starts_count, route_ids, protected_ids, fault_ids}
use Rattle.image_rules.specs.RecordOutcome.{GoodAfter, AllGood}
use Rattle.image_rules.proofs.GoodLaws.{all_listed, all_few, all_good_more}
use Rattle.image_take.specs.Stored.{with_numbers, numbers_behind, Countable, put_route, put_protected, put_row, stored_one, stored_2, stored_3, stored_4}

pub record Held (rs : List Record) (c : Config) (states : List ℕ) : Type 0 where
  pub tables_are : c ≡ config_of (tables_of_records rs)
  pub starts_are : states ≡ padded 32 (starts_of_records rs)
  pub good : AllGood [] rs

pub none_held : {c : Config} {states : List ℕ} → c ≡ config_of (tables_of_records []) → states ≡ replicate 32 0 → Held [] c states
unfolding starts_of_records
none_held e f = record { tables_are = e; starts_are = f; good = tt }

module _ {rs : List Record} {c : Config} {states : List ℕ} (h : Held rs c states) where
  abbrev t : Tables
  t = tables_of_records rs

  few : Few t
  few = all_few rs h.good

  -- ---- what the parts ask

  pub settings_are : c.numbers.settings ≡ t.settings
  settings_are = rw h.tables_are

  pub routes_are : take c.numbers.nroutes c.routeids ≡ routed t
  routes_are = rw h.tables_are (padded_take 128 (map route_id t.routes) (length t.routes) (length-map t.routes route_id))

  pub held_routes : take c.numbers.nroutes c.routeids ≡ ids_in 2 rs
  held_routes = routes_are ∙ sym (route_ids rs)

  pub held_protected : take c.numbers.nprotected c.protected ≡ ids_in 3 rs
  held_protected = rw h.tables_are (padded_take 32 t.protected (length t.protected) refl) ∙ sym (protected_ids rs)

  pub held_faults : take c.numbers.nrows c.faultids ≡ ids_in 4 rs
  held_faults =
      rw h.tables_are (padded_take 32 (map fault_id t.rows) (length t.rows) (length-map t.rows fault_id)) ∙ sym (fault_ids rs)

  pub sized : Sized c
  sized = rw h.tables_are (arrays_sized t few)

  pub states_long : length states ≡ 32
  states_long = rw h.starts_are (padded_length 32 (starts_of_records rs) (omega (arith, starts_count rs, few.few_rows)))

  pub route_column : Column 128 c.routeids c.numbers.nroutes
  route_column =
      record {
        slots = record { long = sized.routeids_128; within = rw h.tables_are few.few_routes };
        rise = rw held_routes (all_listed 2 rs h.good).rise;
      }

  pub protected_slots : Slots 32 c.protected c.numbers.nprotected
  protected_slots = record { long = sized.protected_32; within = rw h.tables_are few.few_protected }

  pub fault_slots : Slots 32 c.faultids c.numbers.nrows
  fault_slots = record { long = sized.faultids_32; within = rw h.tables_are few.few_rows }

  -- ---- a good record behind them

  module _ {r : Record} (g : GoodAfter rs r) where
    abbrev b : List ℕ
    b = r.body

    -- its room in the tables
    room_2 : r.kind ≡ 2 → length t.routes < 128
    room_2 k = rw (route_ids rs, length-map t.routes route_id) at (rw k at g.rest.room)

    room_3 : r.kind ≡ 3 → length t.protected < 32
    room_3 k = rw (protected_ids rs) at (rw k at g.rest.room)

    room_4 : r.kind ≡ 4 → length t.rows < 32
    room_4 k = rw (fault_ids rs, length-map t.rows fault_id) at (rw k at g.rest.room)

    -- its size, and its room in the arrays
    pub three : r.kind ≡ 2 → (length b ≡ 3) × (c.numbers.nroutes < 128)
    three k = (route_3 t b (rw k at g.rest.shaped.fits), rw h.tables_are (room_2 k))

    pub two : r.kind ≡ 3 → (length b ≡ 2) × (c.numbers.nprotected < 32)
    two k = (protected_2 t b (rw k at g.rest.shaped.fits), rw h.tables_are (room_3 k))

    fits_4 : r.kind ≡ 4 → (length b ≡ 7 + get_or b 6 0) × (get_or b 6 0 ≤ 16)
    fits_4 k = row_7 t b (rw k at g.rest.shaped.fits)

    pub seven : r.kind ≡ 4 → (length b ≡ 7 + get_or b 6 0) × (get_or b 6 0 ≤ 16) × (c.numbers.nrows < 32)
    seven k = ((fits_4 k).0, (fits_4 k).1, rw h.tables_are (room_4 k))

    -- the numbers behind it can be counted
    pub countable : Countable b r.kind c.numbers
    countable = record { fits = g.rest.shaped.fits; few = rw h.tables_are (few.few_routes, few.few_protected, few.few_rows) }

    -- stored as its kind says, the arrays hold one more
    holds_more : {d : Config} {ss : List ℕ} → d ≡ config_of (tables_of_records (rs ++ r ∷ [])) → ss ≡ padded 32 (starts_of_records (rs ++ r ∷ [])) → Held (rs ++ r ∷ []) d ss
    holds_more e f = record { tables_are = e; starts_are = f; good = all_good_more [] rs r h.good g }

    pub held_one : is_single (kind_of r.kind) ≡ true → Held (rs ++ r ∷ []) (with_numbers c (numbers_behind r.kind b c.numbers)) states
    held_one s =
        holds_more (rw (h.tables_are, more rs r) (stored_one t b r.kind s)) (rw (starts_more rs r, not_rows r.kind 4 s refl) h.starts_are)

    pub held_2 : r.kind ≡ 2 → {id : ℕ} → id ≡ le16 b 0 → Held (rs ++ r ∷ []) (put_route c b id (get_or b 2 0)) states
    held_2 k e = holds_more (rw (h.tables_are, e, more rs r, k) (stored_2 t b (room_2 k))) (rw (starts_more rs r, k) h.starts_are)

    pub held_3 : r.kind ≡ 3 → {id : ℕ} → id ≡ le16 b 0 → Held (rs ++ r ∷ []) (put_protected c b id) states
    held_3 k e = holds_more (rw (h.tables_are, e, more rs r, k) (stored_3 t b (room_3 k))) (rw (starts_more rs r, k) h.starts_are)

    pub held_4 : r.kind ≡ 4 → {id response : ℕ} {args : List ℕ}
        → (id ≡ le16 b 0) × (response ≡ le16 b 2) × (args ≡ put_at c.args (c.numbers.nrows * 16) (take (length b - 7) (drop 7 b)))
        → Held (rs ++ r ∷ []) (put_row c b id response (get_or b 5 0) (get_or b 6 0) args) (set states c.numbers.nrows (get_or b 4 0))
    held_4 k (e, f, i) =
        holds_more (rw (e, f, i, h.tables_are, more rs r, k) (stored_4 t b (fits_4 k) few (room_4 k)))
        (rw (h.tables_are, h.starts_are, starts_more rs r, k)
        (padded_more 32 (starts_of_records rs) (length t.rows) (start_in b) (starts_count rs) (room_4 k)))
