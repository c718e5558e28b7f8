-- The arrays take a record as the tables do: the stores of the code behind the last row are a row more.
use Rattle.std.specs.Prelude.{◌≡◌, refl, true, cond, List, [], ◌∷◌, ◌++◌, map, ℕ, ◌+◌, ◌-◌, ◌*◌, ◌≤◌, ◌<◌, eqb, length, get_or, take, drop, set}
use Rattle.std.proofs.Common.{sym, ap, ◌∙◌, arith, length-append, length-take, length-drop}
use Rattle.std.proofs.lemmas.List.{map-append, length-map}
use Rattle.wire.specs.Put.{put_at}
use Rattle.state.specs.declared.types.Numbers.{Numbers}
use Rattle.state.specs.declared.types.Config.{Config}
use Rattle.state.specs.Tables.{Route, FaultRow, Tables, route_id, fault_id, args_of, padded, config_from, config_of}
use Rattle.state.specs.KeepsLaws.{Few}
use Rattle.state.proofs.ArrayLaws.{padded_more, short_args, args_more}
use Rattle.image_rules.specs.Records.{le16}
use Rattle.image_rules.specs.Written.{route_in, row_in}
use Rattle.image_rules.specs.Written.{settings_with, plus}
use Rattle.image_rules.specs.Kinds.{is_single, sized, kind_of}
use Rattle.image_rules.proofs.RecordLaws.{not_rows}

-- ---- a configuration with the columns that a kind is lent, and the others of c

abbrev pub with_numbers : Config → Numbers → Config
with_numbers c numbers =
    config_from numbers c.routeids c.dests c.protected c.faultids c.responses c.latching c.argcounts c.args

abbrev pub with_routes : Config → Numbers → List ℕ → List ℕ → Config
with_routes c numbers routeids dests =
    config_from numbers routeids dests c.protected c.faultids c.responses c.latching c.argcounts c.args

abbrev pub with_protected : Config → Numbers → List ℕ → List ℕ → Config
with_protected c numbers routeids protected =
    config_from numbers routeids c.dests protected c.faultids c.responses c.latching c.argcounts c.args

abbrev pub with_rows : Config → Numbers → List ℕ → List ℕ → List ℕ → List ℕ → List ℕ → List ℕ → Config
with_rows c numbers routeids faultids responses latching argcounts args =
    config_from numbers routeids c.dests c.protected faultids responses latching argcounts args

-- ---- the numbers behind a record: a row more of its kind, or what a single record sets

abbrev pub numbers_behind : ℕ → List ℕ → Numbers → Numbers
numbers_behind kind b n =
    record {
      settings = settings_with kind b n.settings;
      nroutes = cond (eqb kind 2) (n.nroutes + 1) n.nroutes;
      nprotected = cond (eqb kind 3) (n.nprotected + 1) n.nprotected;
      nrows = cond (eqb kind 4) (n.nrows + 1) n.nrows;
    }

-- a body of its kind's size, and counts that fit their tables
pub record Countable (b : List ℕ) (kind : ℕ) (n : Numbers) : Type 0 where
  pub fits : sized (kind_of kind) b ≡ true
  pub few : (n.nroutes ≤ 128) × (n.nprotected ≤ 32) × (n.nrows ≤ 32)

-- ---- what the code does to the arrays

abbrev pub put_route : Config → List ℕ → ℕ → ℕ → Config
put_route c b id dest =
    let n = c.numbers.nroutes in
    with_routes c (numbers_behind 2 b c.numbers) (set c.routeids n id) (set c.dests n dest)

abbrev pub put_protected : Config → List ℕ → ℕ → Config
put_protected c b id = with_protected c (numbers_behind 3 b c.numbers) c.routeids (set c.protected c.numbers.nprotected id)

abbrev pub put_row : Config → List ℕ → ℕ → ℕ → ℕ → ℕ → List ℕ → Config
put_row c b id response latching count args =
    let k = c.numbers.nrows in
    with_rows c (numbers_behind 4 b c.numbers) c.routeids (set c.faultids k id) (set c.responses k response) (set c.latching k latching)
    (set c.argcounts k count) args

-- ---- which is what a record does to the tables

more : {A : Type 0} (f : A → ℕ) (limit : ℕ) (rows : List A) (row : A) → length rows < limit
    → set (padded limit (map f rows)) (length rows) (f row) ≡ padded limit (map f (rows ++ row ∷ []))
more f limit rows row l = padded_more limit (map f rows) (length rows) (f row) (length-map rows f) l ∙ rw (map-append f rows)

-- the arguments are the rest of the body
module _ (b : List ℕ) (fits : length b ≡ 7 + get_or b 6 0) where
  args_are : take (length b - 7) (drop 7 b) ≡ (row_in b).args
  args_are = let n : length b - 7 ≡ get_or b 6 0 = omega arith in rw n

  args_count : length (row_in b).args ≡ get_or b 6 0
  args_count = simp (length-take, length-drop) (omega arith)

module _ (t : Tables) (b : List ℕ) where
  pub stored_one : (kind : ℕ) → is_single (kind_of kind) ≡ true → with_numbers (config_of t) (numbers_behind kind b (config_of t).numbers) ≡ config_of (plus t kind b)
  stored_one kind s = rw (not_rows kind 2 s refl, not_rows kind 3 s refl, not_rows kind 4 s refl)

  pub stored_2 : length t.routes < 128 → put_route (config_of t) b (le16 b 0) (get_or b 2 0) ≡ config_of (plus t 2 b)
  stored_2 l =
      rw (more route_id 128 t.routes (route_in b) l, more (λ (r : Route). r.dest) 128 t.routes (route_in b) l) (simp length-append)

  pub stored_3 : length t.protected < 32 → put_protected (config_of t) b (le16 b 0) ≡ config_of (plus t 3 b)
  stored_3 l = rw (padded_more 32 t.protected (length t.protected) (le16 b 0) refl l) (simp length-append)

  pub stored_4 : (length b ≡ 7 + get_or b 6 0) × (get_or b 6 0 ≤ 16) → Few t → length t.rows < 32
      → put_row (config_of t) b (le16 b 0) (le16 b 2) (get_or b 5 0) (get_or b 6 0) (put_at (config_of t).args (length t.rows * 16) (take (length b - 7) (drop 7 b)))
      ≡ config_of (plus t 4 b)
  stored_4 (fits, few) f l =
      let rows = t.rows in
      let short : length (row_in b).args ≤ 16 = omega (arith, args_count b fits) in
      let counts : set (padded 32 (map (λ (r : FaultRow). length r.args) rows)) (length rows) (get_or b 6 0) ≡ padded 32 (map (λ (r : FaultRow). length r.args) (rows ++ row_in b ∷ [])) =
      ap (set (padded 32 (map (λ (r : FaultRow). length r.args) rows)) (length rows)) (sym (args_count b fits))
      ∙ more (λ (r : FaultRow). length r.args) 32 rows (row_in b) l in
      rw (
        more fault_id 32 rows (row_in b) l,
        more (λ (r : FaultRow). r.response) 32 rows (row_in b) l,
        more (λ (r : FaultRow). r.latching) 32 rows (row_in b) l,
        counts,
        args_are b fits,
        args_more (map args_of rows) (row_in b).args (length rows) (short_args rows f.few_args) short (length-map rows args_of) l,
      )
      (simp (length-append, map-append))
