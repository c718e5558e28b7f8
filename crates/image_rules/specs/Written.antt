-- Document 01, "Configuration image": the tables that records write, and a record more.
use Rattle.std.specs.Prelude.{cond, List, [], ◌∷◌, ◌++◌, map, ℕ, eqb, get_or, take, drop}
use Rattle.state.specs.declared.types.Settings.{Settings}
use Rattle.state.specs.Tables.{Route, FaultRow, Tables}
use Rattle.image_rules.specs.Records.{le16, Record}

-- ---- records of a kind

-- the bodies of the records of a kind
abbrev pub of_kind : ℕ → List Record → List (List ℕ)
of_kind k [] = []
of_kind k (r ∷ rs) = cond (eqb r.kind k) (r.body ∷ of_kind k rs) (of_kind k rs)

module _ {A : Type 0} where
  abbrev pub last_or : A → List A → A
  last_or d [] = d
  last_or d (x ∷ xs) = last_or x xs

  -- what f reads of the one record of a kind, and d where there is none
  abbrev pub value_in : ℕ → (List ℕ → A) → A → List Record → A
  value_in kind f d rs = last_or d (map f (of_kind kind rs))

-- ---- what stands in a body

-- kind 1, basics: ground source, fault source, own base
abbrev pub ground_in : List ℕ → ℕ
ground_in b = le16 b 0

abbrev pub fault_in : List ℕ → ℕ
fault_in b = le16 b 2

abbrev pub base_in : List ℕ → ℕ
base_in b = le16 b 4

-- the id of a row, of any kind
abbrev pub row_id : List ℕ → ℕ
row_id b = le16 b 0

-- kind 2, route: command id, destination
abbrev pub route_in : List ℕ → Route
route_in b = record { id = le16 b 0; dest = get_or b 2 0 }

-- kind 3, protected: command id
abbrev pub protected_in : List ℕ → ℕ
protected_in b = le16 b 0

-- kind 4, fault row: fault id, response command id, start state, latching, n, n argument bytes
abbrev pub row_in : List ℕ → FaultRow
row_in b =
    record { id = le16 b 0; response = le16 b 2; latching = get_or b 5 0; args = take (get_or b 6 0) (drop 7 b) }

abbrev pub start_in : List ℕ → ℕ
start_in b = get_or b 4 0

-- ---- the settings

-- what the single records set; the default of a kind that may be missing stands here
abbrev pub settings_of_records : List Record → Settings
settings_of_records rs =
    record {
      ground_source = value_in 1 ground_in 0 rs;
      fault = value_in 1 fault_in 0 rs;
      base = value_in 1 base_in 0 rs;
    }

-- what a record makes of them
abbrev pub settings_with : ℕ → List ℕ → Settings → Settings
settings_with kind b s =
    record {
      ground_source = cond (eqb kind 1) (ground_in b) s.ground_source;
      fault = cond (eqb kind 1) (fault_in b) s.fault;
      base = cond (eqb kind 1) (base_in b) s.base;
    }

-- ---- the tables

unfoldable pub tables_of_records : List Record → Tables
tables_of_records rs =
    record {
      settings = settings_of_records rs;
      routes = map route_in (of_kind 2 rs);
      protected = map protected_in (of_kind 3 rs);
      rows = map row_in (of_kind 4 rs);
    }

unfoldable pub starts_of_records : List Record → List ℕ
starts_of_records rs = map start_in (of_kind 4 rs)

-- what a record adds to them
abbrev pub plus : Tables → ℕ → List ℕ → Tables
plus t kind b =
    record {
      settings = settings_with kind b t.settings;
      routes = cond (eqb kind 2) (t.routes ++ route_in b ∷ []) t.routes;
      protected = cond (eqb kind 3) (t.protected ++ protected_in b ∷ []) t.protected;
      rows = cond (eqb kind 4) (t.rows ++ row_in b ∷ []) t.rows;
    }
