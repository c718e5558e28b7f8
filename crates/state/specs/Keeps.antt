-- Document 01, "A state breaks its rules where ..": the rules of a state, declared in the paper's words. `Test` has the same
-- as a test that is computed, and `KeepsLaws` proves that the two agree in both directions.
use Rattle.std.specs.Prelude.{◌≡◌, Bool, true, false, ◌⊎◌, ℕ, suc, ◌+◌, ◌≤◌, length, take, drop}
use mathlib.Core.List.{List, [], ◌∷◌, map, Memᴰ}
use Rattle.state.specs.declared.types.Config.{Config}
use Rattle.state.specs.declared.types.Run.{Run}
use Rattle.state.specs.Settings.{SettingsOk}
use Rattle.state.specs.Tables.{Route, FaultRow, Tables, fault_id, routed, tables_of}

-- ---- declared: the rules of the tables

abbrev pub Own : ℕ → ℕ → Type 0
Own base id = (base ≤ id) × (id ≤ base + 7)

pub record RouteOk (base : ℕ) (r : Route) : Type 0 where
  pub dest_low : 1 ≤ r.dest
  pub dest_high : r.dest ≤ 31
  pub not_own : Own base r.id → ⊥

pub record ProtectedOk (base : ℕ) (ids : List ℕ) (id : ℕ) : Type 0 where
  pub known : Memᴰ id ids ⊎ Own base id
  pub not_arm : id ≡ base → ⊥

pub record RowOk (ids : List ℕ) (r : FaultRow) : Type 0 where
  pub response_routed : Memᴰ r.response ids
  pub latching_0_1 : r.latching ≤ 1
  pub few_args : length r.args ≤ 16

-- each above the one before, the first at least low
abbrev pub Rising : ℕ → List ℕ → Type 0
Rising low [] = Unit {0}
Rising low (x ∷ xs) = (low ≤ x) × Rising (suc x) xs

module _ {A : Type 0} where
  abbrev pub Each : (A → Type 0) → List A → Type 0
  Each P [] = Unit {0}
  Each P (x ∷ xs) = P x × Each P xs

pub record Rules (t : Tables) : Type 0 where
  pub settings_are_ok : SettingsOk t.settings
  pub few_routes : length t.routes ≤ 128
  pub routes_rise : Rising 0 (routed t)
  pub routes_ok : Each (RouteOk t.settings.base) t.routes
  pub few_protected : length t.protected ≤ 32
  pub protected_rise : Rising 0 t.protected
  pub protected_is_ok : Each (ProtectedOk t.settings.base (routed t)) t.protected
  pub few_rows : length t.rows ≤ 32
  pub rows_rise : Rising 0 (map fault_id t.rows)
  pub rows_ok : Each (RowOk (routed t)) t.rows

-- ---- declared: unused is zero

abbrev pub AllZero : List ℕ → Type 0
AllZero xs = Each (λ x. x ≡ 0) xs

-- of the argument bytes, 16 places a row: at most 16 in use, and zero behind those in use and behind the last row
abbrev pub ArgsZero : List ℕ → List ℕ → Type 0
ArgsZero [] xs = AllZero xs
ArgsZero (n ∷ counts) xs = (n ≤ 16) × AllZero (drop n (take 16 xs)) × ArgsZero counts (drop 16 xs)

pub record Unused (c : Config) : Type 0 where
  pub routeids_zero : AllZero (drop c.numbers.nroutes c.routeids)
  pub dests_zero : AllZero (drop c.numbers.nroutes c.dests)
  pub protected_zero : AllZero (drop c.numbers.nprotected c.protected)
  pub faultids_zero : AllZero (drop c.numbers.nrows c.faultids)
  pub responses_zero : AllZero (drop c.numbers.nrows c.responses)
  pub latching_zero : AllZero (drop c.numbers.nrows c.latching)
  pub argcounts_zero : AllZero (drop c.numbers.nrows c.argcounts)
  pub args_are_zero : ArgsZero (take c.numbers.nrows c.argcounts) c.args

-- ---- declared: the run

-- the most ticks that an arm record may hold
abbrev pub most_ticks : ℕ
most_ticks = 255

abbrev pub ArmOk : Bool → ℕ → Type 0
ArmOk true ticks = ticks ≤ most_ticks
ArmOk false ticks = ticks ≡ 0

pub record StateOk (latching s : ℕ) : Type 0 where
  pub known : s ≤ 2
  pub may_latch : s ≡ 2 → latching ≡ 0 → ⊥

-- a state for each row, and zero for the rows that are not in use
abbrev pub StatesOk : List FaultRow → List ℕ → Type 0
StatesOk [] ss = AllZero ss
StatesOk (r ∷ rows) [] = Unit {0}
StatesOk (r ∷ rows) (s ∷ ss) = StateOk r.latching s × StatesOk rows ss

pub record RunOk (t : Tables) (r : Run) : Type 0 where
  pub arm_is_ok : ArmOk r.standing.arm.armed r.standing.arm.ticks
  pub states_are_ok : StatesOk t.rows r.states

-- a state that keeps its rules. The protected ids are taken from their array, whose length would hide a larger count from
-- `rules`; the other two tables have as many rows as their counts say
pub record Keeps (c : Config) (r : Run) : Type 0 where
  pub within : c.numbers.nprotected ≤ 32
  pub rules : Rules (tables_of c)
  pub unused : Unused c
  pub run_ok : RunOk (tables_of c) r
