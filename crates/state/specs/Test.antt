-- The rules of a state as a test that is computed: what the code decides. `Keeps` says the same in the paper's words.
use Rattle.std.specs.Prelude.{Bool, true, cond, not, ◌&&◌, List, [], ◌∷◌, ℕ, suc, leb, eqb, take, drop}
use Rattle.state.specs.declared.types.Config.{Config}
use Rattle.state.specs.declared.types.Run.{Run}
use Rattle.state.specs.Settings.{settings_ok}
use Rattle.state.specs.Tables.{Route, FaultRow, Tables, route_id, fault_id, routed, tables_of}
use Rattle.state.specs.Rules.{member, route_ok, protected_ok, row_ok}
use Rattle.state.specs.Keeps.{most_ticks}

module _ {A : Type 0} where
  -- ids rise from low on, and each row passes the test
  abbrev pub rising_all : (A → ℕ) → (A → Bool) → ℕ → List A → Bool
  rising_all id p low [] = true
  rising_all id p low (x ∷ xs) = leb low (id x) && (p x && rising_all id p (suc (id x)) xs)

abbrev pub all_zero : List ℕ → Bool
all_zero [] = true
all_zero (x ∷ xs) = eqb x 0 && all_zero xs

abbrev pub args_zero : List ℕ → List ℕ → Bool
args_zero [] xs = all_zero xs
args_zero (n ∷ counts) xs = leb n 16 && (all_zero (drop n (take 16 xs)) && args_zero counts (drop 16 xs))

abbrev pub route_passes : ℕ → Route → Bool
route_passes base r = route_ok base r.id r.dest

abbrev pub protected_passes : ℕ → List ℕ → ℕ → Bool
protected_passes base ids id = protected_ok base (member id ids) id

abbrev pub row_passes : List ℕ → FaultRow → Bool
row_passes ids r = row_ok (member r.response ids) r.latching

unfoldable pub routes_kept : ℕ → List Route → Bool
routes_kept base routes = rising_all route_id (route_passes base) 0 routes

unfoldable pub protected_kept : ℕ → List ℕ → List ℕ → Bool
protected_kept base ids protected = rising_all (λ id. id) (protected_passes base ids) 0 protected

unfoldable pub rows_kept : List ℕ → List FaultRow → Bool
rows_kept ids rows = rising_all fault_id (row_passes ids) 0 rows

unfoldable pub rules_kept : Tables → Bool
rules_kept t =
    settings_ok t.settings
    && (routes_kept t.settings.base t.routes
    && (protected_kept t.settings.base (routed t) t.protected
    && rows_kept (routed t) t.rows))

unfoldable pub counted : ℕ → ℕ → ℕ → Bool
counted nroutes nprotected nrows = leb nroutes 128 && (leb nprotected 32 && leb nrows 32)

unfoldable pub unused_zero : Config → Bool
unused_zero c =
    all_zero (drop c.numbers.nroutes c.routeids)
    && (all_zero (drop c.numbers.nroutes c.dests)
    && (all_zero (drop c.numbers.nprotected c.protected)
    && (all_zero (drop c.numbers.nrows c.faultids)
    && (all_zero (drop c.numbers.nrows c.responses)
    && (all_zero (drop c.numbers.nrows c.latching)
    && (all_zero (drop c.numbers.nrows c.argcounts)
    && args_zero (take c.numbers.nrows c.argcounts) c.args))))))

unfoldable pub config_kept : Config → Bool
config_kept c = counted c.numbers.nroutes c.numbers.nprotected c.numbers.nrows && (rules_kept (tables_of c) && unused_zero c)

unfoldable pub arm_ok : Bool → ℕ → Bool
arm_ok armed ticks = cond armed (leb ticks most_ticks) (eqb ticks 0)

unfoldable pub state_ok : ℕ → ℕ → Bool
state_ok latching s = leb s 2 && not (eqb s 2 && eqb latching 0)

abbrev pub states_ok : List FaultRow → List ℕ → Bool
states_ok [] ss = all_zero ss
states_ok (r ∷ rows) [] = true
states_ok (r ∷ rows) (s ∷ ss) = state_ok r.latching s && states_ok rows ss

unfoldable pub run_kept : Tables → Run → Bool
run_kept t r = arm_ok r.standing.arm.armed r.standing.arm.ticks && states_ok t.rows r.states

unfoldable pub keeps_rules : Config → Run → Bool
keeps_rules c r = config_kept c && run_kept (tables_of c) r
