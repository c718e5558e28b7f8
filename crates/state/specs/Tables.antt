-- The tables of a configuration as rows, which is what the paper's rules speak of, and how a `Config` holds them in arrays.
use Rattle.std.specs.Prelude.{false, List, [], ◌∷◌, ◌++◌, map, ℕ, zero, suc, ◌-◌, ◌*◌, length, get_or, take, drop, replicate}
use Rattle.state.specs.declared.types.Settings.{Settings}
use Rattle.state.specs.declared.types.Numbers.{Numbers}
use Rattle.state.specs.declared.types.Config.{Config}
use Rattle.state.specs.declared.lent.LentConfig.{LentConfig}
use Rattle.state.specs.declared.types.Arm.{Arm}
use Rattle.state.specs.declared.types.Counts.{Counts}
use Rattle.state.specs.declared.types.Standing.{Standing}
use Rattle.state.specs.declared.types.Run.{Run}
use Rattle.state.specs.Settings.{no_settings}

-- ---- rows

pub record Route : Type 0 where
  pub id : ℕ
  pub dest : ℕ

-- a row's start state belongs to the image and to the first `Run`, not to the configuration
pub record FaultRow : Type 0 where
  pub id : ℕ
  pub response : ℕ
  pub latching : ℕ
  pub args : List ℕ

pub record Tables : Type 0 where
  pub settings : Settings
  pub routes : List Route
  pub protected : List ℕ
  pub rows : List FaultRow

abbrev pub route_id : Route → ℕ
route_id r = r.id

abbrev pub fault_id : FaultRow → ℕ
fault_id r = r.id

-- the command ids that are routed
abbrev pub routed : Tables → List ℕ
routed t = map route_id t.routes

abbrev pub empty : Tables
empty = record { settings = no_settings; routes = []; protected = []; rows = [] }

-- ---- read off the arrays

module _ {A : Type 0} where
  -- what f gives for n places from k on
  abbrev pub listed : (ℕ → A) → ℕ → ℕ → List A
  listed f k zero = []
  listed f k (suc n) = f k ∷ listed f (suc k) n

abbrev pub route_at : List ℕ → List ℕ → ℕ → Route
route_at ids dests k = record { id = get_or ids k 0; dest = get_or dests k 0 }

-- the argument bytes of row k stand from place 16 k on
abbrev pub row_at : List ℕ → List ℕ → List ℕ → List ℕ → List ℕ → ℕ → FaultRow
row_at ids responses latching counts args k =
    record {
      id = get_or ids k 0;
      response = get_or responses k 0;
      latching = get_or latching k 0;
      args = take (get_or counts k 0) (drop (k * 16) args);
    }

abbrev pub tables_of : Config → Tables
tables_of c =
    record {
      settings = c.numbers.settings;
      routes = listed (route_at c.routeids c.dests) 0 c.numbers.nroutes;
      protected = take c.numbers.nprotected c.protected;
      rows = listed (row_at c.faultids c.responses c.latching c.argcounts c.args) 0 c.numbers.nrows;
    }

-- the configuration of lent columns, in the order of its fields
abbrev pub config_from : Numbers → List ℕ → List ℕ → List ℕ → List ℕ → List ℕ → List ℕ → List ℕ → List ℕ → Config
config_from numbers routeids dests protected faultids responses latching argcounts args =
    record {
      numbers = numbers;
      routeids = routeids;
      dests = dests;
      protected = protected;
      faultids = faultids;
      responses = responses;
      latching = latching;
      argcounts = argcounts;
      args = args;
    }

-- the configuration that is lent
abbrev pub config_of_lent : LentConfig → Config
config_of_lent l =
    config_from l.numbers l.routeids.now l.dests.now l.protected.now l.faultids.now l.responses.now l.latching.now
    l.argcounts.now l.args.now

-- ---- the run: made here and nowhere else

-- the standing of an arm record and counters: who changes one part uses a maker below, and hands the others on
abbrev pub standing_from : Arm → Counts → Standing
standing_from arm counts = record { arm = arm; counts = counts }

-- a standing with one part changed
abbrev pub with_arm : Arm → Standing → Standing
with_arm arm s = standing_from arm s.counts

abbrev pub with_counts : Counts → Standing → Standing
with_counts counts s = standing_from s.arm counts

abbrev pub unarmed : Arm
unarmed = record { armed = false; ticks = 0 }

abbrev pub no_counts : Counts
no_counts = record { a = 0; r = 0; d = 0; p = 0; u = 0; i = 0; f = 0 }

abbrev pub first_standing : Standing
first_standing = standing_from unarmed no_counts

-- the run of a standing and fault states
abbrev pub run_from : Standing → List ℕ → Run
run_from standing states = record { standing = standing; states = states }

-- a run with its counters changed, and nothing else
abbrev pub run_counted : Counts → Run → Run
run_counted counts run = run_from (with_counts counts run.standing) run.states

-- unarmed, zero counters, and these fault states, as they stand in their array
abbrev pub first_run : List ℕ → Run
first_run states = run_from first_standing states

-- ---- written into arrays

-- a list in an array of n places: zeros behind it
abbrev pub padded : ℕ → List ℕ → List ℕ
padded n xs = xs ++ replicate (n - length xs) 0

-- argument bytes, 16 places a row
abbrev pub flat : List (List ℕ) → List ℕ
flat [] = []
flat (xs ∷ rows) = padded 16 xs ++ flat rows

abbrev pub args_of : FaultRow → List ℕ
args_of r = r.args

abbrev pub config_of : Tables → Config
config_of t =
    record {
      numbers =
          record {
            settings = t.settings;
            nroutes = length t.routes;
            nprotected = length t.protected;
            nrows = length t.rows;
          };
      routeids = padded 128 (map route_id t.routes);
      dests = padded 128 (map (λ r. r.dest) t.routes);
      protected = padded 32 t.protected;
      faultids = padded 32 (map fault_id t.rows);
      responses = padded 32 (map (λ r. r.response) t.rows);
      latching = padded 32 (map (λ r. r.latching) t.rows);
      argcounts = padded 32 (map (λ r. length r.args) t.rows);
      args = padded 512 (flat (map args_of t.rows));
    }

-- the first run of these fault states
abbrev pub fresh_run : List ℕ → Run
fresh_run states = first_run (padded 32 states)
