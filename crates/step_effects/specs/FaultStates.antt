-- Document 01, "Own commands": the response state of a fault row, by state and event; which row a fault id means, by its place,
-- and what an event on the row at a place makes of the states.
use Rattle.std.specs.Prelude.{ℕ, Bool, true, false, cond, ◌&&◌, List, [], map, length, ◌==◌, nat_lt, slice_index_or, slice_set}
use Rattle.std.proofs.Math.Option.{Option, none, some}
use Rattle.state.specs.Tables.{FaultRow, Tables, fault_id}
use Rattle.state.specs.Lookup.{place_in}
use Rattle.step_effects.specs.declared.faults.Event.{Event}
use Rattle.step_effects.specs.declared.faults.Event.TheVariants.{Enable, Disable, Clear, Fault}

-- the states
abbrev pub disabled : ℕ
disabled = 0

abbrev pub enabled : ℕ
enabled = 1

abbrev pub latched : ℕ
latched = 2

-- the events
abbrev pub enable : ℕ
enable = 0

abbrev pub disable : ℕ
disable = 1

abbrev pub clear : ℕ
clear = 2

abbrev pub fault : ℕ
fault = 3

abbrev pub number_of : Event → ℕ
number_of Enable = enable
number_of Disable = disable
number_of Clear = clear
number_of Fault = fault

-- of a latching row: enabling leaves a latched row latched; clearing leaves a disabled row disabled; a fault latches an
-- enabled row
abbrev pub next_state : ℕ → ℕ → ℕ
next_state s e =
    cond (e == enable) (cond (s == latched) latched enabled)
    (cond (e == disable) disabled
    (cond (e == clear) (cond (s == disabled) disabled enabled)
    (cond (s == disabled) disabled latched)))

-- a row that doesn't latch stays as it is at a fault
unfoldable pub row_after : ℕ → ℕ → ℕ → ℕ
row_after latching s e = cond (e == fault && latching == 0) s (next_state s e)

-- ---- the row that a fault id means, by its place among the rows

-- a place among n, and none from n on
abbrev pub within : ℕ → ℕ → Option ℕ
within n k = cond (nat_lt k n) (some k) none

-- that of the row with this id; none where no row has it
unfoldable pub place_of : ℕ → List ℕ → Option ℕ
place_of f ids = within (length ids) (place_in f ids)

abbrev pub meant : Tables → ℕ → Option ℕ
meant t f = place_of f (map fault_id t.rows)

abbrev pub is_place : Option ℕ → Bool
is_place none = false
is_place (some k) = true

-- ---- the row at a place, and the states by places

abbrev pub no_row : FaultRow
no_row = record { id = 0; response = 0; latching = 0; args = [] }

abbrev pub row_for : Option ℕ → List FaultRow → FaultRow
row_for none rows = no_row
row_for (some k) rows = slice_index_or rows k no_row

abbrev pub state_for : Option ℕ → List ℕ → ℕ
state_for none ss = disabled
state_for (some k) ss = slice_index_or ss k disabled

-- the state at a place goes on, and no other; where there is no place all stay
abbrev pub onward : (ℕ → ℕ) → Option ℕ → List ℕ → List ℕ
onward next none ss = ss
onward next (some k) ss = slice_set ss k (next (slice_index_or ss k disabled))

-- after a command, which does not ask whether the row latches
abbrev pub commanded : ℕ → Option ℕ → List ℕ → List ℕ
commanded e place ss = onward (λ s. next_state s e) place ss

-- after a fault whose response was dispatched
abbrev pub latched_by : List FaultRow → Option ℕ → List ℕ → List ℕ
latched_by rows place ss = onward (λ s. row_after (row_for place rows).latching s fault) place ss

-- clear all clears each row
abbrev pub clear_all : List ℕ → List ℕ
clear_all ss = map (λ s. next_state s clear) ss
