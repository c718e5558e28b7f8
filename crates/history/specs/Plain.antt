-- Demand 3's plain reading of a list. What each event is answered is read off the image's records and the earlier events, the
-- latest first. There is no running state anywhere in it: the nearest earlier accepted packet, the ticks since, the steps
-- since the last completed reset, and each fault row from its start state on.
use Rattle.std.specs.Prelude.{Bool, true, false, cond, not, ◌&&◌, ◌||◌, List, [], ◌∷◌, map, ℕ, suc, ◌+◌, ◌-◌, ◌*◌, ◌/◌, ◌%◌, eqb, leb, ltb, length, get_or}
use Rattle.std.proofs.Math.Option.{Option, none, some}
use Rattle.packet_rules.specs.Layout.{command_id}
use Rattle.packet_rules.specs.Judge.{refusal_of, arguments_of}
use Rattle.state.specs.Tables.{Route, FaultRow, Tables, routed}
use Rattle.state.specs.Rules.{own, member}
use Rattle.image_rules.specs.Records.{Record}
use Rattle.image_load.specs.Image.{of_kind, row_in, start_in, tables_of_records}

-- ---- events and replies

pub data Event : Type 0 where
  packet : List ℕ → Event
  tick : Event
  fault : ℕ → Event

-- the earlier events, the latest first, behind those of h: the order of every history below
abbrev pub latest_first : List Event → List Event → List Event
latest_first h [] = h
latest_first h (e ∷ es) = latest_first (e ∷ h) es

-- the four numbers of an answer, and the bytes of the command sent on
pub record Reply : Type 0 where
  pub answer : ℕ
  pub id : ℕ
  pub dest : ℕ
  pub written : ℕ
  pub bytes : List ℕ

abbrev pub reply_from : ℕ → ℕ → ℕ → ℕ → List ℕ → Reply
reply_from n id dest written bytes = record { answer = n; id = id; dest = dest; written = written; bytes = bytes }

-- an answer with no id; one with its id; a command dispatched
abbrev pub bare_reply : ℕ → Reply
bare_reply n = reply_from n 0 0 0 []

abbrev pub named_reply : ℕ → ℕ → Reply
named_reply n id = reply_from n id 0 0 []

-- source, command id, argument count, arguments
abbrev pub dispatched_reply : ℕ → ℕ → ℕ → List ℕ → Reply
dispatched_reply source id dest args =
    reply_from 10 id dest (5 + length args) (source / 256 ∷ source % 256 ∷ id / 256 ∷ id % 256 ∷ length args ∷ args)

-- ---- the destination of a routed id

abbrev pub destination : ℕ → List Route → ℕ
destination id [] = 0
destination id (r ∷ routes) = cond (eqb id r.id) r.dest (destination id routes)

-- ---- a fault row of the image, with its start state

pub record Row : Type 0 where
  pub row : FaultRow
  pub start : ℕ

abbrev pub row_of : List ℕ → Row
row_of body = record { row = row_in body; start = start_in body }

abbrev pub no_row : Row
no_row = record { row = record { id = 0; response = 0; latching = 0; args = [] }; start = 0 }

-- a row is known by its place: some row, the row at place k, one row further
abbrev pub any_row : Option ℕ → Bool
any_row none = false
any_row (some j) = true

abbrev pub this_row : ℕ → Option ℕ → Bool
this_row k none = false
this_row k (some j) = eqb j k

abbrev pub further : Option ℕ → Option ℕ
further none = none
further (some k) = some (suc k)

-- which row a fault id means: the first that has the id; none where no row has it
abbrev pub place_named : ℕ → List Row → Option ℕ
place_named f [] = none
place_named f (r ∷ rows) = cond (eqb f r.row.id) (some 0) (further (place_named f rows))

-- the states 0 disabled, 1 enabled, 2 latched, by the table of events
abbrev pub when_enabled : ℕ → ℕ
when_enabled s = cond (eqb s 2) 2 1

abbrev pub when_cleared : ℕ → ℕ
when_cleared s = cond (eqb s 0) 0 1

-- a fault that was answered 10 found the row enabled
abbrev pub when_faulted : FaultRow → ℕ
when_faulted r = cond (eqb r.latching 0) 1 2

-- ---- own commands: the id less own base selects

-- argument bytes: arm, reset, no-op, no-op with argument, enable, disable, clear, clear all
abbrev pub wanted : ℕ → ℕ
wanted k = get_or (1 ∷ 0 ∷ 0 ∷ 4 ∷ 2 ∷ 2 ∷ 2 ∷ 0 ∷ []) k 0

-- enable, disable and clear name a fault id
abbrev pub names_fault : ℕ → Bool
names_fault k = leb 4 k && leb k 6

abbrev pub fault_named : List ℕ → ℕ
fault_named args = get_or args 0 0 * 256 + get_or args 1 0

-- the answer to a fault, by the row that it means and the state of each row: 34 not in the table, 10 enabled, else 13
abbrev pub fault_answer : (ℕ → ℕ) → Option ℕ → ℕ
fault_answer state none = 34
fault_answer state (some k) = cond (eqb (state k) 1) 10 13

-- one more where the test holds
abbrev pub more : Bool → ℕ → ℕ
more true n = n + 1
more false n = n

module _ (image : List Record) where
  abbrev pub tables : Tables
  tables = tables_of_records image

  abbrev pub rows : List Row
  rows = map row_of (of_kind 4 image)

  -- the row at a place, and the place that a fault id means
  abbrev pub row_at : ℕ → Row
  row_at k = get_or rows k no_row

  abbrev pub meant_by : ℕ → Option ℕ
  meant_by f = place_named f rows

  -- ---- what is known of a packet beside its id and arguments: the judge's refusal of it, or that it is accepted. The image is
  -- not asked: the judge is the same under all

  abbrev pub refusal : List ℕ → ℕ
  refusal p = refusal_of p

  abbrev pub accepted : List ℕ → Bool
  accepted p = eqb (refusal p) 0

  -- ---- the nearest earlier accepted packet, and the ticks since

  abbrev pub nearest : List Event → Option (List ℕ)
  nearest [] = none
  nearest (packet p ∷ h) = cond (accepted p) (some p) (nearest h)
  nearest (tick ∷ h) = nearest h
  nearest (fault f ∷ h) = nearest h

  abbrev pub ticks_since : List Event → ℕ
  ticks_since [] = 0
  ticks_since (packet p ∷ h) = cond (accepted p) 0 (ticks_since h)
  ticks_since (tick ∷ h) = ticks_since h + 1
  ticks_since (fault f ∷ h) = ticks_since h

  -- ---- arming

  -- the own command that a packet's id selects; 8 where the id is no own id
  abbrev pub selects : List ℕ → ℕ
  selects p = cond (own tables.settings.base (command_id p)) (command_id p - tables.settings.base) 8

  -- a well-formed arm command, and its timeout
  abbrev pub is_arm : List ℕ → Bool
  is_arm p = eqb (selects p) 0 && eqb (length (arguments_of p)) 1

  abbrev pub timeout : List ℕ → ℕ
  timeout p = get_or (arguments_of p) 0 0

  -- the nearest earlier accepted packet was a well-formed arm command, and its timeout was zero or fewer ticks than that
  -- timeout came between
  abbrev pub lasts : Option (List ℕ) → ℕ → Bool
  lasts none ticks = false
  lasts (some p) ticks = is_arm p && (eqb (timeout p) 0 || ltb ticks (timeout p))

  abbrev pub armed : List Event → Bool
  armed h = lasts (nearest h) (ticks_since h)

  -- ---- the answer to an accepted packet

  -- a protected command that is not let past
  abbrev pub stopped : List Event → List ℕ → Bool
  stopped h p = member (command_id p) tables.protected && not (armed h)

  abbrev pub own_answer : ℕ → List ℕ → ℕ
  own_answer k args =
      cond (eqb (length args) (wanted k))
      (cond (names_fault k && not (any_row (meant_by (fault_named args)))) 32
      (cond (eqb k 0) 11 12))
      31

  abbrev pub packet_answer : List Event → List ℕ → ℕ
  packet_answer h p =
      cond (stopped h p) 30
      (cond (own tables.settings.base (command_id p)) (own_answer (selects p) (arguments_of p))
      (cond (member (command_id p) (routed tables)) 10 33))

  -- an accepted packet with the own command k that was done
  abbrev pub done : ℕ → List Event → List ℕ → Bool
  done k h p = accepted p && (eqb (selects p) k && eqb (packet_answer h p) 12)

  -- ---- the state of the row at place k: from its start state through the earlier events that act on it, in their order

  -- the enable, disable and clear commands answered 12 whose fault id means it, and clear all
  abbrev pub told : List Event → List ℕ → ℕ → ℕ → ℕ
  told h p k s =
      cond (done 4 h p && this_row k (meant_by (fault_named (arguments_of p)))) (when_enabled s)
      (cond (done 5 h p && this_row k (meant_by (fault_named (arguments_of p)))) 0
      (cond (done 6 h p && this_row k (meant_by (fault_named (arguments_of p)))) (when_cleared s)
      (cond (done 7 h p) (when_cleared s)
      s)))

  -- and the faults answered 10 whose id means it
  abbrev pub state_of : List Event → ℕ → ℕ
  state_of [] k = (row_at k).start
  state_of (packet p ∷ h) k = told h p k (state_of h k)
  state_of (tick ∷ h) k = state_of h k
  state_of (fault f ∷ h) k =
      cond (this_row k (meant_by f) && eqb (fault_answer (state_of h) (meant_by f)) 10) (when_faulted (row_at k).row) (state_of h k)

  -- ---- the reply to each event

  abbrev pub packet_reply : List ℕ → ℕ → Reply
  packet_reply p n =
      cond (eqb n 10)
      (dispatched_reply tables.settings.ground_source (command_id p) (destination (command_id p) tables.routes) (arguments_of p))
      (named_reply n (command_id p))

  abbrev pub row_meant : Option ℕ → FaultRow
  row_meant none = no_row.row
  row_meant (some k) = (row_at k).row

  abbrev pub fault_reply : Option ℕ → ℕ → Reply
  fault_reply place n =
      cond (eqb n 10)
      (dispatched_reply tables.settings.fault (row_meant place).response (destination (row_meant place).response tables.routes) (row_meant place).args)
      (bare_reply n)

  abbrev pub reply : List Event → Event → Reply
  reply h (packet p) = cond (accepted p) (packet_reply p (packet_answer h p)) (bare_reply (refusal p))
  reply h tick = bare_reply (cond (armed h && not (armed (tick ∷ h))) 15 14)
  reply h (fault f) = fault_reply (meant_by f) (fault_answer (state_of h) (meant_by f))

  -- the replies to a list of events behind those of h
  abbrev pub replies : List Event → List Event → List Reply
  replies h [] = []
  replies h (e ∷ es) = reply h e ∷ replies (e ∷ h) es

  -- ---- the counters: the number of their steps since the last completed reset, or since loading

  abbrev pub resets : List Event → Event → Bool
  resets h (packet p) = done 1 h p
  resets h tick = false
  resets h (fault f) = false

  abbrev pub count : (List Event → Event → Bool) → List Event → ℕ
  count moves [] = 0
  count moves (e ∷ h) = cond (resets h e) 0 (more (moves h e) (count moves h))

  -- which steps move which counter
  abbrev pub moves_a : List Event → Event → Bool
  moves_a h (packet p) = accepted p
  moves_a h tick = false
  moves_a h (fault f) = false

  abbrev pub moves_r : List Event → Event → Bool
  moves_r h (packet p) = not (accepted p)
  moves_r h tick = false
  moves_r h (fault f) = false

  abbrev pub moves_d : List Event → Event → Bool
  moves_d h e = eqb (reply h e).answer 10

  abbrev pub moves_p : List Event → Event → Bool
  moves_p h e = eqb (reply h e).answer 30

  abbrev pub moves_u : List Event → Event → Bool
  moves_u h e = eqb (reply h e).answer 33

  abbrev pub moves_i : List Event → Event → Bool
  moves_i h e = eqb (reply h e).answer 31 || eqb (reply h e).answer 32

  abbrev pub moves_f : List Event → Event → Bool
  moves_f h (packet p) = false
  moves_f h tick = false
  moves_f h (fault f) = true
