-- A recording of events in bytes, and the replies to it in bytes: which event a record is, what stops the reading, and how the
-- replies stand in the output.
use Rattle.std.specs.Prelude.{◌≡◌, Bool, true, cond, ◌&&◌, List, [], ◌∷◌, ◌++◌, ℕ, ◌+◌, ◌-◌, ◌/◌, ◌%◌, eqb, leb, length, Result, Ok, Err, ⊤}
use Rattle.image_rules.specs.Records.{le16, Record}
use Rattle.wire.specs.Check.{check}
use Rattle.history.specs.Plain.{Event, packet, tick, fault, Reply}
use Rattle.step_effects.specs.Dispatch.{step_room}
use Rattle.replay_rules.specs.declared.recording.LentEvent.{LentEvent}
use Rattle.replay_rules.specs.declared.recording.LentEvent.TheVariants.{Packet, Tick, Fault}
use Rattle.replay_rules.specs.declared.recording.Stop.{Stop}
use Rattle.replay_rules.specs.declared.recording.Stop.TheVariants.{CutShort, OtherKind, WrongLength, OutputFull}

-- ---- events: records in the same length and kind form as the image

-- 16 a packet, 17 a tick (empty body), 18 a fault (2-byte id, little-endian)
abbrev pub event_in : Record → Event
event_in r = cond (eqb r.kind 16) (packet r.body) (cond (eqb r.kind 17) tick (fault (le16 r.body 0)))

abbrev pub event_sized : ℕ → ℕ → Bool
event_sized kind size = cond (eqb kind 16) true (cond (eqb kind 17) (eqb size 0) (eqb size 2))

-- why a reading stops before its end, each by a number that means nothing else: a record that is cut, one of another kind, one
-- of wrong length, and an output that is full
abbrev pub cut_short : ℕ
cut_short = 60

abbrev pub other_kind : ℕ
other_kind = 61

abbrev pub wrong_length : ℕ
wrong_length = 62

abbrev pub output_full : ℕ
output_full = 63

abbrev pub number_of : Stop → ℕ
number_of CutShort = cut_short
number_of OtherKind = other_kind
number_of WrongLength = wrong_length
number_of OutputFull = output_full

-- the number that tells a result: 0 where the reading goes on
abbrev pub told : Result ⊤ Stop → ℕ
told (Ok nothing) = 0
told (Err stop) = number_of stop

-- what is wrong with a whole record; 0 where nothing is
unfoldable pub kind_refusal : ℕ → ℕ → ℕ
kind_refusal kind size = check (leb 16 kind && leb kind 18) other_kind (check (event_sized kind size) wrong_length 0)

abbrev pub event_refusal : Record → ℕ
event_refusal r = check r.whole cut_short (kind_refusal r.kind (length r.body))

-- the event that the code hands on, its packet lent
abbrev pub event_lent : LentEvent → Event
event_lent (Packet bytes) = packet bytes.now
event_lent Tick = tick
event_lent (Fault id) = fault id

-- what the code finds in a whole record: nothing is wrong, and this is its event; or what is wrong
abbrev pub EventOf : ℕ → List ℕ → Result LentEvent Stop → Type 0
EventOf kind body (Ok e) = (0 ≡ kind_refusal kind (length body)) × (event_in (record { place = 0; whole = true; kind = kind; body = body }) ≡ event_lent e)
EventOf kind body (Err stop) = number_of stop ≡ kind_refusal kind (length body)

-- the events before the first bad record
abbrev pub events_of : List Record → List Event
events_of [] = []
events_of (r ∷ rs) = cond (eqb (event_refusal r) 0) (event_in r ∷ events_of rs) []

-- what refuses the first bad record, 0 where there is none
abbrev pub first_refusal : List Record → ℕ
first_refusal [] = 0
first_refusal (r ∷ rs) = cond (eqb (event_refusal r) 0) (first_refusal rs) (event_refusal r)

-- how many bytes records take
abbrev pub bytes_in : List Record → ℕ
bytes_in [] = 0
bytes_in (r ∷ rs) = 4 + length r.body + bytes_in rs

-- ---- replies

-- the four numbers: answer and destination in one byte, id and bytes written in two, little-endian; then the command sent on
abbrev pub head_bytes : ℕ → ℕ → ℕ → ℕ → List ℕ
head_bytes answer id dest written = answer ∷ id % 256 ∷ id / 256 ∷ dest ∷ written % 256 ∷ written / 256 ∷ []

abbrev pub head_size : ℕ
head_size = 6

abbrev pub reply_bytes : Reply → List ℕ
reply_bytes x = head_bytes x.answer x.id x.dest x.written ++ x.bytes

-- one behind the other
abbrev pub all_bytes : List Reply → List ℕ
all_bytes [] = []
all_bytes (x ∷ xs) = reply_bytes x ++ all_bytes xs

-- the room that each event asks for: its numbers, and the longest command
abbrev pub event_room : ℕ
event_room = head_size + step_room

-- the first replies that find room
abbrev pub fitting : ℕ → List Reply → List Reply
fitting room [] = []
fitting room (x ∷ xs) = cond (leb event_room room) (x ∷ fitting (room - length (reply_bytes x)) xs) []
