-- Demand 3 over the output buffers themselves: what each public step leaves in the buffer that was lent to it, byte by byte, is
-- the plain reply's bytes over what stood there.
use Rattle.std.specs.Prelude.{◌≡◌, List, [], ◌∷◌, ℕ, ◌≤◌, length, drop}
use Rattle.state.specs.declared.types.Config.{Config}
use Rattle.state.specs.declared.types.Run.{Run}
use Rattle.state.specs.Tables.{Tables, tables_of}
use Rattle.step_effects.specs.Dispatch.{over, step_room}
use Rattle.step_rules.specs.Step.{packet_output, fault_output}
use Rattle.history.specs.Plain.{Event, packet, tick, fault, Reply}
use Rattle.history.specs.Calls.{Call, step_of}

-- ---- calls with their buffers

-- an event, and what stands in the output lent with it
pub record Buffered : Type 0 where
  pub event : Event
  pub out : List ℕ

-- its room is the buffer's length
abbrev pub call_of : Buffered → Call
call_of x = record { event = x.event; room = length x.out }

-- what a step with the answer n leaves there, as the contracts of the steps say; a tick has no output
abbrev pub output_for : Tables → Event → ℕ → List ℕ → List ℕ
output_for t (packet p) n out = packet_output t n p out
output_for t tick n out = out
output_for t (fault f) n out = fault_output t n f out

-- what one call leaves in its buffer
abbrev pub output_of : Config → Run → Buffered → List ℕ
output_of c s x = output_for (tables_of c) x.event (step_of c s x.event (length x.out)).answer.answer x.out

-- a list of calls: the buffers one after the other
abbrev pub outputs : Config → Run → List Buffered → List (List ℕ)
outputs c s [] = []
outputs c s (x ∷ xs) = output_of c s x ∷ outputs c (step_of c s x.event (length x.out)).run xs

-- the plain reading of it: the bytes of each call's reply, over what stood in its buffer
abbrev pub laid : List Reply → List Buffered → List (List ℕ)
laid [] xs = []
laid (r ∷ rs) [] = []
laid (r ∷ rs) (x ∷ xs) = over r.bytes x.out ∷ laid rs xs

-- ---- the bytes of a reply

-- at most 260, and none where the answer is not 10
pub record Fits (r : Reply) : Type 0 where
  pub short : length r.bytes ≤ step_room
  pub quiet : (r.answer ≡ 10 → ⊥) → r.bytes ≡ []

-- ---- what a call leaves in its buffer, by its plain reply

pub record Leaves (r : Reply) (out left : List ℕ) : Type 0 where
  -- the reply's bytes over what stood there
  pub is : left ≡ over r.bytes out
  -- all as it was, where the answer is not 10
  pub stays : (r.answer ≡ 10 → ⊥) → left ≡ out
  -- the bytes behind those of the reply as they were
  pub later_stay : drop (length r.bytes) left ≡ drop (length r.bytes) out
  -- and no byte more or less
  pub long : length left ≡ length out
