-- The C boundary carries demands 1 and 3: a refused call hands back the very run that was saved, and a row of calls from a load
-- on has the plain replies, buffers and counters.
use Rattle.std.specs.Prelude.{◌≡◌, List, [], ◌∷◌, ℕ, length}
use Rattle.state.specs.declared.types.Config.{Config}
use Rattle.state.specs.Tables.{tables_of}
use Rattle.step_effects.specs.Counters.{rejected_counts}
use Rattle.step_rules.specs.Makers.{bare_answer}
use Rattle.history.specs.Plain.{Event, packet, tick, fault, Reply}
use Rattle.history.specs.Path.{reply_with}
use Rattle.history.specs.Calls.{Call}
use Rattle.history.specs.Outputs.{Buffered, output_for}
use Rattle.export_rules.specs.declared.types.Saved.{Saved}
use Rattle.export_rules.specs.declared.types.Handed.{Handed}
use Rattle.export_rules.specs.Boundary.{Stepping, packet_call, tick_call, fault_call, saved_from, stepping, PacketCalls, FaultCalls}

-- ---- demand 1: a refused call hands back the very run that was saved, told or not, whatever the configuration

-- the saved run as it came, and an answer of one number
abbrev pub left_alone : Saved → ℕ → Stepping
left_alone s n = record { run = s; answer = bare_answer n }

-- a rejected packet: R of the saved run, and every other number stays
abbrev pub only_r : Saved → Saved
only_r s = saved_from (record { armed = s.standing.armed; ticks = s.standing.ticks; counts = rejected_counts s.standing.counts }) s.states

-- ---- demand 3: rows of calls

-- one call
abbrev pub call_on : Config → Saved → Event → ℕ → Stepping
call_on c s (packet p) room = packet_call c s p room
call_on c s tick room = tick_call c s
call_on c s (fault f) room = fault_call c s f room

-- a list of them, each on the run that the one before handed back: the replies
abbrev pub calls_on : Config → Saved → List Call → List Reply
calls_on c s [] = []
calls_on c s (x ∷ xs) =
    reply_with (tables_of c) x.event (call_on c s x.event x.room).answer ∷ calls_on c (call_on c s x.event x.room).run xs

-- the run that they leave
abbrev pub after_calls_on : Config → Saved → List Call → Saved
after_calls_on c s [] = s
after_calls_on c s (x ∷ xs) = after_calls_on c (call_on c s x.event x.room).run xs

-- and the buffers
abbrev pub outputs_on : Config → Saved → List Buffered → List (List ℕ)
outputs_on c s [] = []
outputs_on c s (x ∷ xs) =
    output_for (tables_of c) x.event (call_on c s x.event (length x.out)).answer.answer x.out
    ∷ outputs_on c (call_on c s x.event (length x.out)).run xs

-- ---- the exported functions themselves

-- what the contract of each says of the run handed in, the buffer, what it hands back, and the fault states and the buffer that
-- it leaves; a tick is lent its fault states to read, and no buffer
abbrev pub Exports : Config → Saved → Event → List ℕ → Handed → List ℕ → List ℕ → Type 0
Exports c s (packet p) out h states left = PacketCalls c s p out h states left
Exports c s tick out h states left = (stepping h states ≡ tick_call c s) × (states ≡ s.states) × (left ≡ out)
Exports c s (fault f) out h states left = FaultCalls c s f out h states left

-- a row of such calls under one configuration, each on the run that the one before handed back and left: from the run s on, the
-- calls with their buffers, the replies, the buffers that they leave, and the last run
pub data Chain (c : Config) : Saved → List Buffered → List Reply → List (List ℕ) → Saved → Type 0 where
  ends : (s : Saved) → Chain c s [] [] [] s
  next : (s : Saved) (x : Buffered) (h : Handed) (states left : List ℕ) → Exports c s x.event x.out h states left
      → {xs : List Buffered} {rs : List Reply} {os : List (List ℕ)} {last : Saved} → Chain c (stepping h states).run xs rs os last
      → Chain c s (x ∷ xs) (reply_with (tables_of c) x.event h.answer ∷ rs) (left ∷ os) last
