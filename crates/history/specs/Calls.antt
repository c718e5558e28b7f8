-- Demand 3 for the public steps, which judge the state and the output room at each call: no call is ever refused with 20, and
-- a call refused for room does nothing, so that leaving it out of the list is justified.
use Rattle.std.specs.Prelude.{Bool, true, cond, List, [], ◌∷◌, ℕ, leb}
use Rattle.state.specs.declared.types.Config.{Config}
use Rattle.state.specs.declared.types.Run.{Run}
use Rattle.state.specs.Tables.{tables_of}
use Rattle.step_rules.specs.declared.types.Stepped.{Stepped}
use Rattle.step_rules.specs.Step.{packet_step_of, tick_step_of, fault_step_of}
use Rattle.step_rules.specs.RulesKept.{Bytes}
use Rattle.image_rules.specs.Records.{Record}
use Rattle.history.specs.Plain.{Event, packet, tick, fault, Reply, bare_reply, reply}
use Rattle.history.specs.Path.{reply_of}

-- ---- calls

-- an event, and how many bytes its output may take
pub record Call : Type 0 where
  pub event : Event
  pub room : ℕ

-- 260 bytes; a tick writes nothing and asks for no room
abbrev pub roomy : Event → ℕ → Bool
roomy (packet p) room = leb 260 room
roomy tick room = true
roomy (fault f) room = leb 260 room

-- the public step
abbrev pub step_of : Config → Run → Event → ℕ → Stepped
step_of c run (packet p) room = packet_step_of c run p room
step_of c run tick room = tick_step_of c run
step_of c run (fault f) room = fault_step_of c run f room

-- a list of calls: the replies one after the other
abbrev pub calls : Config → Run → List Call → List Reply
calls c s [] = []
calls c s (x ∷ xs) =
    reply_of (tables_of c) x.event (step_of c s x.event x.room) ∷ calls c (step_of c s x.event x.room).run xs

-- the plain reading of it: 21 where the room is short, and no later answer knows of that call
abbrev pub call_replies : List Record → List Event → List Call → List Reply
call_replies image h [] = []
call_replies image h (x ∷ xs) =
    cond (roomy x.event x.room) (reply image h x.event ∷ call_replies image (x.event ∷ h) xs) (bare_reply 21 ∷ call_replies image h xs)

-- the plain reply to one call behind h
abbrev pub call_reply : List Record → List Event → Call → Reply
call_reply image h x = cond (roomy x.event x.room) (reply image h x.event) (bare_reply 21)

-- the run that the calls leave
abbrev pub after_calls : Config → Run → List Call → Run
after_calls c s [] = s
after_calls c s (x ∷ xs) = after_calls c (step_of c s x.event x.room).run xs

-- the events that had room, the latest first
abbrev pub heard : List Event → List Call → List Event
heard h [] = h
heard h (x ∷ xs) = cond (roomy x.event x.room) (heard (x.event ∷ h) xs) (heard h xs)

-- the packets of the code are lists of bytes
abbrev pub EventBytes : Event → Type 0
EventBytes (packet p) = Bytes p
EventBytes tick = Unit {0}
EventBytes (fault f) = Unit {0}

abbrev pub CallBytes : List Call → Type 0
CallBytes [] = Unit {0}
CallBytes (x ∷ xs) = EventBytes x.event × CallBytes xs
