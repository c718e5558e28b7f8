-- The running path on a list of events: from a run, by the inner steps, the replies one after the other.
use Rattle.std.specs.Prelude.{cond, List, [], ◌∷◌, ℕ, eqb}
use Rattle.packet_rules.specs.Layout.{command_id}
use Rattle.packet_rules.specs.Judge.{arguments_of}
use Rattle.state.specs.declared.types.Run.{Run}
use Rattle.state.specs.Tables.{Tables}
use Rattle.step_effects.specs.FaultStates.{meant, row_for}
use Rattle.step_effects.specs.Dispatch.{command_bytes}
use Rattle.step_rules.specs.declared.types.Answer.{Answer}
use Rattle.step_rules.specs.declared.types.Stepped.{Stepped}
use Rattle.step_rules.specs.Step.{packet_step, tick_step, fault_step}
use Rattle.history.specs.Plain.{Event, packet, tick, fault, Reply, reply_from}

-- one step
abbrev pub step : Tables → Run → Event → Stepped
step t run (packet p) = packet_step t run p
step t run tick = tick_step run
step t run (fault f) = fault_step t run f

-- the bytes that it writes at the start of the output
abbrev pub bytes_for : Tables → Event → ℕ → List ℕ
bytes_for t (packet p) n = cond (eqb n 10) (command_bytes t.settings.ground_source (command_id p) (arguments_of p)) []
bytes_for t tick n = []
bytes_for t (fault f) n =
    cond (eqb n 10) (command_bytes t.settings.fault (row_for (meant t f) t.rows).response (row_for (meant t f) t.rows).args) []

-- the reply of a step that gave this answer
abbrev pub reply_with : Tables → Event → Answer → Reply
reply_with t e a = reply_from a.answer a.id a.dest a.written (bytes_for t e a.answer)

abbrev pub reply_of : Tables → Event → Stepped → Reply
reply_of t e s = reply_with t e s.answer

-- a list of them
abbrev pub run : Tables → Run → List Event → List Reply
run t s [] = []
run t s (e ∷ es) = reply_of t e (step t s e) ∷ run t (step t s e).run es

-- the run that it leaves
abbrev pub after : Tables → Run → List Event → Run
after t s [] = s
after t s (e ∷ es) = after t (step t s e).run es
