-- Document 01, "Steps and what they return": the three steps, on a state that keeps its rules and on any state whatever.
use Rattle.std.specs.Prelude.{cond, List, map, ℕ, ◌+◌, eqb, leb, length}
use Rattle.std.proofs.Math.Option.{Option, none, some}
use Rattle.packet_rules.specs.Layout.{command_id}
use Rattle.packet_rules.specs.Judge.{arguments_of}
use Rattle.state.specs.declared.types.Config.{Config}
use Rattle.state.specs.declared.types.Run.{Run}
use Rattle.state.specs.Tables.{Tables, fault_id, tables_of, with_arm, with_counts, run_from, run_counted}
use Rattle.state.specs.Test.{keeps_rules}
use Rattle.step_rules.specs.declared.types.Answer.{Answer}
use Rattle.step_rules.specs.declared.types.Stepped.{Stepped}
use Rattle.step_rules.specs.Packets.{accepted_under, refusal_under}
use Rattle.step_rules.specs.Makers.{answer_from, bare_answer, step_from, unchanged}
use Rattle.step_effects.specs.FaultStates.{enable, disable, clear, place_of, meant, row_for, commanded, latched_by, clear_all}
use Rattle.step_answers.specs.declared.own.Own.{Own}
use Rattle.step_answers.specs.declared.own.Own.TheVariants.{Arm, ResetCounters, NoOp, NoOpWithArgument, Enable, Disable, Clear, ClearAll}
use Rattle.step_answers.specs.Own.{own_command, is_reset, fault_arg}
use Rattle.step_arm.specs.Arming.{arm_after, ticked, tick_answer}
use Rattle.step_effects.specs.Counters.{packet_counts, rejected_counts, fault_counts}
use Rattle.step_effects.specs.Dispatch.{sent, for10, dest_of, step_room}
use Rattle.step_answers.specs.Answers.{answer_to, fault_answer}

-- ---- the way that dispatches: what is set and written for 10 only. No other part of a step asks whether it is 10, but for the
-- counters and for a fault that latches.

-- the answer n, shown with this id: the command's destination and its bytes are set for 10 only
abbrev pub sent_answer : Tables → ℕ → ℕ → ℕ → List ℕ → Answer
sent_answer t n shown id args = answer_from n shown (for10 n (dest_of id t.routes)) (for10 n (5 + length args))

-- a packet's command carries its own id and arguments, from the ground
unfoldable pub packet_output : Tables → ℕ → List ℕ → List ℕ → List ℕ
packet_output t n p out = sent n t.settings.ground_source (command_id p) (arguments_of p) out

-- a response carries the row's own command id and arguments, from the fault source
unfoldable pub fault_output : Tables → ℕ → ℕ → List ℕ → List ℕ
fault_output t n f out = sent n t.settings.fault (row_for (meant t f) t.rows).response (row_for (meant t f) t.rows).args out

-- ---- a packet

-- what an own command that is done makes of the fault states; `act` is an event on the row that the fault id in its arguments means
abbrev pub states_by : (ℕ → List ℕ) → Own → List ℕ → List ℕ
states_by act Arm ss = ss
states_by act ResetCounters ss = ss
states_by act NoOp ss = ss
states_by act NoOpWithArgument ss = ss
states_by act Enable ss = act enable
states_by act Disable ss = act disable
states_by act Clear ss = act clear
states_by act ClearAll ss = clear_all ss

-- the fault states after a packet whose id selects an own command or none, with the answer n; of the rows it asks the ids alone
unfoldable pub states_after : List ℕ → ℕ → Option Own → List ℕ → List ℕ → List ℕ
states_after ids n none args ss = ss
states_after ids n (some k) args ss = cond (eqb n 12) (states_by (λ e. commanded e (place_of (fault_arg args) ids) ss) k ss) ss

-- the run after an accepted packet that gets the answer n
abbrev pub acted_run : Tables → Run → ℕ → List ℕ → ℕ → Run
acted_run t run id args n =
    run_from
    (with_arm (arm_after n args) (with_counts (packet_counts n (is_reset (own_command t.settings.base id)) run.standing.counts) run.standing))
    (states_after (map fault_id t.rows) n (own_command t.settings.base id) args run.states)

abbrev pub acted : Tables → Run → ℕ → List ℕ → ℕ → Stepped
acted t run id args n = step_from (acted_run t run id args n) (sent_answer t n id id args)

unfoldable pub accepted_step : Tables → Run → ℕ → List ℕ → Stepped
accepted_step t run id args = acted t run id args (answer_to t run.standing.arm.armed id args)

-- a rejected packet moves R alone
unfoldable pub rejected_step : Run → ℕ → Stepped
rejected_step run n = step_from (run_counted (rejected_counts run.standing.counts) run) (bare_answer n)

-- the judge's refusal, else what its id and arguments ask
unfoldable pub packet_step : Tables → Run → List ℕ → Stepped
packet_step t run p =
    cond (accepted_under t p) (accepted_step t run (command_id p) (arguments_of p)) (rejected_step run (refusal_under t p))

-- ---- a tick

unfoldable pub tick_step : Run → Stepped
tick_step run =
    let arm = run.standing.arm in
    step_from (run_from (with_arm (ticked arm.armed arm.ticks) run.standing) run.states) (bare_answer (tick_answer arm.armed arm.ticks))

-- ---- a fault

-- the run after a fault of the row at a place, with the answer n: only a response that is dispatched may latch; the arm record
-- stays
abbrev pub faulted_run : Tables → Run → Option ℕ → ℕ → Run
faulted_run t run place n =
    run_from (with_counts (fault_counts n run.standing.counts) run.standing)
    (cond (eqb n 10) (latched_by t.rows place run.states) run.states)

-- the id is set for 10 only too
abbrev pub faulted_answer : Tables → Option ℕ → ℕ → Answer
faulted_answer t place n = let row = row_for place t.rows in sent_answer t n (for10 n row.response) row.response row.args

abbrev pub faulted : Tables → Run → Option ℕ → ℕ → Stepped
faulted t run place n = step_from (faulted_run t run place n) (faulted_answer t place n)

unfoldable pub fault_step : Tables → Run → ℕ → Stepped
fault_step t run f = faulted t run (meant t f) (fault_answer run.states (meant t f))

-- ---- on any state, with any output room

-- 20, then 21, then the step
abbrev pub judged : Config → Run → ℕ → Stepped → Stepped
judged c run room step = cond (keeps_rules c run) (cond (leb step_room room) step (unchanged run 21)) (unchanged run 20)

unfoldable pub packet_step_of : Config → Run → List ℕ → ℕ → Stepped
packet_step_of c run p room = judged c run room (packet_step (tables_of c) run p)

unfoldable pub fault_step_of : Config → Run → ℕ → ℕ → Stepped
fault_step_of c run f room = judged c run room (fault_step (tables_of c) run f)

-- a tick can meet only 20
unfoldable pub tick_step_of : Config → Run → Stepped
tick_step_of c run = cond (keeps_rules c run) (tick_step run) (unchanged run 20)
