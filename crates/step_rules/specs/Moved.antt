-- The inner steps, to which columns and fault states are lent; the counters are the caller's. What such a step hands back and
-- the states that it leaves are the step of document 01, for every configuration that has the lent columns.
use Rattle.std.specs.Prelude.{◌≡◌, Bool, true, false, ◌&&◌, List, ℕ, ◌+◌, ◌*◌, ◌<◌, ◌≤◌, eqb, length, get_or, take, is_some, IfSome}
use Rattle.std.proofs.Math.Option.{Option, some}
use Rattle.wire.specs.Check.{check}
use Rattle.packet_rules.specs.Layout.{command_id}
use Rattle.packet_rules.specs.Judge.{arguments_of}
use Rattle.state.specs.declared.types.Numbers.{Numbers}
use Rattle.state.specs.declared.types.Config.{Config}
use Rattle.state.specs.declared.lent.LentConfig.{LentConfig}
use Rattle.state.specs.declared.types.Arm.{Arm}
use Rattle.state.specs.declared.types.Standing.{Standing}
use Rattle.state.specs.Tables.{tables_of, config_from, with_arm, with_counts, run_from}
use Rattle.state.specs.Rules.{member}
use Rattle.state.specs.Lookup.{Column}
use Rattle.step_rules.specs.declared.types.Answer.{Answer}
use Rattle.step_rules.specs.declared.types.Stepped.{Stepped}
use Rattle.step_rules.specs.declared.types.Moved.{Moved}
use Rattle.step_rules.specs.declared.types.Decision.{Decision}
use Rattle.step_rules.specs.declared.types.Responding.{Responding}
use Rattle.step_rules.specs.Packets.{refusal_under}
use Rattle.step_rules.specs.Makers.{answer_from, bare_answer, named_answer, step_from, moved_from}
use Rattle.step_arm.specs.Arming.{arm_after}
use Rattle.step_effects.specs.Counters.{moved_counts, fault_counts}
use Rattle.step_effects.specs.Dispatch.{for10}
use Rattle.step_effects.specs.FaultStates.{enabled, place_of, meant, is_place, commanded}
use Rattle.step_answers.specs.declared.own.Own.{Own}
use Rattle.step_answers.specs.Own.{is_reset, fault_arg}
use Rattle.step_answers.specs.Answers.{own_answer, answer_to, fault_answer}
use Rattle.step_answers.specs.AnswerLaws.{Lent}
use Rattle.step_rules.specs.Step.{sent_answer, states_after, packet_step, packet_output, faulted_answer, fault_step, fault_output}

-- no state is above 2, so that each has its row in the table of events
pub record StatesLent (states : List ℕ) : Type 0 where
  pub states_32 : length states ≡ 32
  pub small : (j : ℕ) → get_or states j 0 ≤ 2

-- ---- a packet

-- the columns that a packet step looks at, of a configuration that is lent
abbrev pub PacketsLent : LentConfig → Type 0
PacketsLent l = Lent l.numbers l.routeids.now l.dests.now l.protected.now l.faultids.now

-- any configuration that has these columns: the others are another's
abbrev pub seen_by_packets : LentConfig → Config → Config
seen_by_packets l other =
    config_from l.numbers l.routeids.now l.dests.now l.protected.now l.faultids.now other.responses other.latching other.argcounts
    other.args

-- an accepted packet that gets the answer n; k is what its id selects
abbrev pub moved_by : ℕ → Option Own → ℕ → List ℕ → ℕ → Moved
moved_by n k id args dest =
    moved_from (arm_after n args) (eqb n 12 && is_reset k) (answer_from n id (for10 n dest) (for10 n (5 + length args)))

-- an accepted packet that is not sent on
abbrev pub quietly : ℕ → ℕ → List ℕ → Bool → Moved
quietly n id args reset = moved_from (arm_after n args) reset (named_answer n id)

-- a rejected packet leaves the arm record
abbrev pub rejected_by : Arm → ℕ → Moved
rejected_by arm n = moved_from arm false (bare_answer n)

-- an own command: what it hands back, and the states that it leaves
pub record OwnMoves (ids : List ℕ) (k : Own) (id : ℕ) (args before : List ℕ) (r : Moved) (after : List ℕ) : Type 0 where
  pub moved : r ≡ moved_by (own_answer ids k args) (some k) id args 0
  pub states : after ≡ states_after ids (own_answer ids k args) (some k) args before

-- an event on the row that the fault id in the arguments means: 32 where it means none
pub record RowMoves (ids : List ℕ) (e id : ℕ) (args before : List ℕ) (r : Moved) (after : List ℕ) : Type 0 where
  pub moved : r ≡ quietly (check (is_place (place_of (fault_arg args) ids)) 32 12) id args false
  pub states : after ≡ commanded e (place_of (fault_arg args) ids) before

-- the step that it was, on the standing that the caller had
abbrev pub left_by_move : Standing → Moved → List ℕ → Stepped
left_by_move s r states = step_from (run_from (with_arm r.arm (with_counts (moved_counts r.answer.answer r.reset s.counts) s)) states) r.answer

-- the packet step of any standing with this arm record, and its output
pub record PacketMoves (c : Config) (arm : Arm) (before p out : List ℕ) (r : Moved) (after left : List ℕ) : Type 0 where
  pub step : (s : Standing) → left_by_move s r after ≡ packet_step (tables_of c) (run_from (with_arm arm s) before) p
  pub output : left ≡ packet_output (tables_of c) r.answer.answer p out
  pub long : length after ≡ length before

-- a packet whose command is to be sent on: the judge accepts it, nothing stops it, and no fault state changes
pub record PacketSends (c : Config) (arm : Arm) (before p : List ℕ) (r : Moved) (after : List ℕ) : Type 0 where
  pub accepted : refusal_under (tables_of c) p ≡ 0
  pub answered : 10 ≡ answer_to (tables_of c) arm.armed (command_id p) (arguments_of p)
  pub moved : r ≡ moved_from (arm_after 10 (arguments_of p)) false (sent_answer (tables_of c) 10 (command_id p) (command_id p) (arguments_of p))
  pub states : after ≡ before

-- what a packet comes to before anything is sent on: the packet step of any standing with this arm record, and for 10 a command to send
pub record PacketDecided (c : Config) (arm : Arm) (before p : List ℕ) (r : Decision) (after : List ℕ) : Type 0 where
  pub step : (s : Standing) → left_by_move s r.moved after ≡ packet_step (tables_of c) (run_from (with_arm arm s) before) p
  pub for_10 : r.sends ≡ eqb r.moved.answer.answer 10
  pub sends : r.sends ≡ true → PacketSends c arm before p r.moved after
  pub long : length after ≡ length before

-- ---- a fault

-- the columns of a state that keeps its rules, as they are lent to find a fault's response
pub record ResponsesLent (n : Numbers) (routeids dests faultids responses argcounts : List ℕ) : Type 0 where
  pub route_ids : Column 128 routeids n.nroutes
  pub dests_128 : length dests ≡ 128
  pub fault_ids : Column 32 faultids n.nrows
  pub responses_32 : length responses ≡ 32
  pub argcounts_32 : length argcounts ≡ 32
  pub args_within : (k : ℕ) → k < n.nrows → k * 16 + get_or argcounts k 0 ≤ 512
  pub routed : (k : ℕ) → k < n.nrows → member (get_or responses k 0) (take n.nroutes routeids) ≡ true

-- and those that a fault step is lent, which writes the response's arguments and latches
pub record RowsLent (n : Numbers) (routeids dests faultids responses latching argcounts args : List ℕ) : Type 0 where
  pub responses_lent : ResponsesLent n routeids dests faultids responses argcounts
  pub latching_32 : length latching ≡ 32
  pub args_512 : length args ≡ 512

-- those of a configuration that is lent
abbrev pub RespondersLent : LentConfig → Type 0
RespondersLent l = ResponsesLent l.numbers l.routeids.now l.dests.now l.faultids.now l.responses.now l.argcounts.now

abbrev pub FaultsLent : LentConfig → Type 0
FaultsLent l =
    RowsLent l.numbers l.routeids.now l.dests.now l.faultids.now l.responses.now l.latching.now l.argcounts.now l.args.now

-- any configuration that has the columns in which a response is found, and any that has those of a fault step: the others are
-- another's
abbrev pub seen_by_responses : LentConfig → Config → Config
seen_by_responses l other =
    config_from l.numbers l.routeids.now l.dests.now other.protected l.faultids.now l.responses.now other.latching
    l.argcounts.now other.args

abbrev pub seen_by_faults : LentConfig → Config → Config
seen_by_faults l other =
    config_from l.numbers l.routeids.now l.dests.now other.protected l.faultids.now l.responses.now l.latching.now
    l.argcounts.now l.args.now

abbrev pub fault_left : Standing → Answer → List ℕ → Stepped
fault_left s r states = step_from (run_from (with_counts (fault_counts r.answer s.counts) s) states) r

-- the fault step of any standing, and its output
pub record FaultMoves (c : Config) (before : List ℕ) (f : ℕ) (out : List ℕ) (r : Answer) (after left : List ℕ) : Type 0 where
  pub step : (s : Standing) → fault_left s r after ≡ fault_step (tables_of c) (run_from s before) f
  pub output : left ≡ fault_output (tables_of c) r.answer f out
  pub long : length after ≡ length before

-- a fault whose response is to be sent on: the place that its id means, and the row there, which is enabled
pub record FaultSends (c : Config) (states : List ℕ) (f : ℕ) (answer : Answer) (row : ℕ) : Type 0 where
  pub place : meant (tables_of c) f ≡ some row
  pub there : row < c.numbers.nrows
  pub was_enabled : get_or states row 0 ≡ enabled
  pub answer_is : answer ≡ faulted_answer (tables_of c) (some row) 10

-- what a fault comes to before anything is sent on: its answer, and the row's place for 10
pub record FaultResponds (c : Config) (states : List ℕ) (f : ℕ) (r : Responding) : Type 0 where
  pub answered : r.answer ≡ faulted_answer (tables_of c) (meant (tables_of c) f) (fault_answer states (meant (tables_of c) f))
  pub for_10 : is_some r.row ≡ eqb r.answer.answer 10
  pub sends : IfSome r.row (λ row. FaultSends c states f r.answer row)
