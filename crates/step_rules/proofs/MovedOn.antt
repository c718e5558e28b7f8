-- For callers of the inner steps: a state that keeps its rules may lend its arrays, and what comes back, with the counters that the
-- caller works out beside it, is the step of that state. The premises are the calls' contracts, in their order.
use Rattle.std.specs.Prelude.{◌≡◌, List, ℕ}
use Rattle.std.proofs.Common.{arith}
use Rattle.state.specs.declared.types.Config.{Config}
use Rattle.state.specs.declared.types.Counts.{Counts}
use Rattle.state.specs.declared.types.Standing.{Standing}
use Rattle.state.specs.declared.types.Run.{Run}
use Rattle.state.specs.Tables.{tables_of, with_arm, with_counts, run_from}
use Rattle.state.specs.Keeps.{Keeps}
use Rattle.state.proofs.KeepsLaws.{few_counted}
use Rattle.state.specs.Sized.{Sized, SizedRun}
use Rattle.state.proofs.Columns.{fault_column, route_column, states_small}
use Rattle.step_arm.specs.declared.Ticked.{Ticked}
use Rattle.step_arm.specs.Arming.{ticked_by}
use Rattle.step_effects.specs.Counters.{moved_counts, fault_counts}
use Rattle.step_rules.specs.declared.types.Answer.{Answer}
use Rattle.step_rules.specs.declared.types.Moved.{Moved}
use Rattle.step_rules.specs.Makers.{bare_answer, step_from}
use Rattle.step_rules.proofs.Found.{responds}
use Rattle.step_rules.specs.Step.{packet_step, tick_step, fault_step}
use Rattle.step_rules.specs.Moved.{StatesLent, PacketMoves, RowsLent, FaultMoves}

-- a packet, on any standing with the arm record that was handed in
pub packet_moved : (s : Standing) {c : Config} {before p out : List ℕ} {m : Moved} {after left : List ℕ} → PacketMoves c s.arm before p out m after left
    → {counts : Counts} {counted next : Standing} → counts ≡ moved_counts m.answer.answer m.reset s.counts → counted ≡ with_counts counts s → next ≡ with_arm m.arm counted
    → step_from (run_from next after) m.answer ≡ packet_step (tables_of c) (run_from s before) p
packet_moved s moves e c n = rw (n, c, e) (moves.step s)

-- a tick
pub tick_moved : (run : Run) {t : Ticked} {a : Answer} {next : Standing} → t ≡ ticked_by run.standing.arm → a ≡ bare_answer t.answer → next ≡ with_arm t.arm run.standing
    → step_from (run_from next run.states) a ≡ tick_step run
unfolding tick_step
tick_moved run e q n = rw (n, q, e)

module _ {c : Config} {run : Run} (k : Keeps c run) where
  pub lend_states : SizedRun run → StatesLent run.states
  lend_states z = record { states_32 = z.states_32; small = states_small (tables_of c).rows run.states k.run_ok.states_are_ok }

  module _ (z : Sized c) where
    pub lend_rows : RowsLent c.numbers c.routeids c.dests c.faultids c.responses c.latching c.argcounts c.args
    lend_rows =
        record {
          responses_lent = record {
            route_ids = route_column k z;
            dests_128 = z.dests_128;
            fault_ids = fault_column k z;
            responses_32 = z.responses_32;
            argcounts_32 = z.argcounts_32;
            args_within = λ i h. omega (arith, (fault_column k z).slots.within, few_counted c.numbers.nrows i c.argcounts c.args k.unused.args_are_zero h);
            routed = λ i h. responds k z i h;
          };
          latching_32 = z.latching_32;
          args_512 = z.args_512;
        }

pub fault_moved : {c : Config} (run : Run) {f : ℕ} {out : List ℕ} {r : Answer} {after left : List ℕ} → FaultMoves c run.states f out r after left
    → {counts : Counts} {next : Standing} → counts ≡ fault_counts r.answer run.standing.counts → next ≡ with_counts counts run.standing
    → step_from (run_from next after) r ≡ fault_step (tables_of c) run f
fault_moved run m e n = rw (n, e) (m.step run.standing)
