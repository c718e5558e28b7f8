-- What the functions of the C boundary answer: the path's own answers, the run saved with a number in place of its bool. A
-- number that is neither 0 nor 1 is no run, and a state with it breaks its rules. Then what that is where the fault states are
-- lent.
use Rattle.std.specs.Prelude.{◌≡◌, Bool, cond, List, [], ℕ, eqb, leb, length}
use Rattle.packet_rules.specs.Judge.{arguments_of, arguments_at}
use Rattle.state.specs.declared.types.Config.{Config}
use Rattle.state.specs.declared.types.Standing.{Standing}
use Rattle.state.specs.declared.types.Run.{Run}
use Rattle.state.specs.Tables.{tables_of, standing_from, run_from}
use Rattle.step_effects.specs.Dispatch.{over}
use Rattle.step_rules.specs.declared.types.Answer.{Answer}
use Rattle.step_rules.specs.declared.types.Left.{Left}
use Rattle.step_rules.specs.declared.types.Stepped.{Stepped}
use Rattle.step_rules.specs.Makers.{bare_answer}
use Rattle.step_rules.specs.Step.{packet_step_of, packet_output, tick_step_of, fault_step_of, fault_output}
use Rattle.image_load.specs.Image.{load_of}
use Rattle.replay_rules.specs.declared.types.Piece.{Piece}
use Rattle.replay_rules.specs.declared.types.Reached.{Reached}
use Rattle.replay_rules.specs.Replay.{piece_of, piece_bytes}
use Rattle.export_rules.specs.declared.types.SavedStanding.{SavedStanding}
use Rattle.export_rules.specs.declared.types.Saved.{Saved}
use Rattle.export_rules.specs.declared.types.Part.{Part}
use Rattle.export_rules.specs.declared.types.Loading.{Loading}
use Rattle.export_rules.specs.declared.types.Handed.{Handed}
use Rattle.export_rules.specs.declared.types.Portion.{Portion}

-- the number of the structs, signatures and numbers that C sees
abbrev pub abi : ℕ
abi = 3

-- ---- a run, saved and taken back

abbrev pub standing_inward : SavedStanding → Standing
standing_inward s = standing_from (record { armed = eqb s.armed 1; ticks = s.ticks }) s.counts

-- a standing with a number in place of its bool
abbrev pub numbered : ℕ → Standing → SavedStanding
numbered armed s = record { armed = armed; ticks = s.arm.ticks; counts = s.counts }

abbrev pub standing_outward : Standing → SavedStanding
standing_outward s = numbered (cond s.arm.armed 1 0) s

abbrev pub inward : Saved → Run
inward s = run_from (standing_inward s.standing) s.states

abbrev pub saved_from : SavedStanding → List ℕ → Saved
saved_from standing states = record { standing = standing; states = states }

abbrev pub outward : Run → Saved
outward r = saved_from (standing_outward r.standing) r.states

-- 0 or 1
abbrev pub told : Saved → Bool
told s = leb s.standing.armed 1

-- ---- what each call answers

abbrev pub part_of : List ℕ → Part
part_of p = record { offset = arguments_at p; length = length (arguments_of p) }

abbrev pub loading_of : List ℕ → Loading
loading_of image =
    record { answer = (load_of image).answer; offset = (load_of image).offset; config = (load_of image).config; run = outward (load_of image).run }

-- a step: the run that it leaves, saved, and its answer
pub record Stepping : Type 0 where
  pub run : Saved
  pub answer : Answer

abbrev pub handed : Stepped → Stepping
handed s = record { run = outward s.run; answer = s.answer }

abbrev pub refused_call : Saved → Stepping
refused_call s = record { run = s; answer = bare_answer 20 }

unfoldable pub packet_call : Config → Saved → List ℕ → ℕ → Stepping
packet_call c s p room = cond (told s) (handed (packet_step_of c (inward s) p room)) (refused_call s)

unfoldable pub tick_call : Config → Saved → Stepping
tick_call c s = cond (told s) (handed (tick_step_of c (inward s))) (refused_call s)

unfoldable pub fault_call : Config → Saved → ℕ → ℕ → Stepping
fault_call c s f room = cond (told s) (handed (fault_step_of c (inward s) f room)) (refused_call s)

-- a piece of a recording: the run that it leaves, saved, and what it came to
pub record Resuming : Type 0 where
  pub run : Saved
  pub stop : ℕ
  pub read : ℕ
  pub count : ℕ
  pub wrote : ℕ

abbrev pub portion : Piece → Resuming
portion p = record { run = outward p.run; stop = p.stop; read = p.read; count = p.count; wrote = p.wrote }

abbrev pub idle_portion : Saved → Resuming
idle_portion s = record { run = s; stop = 20; read = 0; count = 0; wrote = 0 }

unfoldable pub resume_call : Config → Saved → List ℕ → ℕ → Resuming
resume_call c s recording room = cond (told s) (portion (piece_of c (inward s) recording room)) (idle_portion s)

unfoldable pub resume_bytes : Config → Saved → List ℕ → ℕ → List ℕ
resume_bytes c s recording room = cond (told s) (piece_bytes c (inward s) recording room) []

-- ---- where the fault states are lent

abbrev pub handed_from : SavedStanding → Answer → Handed
handed_from standing answer = record { standing = standing; answer = answer }

abbrev pub left_outward : Left → Handed
left_outward l = handed_from (standing_outward l.standing) l.answer

abbrev pub refused_left : SavedStanding → Handed
refused_left standing = handed_from standing (bare_answer 20)

-- what a step hands back and the fault states that it leaves
abbrev pub stepping : Handed → List ℕ → Stepping
stepping h states = record { run = saved_from h.standing states; answer = h.answer }

pub record PacketCalls (c : Config) (s : Saved) (p out : List ℕ) (h : Handed) (states left : List ℕ) : Type 0 where
  pub step : stepping h states ≡ packet_call c s p (length out)
  pub output : left ≡ packet_output (tables_of c) h.answer.answer p out

pub record FaultCalls (c : Config) (s : Saved) (f : ℕ) (out : List ℕ) (h : Handed) (states left : List ℕ) : Type 0 where
  pub step : stepping h states ≡ fault_call c s f (length out)
  pub output : left ≡ fault_output (tables_of c) h.answer.answer f out

abbrev pub portion_from : SavedStanding → ℕ → ℕ → ℕ → ℕ → Portion
portion_from standing stop read count wrote = record { standing = standing; stop = stop; read = read; count = count; wrote = wrote }

abbrev pub reached_outward : Reached → Portion
reached_outward r = portion_from (standing_outward r.standing) r.stop r.read r.count r.wrote

abbrev pub refused_reached : SavedStanding → Portion
refused_reached standing = portion_from standing 20 0 0 0

abbrev pub resuming : Portion → List ℕ → Resuming
resuming p states =
    record { run = saved_from p.standing states; stop = p.stop; read = p.read; count = p.count; wrote = p.wrote }

pub record ResumeCalls (c : Config) (s : Saved) (recording out : List ℕ) (p : Portion) (states left : List ℕ) : Type 0 where
  pub told : resuming p states ≡ resume_call c s recording (length out)
  pub output : left ≡ over (resume_bytes c s recording (length out)) out
