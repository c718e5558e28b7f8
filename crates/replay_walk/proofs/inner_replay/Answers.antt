-- `inner_replay`: the loop's invariant is `Going`, and each way out is one of its laws.
use Rattle.std.proofs.Common.{◌≡◌, refl, sym, ap, subst, ◌∙◌, ℕ, ◌+◌, ◌-◌, ◌<◌, ◌≤◌, List, length, length-drop, arith, Bor}
use Rattle.state.specs.declared.types.Config.{Config}
use Rattle.state.specs.declared.types.Run.{Run}
use Rattle.state.specs.declared.types.Standing.{Standing}
use Rattle.state.specs.Tables.{config_of_lent, run_from}
use Rattle.wire.specs.Bytes.{Bytes, part_bytes}
use Rattle.image_rules.specs.Records.{Record}
use Rattle.image_rules.specs.RecordLaws.{Whole, body_at}
use Rattle.step_effects.specs.Dispatch.{step_room}
use Rattle.step_rules.proofs.Found.{lend}
use Rattle.step_rules.proofs.MovedOn.{packet_moved, tick_moved, lend_states, lend_rows, fault_moved}
use Rattle.history.specs.Plain.{Event, packet, tick, fault}
use Rattle.replay_rules.specs.declared.types.Reached.{Reached}
use Rattle.replay_rules.specs.Recording.{output_full, kind_refusal, event_room, head_size}
use Rattle.history.proofs.Outputs.{packet_over, fault_over}
use Rattle.replay_rules.specs.OutputLaws.{part_from}
use Rattle.replay_rules.proofs.OutputLaws.{part_is}
use Rattle.replay_rules.proofs.ReplayWalk.{Told, Going, start, same, ends, cuts, found, refuses, cramped, goes_on, goes_on_silent}
use Rattle.replay_rules.specs.Replay.{stopped_at, piece_left, Replays, reached_at}
use Rattle.history.specs.Calls.{EventBytes}
use Rattle.replay_rules.proofs.RecordPieces.{event_bytes}
use Rattle.replay_rules.specs.declared.recording.Stop.{Stop}
use Rattle.replay_rules.specs.declared.recording.Stop.TheVariants.{CutShort, OtherKind, WrongLength, OutputFull}
use Rattle.replay_rules.specs.Recording.{event_in, event_lent, number_of}
use Rattle.replay_walk.proofs.inner_replay.Goals as goal

-- a piece where the walk stops is what the contract asks for
here : {c : Config} {s₀ : Run} {bs out₀ out states : List ℕ} {standing : Standing} {n read count wrote : ℕ}
    → Told c bs out₀ s₀ out (stopped_at (run_from standing states) n read count wrote) → {r : Reached} → r ≡ reached_at standing n read count wrote
    → Replays c s₀ bs out₀ r states out
here {states = states} t e = record { told = ap (λ (x : Reached). piece_left x states) e ∙ t.told; output = t.output }

-- room for the reply, as the output was and as its part is lent; or none
module _ {c : Config} {bs out₀ : List ℕ} {s₀ : Run} {out : List ℕ} {s : Run} {read count wrote : ℕ} (g : Going c bs out₀ s₀ out s read count wrote) where
  room : event_room ≤ length out - wrote → event_room ≤ length out₀ - wrote
  room h = omega (arith, same g, h)

  part_room : event_room ≤ length out - wrote → step_room ≤ length (part_from out (wrote + head_size))
  part_room h = rw (part_is out (wrote + head_size)) (omega (arith, length-drop (wrote + head_size) out, h))

  stops_full : {kind end : ℕ} → read < length bs → Whole bs read kind end → {n : ℕ} → n ≡ kind_refusal kind (length (body_at bs read end)) → n ≡ 0
      → length out - wrote < event_room → Told c bs out₀ s₀ out (stopped_at s output_full read count wrote)
  stops_full l h e z q = cramped g l h e z (omega (arith, same g, q))

-- each reason to stop has a number above 0
not_0 : (stop : Stop) → number_of stop ≡ 0 → ⊥
not_0 CutShort e = omega (arith, e)
not_0 OtherKind e = omega (arith, e)
not_0 WrongLength e = omega (arith, e)
not_0 OutputFull e = omega (arith, e)

-- the event of a record of bytes has bytes
own_bytes : (r : Record) → Bytes r.body → {ev : Event} → event_in r ≡ ev → EventBytes ev
own_bytes r b is = subst (λ (e : Event). EventBytes e) is (event_bytes r b)

-- ---- before the loop, each way out, and each turn

pub loop-at-init : goal.loop-at-init
loop-at-init c = rw c.reached_at-at.ensures (record { going = start c.requires.keeps _ _; goes = refl; long = c.requires.sized_run.states_32 })

pub returns-in_default : goal.returns-in_default
returns-in_default c =
    here (cuts c.loop-at.invariant.going c.loop-at-test.true (c.in_default.ensures)) c.stopped.ensures

pub returns-in-Err : goal.returns-in-Err
returns-in-Err c =
    here (refuses c.loop-at.invariant.going c.loop-at-test.true (c.in-Some.ensures) c.in-Err.ensures (not_0 c.in-Err.stop))
    c.stopped-in-Err.ensures

pub overflow_sub-out : goal.overflow_sub-out
overflow_sub-out c = omega (arith, c.loop-at.invariant.going.fits, same c.loop-at.invariant.going)

pub returns-then-out-at-lt-EVENT_ROOM : goal.returns-then-out-at-lt-EVENT_ROOM
returns-then-out-at-lt-EVENT_ROOM c =
    here
    (stops_full c.loop-at.invariant.going c.loop-at-test.true (c.in-Some.ensures)
    c.in-Ok-Packet.ensures.0 refl c.if-out-at-lt-EVENT_ROOM.true)
    c.stopped-then-out-at-lt-EVENT_ROOM.ensures

pub inner_packet-sent-requires : goal.inner_packet-sent-requires
inner_packet-sent-requires c =
    let g = c.loop-at.invariant.going in (
      lend g.keeps c.requires.sized,
      lend_states g.keeps (record { states_32 = c.loop-at.invariant.long }),
      part_room g c.if-out-at-lt-EVENT_ROOM.false,
    )

pub loop-at-preserved-in-Ok-Packet : goal.loop-at-preserved-in-Ok-Packet
loop-at-preserved-in-Ok-Packet c =
    let g = c.loop-at.invariant.going in
    let whole = c.in-Some.ensures in
    let is = c.in-Ok-Packet.ensures.1 ∙ ap event_lent c.in-Ok-Packet.field-0-is ∙ ap (λ (p : Bor (List ℕ)). packet p.now) (sym c.in-Ok-Packet.packet-is) in
    let moves = c.inner_packet-sent.ensures (config_of_lent c.args.config.now) in
    record {
      going =
          rw c.put_numbers.ensures.end
          (goes_on g c.loop-at-test.true whole c.in-Ok-Packet.ensures.0 refl (room g c.if-out-at-lt-EVENT_ROOM.false) is
          (own_bytes (found g c.loop-at-test.true whole)
          (part_bytes c.args.recording.now (λ k. (c.type_inv.recording k).fits) (c.loop-at.at.read + 4) (c.in-Some.found.end - (c.loop-at.at.read + 4))) is)
          (packet_moved c.loop-at.at.standing moves c.after_packet-at.ensures refl refl)
          (moves.output ∙ packet_over _ _ _ _) c.inner_packet-sent.auto.out c.put_numbers.ensures.output);
      goes = c.loop-at.invariant.goes;
      long = moves.long ∙ c.loop-at.invariant.long;
    }

pub returns-then-out-at-lt-EVENT_ROOM-2 : goal.returns-then-out-at-lt-EVENT_ROOM-2
returns-then-out-at-lt-EVENT_ROOM-2 c =
    here
    (stops_full c.loop-at.invariant.going c.loop-at-test.true (c.in-Some.ensures)
    c.in-Ok-Tick.ensures.0 refl c.if-out-at-lt-EVENT_ROOM-2.true)
    c.stopped-then-out-at-lt-EVENT_ROOM-2.ensures

pub loop-at-preserved-in-Ok-Tick : goal.loop-at-preserved-in-Ok-Tick
loop-at-preserved-in-Ok-Tick c =
    let g = c.loop-at.invariant.going in
    let whole = c.in-Some.ensures in
    let is : event_in (found g c.loop-at-test.true whole) ≡ tick = c.in-Ok-Tick.ensures.1 ∙ ap event_lent c.in-Ok-Tick.field-0-is in
    record {
      going =
          rw c.put_numbers-in-Ok-Tick.ensures.end
          (goes_on_silent g c.loop-at-test.true whole c.in-Ok-Tick.ensures.0 refl (room g c.if-out-at-lt-EVENT_ROOM-2.false) is tt
          (tick_moved (run_from c.loop-at.at.standing c.loop-at.states) c.tick_of-ticked.ensures c.bare-answer.ensures refl)
          refl c.put_numbers-in-Ok-Tick.ensures.output);
      goes = c.loop-at.invariant.goes;
      long = c.loop-at.invariant.long;
    }

pub returns-then-out-at-lt-EVENT_ROOM-3 : goal.returns-then-out-at-lt-EVENT_ROOM-3
returns-then-out-at-lt-EVENT_ROOM-3 c =
    here
    (stops_full c.loop-at.invariant.going c.loop-at-test.true (c.in-Some.ensures)
    c.in-Ok-Fault.ensures.0 refl c.if-out-at-lt-EVENT_ROOM-3.true)
    c.stopped-then-out-at-lt-EVENT_ROOM-3.ensures

pub inner_fault-answer-requires : goal.inner_fault-answer-requires
inner_fault-answer-requires c =
    let g = c.loop-at.invariant.going in
    (lend_rows g.keeps c.requires.sized, c.loop-at.invariant.long, part_room g c.if-out-at-lt-EVENT_ROOM-3.false)

pub loop-at-preserved : goal.loop-at-preserved
loop-at-preserved c =
    let g = c.loop-at.invariant.going in
    let whole = c.in-Some.ensures in
    let is = c.in-Ok-Fault.ensures.1 ∙ ap event_lent c.in-Ok-Fault.field-0-is ∙ ap fault (sym c.in-Ok-Fault.fault-is) in
    let moves = c.inner_fault-answer.ensures (config_of_lent c.args.config.now) in
    record {
      going =
          rw c.put_numbers-in-Ok-Fault.ensures.end
          (goes_on g c.loop-at-test.true whole c.in-Ok-Fault.ensures.0 refl (room g c.if-out-at-lt-EVENT_ROOM-3.false) is tt
          (fault_moved (run_from c.loop-at.at.standing c.loop-at.states) moves c.after_fault-at.ensures refl)
          (moves.output ∙ fault_over _ _ _ _) c.inner_fault-answer.auto.out c.put_numbers-in-Ok-Fault.ensures.output);
      goes = c.loop-at.invariant.goes;
      long = moves.long ∙ c.loop-at.invariant.long;
    }

pub returns : goal.returns
returns c =
    let at = c.loop-at.at in
    here (ends c.loop-at.invariant.going c.loop-at-test.false) (ap (λ (n : ℕ). reached_at at.standing n at.read at.count at.wrote) c.loop-at.invariant.goes)
