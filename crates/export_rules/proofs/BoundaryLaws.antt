-- Laws of the C boundary: a bool as a number, the argument part, and each call for an armed number that is told and for one
-- that is not.
use Rattle.std.specs.Prelude.{◌≡◌, Bool, true, false, cond, List, ℕ, ◌<◌, ◌≤◌, length}
use Rattle.std.proofs.Math.Path.{refl}
use Rattle.std.proofs.Common.{ap, eq-eqb, ne_eqb, le-leb}
use mir.Val.{bool_byte}
use Rattle.std.proofs.lemmas.Bool.{lt-leb}
use Rattle.packet_rules.specs.Judge.{refusal_of, arguments_of, arguments_at}
use Rattle.state.specs.declared.types.Config.{Config}
use Rattle.state.specs.Tables.{tables_of}
use Rattle.step_rules.specs.declared.types.Left.{Left}
use Rattle.step_rules.specs.Step.{tick_step_of}
use Rattle.step_rules.proofs.StepLaws.{packet_unsent}
use Rattle.step_rules.proofs.FaultStepLaws.{fault_unsent}
use Rattle.step_rules.specs.Makers.{step_left}
use Rattle.step_rules.specs.LentSteps.{PacketLeaves, FaultLeaves}
use Rattle.replay_rules.specs.declared.types.Reached.{Reached}
use Rattle.replay_rules.specs.Replay.{Resumes}
use Rattle.export_rules.specs.declared.types.Saved.{Saved}
use Rattle.export_rules.specs.Boundary.{inward, told, part_of, handed, packet_call, tick_call, fault_call, portion, resume_call, resume_bytes, left_outward, refused_left, stepping, PacketCalls, FaultCalls, reached_outward, refused_reached, ResumeCalls}

pub byte_is : (b : Bool) → bool_byte b ≡ cond b 1 0
byte_is true = refl
byte_is false = refl

-- ---- the argument part

module _ (p : List ℕ) where
  pub part_refused : (refusal_of p ≡ 0 → ⊥) → record { offset = 0; length = length (arguments_of p) } ≡ part_of p
  unfolding arguments_at
  part_refused n = simp (ne_eqb _ _ n)

  pub part_accepted : refusal_of p ≡ 0 → record { offset = 10; length = length (arguments_of p) } ≡ part_of p
  unfolding arguments_at
  part_accepted z = simp (eq-eqb _ _ z)

-- ---- calls

-- an armed number that is neither 0 nor 1
untold : (s : Saved) → 1 < s.standing.armed → told s ≡ false
untold s h = lt-leb s.standing.armed 1 h

-- or one that is
is_told : (s : Saved) → s.standing.armed ≤ 1 → told s ≡ true
is_told s h = le-leb s.standing.armed 1 h

module _ {c : Config} {s : Saved} where
  pub packet_untold : 1 < s.standing.armed → {p out : List ℕ} → PacketCalls c s p out (refused_left s.standing) s.states out
  unfolding packet_call
  packet_untold h {p} {out} = record { step = simp (untold s h); output = packet_unsent (tables_of c) p out 20 20 refl refl }

  pub fault_untold : 1 < s.standing.armed → {f : ℕ} {out : List ℕ} → FaultCalls c s f out (refused_left s.standing) s.states out
  unfolding fault_call
  fault_untold h {f} {out} = record { step = simp (untold s h); output = fault_unsent (tables_of c) f out 20 20 refl refl }

  pub resume_untold : 1 < s.standing.armed → {recording out : List ℕ} → ResumeCalls c s recording out (refused_reached s.standing) s.states out
  unfolding resume_call resume_bytes
  resume_untold h = record { told = simp (untold s h); output = simp (untold s h) }

  -- 0 or 1: the path's own answer, handed out
  module _ (h : s.standing.armed ≤ 1) {after left : List ℕ} where
    pub packet_told : {p out : List ℕ} {l : Left} → PacketLeaves c (inward s) p out l after left → PacketCalls c s p out (left_outward l) after left
    unfolding packet_call
    packet_told e = record { step = simp (is_told s h) (ap handed e.step); output = e.output }

    pub fault_told : {f : ℕ} {out : List ℕ} {l : Left} → FaultLeaves c (inward s) f out l after left → FaultCalls c s f out (left_outward l) after left
    unfolding fault_call
    fault_told e = record { step = simp (is_told s h) (ap handed e.step); output = e.output }

    pub resume_told : {recording out : List ℕ} {r : Reached} → Resumes c (inward s) recording out r after left → ResumeCalls c s recording out (reached_outward r) after left
    unfolding resume_call resume_bytes
    resume_told e = record { told = simp (is_told s h) (ap portion e.told); output = simp (is_told s h) e.output }

module _ (c : Config) (s : Saved) where
  pub tick_untold : 1 < s.standing.armed → stepping (refused_left s.standing) s.states ≡ tick_call c s
  unfolding tick_call
  tick_untold h = simp (untold s h)

  pub tick_told : s.standing.armed ≤ 1 → (l : Left) → step_left l s.states ≡ tick_step_of c (inward s) → stepping (left_outward l) s.states ≡ tick_call c s
  unfolding tick_call
  tick_told h l e = simp (is_told s h) (ap handed e)
