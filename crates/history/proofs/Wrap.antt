-- Demand 3's counters past 65,535, beside the count that a reader trusts: the same event n times over.
use Rattle.std.specs.Prelude.{◌≡◌, Bool, true, false, ℕ, zero, suc, ◌+◌, ◌%◌}
use Rattle.std.proofs.Math.Path.{refl}
use Rattle.std.proofs.Common.{ap, ◌∙◌, arith}
use mathlib.Core.List.{List, [], ◌∷◌}
use Rattle.packet_rules.specs.Judge.{refusal_of}
use Rattle.state.specs.declared.types.Counts.{Counts}
use Rattle.image_rules.specs.Records.{Record, records_of}
use Rattle.image_load.specs.Image.{load_of}
use Rattle.history.specs.Plain.{Event, latest_first, packet, fault, accepted, resets, count, moves_r, moves_f}
use Rattle.history.proofs.Agree.{counters}
use Rattle.history.specs.Wrap.{times, left_by}

-- each of them is one step more
module _ (image : List Record) (moves : List Event → Event → Bool) (e : Event) where
  count_times : ((h : List Event) → resets image h e ≡ false) → ((h : List Event) → moves h e ≡ true) → (n : ℕ) (h : List Event) → count image moves (latest_first h (times n e)) ≡ n + count image moves h
  count_times still one zero h = omega arith
  count_times still one (suc n) h = count_times still one n (e ∷ h) ∙ rw (still h, one h) (omega arith)

module _ (image : List ℕ) (z : (load_of image).answer ≡ 0) where
  abbrev records : List Record
  records = records_of image

  pub faults_counted : (f n : ℕ) → (left_by image z n (fault f)).f ≡ n % 65536
  faults_counted f n =
      ap (λ (c : Counts). c.f) (counters image z (times n (fault f)))
      ∙ rw (count_times records (moves_f records) (fault f) (λ h. refl) (λ h. refl) n []) (ap (λ k. k % 65536) (omega arith))

  pub rejected_counted : (p : List ℕ) → accepted records p ≡ false → (n : ℕ) → (left_by image z n (packet p)).r ≡ n % 65536
  rejected_counted p a n =
      ap (λ (c : Counts). c.r) (counters image z (times n (packet p)))
      ∙ rw (count_times records (moves_r records) (packet p) (λ h. simp a) (λ h. simp a) n []) (ap (λ k. k % 65536) (omega arith))

  -- 65,540 of them leave 4
  pub faults_wrap : (f : ℕ) → (left_by image z 65540 (fault f)).f ≡ 4
  faults_wrap f = faults_counted f 65540

  pub empty_packets_wrap : (left_by image z 65540 (packet [])).r ≡ 4
  unfolding refusal_of
  empty_packets_wrap = rejected_counted [] refl 65540
