-- Each way of the counters after a packet, by its answer.
use Rattle.std.specs.Prelude.{◌≡◌, ℕ, ◌<◌, Bool, true, false, ◌==◌, ◌≢◌}
use Rattle.std.proofs.Math.Path.{refl}
use Rattle.std.proofs.Common.{arith}
use borrow.Author.Tests.{eq-eqb, ne_eqb, eqb-false}
use Rattle.packet_rules.specs.Rejection.{is_rejection}
use Rattle.packet_rules.proofs.RejectionLaws.{below_not}
use Rattle.state.specs.declared.types.Counts.{Counts}
use Rattle.step_effects.specs.Counters.{up, no_counts, invalid_answer, packet_counts, rejected_counts, moved_counts, fault_counts}
use Rattle.step_effects.specs.CountLaws.{accepted_only}

module _ (n : ℕ) (reset : Bool) (c : Counts) where
  pub counts_10 : n ≡ 10 → record { a = up true c.a; r = c.r; d = up true c.d; p = c.p; u = c.u; i = c.i; f = c.f } ≡ moved_counts n reset c
  unfolding moved_counts packet_counts
  counts_10 e = rw e refl

  pub counts_rejected : is_rejection n ≡ true → record { a = c.a; r = up true c.r; d = c.d; p = c.p; u = c.u; i = c.i; f = c.f } ≡ moved_counts n reset c
  unfolding moved_counts rejected_counts
  counts_rejected h = rw h refl

  -- below the answers that refuse a packet
  pub counts_own : n < 22 → (n ≢ 10) → (n ≢ 12) → accepted_only c ≡ moved_counts n reset c
  unfolding moved_counts packet_counts
  counts_own l t w =
      simp (below_not n l, ne_eqb n 12 w, ne_eqb n 10 t, ne_eqb n 30 (λ e. omega arith), ne_eqb n 33 (λ e. omega arith), ne_eqb n 31 (λ e. omega arith), ne_eqb n 32 (λ e. omega arith))

  pub counts_30 : n ≡ 30 → record { a = up true c.a; r = c.r; d = c.d; p = up true c.p; u = c.u; i = c.i; f = c.f } ≡ moved_counts n reset c
  unfolding moved_counts packet_counts
  counts_30 e = rw e refl

  -- 31 or 32
  pub counts_invalid : is_rejection n ≡ false → 30 < n → n < 33 → record { a = up true c.a; r = c.r; d = c.d; p = c.p; u = c.u; i = up true c.i; f = c.f } ≡ moved_counts n reset c
  unfolding moved_counts packet_counts
  counts_invalid j l h =
      let either : invalid_answer n ≡ true = go (n == 31) refl in
      simp (either, j, ne_eqb n 12 (λ e. omega arith), ne_eqb n 10 (λ e. omega arith), ne_eqb n 30 (λ e. omega arith), ne_eqb n 33 (λ e. omega arith))
    where
      go : (b : Bool) → (n == 31) ≡ b → invalid_answer n ≡ true
      go true e = rw e refl
      go false e = rw (e, eq-eqb n 32 (let k = eqb-false n 31 e in omega arith)) refl

  pub counts_33 : n ≡ 33 → record { a = up true c.a; r = c.r; d = c.d; p = c.p; u = up true c.u; i = c.i; f = c.f } ≡ moved_counts n reset c
  unfolding moved_counts packet_counts
  counts_33 e = rw e refl

  pub counts_high : is_rejection n ≡ false → 33 < n → accepted_only c ≡ moved_counts n reset c
  unfolding moved_counts packet_counts
  counts_high j l =
      simp (j, ne_eqb n 12 (λ e. omega arith), ne_eqb n 10 (λ e. omega arith), ne_eqb n 30 (λ e. omega arith), ne_eqb n 33 (λ e. omega arith), ne_eqb n 31 (λ e. omega arith), ne_eqb n 32 (λ e. omega arith))

  pub counts_12 : n ≡ 12 → reset ≡ false → accepted_only c ≡ moved_counts n reset c
  unfolding moved_counts packet_counts
  counts_12 e r = rw (e, r) refl

  pub counts_reset : n ≡ 12 → reset ≡ true → no_counts ≡ moved_counts n reset c
  unfolding moved_counts packet_counts
  counts_reset e r = rw (e, r) refl

-- ---- a fault

module _ (n : ℕ) (c : Counts) where
  pub faults_10 : n ≡ 10 → record { a = c.a; r = c.r; d = up true c.d; p = c.p; u = c.u; i = c.i; f = up true c.f } ≡ fault_counts n c
  unfolding fault_counts
  faults_10 e = rw e refl

  pub faults_other : (n ≢ 10) → record { a = c.a; r = c.r; d = c.d; p = c.p; u = c.u; i = c.i; f = up true c.f } ≡ fault_counts n c
  unfolding fault_counts
  faults_other h = simp (ne_eqb n 10 h)
