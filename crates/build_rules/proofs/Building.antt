-- What `build` answers and leaves in a lent buffer, read back: the first bytes are a packet that the judge accepts with the same
-- id and arguments; a packet in form comes out byte for byte; later bytes stay; and when there is too little room.
use Rattle.std.specs.Prelude.{◌≡◌, refl, Bool, true, false, cond, List, ℕ, ◌+◌, ◌≤◌, ◌<◌, eqb, length, take, drop}
use Rattle.std.proofs.Common.{sym, ap, ◌∙◌, arith, take_at, drop_at}
use borrow.Author.Tests.{eqb-true, eqb-false, ne_eqb}
use Rattle.wire.specs.Bytes.{Bytes}
use Rattle.wire.specs.Put.{over}
use Rattle.build_rules.specs.declared.types.Built.{Built}
use Rattle.build_rules.specs.Build.{Fields, size_of, packet_of, build_refusal, built_of, built_output}
use Rattle.build_rules.specs.BuildOutcome.{Fits, Ready, BuildOutcome, high_apid, high_count, many_args, many_pads, small_output, built}
use Rattle.build_rules.proofs.BuildLaws.{build_outcome, build_only, build_written, packet_size}
use Rattle.build_rules.specs.Form.{InForm, fields_of}
use Rattle.build_rules.proofs.Inverse.{built_judged, built_arguments, built_header, built_reads, read_builds}
use Rattle.build_rules.specs.Building.{ReadsAs}

-- ---- the answers

-- what is told is the refusal, or 0
pub answer_is : (f : Fields) (room : ℕ) → (built_of f room).answer ≡ build_refusal f room
unfolding built_of
answer_is f room = by_answer (eqb (build_refusal f room) 0) refl
  where
    by_answer : (b : Bool) → eqb (build_refusal f room) 0 ≡ b
        → (cond {A = Built} b (record { answer = 0; written = size_of f }) (record { answer = build_refusal f room; written = 0 })).answer ≡ build_refusal f room
    by_answer true e = sym (eqb-true (build_refusal f room) 0 e)
    by_answer false e = refl

-- 0 comes where the fields fit and their packet too, and only there
pub zero_where : (f : Fields) (out : List ℕ) → Ready f out → build_refusal f (length out) ≡ 0
zero_where f out r = sym (build_only (built r.fits r.room))

pub zero_only : (f : Fields) (out : List ℕ) → build_refusal f (length out) ≡ 0 → Ready f out
zero_only f out e = go (build_outcome f (length out)) e
  where
    go : {n : ℕ} → BuildOutcome f (length out) n → n ≡ 0 → Ready f out
    go (high_apid h) e = absurd (omega arith)
    go (high_count a h) e = absurd (omega arith)
    go (many_args a c h) e = absurd (omega arith)
    go (many_pads a c n h) e = absurd (omega arith)
    go (small_output f h) e = absurd (omega arith)
    go (built fits room) e = record { fits = fits; room = room }

-- 44 comes where nothing else is refused and the output is shorter than 10 bytes, the arguments and the pads, and only there
pub too_small : (f : Fields) (room : ℕ) → Fits f → room < 10 + length f.args + f.pads → build_refusal f room ≡ 44
too_small f room fits h = sym (build_only (small_output fits h))

pub small_only : (f : Fields) (room : ℕ) → build_refusal f room ≡ 44 → Fits f × (room < 10 + length f.args + f.pads)
small_only f room e = go (build_outcome f room) e
  where
    go : {n : ℕ} → BuildOutcome f room n → n ≡ 44 → Fits f × (room < 10 + length f.args + f.pads)
    go (high_apid h) e = absurd (omega arith)
    go (high_count a h) e = absurd (omega arith)
    go (many_args a c h) e = absurd (omega arith)
    go (many_pads a c n h) e = absurd (omega arith)
    go (small_output fits h) e = (fits, h)
    go (built fits room) e = absurd (omega arith)

-- 392 bytes are room enough for every packet
pub longest : (f : Fields) → Fits f → size_of f ≤ 392
longest f fits = omega arith

module _ (f : Fields) (out : List ℕ) where
  -- what was built stands at the output's start, as many bytes as are told
  pub output_starts : build_refusal f (length out) ≡ 0 → take (built_of f (length out)).written (built_output f out) ≡ packet_of f
  output_starts e =
      let done = build_written f out _ refl (zero_only f out e) in
      rw (← done.0, ← done.1) (take_at (packet_of f) (drop (length (packet_of f)) out) (size_of f) (packet_size f))

  -- those bytes are accepted with the same id and the same arguments, and in form
  pub output_read : build_refusal f (length out) ≡ 0
      → ReadsAs f (take (built_of f (length out)).written (built_output f out)) × InForm (take (built_of f (length out)).written (built_output f out))
  output_read e =
      let fits = (zero_only f out e).fits in
      rw (output_starts e)
      (record { judged = built_judged f fits; arguments = built_arguments f fits; header = built_header f fits }, (built_reads f fits).0)

  -- a refusal writes nothing, and says so
  pub refused_nothing : (build_refusal f (length out) ≡ 0 → ⊥) → ((built_of f (length out)).written ≡ 0) × (built_output f out ≡ out)
  unfolding built_of built_output
  refused_nothing h = let other = ne_eqb (build_refusal f (length out)) 0 h in (simp other, simp other)

  -- in every case the bytes behind those written stay
  pub later_stay : drop (built_of f (length out)).written (built_output f out) ≡ drop (built_of f (length out)).written out
  later_stay = by_answer (eqb (build_refusal f (length out)) 0) refl
    where
      by_answer : (b : Bool) → eqb (build_refusal f (length out)) 0 ≡ b
          → drop (built_of f (length out)).written (built_output f out) ≡ drop (built_of f (length out)).written out
      by_answer true e =
          let done = build_written f out _ refl (zero_only f out (eqb-true _ _ e)) in
          let behind = drop_at (packet_of f) (drop (length (packet_of f)) out) (size_of f) (packet_size f) in
          rw (← done.0, ← done.1) (behind ∙ ap (λ (n : ℕ). drop n out) (packet_size f))
      by_answer false e = let n = refused_nothing (eqb-false _ _ e) in rw (n.0, n.1)

-- a packet in form, built from its own fields into any output that has the room: all of it, and no other byte moves
pub given_back : (s : List ℕ) → Bytes s → InForm s → (out : List ℕ) → length s ≤ length out
    → (built_of (fields_of s) (length out) ≡ record { answer = 0; written = length s }) × (built_output (fields_of s) out ≡ over s out)
given_back s b form out room =
    let back = read_builds s b form in
    let size : size_of (fields_of s) ≡ length s = sym (packet_size (fields_of s)) ∙ ap length back.1 in
    let done = build_written (fields_of s) out _ refl (record { fits = back.0; room = rw size room }) in
    (sym done.0 ∙ rw size, sym done.1 ∙ ap (λ (r : List ℕ). over r out) back.1)
