-- What callers use of the builder's definitions: the statements of `BuildOutcome` fit the computed refusal, both ways; and what is
-- handed back and left in the output in each case.
use Rattle.std.specs.Prelude.{◌≡◌, refl, List, [], ◌∷◌, ◌++◌, ℕ, ◌+◌, ◌/◌, ◌%◌, length, take, drop, set, leb, Err}
use Rattle.std.proofs.Common.{sym, ap, ◌∙◌, arith, length-append, take_at, zero, suc}
use Rattle.std.proofs.lemmas.List.{length-replicate}
use Rattle.std.specs.Int.Bits.{xor_zero_l, xor_zero_r}
use borrow.Author.Tests.{leb-true, leb-false, le-leb, lt-leb, eq-eqb, ne_eqb}
use Rattle.wire.specs.Check.{by}
use Rattle.wire.specs.Put.{put_at, zero_bytes, over}
use Rattle.wire.specs.PutLaws.{put_first, put_behind}
use Rattle.wire.specs.Xor.{xor_all}
use Rattle.wire.specs.XorLaws.{xor_among, xor_append}
use Rattle.packet_rules.specs.HeaderBytes.{header_bytes}
use Rattle.build_rules.specs.declared.types.Built.{Built}
use Rattle.build_rules.specs.declared.types.Unbuildable.{Unbuildable}
use Rattle.build_rules.specs.declared.types.Unbuildable.TheVariants.{ApidTooHigh, CountTooHigh, TooManyArguments, TooManyPads, OutputTooSmall}
use Rattle.build_rules.specs.Build.{Fields, length_field_for, size_of, front, back, packet_of, build_refusal, number_of, handed_back, built_of, built_output}
use Rattle.build_rules.specs.BuildOutcome.{Fits, Ready, BuildOutcome, high_apid, high_count, many_args, many_pads, small_output, built}
use Rattle.build_rules.specs.BuildLaws.{unsummed, unpadded}

-- every answer says what the table has of it
pub build_outcome : (f : Fields) (room : ℕ) → BuildOutcome f room (build_refusal f room)
unfolding build_refusal
build_outcome f room =
    by (BuildOutcome f room) (leb f.apid 2047) 40 _ (λ e. high_apid (leb-false _ _ e))
    (λ a. by (BuildOutcome f room) (leb f.count 16383) 41 _ (λ e. high_count (leb-true _ _ a) (leb-false _ _ e))
    (λ c. by (BuildOutcome f room) (leb (length f.args) 255) 42 _ (λ e. many_args (leb-true _ _ a) (leb-true _ _ c) (leb-false _ _ e))
    (λ n. by (BuildOutcome f room) (leb f.pads 127) 43 _ (λ e. many_pads (leb-true _ _ a) (leb-true _ _ c) (leb-true _ _ n) (leb-false _ _ e))
    (λ p. let fits : Fits f = record { apid_fits = leb-true _ _ a; count_fits = leb-true _ _ c; few_args = leb-true _ _ n; few_pads = leb-true _ _ p } in
    by (BuildOutcome f room) (leb (size_of f) room) 44 0 (λ e. small_output fits (leb-false _ _ e)) (λ e. built fits (leb-true _ _ e))))))

-- and no other answer fits
pub build_only : {f : Fields} {room n : ℕ} → BuildOutcome f room n → n ≡ build_refusal f room
unfolding build_refusal
build_only (high_apid h) = simp (lt-leb _ _ h)
build_only (high_count a h) = simp (le-leb _ _ a, lt-leb _ _ h)
build_only (many_args a c h) = simp (le-leb _ _ a, le-leb _ _ c, lt-leb _ _ h)
build_only (many_pads a c n h) = simp (le-leb _ _ a, le-leb _ _ c, le-leb _ _ n, lt-leb _ _ h)
build_only (small_output f h) = simp (le-leb _ _ f.apid_fits, le-leb _ _ f.count_fits, le-leb _ _ f.few_args, le-leb _ _ f.few_pads, lt-leb _ _ h)
build_only (built f h) = simp (le-leb _ _ f.apid_fits, le-leb _ _ f.count_fits, le-leb _ _ f.few_args, le-leb _ _ f.few_pads, le-leb _ _ h)

-- none of the refusals has the number 0, which tells that nothing is refused
number_not_0 : (r : Unbuildable) → number_of r ≡ 0 → ⊥
number_not_0 ApidTooHigh e = absurd (omega arith)
number_not_0 CountTooHigh e = absurd (omega arith)
number_not_0 TooManyArguments e = absurd (omega arith)
number_not_0 TooManyPads e = absurd (omega arith)
number_not_0 OutputTooSmall e = absurd (omega arith)

-- what is handed back and left in the output: of a refusal, and of a packet that was written
module _ (f : Fields) (out : List ℕ) where
  pub build_refused : (n : ℕ) (r : Built) → r ≡ record { answer = n; written = 0 } → BuildOutcome f (length out) n → (n ≡ 0 → ⊥)
      → (r ≡ built_of f (length out)) × (out ≡ built_output f out)
  unfolding built_of built_output
  build_refused n r e o h =
      let other = ne_eqb (build_refusal f (length out)) 0 (λ z. h (build_only o ∙ z)) in
      (e ∙ rw (build_only o) (simp other), simp other)

  pub build_written : (o : List ℕ) → o ≡ over (packet_of f) out → Ready f out
      → (record { answer = 0; written = size_of f } ≡ built_of f (length out)) × (o ≡ built_output f out)
  unfolding built_of built_output
  build_written o e ready =
      let zero_is = eq-eqb (build_refusal f (length out)) 0 (sym (build_only (built ready.fits ready.room))) in
      (simp zero_is, e ∙ simp zero_is)

  -- so of a refusal by its name
  pub build_told : (r : Unbuildable) → BuildOutcome f (length out) (number_of r)
      → (handed_back (Err r) ≡ built_of f (length out)) × (out ≡ built_output f out)
  build_told r o = build_refused (number_of r) _ refl o (number_not_0 r)

-- the packet is as long as its parts
pub packet_size : (f : Fields) → length (packet_of f) ≡ size_of f
unfolding packet_of
packet_size f = simp (length-append, length-replicate) (omega arith)

unsummed_size : (f : Fields) → length (unsummed f) ≡ size_of f
unsummed_size f = simp (length-append, length-replicate) (omega arith)

-- the XOR of bytes with a zero for the checksum among them is that of the others
gathered : (f : Fields) (rest out o : List ℕ) (n x : ℕ) → o ≡ over (front f ++ 0 ∷ rest) out → length (front f ++ 0 ∷ rest) ≡ n → x ≡ xor_all (take n o)
    → x ≡ xor_all (front f ++ rest)
gathered f rest out o n x eo en ex =
    ex
    ∙ ap (λ (r : List ℕ). xor_all (take n r)) eo
    ∙ ap xor_all (take_at (front f ++ 0 ∷ rest) (drop (length (front f ++ 0 ∷ rest)) out) n en)
    ∙ xor_among (front f) 0 rest
    ∙ xor_zero_l (xor_all (front f ++ rest))

pub summed : (f : Fields) (out o : List ℕ) (n x : ℕ) → o ≡ over (unsummed f) out → n ≡ size_of f → x ≡ xor_all (take n o)
    → set o 7 x ≡ over (packet_of f) out
unfolding packet_of
summed f out o n x eo en ex = rw (eo, gathered f (back f) out o n x eo (unsummed_size f ∙ sym en) ex)

-- zeros leave the XOR as it is
xor_zeros : (n : ℕ) → xor_all (zero_bytes n) ≡ 0
unfolding xor_all
xor_zeros zero = refl
xor_zeros (suc n) = xor_zero_l (xor_all (zero_bytes n)) ∙ xor_zeros n

xor_padded : (s : List ℕ) (n : ℕ) → xor_all (s ++ zero_bytes n) ≡ xor_all s
xor_padded s n = xor_append s (zero_bytes n) ∙ rw (xor_zeros n) (xor_zero_r (xor_all s))

-- so the XOR of what stands before the pads goes into the place of its zero, and the pads come behind
pub padded : (f : Fields) (out o o₂ : List ℕ) (n x : ℕ) → o ≡ over (unpadded f) out → n ≡ 10 + length f.args → x ≡ xor_all (take n o)
    → o₂ ≡ put_at (set o 7 x) n (zero_bytes f.pads) → o₂ ≡ over (packet_of f) out
unfolding packet_of
padded f out o o₂ n x eo en ex ez =
    let two = f.id / 256 ∷ f.id % 256 ∷ f.args in
    let long : length (unpadded f) ≡ n = omega arith in
    let sum : x ≡ xor_all (front f ++ back f) = gathered f two out o n x eo long ex ∙ sym (xor_padded (front f ++ two) f.pads) in
    ez ∙ rw (eo, sum) (put_behind out (front f ++ xor_all (front f ++ back f) ∷ two) (zero_bytes f.pads) n long)

-- header, the four bytes behind it and the arguments put one behind the other: each premise is what a call leaves
pub filled_unpadded : (f : Fields) (out o₁ o₂ o₃ header : List ℕ) (hi lo : ℕ)
    → header ≡ header_bytes 1 1 f.apid f.count (length_field_for f) → hi ≡ f.id / 256 → lo ≡ f.id % 256
    → o₁ ≡ put_at out 0 header → o₂ ≡ put_at o₁ 6 (f.pads ∷ 0 ∷ hi ∷ lo ∷ []) → o₃ ≡ put_at o₂ 10 f.args
    → o₃ ≡ over (unpadded f) out
filled_unpadded f out o₁ o₂ o₃ header hi lo eh ei el e₁ e₂ e₃ =
    let six = header_bytes 1 1 f.apid f.count (length_field_for f) in
    let four = f.pads ∷ 0 ∷ f.id / 256 ∷ f.id % 256 ∷ [] in
    let a₁ : o₁ ≡ over six out = e₁ ∙ rw eh (put_first out six) in
    let a₂ : o₂ ≡ over (six ++ four) out = e₂ ∙ rw (a₁, ei, el) (put_behind out six four 6 refl) in
    e₃ ∙ rw a₂ (put_behind out (six ++ four) f.args 10 refl)

-- and the pads behind them
pub filled : (f : Fields) (out o₁ o₂ o₃ o₄ header : List ℕ) (hi lo : ℕ)
    → header ≡ header_bytes 1 1 f.apid f.count (length_field_for f) → hi ≡ f.id / 256 → lo ≡ f.id % 256
    → o₁ ≡ put_at out 0 header → o₂ ≡ put_at o₁ 6 (f.pads ∷ 0 ∷ hi ∷ lo ∷ []) → o₃ ≡ put_at o₂ 10 f.args
    → o₄ ≡ put_at o₃ (10 + length f.args) (zero_bytes f.pads)
    → o₄ ≡ over (unsummed f) out
filled f out o₁ o₂ o₃ o₄ header hi lo eh ei el e₁ e₂ e₃ e₄ =
    let long : length (unpadded f) ≡ 10 + length f.args = omega arith in
    e₄ ∙ rw (filled_unpadded f out o₁ o₂ o₃ header hi lo eh ei el e₁ e₂ e₃) (put_behind out (unpadded f) (zero_bytes f.pads) (10 + length f.args) long)
