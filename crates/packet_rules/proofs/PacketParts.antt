-- What acceptance means for the bytes of a packet: which of them are arguments, which are pads, and that the XOR has the
-- pads in it; and that the high bit of the function code changes nothing.
use Rattle.std.specs.Prelude.{◌≡◌, refl, Bool, true, false, List, ◌++◌, ℕ, ◌+◌, ◌-◌, ◌≤◌, ◌<◌, eqb, length, get_or, take, drop}
use Rattle.std.proofs.Common.{sym, ◌∙◌, arith, lit<, lit≤, eqb-true, length-take, length-drop, take-append-drop, ext_get_or, get_or-drop, get_or-take}
use Rattle.std.specs.Int.Bits.{bit_xor}
use Rattle.std.proofs.lemmas.Bool.{eqb-false}
use Rattle.wire.specs.Xor.{xor_all}
use Rattle.wire.specs.XorLaws.{xor_append}
use Rattle.packet_rules.specs.Layout.{byte, data_length, pads, arg_count, pad_part}
use Rattle.packet_rules.specs.Judge.{refusal_of, judge_of, arguments_of}
use Rattle.packet_rules.specs.JudgeOutcome.{Accepts}
use Rattle.packet_rules.proofs.JudgeLaws.{accepts, arguments_accepted, arguments_refused}
use Rattle.packet_rules.specs.PacketParts.{SameButHighBit}

module _ {s : List ℕ} (a : Accepts s) where
  -- the argument count is data length - pads - 4, and that is how long the argument part is
  pub argument_count : length (arguments_of s) ≡ data_length s - pads s - 4
  argument_count = rw (arguments_accepted s a) (simp (length-take, length-drop) (omega arith))

  -- the arguments are the bytes from 10 on: each stands in the packet at its place
  pub argument_at : (k : ℕ) → k < arg_count s → get_or (arguments_of s) k 0 ≡ byte (10 + k) s
  argument_at k h = rw (arguments_accepted s a, get_or-take (arg_count s) (drop 10 s) k 0 h) (get_or-drop 10 s k 0)

  -- the pads are the rest, as many as the function code says
  pub pad_count : length (pad_part s) ≡ pads s
  pad_count = simp (length-drop) (omega arith)

  -- ten bytes, the arguments, the pads: nothing else, and no byte in two of them
  pub whole_packet : s ≡ take 10 s ++ (arguments_of s ++ pad_part s)
  whole_packet = rw (arguments_accepted s a, take-append-drop (arg_count s) (drop 10 s), take-append-drop 10 s)

  -- the pads are inside the XOR
  pub xor_with_pads : bit_xor (xor_all (take 10 s)) (bit_xor (xor_all (arguments_of s)) (xor_all (pad_part s))) ≡ 0
  xor_with_pads = rw (← xor_append (arguments_of s), ← xor_append (take 10 s), ← whole_packet) a.formed.xor_0

-- there are never more than 255 arguments, and none where the packet is refused
pub arguments_few : (s : List ℕ) → length (arguments_of s) ≤ 255
arguments_few s = split (eqb (refusal_of s) 0) refl
  where
    split : (b : Bool) → eqb (refusal_of s) 0 ≡ b → length (arguments_of s) ≤ 255
    split true e = let a = accepts s (eqb-true _ _ e) in omega (arith, argument_count a)
    split false e = rw (arguments_refused s (eqb-false _ _ e)) (lit≤ tt)

module _ {s t : List ℕ} (e : SameButHighBit s t) where
  header_byte : (k : ℕ) → k < 6 → byte k s ≡ byte k t
  header_byte k h = e.elsewhere k (λ p. omega arith) (λ p. omega arith)

  later_byte : (k : ℕ) → 8 ≤ k → byte k s ≡ byte k t
  later_byte k h = e.elsewhere k (λ p. omega arith) (λ p. omega arith)

  same_refusal : refusal_of s ≡ refusal_of t
  unfolding refusal_of
  same_refusal =
      simp (e.same_size, header_byte 0 (lit< tt), header_byte 4 (lit< tt), header_byte 5 (lit< tt), e.low_seven, e.same_xor)

  pub same_judgement : judge_of s ≡ judge_of t
  unfolding judge_of
  same_judgement =
      simp (same_refusal, header_byte 4 (lit< tt), header_byte 5 (lit< tt), e.low_seven, later_byte 8 (lit≤ tt), later_byte 9 (lit≤ tt))

  same_from_10 : drop 10 s ≡ drop 10 t
  same_from_10 =
      ext_get_or 0 (drop 10 s) (drop 10 t) (simp (length-drop, e.same_size))
      (λ k h. get_or-drop 10 s k 0 ∙ later_byte (10 + k) (omega arith) ∙ sym (get_or-drop 10 t k 0))

  pub same_arguments : arguments_of s ≡ arguments_of t
  unfolding arguments_of
  same_arguments = simp (same_refusal, header_byte 4 (lit< tt), header_byte 5 (lit< tt), e.low_seven, same_from_10)
