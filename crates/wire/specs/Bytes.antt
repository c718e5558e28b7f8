-- Lists of bytes, as every packet and every buffer of the code is.
use Rattle.std.specs.Prelude.{◌≡◌, refl, Bool, true, false, List, [], ◌∷◌, ◌++◌, ℕ, zero, suc, ◌+◌, ◌<◌, ltb, get_or, take, drop}
use Rattle.std.proofs.Common.{arith, lit<, lit≤, length-take, get_or-take, get_or-drop, ltb-true, ltb-false}
use Rattle.std.proofs.lemmas.Nat.{xor_lt}
use Rattle.std.proofs.Math.ListN.{get_or-eq_default}
use Rattle.wire.specs.Xor.{xor_all}
use Rattle.wire.specs.Put.{zero_bytes}

abbrev pub Bytes : List ℕ → Type 0
Bytes p = (k : ℕ) → get_or p k 0 < 256

-- one byte more at the start, two lists one behind the other, zeros
pub bytes_cons : (x : ℕ) (s : List ℕ) → x < 256 → Bytes s → Bytes (x ∷ s)
bytes_cons x s h b zero = h
bytes_cons x s h b (suc k) = b k

pub bytes_append : (s t : List ℕ) → Bytes s → Bytes t → Bytes (s ++ t)
bytes_append [] t a b = b
bytes_append (x ∷ s) t a b = bytes_cons x (s ++ t) (a zero) (bytes_append s t (λ k. a (suc k)) b)

pub bytes_none : Bytes []
bytes_none k = lit< tt

pub bytes_zeros : (n : ℕ) → Bytes (zero_bytes n)
bytes_zeros zero = bytes_none
bytes_zeros (suc n) = bytes_cons 0 (zero_bytes n) (lit< tt) (bytes_zeros n)

pub zero_at : (n k : ℕ) → get_or (zero_bytes n) k 0 ≡ 0
zero_at zero k = refl
zero_at (suc n) zero = refl
zero_at (suc n) (suc k) = zero_at n k

-- a part of bytes is bytes
pub part_bytes : (bs : List ℕ) → Bytes bs → (from n : ℕ) → Bytes (take n (drop from bs))
part_bytes bs h from n k = go (ltb k n) refl
  where
    go : (b : Bool) → ltb k n ≡ b → get_or (take n (drop from bs)) k 0 < 256
    go true e = rw (get_or-take n (drop from bs) k 0 (ltb-true k n e), get_or-drop from bs k 0) (h (from + k))
    go false e = rw (get_or-eq_default (take n (drop from bs)) 0 {n = k} (omega (arith, length-take n (drop from bs), ltb-false k n e))) (lit≤ tt)

-- the XOR of bytes is a byte
pub xor_byte : (s : List ℕ) → Bytes s → xor_all s < 256
unfolding xor_all
xor_byte [] b = lit< tt
xor_byte (x ∷ s) b = xor_lt 8 x (xor_all s) (b zero) (xor_byte s (λ k. b (suc k)))
