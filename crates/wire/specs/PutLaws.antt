-- Laws of what is put into a buffer: a whole copy, the length, one put behind another, and a copy in blocks.
use Rattle.std.specs.Prelude.{◌≡◌, refl, List, [], ◌∷◌, ◌++◌, ℕ, zero, suc, ◌+◌, ◌-◌, ◌≤◌, length, get_or, take, drop}
use Rattle.std.proofs.Common.{sym, ap, ◌∙◌, append_assoc, add-suc, length-append, length-drop, drop-cons, take_at, drop-drop, length-take-le, take-take, take-add, arith}
use Rattle.std.proofs.Math.Seq.{paste, paste-zero, take-length, drop-append-add, length_paste_head, take-append-add}
use Rattle.std.proofs.lemmas.List.Edits.{length-paste}
use Rattle.std.proofs.lemmas.List.{take-append-le}
use Rattle.wire.specs.Put.{put_at, over}

-- the whole of s is what a copy of `length s` bytes of it puts there
pub put_whole : (out : List ℕ) (place : ℕ) (s : List ℕ) → paste out place s (length s) ≡ put_at out place s
put_whole out place s = ap (λ (r : List ℕ). take place out ++ r ++ drop (place + length s) out) (take-length s)

-- the buffer is as long as before
pub put_length : (out : List ℕ) (place : ℕ) (s : List ℕ) → place + length s ≤ length out → length (put_at out place s) ≡ length out
put_length out place s h = rw (← put_whole out place s) (length-paste out place s (length s) h (omega arith))

-- bytes at place 0 are bytes from the start
pub put_first : (out head : List ℕ) → put_at out 0 head ≡ over head out
put_first out head = let e : 0 + length head ≡ length head = omega arith in ap (λ (k : ℕ). head ++ drop k out) e

-- bytes put right behind those from the start are the two together from the start
pub put_behind : (out head rest : List ℕ) (n : ℕ) → length head ≡ n → put_at (over head out) n rest ≡ over (head ++ rest) out
put_behind out head rest n e =
    let behind = drop (length head) out in
    let a : take n (head ++ behind) ≡ head = take_at head behind n e in
    let b : drop (n + length rest) (head ++ behind) ≡ drop (length (head ++ rest)) out =
    ap (λ (k : ℕ). drop (k + length rest) (head ++ behind)) (sym e)
    ∙ drop-append-add head behind (length rest)
    ∙ drop-drop (length rest) (length head) out
    ∙ ap (λ (k : ℕ). drop k out) (sym (length-append head rest)) in
    rw (a, b)

-- the bytes of s from j to m, put where they belong over a copy of its first i: where they reach back to those, it is a
-- copy of the first m
pub put_on :
    (out : List ℕ) (place : ℕ) (s : List ℕ) (i j n m : ℕ) (now then : List ℕ)
    → now ≡ paste out place s i → then ≡ put_at now (place + j) (take n (drop j s))
    → j ≤ i → i ≤ m → m ≡ j + n → m ≤ length s → place + length s ≤ length out → then ≡ paste out place s m
put_on out place s i j n m now then p q a b e c d =
    let head = take place out ++ take i s in
    let behind = drop (place + i) out in
    let h : length head ≡ place + i = length_paste_head out place s i (omega arith) (omega arith) in
    let k : length (take n (drop j s)) ≡ n = length-take-le n (drop j s) (simp length-drop (omega arith)) in
    let f : place ≡ length (take place out) = sym (length-take-le place out (omega arith)) in
    let g : place + j + length (take n (drop j s)) ≡ length head + (m - i) = omega arith in
    let l : place + i + (m - i) ≡ place + m = omega arith in
    let before : take (place + j) (head ++ behind) ≡ take place out ++ take j s =
    take-append-le (place + j) head behind (omega arith)
    ∙ ap (λ (x : ℕ). take (x + j) head) f
    ∙ take-append-add (take place out) (take i s) j
    ∙ ap (λ (r : List ℕ). take place out ++ r) (take-take j i s a) in
    let after : drop (place + j + length (take n (drop j s))) (head ++ behind) ≡ drop (place + m) out =
    ap (λ (x : ℕ). drop x (head ++ behind)) g
    ∙ drop-append-add head behind (m - i)
    ∙ drop-drop (m - i) (place + i) out
    ∙ ap (λ (x : ℕ). drop x out) l in
    rw (q, p, before, after, append_assoc (take place out) (take j s) (take n (drop j s)), ← take-add j n s, e)

-- the last n of s over a copy of its first i: where they reach back to those, it is a copy of the whole
pub put_last :
    (out : List ℕ) (place : ℕ) (s : List ℕ) (i n : ℕ) (now then : List ℕ)
    → now ≡ paste out place s i → then ≡ put_at now (place + (length s - n)) (take n (drop (length s - n) s))
    → length s ≤ i + n → i ≤ length s → n ≤ length s → place + length s ≤ length out → then ≡ put_at out place s
put_last out place s i n now then p q a b c d =
    put_on out place s i (length s - n) n (length s) now then p q (omega arith) b (omega arith) (omega arith) d ∙ put_whole out place s

-- the first n of s and the last n over them: where they reach each other, it is a copy of the whole
pub put_both :
    (out : List ℕ) (place : ℕ) (s : List ℕ) (n : ℕ) (now then : List ℕ)
    → now ≡ put_at out (place + 0) (take n (drop 0 s)) → then ≡ put_at now (place + (length s - n)) (take n (drop (length s - n) s))
    → length s ≤ n + n → n ≤ length s → place + length s ≤ length out → then ≡ put_at out place s
put_both out place s n now then p q a b d =
    let first = put_on out place s 0 0 n n out now (paste-zero out place s) p (omega arith) (omega arith) (omega arith) b d in
    put_last out place s n n now then first q a b b d

-- the n bytes of s from i on and the m behind them, each put where they belong: they are put together
pub put_next :
    (out : List ℕ) (place : ℕ) (s : List ℕ) (i n m : ℕ) (now then : List ℕ)
    → now ≡ put_at out (place + i) (take n (drop i s)) → then ≡ put_at now (place + (i + n)) (take m (drop (i + n) s))
    → i + n + m ≤ length s → place + length s ≤ length out → then ≡ put_at out (place + i) (take (n + m) (drop i s))
put_next out place s i n m now then p q a d =
    let rest = drop i s in
    let h : length rest ≡ length s - i = length-drop i s in
    let part : (k : ℕ) → k ≤ n + m → put_at out (place + i) (take k rest) ≡ paste out (place + i) rest k =
    λ k f. ap (λ (x : ℕ). take (place + i) out ++ take k rest ++ drop (place + i + x) out) (length-take-le k rest (omega arith)) in
    let e : place + i + n ≡ place + (i + n) = omega arith in
    put_on out (place + i) rest n n m (n + m) now then (p ∙ part n (omega arith)) (rw (e, drop-drop n i s) q) (omega arith) (omega arith) (omega arith) (omega arith) (omega arith)
    ∙ sym (part (n + m) (omega arith))

-- four such, of n bytes each
pub put_four :
    (out : List ℕ) (place : ℕ) (s : List ℕ) (i n : ℕ) (one two three four : List ℕ)
    → one ≡ put_at out (place + i) (take n (drop i s)) → two ≡ put_at one (place + (i + n)) (take n (drop (i + n) s))
    → three ≡ put_at two (place + (i + (n + n))) (take n (drop (i + (n + n)) s))
    → four ≡ put_at three (place + (i + (n + n + n))) (take n (drop (i + (n + n + n)) s))
    → i + (n + n + n + n) ≤ length s → place + length s ≤ length out → four ≡ put_at out (place + i) (take (n + n + n + n) (drop i s))
put_four out place s i n one two three four p q r t a d =
    let both = put_next out place s i n n one two p q (omega arith) d in
    put_next out place s i (n + n + n) n three four (put_next out place s i (n + n) n two three both r (omega arith) d) t (omega arith) d

-- the n bytes of s from i + k on, one by one
abbrev pub each : List ℕ → ℕ → ℕ → ℕ → List ℕ
each s i zero k = []
each s i (suc n) k = get_or s (i + k) 0 ∷ each s i n (suc k)

-- are that part of s
pub each_part : (s : List ℕ) (i n k : ℕ) → i + k + n ≤ length s → take n (drop (i + k) s) ≡ each s i n k
each_part s i zero k h = refl
each_part s i (suc n) k h = rw (drop-cons s (i + k) 0 (omega arith)) (ap (λ (r : List ℕ). get_or s (i + k) 0 ∷ r) (rw (← add-suc i k) (each_part s i n (suc k) (omega arith))))
