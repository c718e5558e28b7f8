-- The constant table of the code follows its rule, by one computed test of all twelve entries; and a walk that clears each
-- state.
use Rattle.std.specs.Prelude.{◌≡◌, ℕ, zero, suc, ◌+◌, ◌<◌, ◌≤◌, Bool, true, false, ◌&&◌, T, List, [], length, get_or, drop, ◌==◌, slice_index, slice_index_or, slice_set, refl}
use Rattle.std.proofs.Common.{sym, ap, subst, ◌∙◌, append-nil, zero-add, add-zero, add-one, arith, eqb→eq, length-set, drop_of_length-le, get_or-drop}
use Rattle.std.proofs.Math.Decide.{ℕ_discrete}
use Rattle.std.proofs.lemmas.List.{length-map}
use Rattle.std.proofs.Math.ListN.{get_or-map}
use Rattle.std.proofs.Math.Seq.{paste-zero, paste-suc, take-length}
use Rattle.std.proofs.lemmas.List.Edits.{drop-paste}
use Rattle.step_effects.specs.FaultStates.{clear, next_state, clear_all}
use Rattle.step_effects.specs.FaultLaws.{table, Cleared}

-- a test at every number below a bound, and what it says of each
abbrev all : (ℕ → Bool) → ℕ → Bool
all f zero = true
all f (suc n) = f n && all f n

both : (a b : Bool) → T (a && b) → T a × T b
both true b t = (tt, t)
both false b t = absurd t

each_below : (f : ℕ → Bool) (n k : ℕ) → T (all f n) → k < n → T (f k)
each_below f zero k t h = absurd (omega arith)
each_below f (suc n) k t h = go (each_below f n k (both (f n) (all f n) t).1) (ℕ_discrete k n)
  where
    go : (k < n → T (f k)) → Dec (k ≡ n) → T (f k)
    go ih (yes e) = subst (λ (m : ℕ). T (f m)) (sym e) (both (f n) (all f n) t).0
    go ih (no e) = ih (omega arith)

abbrev right : ℕ → ℕ → Bool
right s e = slice_index (slice_index_or table s []) e == next_state s e

pub table_right : (s e : ℕ) → s < 3 → e < 4 → slice_index (slice_index_or table s []) e ≡ next_state s e
table_right s e hs he = eqb→eq _ _ (each_below (right s) 4 e (each_below (λ s. all (right s) 4) 3 s tt hs) he)

clear_long : (ss : List ℕ) → length (clear_all ss) ≡ length ss
clear_long ss = length-map ss (λ (s : ℕ). next_state s clear)

pub clear_start : (ss : List ℕ) → Cleared ss ss 0
clear_start ss = record { upto = omega arith; is = paste-zero ss 0 (clear_all ss); long = refl }

-- the place that is next is as it was
pub clear_kept : {ss out : List ℕ} {k : ℕ} → Cleared ss out k → slice_index out k ≡ slice_index ss k
clear_kept {ss} {out} {k} h =
    let d : drop (0 + k) out ≡ drop (0 + k) ss = rw h.is (drop-paste ss 0 (clear_all ss) k (omega arith) (omega (arith, h.upto, clear_long ss))) in
    simp (zero-add, add-zero) at (sym (get_or-drop (0 + k) out 0 0) ∙ ap (λ (l : List ℕ). slice_index l 0) d ∙ get_or-drop (0 + k) ss 0 0)

pub clear_next : {ss out : List ℕ} {k : ℕ} → Cleared ss out k → (v : ℕ) → k < length ss → v ≡ next_state (slice_index ss k) clear → Cleared ss (slice_set out k v) (k + 1)
clear_next {ss} {out} {k} h v l e =
    let z : 0 + k ≡ k = zero-add k in
    let g : v ≡ get_or (clear_all ss) k 0 = e ∙ sym (get_or-map (λ (s : ℕ). next_state s clear) ss k 0) in
    record {
      upto = omega arith;
      is = rw (h.is, g, add-one, ← paste-suc ss 0 (clear_all ss) k 0 (omega arith) (omega (arith, clear_long ss)), z);
      long = simp length-set h.long;
    }

pub clear_done : {ss out : List ℕ} {k : ℕ} → Cleared ss out k → length ss ≤ k → out ≡ clear_all ss
clear_done {ss} {out} {k} h l =
    let e : k ≡ length (clear_all ss) = omega (arith, h.upto, clear_long ss) in
    h.is ∙ rw (e, take-length (clear_all ss), drop_of_length-le ss {i = 0 + length (clear_all ss)} (omega (arith, clear_long ss)), append-nil (clear_all ss))
