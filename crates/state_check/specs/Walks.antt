-- Laws of walks over arrays: what stands at a place, and what a walk that has passed the places before it keeps true.
use Rattle.std.specs.Prelude.{◌≡◌, refl, Bool, true, false, not, ◌&&◌, ◌||◌, List, [], ◌∷◌, ℕ, zero, suc, ◌+◌, ◌-◌, ◌*◌, ◌<◌, ◌≤◌, leb, ltb, eqb, length, get_or, take, drop}
use Rattle.std.proofs.Common.{sym, ap, ◌∙◌, add-one, arith, length-take, drop_of_length-le, drop-cons, drop-drop, get_or-take, le-leb, lt-ltb, le-ltb, leb-true, leb-false}
use Rattle.std.proofs.Math.Bool.{and-false, and-true, and_assoc}
use Rattle.std.proofs.Math.Dec.{leb-zero}
use Rattle.std.proofs.lemmas.Bool.{lt-leb, not-true, not-false}
use Rattle.state.specs.Rules.{own}
use Rattle.state.specs.Test.{all_zero, args_zero}
use Rattle.state.proofs.KeepsLaws.{split}
use Rattle.state_check.specs.Each.{each, rises, foreign}

-- ---- the test `if !r` of a result r that is known

pub refuted : {r b : Bool} → r ≡ b → not r ≡ true → b ≡ false
refuted {r} e n = sym e ∙ not-true r n

pub held : {r b : Bool} → r ≡ b → not r ≡ false → b ≡ true
held {r} e n = sym e ∙ not-false r n

-- ---- what stands at k, and behind it

pub item_at : (xs : List ℕ) (k : ℕ) → k < length xs → drop k xs ≡ get_or xs k 0 ∷ drop (k + 1) xs
item_at xs k l = rw add-one (drop-cons xs k 0 l)

pub id_at : (xs : List ℕ) (n k : ℕ) → (k < n) × (n ≤ length xs) → drop k (take n xs) ≡ get_or xs k 0 ∷ drop (k + 1) (take n xs)
id_at xs n k (l, h) = item_at (take n xs) k (simp length-take (omega arith)) ∙ ap (λ (x : ℕ). x ∷ drop (k + 1) (take n xs)) (get_or-take n xs k 0 l)

pub past_ids : (xs : List ℕ) (n k : ℕ) → n ≤ k → drop k (take n xs) ≡ []
past_ids xs n k l = drop_of_length-le (take n xs) {i = k} (simp length-take (omega arith))

-- ---- a walk that gathers: w, the answer for all, is what it has gathered and what is left

pub record Gathered (w left ok : Bool) : Type 0 where
  pub rest : w ≡ (ok && left)

pub unwalked : {w : Bool} → Gathered w w true
unwalked = record { rest = refl }

turned : (a t r : Bool) → (a && (t && r)) ≡ ((t && a) && r)
turned true t r = ap (λ (b : Bool). b && r) (sym (and-true t))
turned false t r = ap (λ (b : Bool). b && r) (sym (and-false t))

module _ {w left a : Bool} (h : Gathered w left a) where
  pub on : {rest t s b : Bool} → Gathered left rest t → s ≡ t → b ≡ (s && a) → Gathered w rest b
  on {rest} {t} n e f = record { rest = h.rest ∙ rw (n.rest, f, e) (turned a t rest) }

  pub ends : left ≡ true → a ≡ w
  ends e = sym (h.rest ∙ rw e (and-true a))

  -- where a walk returns at the first that fails
  pub refuses : a ≡ false → false ≡ w
  refuses e = sym (h.rest ∙ rw e)

  pub passes : {rest t : Bool} → a ≡ true → Gathered left rest t → Gathered w rest t
  passes e n = record { rest = h.rest ∙ rw e n.rest }

-- two walks side by side
pub crossed : (a b c d : Bool) → ((a && b) && (c && d)) ≡ ((a && c) && (b && d))
crossed true b c d = turned b c d ∙ and_assoc c b d
crossed false b c d = refl

pub beside : {v w left rest a b : Bool} → Gathered v left a → Gathered w rest b → Gathered (v && w) (left && rest) (a && b)
beside {left} {rest} {a} {b} h k = record { rest = rw (h.rest, k.rest) (crossed a left b rest) }

-- ---- the walks

module _ (xs : List ℕ) (k : ℕ) where
  pub zero_at : k < length xs → Gathered (all_zero (drop k xs)) (all_zero (drop (k + 1) xs)) (eqb (get_or xs k 0) 0)
  zero_at l = record { rest = rw (item_at xs k l) }

  pub zero_past : length xs ≤ k → all_zero (drop k xs) ≡ true
  zero_past l = rw (drop_of_length-le xs {i = k} l)

module _ (p : ℕ → Bool) (xs : List ℕ) (k : ℕ) (l : k < length xs) where
  pub each_here : Gathered (each p (drop k xs)) (each p (drop (k + 1) xs)) (p (get_or xs k 0))
  each_here = record { rest = rw (item_at xs k l) }

  module _ {w : Bool} (h : Gathered w (each p (drop k xs)) true) where
    pub here_refuses : p (get_or xs k 0) ≡ false → false ≡ w
    here_refuses e = refuses (passes h refl each_here) e

    pub here_passes : p (get_or xs k 0) ≡ true → Gathered w (each p (drop (k + 1) xs)) true
    here_passes e = passes (passes h refl each_here) e unwalked

module _ (p : ℕ → Bool) (xs : List ℕ) (n k : ℕ) where
  pub each_at : (k < n) × (n ≤ length xs) → Gathered (each p (drop k (take n xs))) (each p (drop (k + 1) (take n xs))) (p (get_or xs k 0))
  each_at l = record { rest = rw (id_at xs n k l) }

  pub each_past : n ≤ k → each p (drop k (take n xs)) ≡ true
  each_past l = rw (past_ids xs n k l)

  module _ {w : Bool} (h : Gathered w (each p (drop k (take n xs))) true) (l : (k < n) × (n ≤ length xs)) where
    pub each_refuses : p (get_or xs k 0) ≡ false → false ≡ w
    each_refuses e = refuses (passes h refl (each_at l)) e

    pub each_passes : p (get_or xs k 0) ≡ true → Gathered w (each p (drop (k + 1) (take n xs))) true
    each_passes e = passes (passes h refl (each_at l)) e unwalked

-- the first is above nothing, each other above the one before it
pub rises_start : (xs : List ℕ) (n : ℕ) → Gathered (rises 0 (take n xs)) (rises (suc (get_or xs 0 0)) (drop 1 (take n xs))) true
rises_start xs zero = unwalked
rises_start [] (suc n) = unwalked
rises_start (x ∷ xs) (suc n) = record { rest = rw (leb-zero x) }

module _ (xs : List ℕ) (n k : ℕ) where
  pub rises_at : (1 ≤ k) × (k < n) × (n ≤ length xs)
      → Gathered (rises (suc (get_or xs (k - 1) 0)) (drop k (take n xs))) (rises (suc (get_or xs (k + 1 - 1) 0)) (drop (k + 1) (take n xs))) (ltb (get_or xs (k - 1) 0) (get_or xs k 0))
  rises_at l = let e : k + 1 - 1 ≡ k = omega arith in record { rest = rw (id_at xs n k (omega arith), e) }

  pub rises_past : (low : ℕ) → n ≤ k → rises low (drop k (take n xs)) ≡ true
  rises_past low l = rw (past_ids xs n k l)

-- ---- an id that is not own is below own base, or above the last own id

above : (a b : ℕ) → ltb b a ≡ not (leb a b)
above a b = split (ltb b a ≡ not (leb a b)) (leb a b) (λ e. simp (e, le-ltb b a (leb-true a b e))) (λ e. simp (e, lt-ltb b a (leb-false a b e)))

not_both : (a b : Bool) → (not a || not b) ≡ not (a && b)
not_both true b = refl
not_both false b = refl

pub is_foreign : (base id : ℕ) → (ltb id base || ltb (base + 7) id) ≡ foreign base id
unfolding own
is_foreign base id = rw (above base id, above id (base + 7)) (not_both (leb base id) (leb id (base + 7)))

-- ---- argument bytes, row by row

pub record ArgsWalked (counts : List ℕ) (n : ℕ) (args : List ℕ) (k : ℕ) : Type 0 where
  pub upto : k ≤ n
  pub rest : args_zero (take n counts) args ≡ args_zero (drop k (take n counts)) (drop (16 * k) args)

pub args_start : {counts : List ℕ} {n : ℕ} {args : List ℕ} → ArgsWalked counts n args 0
args_start = record { upto = omega arith; rest = refl }

module _ {counts : List ℕ} {n : ℕ} {args : List ℕ} {k : ℕ} (h : ArgsWalked counts n args k) where
  module _ (l : (k < n) × (n ≤ length counts)) where
    abbrev count : ℕ
    count = get_or counts k 0

    -- the part of the bytes that the row has
    abbrev left : Bool
    left = all_zero (drop count (take (16 * k + 16 - 16 * k) (drop (16 * k) args)))

    args_at : args_zero (take n counts) args ≡ (leb count 16 && (left && args_zero (drop (k + 1) (take n counts)) (drop (16 * (k + 1)) args)))
    args_at =
        let e : 16 * (k + 1) ≡ 16 * k + 16 = omega arith in
        let p : 16 * k + 16 - 16 * k ≡ 16 = omega arith in
        h.rest ∙ rw (id_at counts n k l, drop-drop 16 (16 * k) args, e, p)

    pub args_many : 16 < count → false ≡ args_zero (take n counts) args
    args_many m = sym (args_at ∙ simp (lt-leb count 16 m))

    pub args_left : left ≡ false → false ≡ args_zero (take n counts) args
    args_left f = sym (args_at ∙ simp (f, and-false))

    pub args_on : count ≤ 16 → left ≡ true → ArgsWalked counts n args (k + 1)
    args_on m t = record { upto = omega arith; rest = args_at ∙ simp (le-leb count 16 m, t) }

  pub args_end : n ≤ k → all_zero (drop (16 * n) args) ≡ args_zero (take n counts) args
  args_end l = let e : k ≡ n = omega (arith, h.upto) in sym (h.rest ∙ rw (e, past_ids counts n n (omega arith)))
