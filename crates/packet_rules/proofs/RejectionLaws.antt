-- Which answers reject a packet: the judge's refusals. The counters and the theorems ask it here.
use Rattle.std.specs.Prelude.{◌≡◌, refl, List, true, false, ℕ, ◌<◌, ◌≤◌, eqb}
use Rattle.std.proofs.Common.{sym, ap, ◌∙◌, arith, ne_eqb, le-leb, leb-false}
use Rattle.std.proofs.lemmas.Bool.{false≢true, lt-leb}
use Rattle.packet_rules.specs.Judge.{refusal_of}
use Rattle.packet_rules.specs.JudgeOutcome.{BadForm, not_version_0, not_telecommand, not_secondary, not_xor_0, Outcome, below_6, not_whole, bad_form, no_room, too_many, taken}
use Rattle.packet_rules.proofs.JudgeLaws.{outcome}
use Rattle.packet_rules.specs.declared.rejection.Rejection.{Rejection}
use Rattle.packet_rules.specs.declared.rejection.Rejection.TheVariants.{TooShort, WrongSize, WrongVersion, NotTelecommand, NoSecondaryHeader, XorNotZero, DataTooShort, TooManyArguments}
use Rattle.packet_rules.specs.Rejection.{number_of, is_rejection}

-- ---- the refusals: none has the number 0, which tells that nothing is refused

pub number_not_0 : (r : Rejection) → number_of r ≡ 0 → ⊥
number_not_0 TooShort e = absurd (omega arith)
number_not_0 WrongSize e = absurd (omega arith)
number_not_0 WrongVersion e = absurd (omega arith)
number_not_0 NotTelecommand e = absurd (omega arith)
number_not_0 NoSecondaryHeader e = absurd (omega arith)
number_not_0 XorNotZero e = absurd (omega arith)
number_not_0 DataTooShort e = absurd (omega arith)
number_not_0 TooManyArguments e = absurd (omega arith)

-- so what a refused packet is told is not 0
pub refused : (r : Rejection) {n : ℕ} → number_of r ≡ n → n ≡ 0 → ⊥
refused r e z = number_not_0 r (e ∙ z)

-- ---- the numbers that are answered

bad_rejects : {s : List ℕ} {n : ℕ} → BadForm s n → is_rejection n ≡ true
bad_rejects (not_version_0 h) = refl
bad_rejects (not_telecommand v h) = refl
bad_rejects (not_secondary v t h) = refl
bad_rejects (not_xor_0 v t f h) = refl

-- every refusal of the judge is one
pub rejects : {s : List ℕ} {n : ℕ} → Outcome s n → (n ≡ 0 → ⊥) → is_rejection n ≡ true
rejects (below_6 h) z = refl
rejects (not_whole a h) z = refl
rejects (bad_form a b) z = bad_rejects b
rejects (no_room a f h) z = refl
rejects (too_many a f r h) z = refl
rejects (taken a) z = absurd (z refl)

-- an answer below them rejects nothing
pub below_not : (n : ℕ) → n < 22 → is_rejection n ≡ false
below_not n l = simp (lt-leb 22 n l)

-- and one that is not below them, and rejects nothing, is above
pub above_them : (n : ℕ) → 22 ≤ n → is_rejection n ≡ false → 29 < n
above_them n l f = leb-false n 29 (rw (le-leb 22 n l) at f)

-- so none is an answer m that rejects nothing
pub rejection_not : {n : ℕ} → is_rejection n ≡ true → (m : ℕ) → is_rejection m ≡ false → n ≡ m → ⊥
rejection_not h m f e = false≢true (sym f ∙ ap is_rejection (sym e) ∙ h)

pub refused_not : {s : List ℕ} {n : ℕ} → Outcome s n → (n ≡ 0 → ⊥) → (m : ℕ) → is_rejection m ≡ false → n ≡ m → ⊥
refused_not o z m f = rejection_not (rejects o z) m f

pub refusal_not : (s : List ℕ) → (refusal_of s ≡ 0 → ⊥) → (m : ℕ) → is_rejection m ≡ false → eqb (refusal_of s) m ≡ false
refusal_not s z m f = ne_eqb (refusal_of s) m (refused_not (outcome s) z m f)
