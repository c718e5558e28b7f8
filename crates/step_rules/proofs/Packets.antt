-- What the steps know of a packet beside its id and arguments, told their tables: the judge's refusal and what it says.
use Rattle.std.specs.Prelude.{◌≡◌, refl, true, false, List, ℕ, eqb}
use Rattle.std.proofs.Common.{sym, ap, ◌∙◌}
use Rattle.std.proofs.lemmas.Bool.{false≢true}
use Rattle.packet_rules.proofs.JudgeLaws.{outcome, only, accepts, none_refuses}
use Rattle.packet_rules.specs.Rejection.{is_rejection}
use Rattle.packet_rules.proofs.RejectionLaws.{rejects, rejection_not, refusal_not}
use Rattle.state.specs.Tables.{Tables}
use Rattle.step_rules.specs.Packets.{refusal_under, OutcomeUnder, AcceptsUnder, is_accepted}

module _ (t : Tables) (p : List ℕ) where
  pub outcome_under : OutcomeUnder t p (refusal_under t p)
  outcome_under = outcome p

  pub accepts_under : refusal_under t p ≡ 0 → AcceptsUnder t p
  accepts_under z = accepts p z

  pub accepted_under_lem : AcceptsUnder t p → refusal_under t p ≡ 0
  accepted_under_lem a = none_refuses a

  module _ {n : ℕ} (o : OutcomeUnder t p n) where
    pub only_under : n ≡ refusal_under t p
    only_under = only o

    -- a refusal rejects, so that it is no answer that doesn't
    module _ (z : n ≡ 0 → ⊥) where
      pub rejects_under : is_rejection n ≡ true
      rejects_under = rejects o z

      pub not_under : (m : ℕ) → is_rejection m ≡ false → n ≡ m → ⊥
      not_under = rejection_not rejects_under

  pub refusal_under_not : (refusal_under t p ≡ 0 → ⊥) → (m : ℕ) → is_rejection m ≡ false → eqb (refusal_under t p) m ≡ false
  refusal_under_not = refusal_not p

-- an answer that rejects doesn't accept
pub rejected_not : (n : ℕ) → is_rejection n ≡ true → is_accepted n ≡ false
rejected_not n h = rw h refl

pub accepted_not : (n : ℕ) → is_accepted n ≡ true → (m : ℕ) → is_accepted m ≡ false → n ≡ m → ⊥
accepted_not n a m f e = false≢true (sym f ∙ ap is_accepted (sym e) ∙ a)
