-- What an accepted packet makes of the record, and the ways of a tick, one law each: the record that it leaves and its answer.
use Rattle.std.specs.Prelude.{◌≡◌, Bool, true, false, List, ℕ, ◌-◌, get_or}
use Rattle.std.proofs.Math.Path.{ap}
use Rattle.std.proofs.Common.{◌∙◌}
use borrow.Author.Tests.{eq-eqb, ne_eqb}
use Rattle.state.specs.declared.types.Arm.{Arm}
use Rattle.step_arm.specs.Arming.{unarmed, armed_for, full_time, arm_set, arm_after, ticked, tick_answer, ticked_by}

module _ (n ticks : ℕ) where
  pub set_armed : n ≡ 11 → armed_for ticks ≡ arm_set n ticks
  unfolding arm_set
  set_armed e = simp (eq-eqb _ _ e)

  pub set_unarmed : (n ≡ 11 → ⊥) → unarmed ≡ arm_set n ticks
  unfolding arm_set
  set_unarmed h = simp (ne_eqb _ _ h)

  -- the record that was set by a packet's timeout
  pub set_after : (args : List ℕ) {arm : Arm} → arm ≡ arm_set n ticks → ticks ≡ full_time (get_or args 0 0) → arm ≡ arm_after n args
  unfolding arm_after
  set_after args e t = e ∙ ap (λ k. arm_set n k) t

module _ (armed : Bool) (ticks : ℕ) where
  abbrev here : Arm
  here = record { armed = armed; ticks = ticks }

  pub tick_unarmed : armed ≡ false → record { arm = here; answer = 14 } ≡ ticked_by here
  unfolding ticked tick_answer
  tick_unarmed e = rw e

  module _ (a : armed ≡ true) where
    pub tick_lasting : ticks ≡ 0 → record { arm = here; answer = 14 } ≡ ticked_by here
    unfolding ticked tick_answer
    tick_lasting e = simp (a, e)

    pub tick_last : (ticks ≡ 0 → ⊥) → ticks ≡ 1 → record { arm = unarmed; answer = 15 } ≡ ticked_by here
    unfolding ticked tick_answer
    tick_last h e = simp (a, ne_eqb _ _ h, eq-eqb _ _ e)

    pub tick_one : (ticks ≡ 0 → ⊥) → (ticks ≡ 1 → ⊥) → record { arm = armed_for (ticks - 1); answer = 14 } ≡ ticked_by here
    unfolding ticked tick_answer
    tick_one h e = simp (a, ne_eqb _ _ h, ne_eqb _ _ e)
