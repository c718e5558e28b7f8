-- `take_protected`: its refusal, or a protected id more.
use Rattle.std.proofs.Common.{◌≡◌, ◌<◌, rules, ℕ, List, length, take, refl, arith}
use Rattle.state.specs.declared.types.Config.{Config}
use Rattle.state.specs.Tables.{Tables}
use Rattle.image_rules.specs.Checks.{refusal_after}
use Rattle.image_rules.specs.RecordParts.{Holds}
use Rattle.image_rules.specs.Refusals.{number_of, told}
use Rattle.image_rules.proofs.RefusalLaws.{not_zero}
use Rattle.image_take.specs.Stored.{Countable}
use Rattle.image_take.specs.Held.{route_column, protected_slots, two, countable, held_3}
use Rattle.image_take.specs.Taking.{Ready, told_3, good_whole, refuses_it, stores_it}
use Rattle.image_take.proofs.take_protected.Goals as goal

-- past the check the body has its size, there is room, and the id can be counted
past : {last : ℕ} {config : Config} (b : List ℕ) → Ready last (λ c. config) (λ s. s)
    → ((t : Tables) → Holds t config.numbers.settings.base (take config.numbers.nroutes config.routeids)
    → 0 ≡ refusal_after last (take config.numbers.nprotected config.protected) t 3 b)
    → (length b ≡ 2) × (config.numbers.nprotected < 32) × Countable b 3 config.numbers
past b p e =
    let g = good_whole (told_3 p.held p.last_is b e) refl 0 in
    let t = two p.held g refl in
    (t.0, t.1, countable p.held g)

pub protected_refusal-requires : goal.protected_refusal-requires
protected_refusal-requires c = let h = c.requires.held in (route_column h, protected_slots h)

pub returns-in_err-protected_refusal-clause-takes : goal.returns-in_err-protected_refusal-clause-takes
returns-in_err-protected_refusal-clause-takes c states rs h l =
    let s : told c.from_residual.result ≡ number_of c.in_err-protected_refusal.field-0.0 = search rules in
    rw s (refuses_it (told_3 h l _ c.in_err-protected_refusal.ensures) (not_zero _))

pub word_at-requires : goal.word_at-requires
word_at-requires c = omega (arith, (past c.args.body.now c.requires c.in_ok-protected_refusal.ensures).0)

pub bounds-config-m : goal.bounds-config-m
bounds-config-m c = (past c.args.body.now c.requires c.in_ok-protected_refusal.ensures).1

pub numbers_behind-requires : goal.numbers_behind-requires
numbers_behind-requires c = (past c.args.body.now c.requires c.in_ok-protected_refusal.ensures).2

pub returns-clause-takes : goal.returns-clause-takes
returns-clause-takes c states rs h l =
    rw c.numbers_behind.ensures
    (stores_it (told_3 h l _ c.in_ok-protected_refusal.ensures) refl (λ place g. held_3 h g refl c.word_at.ensures))
