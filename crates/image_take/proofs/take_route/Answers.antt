-- `take_route`: its refusal, or a route more.
use Rattle.std.proofs.Common.{◌≡◌, ◌<◌, rules, ℕ, List, length, take, refl, arith}
use Rattle.state.specs.declared.types.Config.{Config}
use Rattle.state.specs.Tables.{Tables}
use Rattle.image_rules.specs.Checks.{refusal_after}
use Rattle.image_rules.specs.Refusals.{number_of, told}
use Rattle.image_rules.proofs.RefusalLaws.{not_zero}
use Rattle.image_take.specs.Stored.{Countable}
use Rattle.image_take.specs.Held.{three, countable, held_2}
use Rattle.image_take.specs.Taking.{Ready, told_2, good_whole, refuses_it, stores_it}
use Rattle.image_take.proofs.take_route.Goals as goal

-- past the check the body has its size, there is room, and the route can be counted
past : {last : ℕ} {config : Config} (b : List ℕ) → Ready last (λ c. config) (λ s. s)
    → ((t : Tables) → config.numbers.settings.base ≡ t.settings.base → 0 ≡ refusal_after last (take config.numbers.nroutes config.routeids) t 2 b)
    → (length b ≡ 3) × (config.numbers.nroutes < 128) × Countable b 2 config.numbers
past b p e =
    let g = good_whole (told_2 p.held p.last_is b e) refl 0 in
    let t = three p.held g refl in
    (t.0, t.1, countable p.held g)

pub returns-in_err-route_refusal-clause-takes : goal.returns-in_err-route_refusal-clause-takes
returns-in_err-route_refusal-clause-takes c states rs h l =
    let s : told c.from_residual.result ≡ number_of c.in_err-route_refusal.field-0.0 = search rules in
    rw s (refuses_it (told_2 h l _ c.in_err-route_refusal.ensures) (not_zero _))

pub word_at-requires : goal.word_at-requires
word_at-requires c = omega (arith, (past c.args.body.now c.requires c.in_ok-route_refusal.ensures).0)

pub bounds-config-n : goal.bounds-config-n
bounds-config-n c = (past c.args.body.now c.requires c.in_ok-route_refusal.ensures).1

pub bounds-body-2 : goal.bounds-body-2
bounds-body-2 c = omega (arith, (past c.args.body.now c.requires c.in_ok-route_refusal.ensures).0)

pub bounds-config-n-2 : goal.bounds-config-n-2
bounds-config-n-2 c = (past c.args.body.now c.requires c.in_ok-route_refusal.ensures).1

pub numbers_behind-requires : goal.numbers_behind-requires
numbers_behind-requires c = (past c.args.body.now c.requires c.in_ok-route_refusal.ensures).2

pub returns-clause-takes : goal.returns-clause-takes
returns-clause-takes c states rs h l =
    rw c.numbers_behind.ensures
    (stores_it (told_2 h l _ c.in_ok-route_refusal.ensures) refl (λ place g. held_2 h g refl c.word_at.ensures))
