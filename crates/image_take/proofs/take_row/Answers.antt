-- `take_row`: its refusal, or a fault row and its start state more.
use Rattle.std.proofs.Common.{◌≡◌, ◌+◌, ◌-◌, ◌<◌, ◌≤◌, rules, ℕ, List, length, get_or, take, drop, refl, arith, length-take}
use Rattle.state.specs.declared.types.Config.{Config}
use Rattle.state.specs.Tables.{Tables, routed}
use Rattle.image_rules.specs.Checks.{refusal_after}
use Rattle.image_rules.specs.Refusals.{number_of, told}
use Rattle.image_rules.proofs.RefusalLaws.{not_zero}
use Rattle.image_take.specs.Stored.{Countable}
use Rattle.image_take.specs.Held.{route_column, fault_slots, sized, seven, countable, held_4}
use Rattle.image_take.specs.Taking.{Ready, told_4, good_whole, refuses_it, stores_it}
use Rattle.image_take.proofs.take_row.Goals as goal

-- past the check the body has its size, and there is room
module _ {last : ℕ} {config : Config} {states : List ℕ} (b : List ℕ) (p : Ready last (λ c. config) (λ s. states))
    (e : (t : Tables) → take config.numbers.nroutes config.routeids ≡ routed t → 0 ≡ refusal_after last (take config.numbers.nrows config.faultids) t 4 b) where
  past : (length b ≡ 7 + get_or b 6 0) × (get_or b 6 0 ≤ 16) × (config.numbers.nrows < 32)
  past = seven p.held (good_whole (told_4 p.held p.last_is b e) refl 0) refl

  counts : Countable b 4 config.numbers
  counts = countable p.held (good_whole (told_4 p.held p.last_is b e) refl 0)

pub fault_row_refusal-requires : goal.fault_row_refusal-requires
fault_row_refusal-requires c = let h = c.requires.held in (route_column h, fault_slots h)

pub returns-in_err-fault_row_refusal-clause-takes : goal.returns-in_err-fault_row_refusal-clause-takes
returns-in_err-fault_row_refusal-clause-takes c rs h l =
    let s : told c.from_residual.result ≡ number_of c.in_err-fault_row_refusal.field-0.0 = search rules in
    rw s (refuses_it (told_4 h l _ c.in_err-fault_row_refusal.ensures) (not_zero _))

pub word_at-requires : goal.word_at-requires
word_at-requires c = omega (arith, past c.args.body.now c.requires c.in_ok-fault_row_refusal.ensures)

pub bounds-config-k : goal.bounds-config-k
bounds-config-k c = omega (arith, past c.args.body.now c.requires c.in_ok-fault_row_refusal.ensures)

pub word_at-requires-2 : goal.word_at-requires-2
word_at-requires-2 c = omega (arith, past c.args.body.now c.requires c.in_ok-fault_row_refusal.ensures)

pub bounds-config-k-2 : goal.bounds-config-k-2
bounds-config-k-2 c = omega (arith, past c.args.body.now c.requires c.in_ok-fault_row_refusal.ensures)

pub bounds-body-4 : goal.bounds-body-4
bounds-body-4 c = omega (arith, past c.args.body.now c.requires c.in_ok-fault_row_refusal.ensures)

pub bounds-states-k : goal.bounds-states-k
bounds-states-k c = omega (arith, past c.args.body.now c.requires c.in_ok-fault_row_refusal.ensures)

pub bounds-body-5 : goal.bounds-body-5
bounds-body-5 c = omega (arith, past c.args.body.now c.requires c.in_ok-fault_row_refusal.ensures)

pub bounds-config-k-3 : goal.bounds-config-k-3
bounds-config-k-3 c = omega (arith, past c.args.body.now c.requires c.in_ok-fault_row_refusal.ensures)

pub bounds-body-6 : goal.bounds-body-6
bounds-body-6 c = omega (arith, past c.args.body.now c.requires c.in_ok-fault_row_refusal.ensures)

pub bounds-config-k-4 : goal.bounds-config-k-4
bounds-config-k-4 c = omega (arith, past c.args.body.now c.requires c.in_ok-fault_row_refusal.ensures)

pub slice_bounds-run-count : goal.slice_bounds-run-count
slice_bounds-run-count c = omega (arith, past c.args.body.now c.requires c.in_ok-fault_row_refusal.ensures)

pub slice_bounds-run-start : goal.slice_bounds-run-start
slice_bounds-run-start c = omega (arith, past c.args.body.now c.requires c.in_ok-fault_row_refusal.ensures)

pub run-requires : goal.run-requires
run-requires c =
    let b = c.args.body.now in
    let long = (sized c.requires.held).args_512 in
    omega (arith, past c.args.body.now c.requires c.in_ok-fault_row_refusal.ensures, long, length-take (length b - 7) (drop 7 b))

pub numbers_behind-requires : goal.numbers_behind-requires
numbers_behind-requires c = counts c.args.body.now c.requires c.in_ok-fault_row_refusal.ensures

pub returns-clause-takes : goal.returns-clause-takes
returns-clause-takes c rs h l =
    rw c.numbers_behind.ensures
    (stores_it (told_4 h l _ c.in_ok-fault_row_refusal.ensures) refl
    (λ place g. held_4 h g refl (c.word_at.ensures, c.word_at-2.ensures, c.run.ensures)))
