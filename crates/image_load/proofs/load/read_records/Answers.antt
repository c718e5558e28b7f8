-- `read_records`: the loop's invariant is `Walked`, and each way out is one of its laws.
use Rattle.std.proofs.Common.{◌≡◌, ℕ, List, rules, refl, arith, length, Result, Ok, Err, Some, MatchResult, true}
use Rattle.std.specs.Result.{is_ok}
use Rattle.state.specs.declared.types.Config.{Config}
use Rattle.image_rules.specs.declared.refusal.BadImage.{BadImage}
use Rattle.image_rules.specs.declared.refusal.BadImage.TheVariants.{CutShort}
use Rattle.image_rules.specs.RecordLaws.{Whole}
use Rattle.image_rules.specs.Refusals.{number_of, told}
use Rattle.image_rules.proofs.RefusalLaws.{not_zero}
use Rattle.image_load.specs.declared.load.Stopped.{Stopped}
use Rattle.image_load.specs.Image.{refused, load_of}
use Rattle.image_load.specs.Loading.{nothing}
use Rattle.image_load.specs.LoadWalk.{Reads}
use Rattle.image_load.proofs.Loading.{only}
use Rattle.image_load.proofs.LoadWalk.{stops_at, start, cuts, refuses, goes_on}
use Rattle.image_load.proofs.load.read_records.Goals as goal

pub returns-then-is_empty : goal.returns-then-is_empty
returns-then-is_empty c =
    let z : length c.args.image.now ≡ 0 = search rules in
    rw c.by.ensures (stops_at (λ z. omega arith) (only (nothing z refl)))

pub loop-at-init : goal.loop-at-init
loop-at-init c =
    let h : length c.args.image.now ≡ 0 → ⊥ = search rules in
    start h c.requires

pub returns-in_err-found : goal.returns-in_err-found
returns-in_err-found c =
    let s : c.from_residual.result ≡ Err record { refusal = CutShort; offset = c.loop-at.at } = search rules in
    rw s
    (stops_at (λ z. omega arith)
    (cuts c.loop-at.invariant c.loop-at-test.true (rw c.in_err-found.ensures.ok_part at c.found_at.ensures)))

-- a record was refused at a place
module _ (bs : List ℕ) (config : Config) (states : List ℕ) (place : ℕ) (q : Result (Unit {0}) Stopped) where
  at_place : (r : Result (Unit {0}) BadImage)
      → MatchResult r (λ done. ⊥) (λ e. q ≡ Err record { refusal = e; offset = place }) → ((told r ≡ 0 → ⊥) → refused (told r) place ≡ load_of bs)
      → MatchResult q (λ done. Reads bs 0 0 config states) (λ stopped. Reads bs (number_of stopped.refusal) stopped.offset config states)
  at_place (Ok done) m f = absurd m
  at_place (Err e) m f = rw m (stops_at (not_zero e) (f (not_zero e)))

taken : (r : Result (Unit {0}) BadImage) → true ≡ is_ok r → told r ≡ 0
taken (Ok done) e = refl
taken (Err f) e = cc

pub returns-in_err-map_err : goal.returns-in_err-map_err
returns-in_err-map_err c =
    let found : c.found_at.result ≡ Some c.in_ok-found.found = search rules in
    let whole : Whole c.args.image.now c.loop-at.at c.in_ok-found.found.kind c.in_ok-found.found.end = rw found at c.found_at.ensures in
    let s : MatchResult c.take_record.result (λ done. ⊥) (λ e. c.from_residual-in_err-map_err.result ≡ Err record { refusal = e; offset = c.loop-at.at }) = search rules in
    at_place _ _ _ _ _ c.take_record.result s (refuses c.loop-at.invariant c.loop-at-test.true whole c.take_record.ensures.takes)

pub loop-at-preserved : goal.loop-at-preserved
loop-at-preserved c =
    let found : c.found_at.result ≡ Some c.in_ok-found.found = search rules in
    let whole : Whole c.args.image.now c.loop-at.at c.in_ok-found.found.kind c.in_ok-found.found.end = rw found at c.found_at.ensures in
    goes_on c.loop-at.invariant c.loop-at-test.true whole c.take_record.ensures.takes (taken _ c.in_ok-map_err.ensures.variant)
