-- `take_one`: its refusal, or what it sets.
use Rattle.std.proofs.Common.{◌≡◌, true, rules, refl}
use Rattle.image_rules.specs.Kinds.{is_single, kind_of}
use Rattle.image_rules.specs.Refusals.{number_of, told}
use Rattle.image_rules.proofs.RefusalLaws.{not_zero}
use Rattle.image_take.specs.Held.{countable}
use Rattle.image_take.specs.Taking.{told_one, good_whole, refuses_it, one_takes}
use Rattle.image_take.proofs.take_one.Goals as goal

pub returns-in_err-one_refusal-clause-takes : goal.returns-in_err-one_refusal-clause-takes
returns-in_err-one_refusal-clause-takes c states rs h l =
    let single : is_single (kind_of c.args.kind) ≡ true = rw c.requires.known.2 in
    let s : told c.from_residual.result ≡ number_of c.in_err-one_refusal.field-0.0 = search rules in
    rw s (refuses_it (told_one h l _ c.args.kind single c.in_err-one_refusal.ensures) (not_zero _))

pub numbers_behind-requires : goal.numbers_behind-requires
numbers_behind-requires c =
    let single : is_single (kind_of c.args.kind) ≡ true = rw c.requires.known.2 in
    let p = c.requires.ready in
    countable p.held (good_whole (told_one p.held p.last_is c.args.body.now c.args.kind single c.in_ok-one_refusal.ensures) refl 0)

pub returns-clause-takes : goal.returns-clause-takes
returns-clause-takes c states =
    let single : is_single (kind_of c.args.kind) ≡ true = rw c.requires.known.2 in
    rw c.numbers_behind.ensures (one_takes c.args.kind single c.in_ok-one_refusal.ensures)
