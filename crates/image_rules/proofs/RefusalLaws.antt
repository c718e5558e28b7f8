-- Laws of refusals: none has the number 0.
use Rattle.std.specs.Prelude.{◌≡◌}
use Rattle.std.proofs.Common.{arith}
use Rattle.image_rules.specs.declared.refusal.BadImage.{BadImage}
use Rattle.image_rules.specs.declared.refusal.BadImage.TheVariants.{CutShort, UnknownKind, WrongLength, OutOfOrder, EmptyImage, NoRoom, BrokenRule}
use Rattle.image_rules.specs.Refusals.{number_of}

pub not_zero : (refusal : BadImage) → number_of refusal ≡ 0 → ⊥
not_zero CutShort z = omega arith
not_zero UnknownKind z = omega arith
not_zero WrongLength z = omega arith
not_zero OutOfOrder z = omega arith
not_zero EmptyImage z = omega arith
not_zero NoRoom z = omega arith
not_zero BrokenRule z = omega arith
