-- `is_above`: the last of them is the highest.
use Rattle.std.proofs.Common.{◌≡◌, ◌-◌, ◌<◌, length, get_or, slice_get, Some, sym, arith}
use Rattle.std.proofs.lemmas.Option.{get_or_from_slice_get, slice_get_within}
use Rattle.std.proofs.Math.Seq.{take-length}
use Rattle.image_check.specs.Floor.{above}
use Rattle.image_check.proofs.is_above.Goals as goal

pub returns-in-Some : goal.returns-in-Some
returns-in-Some c =
    let xs = c.args.ids.now in
    let is : slice_get xs (length xs - 1) ≡ Some c.in-Some.last.now = sym c.in-Some.ensures.value in
    let last : get_or xs (length xs - 1) 0 ≡ c.in-Some.last.now = get_or_from_slice_get xs (length xs - 1) c.in-Some.last.now 0 is in
    let inside : length xs - 1 < length xs = slice_get_within xs (length xs - 1) c.in-Some.last.now is in
    rw (take-length xs, last) at (above xs (length xs) c.args.id (omega arith))
