-- `is_routed`: the lookup in the routes takes at most 8 hops.
use Rattle.std.proofs.Common.{refl}
use Rattle.image_check.proofs.is_routed.Goals as goal

pub returns : goal.returns
returns c = c.holds.ensures 8 refl
