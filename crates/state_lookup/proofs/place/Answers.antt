-- `place`: hops that begin with the column's length reach all of it.
use Rattle.std.proofs.Common.{arith}
use Rattle.state_lookup.proofs.Hopping.{half_below, is_place_lem}
use Rattle.state_lookup.proofs.place.Goals as goal

pub returns-then-k-n : goal.returns-then-k-n
returns-then-k-n c e h = ((is_place_lem c.args.id e (c.search-k.ensures e h) (omega (arith, h, half_below e)) c.requires).0, omega arith)

pub returns-else-k-n : goal.returns-else-k-n
returns-else-k-n c e h =
    let p = is_place_lem c.args.id e (c.search-k.ensures e h) (omega (arith, h, half_below e)) c.requires in omega (arith, p.0)
