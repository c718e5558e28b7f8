-- `holds`: a place before the end is a member's.
use Rattle.std.proofs.Common.{arith}
use Rattle.state_lookup.proofs.Hopping.{half_below, is_there}
use Rattle.state_lookup.proofs.holds.Goals as goal

pub returns : goal.returns
returns c e h = is_there c.args.id e (c.search.ensures e h) (omega (arith, h, half_below e)) c.requires
