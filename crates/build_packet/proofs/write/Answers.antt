-- `write`: the XOR of what was filled goes into the place of its zero, and the pads come behind.
use Rattle.std.proofs.Common.{refl}
use Rattle.build_rules.specs.Build.{given}
use Rattle.build_rules.proofs.BuildLaws.{padded}
use Rattle.build_packet.proofs.write.Goals as goal

pub returns : goal.returns
returns c =
    let g = c.args in
    padded (given g.apid g.count g.id g.args.now g.pads) g.out.now _ _ _ _ c.fill.ensures refl c.all-sum.ensures c.zeros.ensures
