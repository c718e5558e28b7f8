-- `fill`: three puts, each right behind the one before.
use Rattle.build_rules.specs.Build.{given}
use Rattle.build_rules.proofs.BuildLaws.{filled_unpadded}
use Rattle.build_packet.proofs.fill.Goals as goal

pub returns : goal.returns
returns c =
    let g = c.args in
    filled_unpadded (given g.apid g.count g.id g.args.now g.pads) g.out.now _ _ _ _ _ _
    c.primary-header.ensures c.high.ensures c.low.ensures
    c.bytes.ensures c.bytes-2.ensures c.bytes-3.ensures
