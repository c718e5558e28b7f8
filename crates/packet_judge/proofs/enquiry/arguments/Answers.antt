-- `arguments`: the empty part at the start of a refused packet, else the accepted packet's part.
use Rattle.std.proofs.Common.{refl, sym, arith}
use Rattle.packet_rules.proofs.JudgeLaws.{accepts, arguments_refused, at_refused, at_accepted}
use Rattle.packet_rules.proofs.RejectionLaws.{refused}
use Rattle.packet_judge.proofs.enquiry.arguments.Goals as goal

pub returns-in-Err-clause-content : goal.returns-in-Err-clause-content
returns-in-Err-clause-content c = sym (arguments_refused c.args.packet.now (refused _ c.in-Err.ensures))

pub returns-in-Err-clause-place : goal.returns-in-Err-clause-place
returns-in-Err-clause-place c = (refl, omega (arith, at_refused c.args.packet.now (refused _ c.in-Err.ensures)))

pub accepted_part-requires : goal.accepted_part-requires
accepted_part-requires c = accepts _ (sym c.in-Ok.ensures)

pub returns-in-Ok-clause-place : goal.returns-in-Ok-clause-place
returns-in-Ok-clause-place c =
    let s = c.args.packet.now in
    (c.accepted_part.ensures.place.0, omega (arith, at_accepted s (accepts s (sym c.in-Ok.ensures)), c.accepted_part.ensures.place.1))
