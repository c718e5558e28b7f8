-- `accepted_part`: the part from byte 10 up to the pads, at ten bytes behind the packet's start.
use Rattle.std.proofs.Common.{◌≡◌, ℕ, ◌-◌, length, take, drop, sym, ap, ◌∙◌, arith}
use Rattle.packet_rules.specs.Layout.{arg_count}
use Rattle.packet_rules.proofs.JudgeLaws.{arguments_accepted}
use Rattle.packet_judge.proofs.parts.accepted_part.Goals as goal

pub returns-clause-content : goal.returns-clause-content
returns-clause-content c =
    let s = c.args.packet.now in
    let e : length s - c.pads-pads.result - 10 ≡ arg_count s = omega arith in
    ap (λ (k : ℕ). take k (drop 10 s)) e ∙ sym (arguments_accepted s c.requires)
