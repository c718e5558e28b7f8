-- `after_packet`: each way by the answer.
use Rattle.std.proofs.Common.{sym, ◌∙◌, arith}
use Rattle.packet_rules.proofs.RejectionLaws.{above_them}
use Rattle.step_effects.proofs.CountLaws.{counts_10, counts_rejected, counts_30, counts_invalid, counts_33, counts_high}
use Rattle.step_effects.proofs.counts.after_packet.Goals as goal

pub returns-then-n-eq10 : goal.returns-then-n-eq10
returns-then-n-eq10 c = rw (c.bump.ensures, c.bump-then-n-eq10.ensures) (counts_10 _ _ _ c.if-n-eq10.true)

pub returns-then-is_rejection : goal.returns-then-is_rejection
returns-then-is_rejection c =
    rw c.bump-then-is_rejection.ensures (counts_rejected _ _ _ (sym c.is_rejection.ensures ∙ c.if-is_rejection.true))

pub returns-then-n-eq30 : goal.returns-then-n-eq30
returns-then-n-eq30 c = rw (c.bump-2.ensures, c.bump-then-n-eq30.ensures) (counts_30 _ _ _ c.if-n-eq30.true)

pub returns-then-n-lt33 : goal.returns-then-n-lt33
returns-then-n-lt33 c =
    let none = sym c.is_rejection.ensures ∙ c.if-is_rejection.false in
    rw (c.bump-2.ensures, c.bump-then-n-lt33.ensures)
    (counts_invalid _ _ _ none (omega (arith, above_them _ c.if-n-lt22.false none)) c.if-n-lt33.true)

pub returns-then-n-eq33 : goal.returns-then-n-eq33
returns-then-n-eq33 c = rw (c.bump-2.ensures, c.bump-then-n-eq33.ensures) (counts_33 _ _ _ c.if-n-eq33.true)

pub returns : goal.returns
returns c = rw c.bump-2.ensures (counts_high _ _ _ (sym c.is_rejection.ensures ∙ c.if-is_rejection.false) (omega arith))
