-- `all`: what is gathered, with the XOR of the bytes that are left, is the XOR of all.
use Rattle.std.proofs.Common.{sym, ◌∙◌}
use Rattle.wire.specs.XorLaws.{xor_more, xor_done}
use Rattle.wire.proofs.xor.all.Goals as goal

pub loop-byte-preserved : goal.loop-byte-preserved
loop-byte-preserved c = xor_more c.args.s.now c.loop-byte.byte-index c.loop-byte.x c.loop-byte-test.true ∙ c.loop-byte.invariant

pub returns : goal.returns
returns c = sym (xor_done _ _ _ c.loop-byte-test.false) ∙ c.loop-byte.invariant
