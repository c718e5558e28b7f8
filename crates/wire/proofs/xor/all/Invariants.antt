-- what is gathered, with the XOR of the bytes that are left, is the XOR of all
use Rattle.std.proofs.Common.{drop, ◌≡◌}
use lib.Bits.{bit_xor}
use Rattle.wire.specs.Xor.{xor_all}
use Rattle.wire.proofs.xor.all.Given as goal

abbrev pub invariant-loop-byte : goal.invariant-loop-byte
invariant-loop-byte l = bit_xor l.x (xor_all (drop l.byte-index l.s)) ≡ xor_all l.s
