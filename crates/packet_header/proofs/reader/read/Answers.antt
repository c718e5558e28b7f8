-- `read`: below 6 bytes the refusal and zeros, else each field by its own function.
use Rattle.std.proofs.Common.{arith}
use Rattle.packet_header.specs.Header.{header_short, header_whole}
use Rattle.packet_header.proofs.reader.read.Goals as goal

pub returns-then-packet-lt6 : goal.returns-then-packet-lt6
returns-then-packet-lt6 c = header_short _ (omega arith)

pub returns : goal.returns
returns c =
    header_whole _ _ _ _ _ _ _ _
    (omega arith, c.version.ensures, c.packet_type.ensures, c.secondary.ensures, c.apid.ensures, c.seq_flags.ensures, c.seq_count.ensures, c.big.ensures)
