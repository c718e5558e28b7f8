-- Document 02, wish 2: "what that judge accepts in this form", and "the packet's own fields".
use Rattle.std.specs.Prelude.{◌≡◌, List, ℕ, ◌-◌, ◌/◌, ◌<◌, length, get_or}
use Rattle.wire.specs.Bytes.{Bytes}
use Rattle.packet_header.specs.Header.{header_of}
use Rattle.packet_rules.specs.Layout.{byte, seq_flags, pad_part}
use Rattle.packet_rules.specs.Judge.{refusal_of, judge_of, arguments_of}
use Rattle.build_rules.specs.Build.{Fields}

-- what the types of the code say of fields: the id is a two-byte number, the arguments are bytes
pub record Held (f : Fields) : Type 0 where
  pub two_bytes : f.id < 65536
  pub args_bytes : Bytes f.args

-- a packet that the judge accepts in this form: sequence flags both set, high bit of the function code zero, every pad byte zero
pub record InForm (s : List ℕ) : Type 0 where
  pub accepted : refusal_of s ≡ 0
  pub both_set : seq_flags s ≡ 3
  pub high_bit : byte 6 s / 128 ≡ 0
  pub zero_pads : (k : ℕ) → get_or (pad_part s) k 0 ≡ 0

-- a packet's own fields, as header reader, judge and enquiry read them; the pads are what the length field leaves
abbrev pub fields_of : List ℕ → Fields
fields_of s = record { apid = (header_of s).apid; count = (header_of s).count; id = (judge_of s).id; args = arguments_of s; pads = (header_of s).length - 3 - length (arguments_of s) }
