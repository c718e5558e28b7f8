-- What `build` answers and leaves in a lent buffer, read back: the first bytes are a packet that the judge accepts with the same
-- id and arguments; a packet in form comes out byte for byte; later bytes stay; and when there is too little room.
use Rattle.std.specs.Prelude.{◌≡◌, List, ℕ, length}
use Rattle.packet_header.specs.Header.{header_of}
use Rattle.packet_rules.specs.Judge.{judge_of, arguments_of}
use Rattle.build_rules.specs.Build.{Fields, length_field_for}

-- ---- the output

-- what the readers say of a packet with these fields
pub record ReadsAs (f : Fields) (s : List ℕ) : Type 0 where
  pub judged : judge_of s ≡ record { answer = 0; id = f.id; count = length f.args }
  pub arguments : arguments_of s ≡ f.args
  pub header : header_of s ≡ record { answer = 0; version = 0; kind = 1; secondary = 1; apid = f.apid; flags = 3; count = f.count; length = length_field_for f }
