-- Document 02, wish 2, the packet builder: the packet that its fields mean, the refusals in their order, and what is left in the
-- output.
use Rattle.std.specs.Prelude.{cond, List, [], ◌∷◌, ◌++◌, ℕ, ◌+◌, ◌/◌, ◌%◌, leb, eqb, length, Result, Ok, Err}
use Rattle.wire.specs.Check.{check}
use Rattle.wire.specs.Put.{zero_bytes, over}
use Rattle.wire.specs.Xor.{xor_all}
use Rattle.packet_rules.specs.HeaderBytes.{header_bytes}
use Rattle.build_rules.specs.declared.types.Built.{Built}
use Rattle.build_rules.specs.declared.types.Unbuildable.{Unbuildable}
use Rattle.build_rules.specs.declared.types.Unbuildable.TheVariants.{ApidTooHigh, CountTooHigh, TooManyArguments, TooManyPads, OutputTooSmall}

-- APID, sequence count, command id, arguments and a number of zero pad bytes
pub record Fields : Type 0 where
  pub apid : ℕ
  pub count : ℕ
  pub id : ℕ
  pub args : List ℕ
  pub pads : ℕ

abbrev pub given : ℕ → ℕ → ℕ → List ℕ → ℕ → Fields
given apid count id args pads = record { apid = apid; count = count; id = id; args = args; pads = pads }

-- ---- the packet

-- function code, checksum and id are four bytes, the arguments and the pads the rest of the data; the length field is one less
abbrev pub length_field_for : Fields → ℕ
length_field_for f = 3 + length f.args + f.pads

abbrev pub size_of : Fields → ℕ
size_of f = 10 + length f.args + f.pads

-- before the checksum: a telecommand's header with its secondary header flag, and the function code, its high bit zero
abbrev pub front : Fields → List ℕ
front f = header_bytes 1 1 f.apid f.count (length_field_for f) ++ f.pads ∷ []

-- behind it: the command id, the arguments, the pads
abbrev pub back : Fields → List ℕ
back f = f.id / 256 ∷ f.id % 256 ∷ f.args ++ zero_bytes f.pads

-- the checksum is the XOR of every other byte, so that the XOR of all is zero
unfoldable pub packet_of : Fields → List ℕ
packet_of f = front f ++ xor_all (front f ++ back f) ∷ back f

-- ---- the answer

-- the first refusal in the order of the numbers, or 0
unfoldable pub build_refusal : Fields → ℕ → ℕ
build_refusal f room =
    check (leb f.apid 2047) 40
    (check (leb f.count 16383) 41
    (check (leb (length f.args) 255) 42
    (check (leb f.pads 127) 43
    (check (leb (size_of f) room) 44 0))))

-- the builder's table of answers: the number of each refusal
abbrev pub number_of : Unbuildable → ℕ
number_of ApidTooHigh = 40
number_of CountTooHigh = 41
number_of TooManyArguments = 42
number_of TooManyPads = 43
number_of OutputTooSmall = 44

-- what is handed back: 0 and the bytes written, or the number of the refusal and 0
abbrev pub handed_back : Result ℕ Unbuildable → Built
handed_back (Ok n) = record { answer = 0; written = n }
handed_back (Err r) = record { answer = number_of r; written = 0 }

-- 0 and the packet's size, or the refusal and 0
unfoldable pub built_of : Fields → ℕ → Built
built_of f room =
    cond (eqb (build_refusal f room) 0)
    (record { answer = 0; written = size_of f })
    (record { answer = build_refusal f room; written = 0 })

-- the packet from the start of the output, later bytes stay; a refusal writes nothing
unfoldable pub built_output : Fields → List ℕ → List ℕ
built_output f out = cond (eqb (build_refusal f (length out)) 0) (over (packet_of f) out) out
