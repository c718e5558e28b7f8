-- Document 01, "Packet layout": the fields of a telecommand packet, on the list of its bytes. Numbers are big-endian.
use Rattle.std.specs.Prelude.{List, ℕ, ◌+◌, ◌-◌, ◌*◌, ◌/◌, ◌%◌, get_or, take, drop}

-- the byte at a place
abbrev pub byte : ℕ → List ℕ → ℕ
byte k s = get_or s k 0

-- two bytes, big-endian
abbrev pub word : ℕ → ℕ → ℕ
word hi lo = hi * 256 + lo

-- ---- the primary header

-- the high three bits of byte 0
abbrev pub version : List ℕ → ℕ
version s = byte 0 s / 32

-- the next bit: 1 is telecommand
abbrev pub packet_type : List ℕ → ℕ
packet_type s = byte 0 s / 16 % 2

-- the next bit
abbrev pub secondary : List ℕ → ℕ
secondary s = byte 0 s / 8 % 2

-- the low three bits, and byte 1
abbrev pub apid : List ℕ → ℕ
apid s = word (byte 0 s % 8) (byte 1 s)

-- bytes 2 and 3: two bits of sequence flags, fourteen of sequence count
abbrev pub seq_flags : List ℕ → ℕ
seq_flags s = byte 2 s / 64

abbrev pub seq_count : List ℕ → ℕ
seq_count s = word (byte 2 s % 64) (byte 3 s)

-- bytes 4 and 5 hold the data length less one
abbrev pub length_field : List ℕ → ℕ
length_field s = word (byte 4 s) (byte 5 s)

abbrev pub data_length : List ℕ → ℕ
data_length s = length_field s + 1

-- ---- behind it

-- byte 6, the function code: its low seven bits count the pad bytes, its high bit is ignored
abbrev pub pads : List ℕ → ℕ
pads s = byte 6 s % 128

-- bytes 8 and 9
abbrev pub command_id : List ℕ → ℕ
command_id s = word (byte 8 s) (byte 9 s)

-- the number of argument bytes
abbrev pub arg_count : List ℕ → ℕ
arg_count s = data_length s - pads s - 4

-- the argument bytes, from byte 10 on; the pad bytes behind them
abbrev pub argument_part : List ℕ → List ℕ
argument_part s = take (arg_count s) (drop 10 s)

abbrev pub pad_part : List ℕ → List ℕ
pad_part s = drop (arg_count s) (drop 10 s)
