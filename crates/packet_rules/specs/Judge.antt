-- Document 01, the packet judge: its checks in the order of their numbers, its answer, and the enquiry beside it.
use Rattle.std.specs.Prelude.{List, [], cond, ℕ, ◌+◌, ◌-◌, length, leb, eqb}
use Rattle.wire.specs.Check.{check}
use Rattle.wire.specs.Xor.{xor_all}
use Rattle.packet_rules.specs.declared.types.Judged.{Judged}
use Rattle.packet_rules.specs.Layout.{version, packet_type, secondary, length_field, data_length, pads, command_id, arg_count, argument_part}

-- the checks of the header's bits and of the XOR of every byte, pads too; then what follows
abbrev pub form_checks : List ℕ → ℕ → ℕ
form_checks s next =
    check (eqb (version s) 0) 24
    (check (eqb (packet_type s) 1) 25
    (check (eqb (secondary s) 1) 26
    (check (eqb (xor_all s) 0) 27 next)))

-- the first refusal in the order of the numbers, or 0
unfoldable pub refusal_of : List ℕ → ℕ
refusal_of s =
    check (leb 6 (length s)) 22
    (check (eqb (length s) (7 + length_field s)) 23
    (form_checks s
    (check (leb 4 (data_length s - pads s)) 28
    (check (leb (arg_count s) 255) 29 0))))

-- the checks 24 to 27 by themselves
unfoldable pub form_refusal : List ℕ → ℕ
form_refusal s = form_checks s 0

-- 0 with command id and argument count, or the first refusal with every other number zero
unfoldable pub judge_of : List ℕ → Judged
judge_of s =
    cond (eqb (refusal_of s) 0)
    (record { answer = 0; id = command_id s; count = arg_count s })
    (record { answer = refusal_of s; id = 0; count = 0 })

-- the argument part; for a packet that the judge refuses the empty part
unfoldable pub arguments_of : List ℕ → List ℕ
arguments_of s = cond (eqb (refusal_of s) 0) (argument_part s) []

-- where it begins: byte 10; for a packet that the judge refuses the packet's start
unfoldable pub arguments_at : List ℕ → ℕ
arguments_at s = cond (eqb (refusal_of s) 0) 10 0
