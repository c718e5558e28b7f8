-- Building and reading are inverse to each other: `built_reads` from fields that fit to packets in form, `read_builds` from packets
-- of bytes in form to their fields; `built_bytes` and `read_held` say that bytes stay bytes. First what the judge, the enquiry and
-- the header reader say of a packet that was built.
use Rattle.std.specs.Prelude.{◌≡◌, ℕ, ◌-◌, ◌/◌, ◌%◌, length}
use Rattle.std.proofs.Math.Path.{refl, sym, ap, ap₂}
use Rattle.std.proofs.Common.{◌∙◌, length-take, length-drop, take-append-drop, ext_get_or}
use mathlib.Core.List.{List, [], ◌∷◌, ◌++◌}
use native.Mathlib.Omega.{arith}
use Rattle.std.proofs.Math.ListN.{drop}
use Rattle.std.proofs.lemmas.List.{length-replicate}
use Rattle.std.proofs.Math.Seq.{take-append_seam, drop-append_seam}
use Rattle.wire.specs.Bytes.{Bytes, bytes_cons, bytes_append, bytes_none, bytes_zeros, zero_at, part_bytes, xor_byte}
use Rattle.wire.specs.Put.{zero_bytes}
use Rattle.wire.specs.Xor.{xor_all}
use Rattle.wire.specs.XorLaws.{xor_closed, xor_closes}
use Rattle.packet_header.specs.Header.{header_of, header_whole}
use Rattle.packet_rules.specs.Layout.{byte, apid, seq_count, length_field, pads, command_id, arg_count, argument_part, pad_part}
use Rattle.packet_rules.specs.Judge.{judge_of, arguments_of}
use Rattle.packet_rules.specs.JudgeOutcome.{Accepts}
use Rattle.packet_rules.proofs.JudgeLaws.{none_refuses, accepts, judge_accepted, arguments_accepted}
use Rattle.packet_rules.proofs.PacketParts.{pad_count}
use Rattle.packet_rules.specs.HeaderBytes.{header_bytes, HeaderFits, HeaderIs}
use Rattle.packet_rules.proofs.HeaderBytes.{header_read, header_bytes_lem, header_written, first_ten}
use Rattle.build_rules.specs.Build.{Fields, given, length_field_for, front, back, packet_of}
use Rattle.build_rules.specs.BuildOutcome.{Fits}
use Rattle.build_rules.specs.Form.{Held, InForm, fields_of}
use Rattle.build_rules.proofs.BuildLaws.{packet_size}

-- ---- from fields to a packet

module _ (f : Fields) (fits : Fits f) where
  header_fits : HeaderFits 1 1 f.apid f.count (length_field_for f)
  header_fits = search arith

  header_is : HeaderIs (packet_of f) 1 1 f.apid f.count (length_field_for f)
  unfolding packet_of
  header_is = header_read 1 1 f.apid f.count (length_field_for f) _ header_fits

  pub built_accepted : Accepts (packet_of f)
  unfolding packet_of
  built_accepted =
      let h = header_is in
      let long = packet_size f in
      record {
        sized = record { long = omega arith; whole = omega arith };
        formed = record {
          version_0 = h.version_0;
          telecommand = h.kind_is;
          with_secondary = h.flag_is;
          xor_0 = xor_closed (front f) (back f);
        };
        room = omega arith;
        few = omega arith;
      }

  pads_is : pads (packet_of f) ≡ f.pads
  unfolding packet_of
  pads_is = omega arith

  count_is : arg_count (packet_of f) ≡ length f.args
  count_is = let h = header_is in let p = pads_is in omega arith

  behind_ten : drop 10 (packet_of f) ≡ f.args ++ zero_bytes f.pads
  unfolding packet_of
  behind_ten = refl

  id_is : command_id (packet_of f) ≡ f.id
  unfolding packet_of
  id_is = omega arith

  -- the judge accepts it with the same id and as many arguments, the enquiry gives the same arguments
  pub built_judged : judge_of (packet_of f) ≡ record { answer = 0; id = f.id; count = length f.args }
  built_judged = sym (judge_accepted (packet_of f) f.id (length f.args) (none_refuses built_accepted, sym id_is, sym count_is))

  pub built_arguments : arguments_of (packet_of f) ≡ f.args
  built_arguments =
      arguments_accepted (packet_of f) built_accepted ∙ rw (count_is, behind_ten) (take-append_seam f.args (zero_bytes f.pads))

  -- the header reader gives back APID, count and flags 3
  pub built_header : header_of (packet_of f)
      ≡ record { answer = 0; version = 0; kind = 1; secondary = 1; apid = f.apid; flags = 3; count = f.count; length = length_field_for f }
  built_header =
      let h = header_is in
      sym (header_whole (packet_of f) 0 1 1 f.apid 3 f.count (length_field_for f)
      (omega (arith, packet_size f), sym h.version_0, sym h.kind_is, sym h.flag_is, sym h.apid_is, sym h.both_set, sym h.count_is, sym h.field_is))

  top_bit : byte 6 (packet_of f) / 128 ≡ 0
  unfolding packet_of
  top_bit = omega arith

  -- fields that the code can hold make a packet of bytes
  pub built_bytes : Held f → Bytes (packet_of f)
  unfolding packet_of
  built_bytes held =
      let before : Bytes (front f) =
      bytes_append (header_bytes 1 1 f.apid f.count (length_field_for f)) (f.pads ∷ []) (header_bytes_lem 1 1 f.apid f.count (length_field_for f) header_fits)
      (bytes_cons f.pads [] (omega arith) bytes_none) in
      let behind : Bytes (back f) =
      bytes_cons (f.id / 256) (f.id % 256 ∷ f.args ++ zero_bytes f.pads) (omega arith)
      (bytes_cons (f.id % 256) (f.args ++ zero_bytes f.pads) (omega arith) (bytes_append f.args (zero_bytes f.pads) held.args_bytes (bytes_zeros f.pads))) in
      bytes_append (front f) (xor_all (front f ++ back f) ∷ back f) before (bytes_cons (xor_all (front f ++ back f)) (back f) (xor_byte (front f ++ back f) (bytes_append (front f) (back f) before behind)) behind)

-- what is built is in form, and its own fields are those it was built from
pub built_reads : (f : Fields) → Fits f → InForm (packet_of f) × (fields_of (packet_of f) ≡ f)
built_reads f fits =
    let left : length_field_for f - 3 - length f.args ≡ f.pads = omega arith in (
      record {
        accepted = none_refuses (built_accepted f fits);
        both_set = (header_is f fits).both_set;
        high_bit = omega (arith, top_bit f fits);
        zero_pads = λ k. rw (count_is f fits, behind_ten f fits, drop-append_seam f.args (zero_bytes f.pads)) (zero_at f.pads _);
      },
      simp (built_header f fits, built_judged f fits, built_arguments f fits, left),
    )

-- ---- from a packet to its fields, and back

-- the fields of the layout
abbrev laid_out : List ℕ → Fields
laid_out s = given (apid s) (seq_count s) (command_id s) (argument_part s) (pads s)

module _ (s : List ℕ) (bytes : Bytes s) (form : InForm s) where
  taken : Accepts s
  taken = accepts s form.accepted

  args_long : length (argument_part s) ≡ arg_count s
  args_long = let a = taken in simp (length-take, length-drop) (omega arith)

  -- are what the readers give
  own_is : fields_of s ≡ laid_out s
  own_is =
      let a = taken in
      let header = header_whole s _ _ _ _ _ _ _ (a.sized.long, refl, refl, refl, refl, refl, refl, refl) in
      let judged = judge_accepted s (command_id s) (arg_count s) (form.accepted, refl, refl) in
      let left : length_field s - 3 - length (argument_part s) ≡ pads s = omega (arith, args_long) in
      simp (← header, ← judged, arguments_accepted s a, left)

  own_field : length_field_for (laid_out s) ≡ length_field s
  own_field = let a = taken in omega (arith, args_long)

  pads_zero : pad_part s ≡ zero_bytes (pads s)
  pads_zero =
      ext_get_or 0 (pad_part s) (zero_bytes (pads s)) (pad_count taken ∙ sym (length-replicate {A = ℕ} (pads s) 0))
      (λ k h. form.zero_pads k ∙ sym (zero_at (pads s) k))

  -- the seven bytes before the checksum, and all behind it
  front_is : front (laid_out s) ≡ byte 0 s ∷ byte 1 s ∷ byte 2 s ∷ byte 3 s ∷ byte 4 s ∷ byte 5 s ∷ byte 6 s ∷ []
  front_is =
      let f = taken.formed in
      let header : HeaderIs s 1 1 (apid s) (seq_count s) (length_field s) = record {
        version_0 = f.version_0;
        kind_is = f.telecommand;
        flag_is = f.with_secondary;
        apid_is = refl;
        both_set = form.both_set;
        count_is = refl;
        field_is = refl;
      } in
      let six = header_written s 1 1 (apid s) (seq_count s) (length_field s) bytes header in
      let code : pads s ≡ byte 6 s = omega (arith, form.high_bit, bytes 6) in
      ap (λ (n : ℕ). header_bytes 1 1 (apid s) (seq_count s) n ++ pads s ∷ []) own_field ∙ ap₂ (λ (h : List ℕ) (c : ℕ). h ++ c ∷ []) six code

  back_is : back (laid_out s) ≡ byte 8 s ∷ byte 9 s ∷ drop 10 s
  back_is =
      let low = bytes 9 in
      let hi : command_id s / 256 ≡ byte 8 s = omega arith in
      let lo : command_id s % 256 ≡ byte 9 s = omega arith in
      let rest : argument_part s ++ zero_bytes (pads s) ≡ drop 10 s = rw (← pads_zero) (take-append-drop (arg_count s) (drop 10 s)) in
      ap₂ (λ (x y : ℕ). x ∷ y ∷ argument_part s ++ zero_bytes (pads s)) hi lo ∙ ap (λ (r : List ℕ). byte 8 s ∷ byte 9 s ∷ r) rest

  own_fits : Fits (laid_out s)
  own_fits =
      let a = taken in
      record {
        apid_fits = omega (arith, bytes 1);
        count_fits = omega (arith, bytes 3);
        few_args = omega (arith, args_long);
        few_pads = omega arith;
      }

  own_held : Held (laid_out s)
  own_held = record { two_bytes = omega (arith, bytes 8, bytes 9); args_bytes = part_bytes s bytes 10 (arg_count s) }

  rebuilt : packet_of (laid_out s) ≡ s
  unfolding packet_of
  rebuilt =
      let a = byte 0 s ∷ byte 1 s ∷ byte 2 s ∷ byte 3 s ∷ byte 4 s ∷ byte 5 s ∷ byte 6 s ∷ [] in
      let b = byte 8 s ∷ byte 9 s ∷ drop 10 s in
      let t = taken in
      let ten : s ≡ a ++ byte 7 s ∷ b = first_ten s (omega arith) in
      let sum : byte 7 s ≡ xor_all (a ++ b) = xor_closes a (byte 7 s) b (ap xor_all (sym ten) ∙ t.formed.xor_0) in
      ap₂ (λ (x y : List ℕ). x ++ xor_all (x ++ y) ∷ y) front_is back_is ∙ ap (λ (c : ℕ). a ++ c ∷ b) (sym sum) ∙ sym ten

-- a packet of bytes in form is built again, byte for byte, from its own fields, which fit
pub read_builds : (s : List ℕ) → Bytes s → InForm s → Fits (fields_of s) × (packet_of (fields_of s) ≡ s)
read_builds s b form = rw (own_is s b form) (own_fits s b form, rebuilt s b form)

-- and which the code can hold
pub read_held : (s : List ℕ) → Bytes s → InForm s → Held (fields_of s)
read_held s b form = rw (own_is s b form) (own_held s b form)
