-- What the loop of a replay keeps true, and its laws: it holds at the start, an answered event keeps it, and each way out is the
-- piece that the definitions ask for.
use Rattle.std.specs.Prelude.{◌≡◌, refl, true, List, [], ◌∷◌, ◌++◌, ℕ, ◌+◌, ◌-◌, ◌<◌, ◌≤◌, length, take, drop}
use Rattle.std.proofs.Common.{sym, ap, subst, ◌∙◌, append_assoc, append-nil, zero-add, add-zero, arith, length-append, length-drop, eq-eqb, ne_eqb, le-leb, lt-ltb}
use Rattle.std.proofs.Math.Path.{subst⁻¹}
use Rattle.std.proofs.Math.Nat.{sub-zero}
use Rattle.std.proofs.Math.Dec.{leb-suc-suc}
use Rattle.std.proofs.lemmas.Bool.{lt-leb}
use Rattle.state.specs.declared.types.Config.{Config}
use Rattle.state.specs.declared.types.Run.{Run}
use Rattle.state.specs.Tables.{Tables, tables_of}
use Rattle.state.specs.Keeps.{Keeps}
use Rattle.step_effects.specs.Dispatch.{over}
use Rattle.wire.specs.Put.{put_at}
use Rattle.image_rules.specs.Records.{Record, cut, record_at, records_from, records_of}
use Rattle.image_rules.specs.RecordLaws.{Whole, body_at}
use Rattle.image_rules.proofs.RecordLaws.{whole_at, body_ends, one_from, none_from}
use Rattle.step_rules.specs.declared.types.Stepped.{Stepped}
use Rattle.history.specs.Plain.{Event, Reply}
use Rattle.history.specs.Path.{step, bytes_for, reply_of, after}
use Rattle.history.specs.Calls.{EventBytes}
use Rattle.history.proofs.Calls.{step_keeps}
use Rattle.replay_rules.specs.declared.types.Piece.{Piece}
use Rattle.replay_rules.specs.Recording.{cut_short, output_full, event_in, event_refusal, kind_refusal, events_of, bytes_in, head_bytes, reply_bytes, all_bytes, event_room, head_size}
use Rattle.replay_rules.specs.Replay.{stop_of, answered, path_replies, piece, stopped_at}
use Rattle.replay_rules.specs.OutputLaws.{back_as, part_from}
use Rattle.replay_rules.proofs.OutputLaws.{part_is, reply_put, answer_put}
use Rattle.replay_rules.proofs.PathLaws.{written_is}

-- ---- the piece that the rest of a recording makes of what was done before

module _ (t : Tables) where
  abbrev pub piece_from : Run → ℕ → ℕ → ℕ → List Record → List Reply → Piece
  piece_from s read count wrote rs xs =
      record {
        run = after t s (answered xs rs);
        stop = stop_of xs rs;
        read = read + bytes_in (take (length xs) rs);
        count = count + length xs;
        wrote = wrote + length (all_bytes xs);
      }

  from_start : (s : Run) (rs : List Record) (xs : List Reply) → piece_from s 0 0 0 rs xs ≡ piece t s rs xs
  from_start s rs xs = simp zero-add

  -- no reply more
  stands : (s : Run) (read count wrote : ℕ) (rs : List Record) → piece_from s read count wrote rs [] ≡ stopped_at s (stop_of [] rs) read count wrote
  stands s read count wrote rs = simp add-zero

  -- one reply more
  module _ (s : Run) (read count wrote room : ℕ) (r : Record) (rs : List Record) (z : event_refusal r ≡ 0) where
    abbrev next : Stepped
    next = step t s (event_in r)

    abbrev x : Reply
    x = reply_of t (event_in r) next

    more_replies : event_room ≤ room - wrote → path_replies t s (r ∷ rs) (room - wrote) ≡ x ∷ path_replies t next.run rs (room - (wrote + length (reply_bytes x)))
    more_replies l =
        let less : room - wrote - length (reply_bytes x) ≡ room - (wrote + length (reply_bytes x)) = omega arith in
        rw (eq-eqb _ _ z, le-leb event_room (room - wrote) l, less)

    more_piece : (xs : List Reply) → piece_from s read count wrote (r ∷ rs) (x ∷ xs) ≡ piece_from next.run (read + (4 + length r.body)) (count + 1) (wrote + length (reply_bytes x)) rs xs
    more_piece xs =
        let n : read + (4 + length r.body + bytes_in (take (length xs) rs)) ≡ read + (4 + length r.body) + bytes_in (take (length xs) rs) = omega arith in
        let m : count + (length (x ∷ xs)) ≡ count + 1 + length xs = omega arith in
        let w : wrote + length (reply_bytes x ++ all_bytes xs) ≡ wrote + length (reply_bytes x) + length (all_bytes xs) = omega (arith, length-append (reply_bytes x) (all_bytes xs)) in
        rw (eq-eqb _ _ z, n, m, w, leb-suc-suc)

-- ---- the invariant

-- what was read is answered in the output, and the rest makes of it the piece of the whole recording
pub record Going (c : Config) (bs out₀ : List ℕ) (s₀ : Run) (out : List ℕ) (s : Run) (read count wrote : ℕ) : Type 0 where
  pub done : List ℕ
  pub fuel : ℕ
  pub inside : read ≤ length bs
  pub enough : length bs ≤ fuel + read
  pub few : count ≤ read
  pub keeps : Keeps c s
  pub wrote_is : wrote ≡ length done
  pub fits : wrote ≤ length out₀
  pub out_is : out ≡ over done out₀
  pub rest : let rs = records_from fuel bs read in
      piece_from (tables_of c) s read count wrote rs (path_replies (tables_of c) s rs (length out₀ - wrote)) ≡ piece (tables_of c) s₀ (records_of bs) (path_replies (tables_of c) s₀ (records_of bs) (length out₀))
  pub bytes : let rs = records_from fuel bs read in
      done ++ all_bytes (path_replies (tables_of c) s rs (length out₀ - wrote)) ≡ all_bytes (path_replies (tables_of c) s₀ (records_of bs) (length out₀))

-- the piece and the output that the contract asks for
pub record Told (c : Config) (bs out₀ : List ℕ) (s₀ : Run) (out : List ℕ) (p : Piece) : Type 0 where
  pub told : p ≡ piece (tables_of c) s₀ (records_of bs) (path_replies (tables_of c) s₀ (records_of bs) (length out₀))
  pub output : out ≡ over (all_bytes (path_replies (tables_of c) s₀ (records_of bs) (length out₀))) out₀

pub start : {c : Config} {s₀ : Run} → Keeps c s₀ → (bs out₀ : List ℕ) → Going c bs out₀ s₀ out₀ s₀ 0 0 0
start {c} {s₀} k bs out₀ =
    record {
      done = [];
      fuel = length bs;
      inside = omega arith;
      enough = omega arith;
      few = omega arith;
      keeps = k;
      wrote_is = refl;
      fits = omega arith;
      out_is = refl;
      rest = rw (sub-zero (length out₀)) (from_start (tables_of c) s₀ (records_of bs) (path_replies (tables_of c) s₀ (records_of bs) (length out₀)));
      bytes = rw (sub-zero (length out₀));
    }

module _ {c : Config} {bs out₀ : List ℕ} {s₀ : Run} {out : List ℕ} {s : Run} {read count wrote : ℕ} (g : Going c bs out₀ s₀ out s read count wrote) where
  abbrev t : Tables
  t = tables_of c

  abbrev records : List Record
  records = records_from g.fuel bs read

  -- the output is as long as it was
  pub same : length out ≡ length out₀
  same = rw g.out_is (length-append g.done (drop (length g.done) out₀) ∙ omega (arith, length-drop (length g.done) out₀, g.wrote_is, g.fits))

  -- where no reply follows, this is all
  stops : {n : ℕ} → path_replies t s records (length out₀ - wrote) ≡ [] → stop_of [] records ≡ n → Told c bs out₀ s₀ out (stopped_at s n read count wrote)
  stops e q =
      record {
        told = ap (λ k. stopped_at s k read count wrote) (sym q) ∙ sym (stands t s read count wrote records) ∙ (rw e at g.rest);
        output = g.out_is ∙ ap (λ (d : List ℕ). over d out₀) (sym (append-nil g.done) ∙ (rw e at g.bytes));
      }

  pub ends : length bs ≤ read → Told c bs out₀ s₀ out (stopped_at s 0 read count wrote)
  ends l = let none = none_from g.fuel bs read l in stops (rw none) (rw none)

  pub cuts : read < length bs → record_at bs read ≡ cut read → Told c bs out₀ s₀ out (stopped_at s cut_short read count wrote)
  cuts l e =
      let one : records ≡ cut read ∷ [] = one_from g.fuel bs read g.enough l ∙ rw e in
      stops (rw one) (rw one)

  -- a whole record at the cursor
  module _ {kind end : ℕ} (l : read < length bs) (h : Whole bs read kind end) where
    abbrev pub found : Record
    found = record { place = read; whole = true; kind = kind; body = body_at bs read end }

    here : records ≡ found ∷ records_from (g.fuel - 1) bs end
    here = one_from g.fuel bs read g.enough l ∙ rw (whole_at h) (ap (λ k. found ∷ records_from (g.fuel - 1) bs k) (body_ends h))

    module _ {n : ℕ} (e : n ≡ kind_refusal kind (length (body_at bs read end))) where
      pub refuses : (n ≡ 0 → ⊥) → Told c bs out₀ s₀ out (stopped_at s n read count wrote)
      refuses q = stops (rw (here, ← e) (simp (ne_eqb n 0 q))) (rw (here, ← e) (simp (ne_eqb n 0 q)))

      pub cramped : n ≡ 0 → length out₀ - wrote < event_room → Told c bs out₀ s₀ out (stopped_at s output_full read count wrote)
      cramped z q =
          let good = eq-eqb _ _ (sym e ∙ z) in
          stops (rw (here, good) (simp (lt-leb event_room (length out₀ - wrote) q))) (rw (here, good, lt-ltb 0 (length (event_in found ∷ events_of (records_from (g.fuel - 1) bs end))) (omega arith)))

      module _ (z : n ≡ 0) (q : event_room ≤ length out₀ - wrote) where
        -- the invariant behind a reply that was put behind the others
        abbrev Turned : Event → List ℕ → Stepped → Type 0
        Turned ev put next =
            put ≡ over (g.done ++ reply_bytes (reply_of t ev next)) out₀ → wrote + head_size + next.answer.written ≤ length out₀
            → Going c bs out₀ s₀ put next.run end (count + 1) (wrote + head_size + next.answer.written)

        turned : EventBytes (event_in found) → (put : List ℕ) → Turned (event_in found) put (step t s (event_in found))
        turned b put p f =
            let good = sym e ∙ z in
            let now = step t s (event_in found) in
            let rs = records_from (g.fuel - 1) bs end in
            let x = reply_of t (event_in found) now in
            let xs = path_replies t now.run rs (length out₀ - (wrote + length (reply_bytes x))) in
            let long : wrote + head_size + now.answer.written ≡ wrote + length (reply_bytes x) = omega (arith, written_is t s (event_in found)) in
            let behind : end ≡ read + (4 + length (body_at bs read end)) = omega (arith, body_ends h) in
            let first = more_replies t s read count wrote (length out₀) found rs good q in
            record {
              done = g.done ++ reply_bytes x;
              fuel = g.fuel - 1;
              inside = h.inside;
              enough = omega (arith, g.enough, h.end_is);
              few = omega (arith, g.few, h.end_is);
              keeps = step_keeps g.keeps (event_in found) b;
              wrote_is = omega (arith, long, g.wrote_is, length-append g.done (reply_bytes x));
              fits = f;
              out_is = p;
              rest =
                  rw long
                  (ap (λ k. piece_from t now.run k (count + 1) (wrote + length (reply_bytes x)) rs xs) behind
                  ∙ sym (more_piece t s read count wrote (length out₀) found rs good xs)
                  ∙ (rw (here, first) at g.rest));
              bytes = rw long (append_assoc g.done (reply_bytes x) (all_bytes xs) ∙ (rw (here, first) at g.bytes));
            }

        -- this event, and the step that it got
        module _ {ev : Event} (is : event_in found ≡ ev) (b : EventBytes ev) {next : Stepped} (w : next ≡ step t s ev) where
          turn : (put : List ℕ) → Turned ev put next
          turn put = subst⁻¹ (λ (n : Stepped). Turned ev put n) w (subst (λ (v : Event). EventBytes v → (put : List ℕ) → Turned v put (step t s v)) is turned b put)

          abbrev numbers : List ℕ
          numbers = head_bytes next.answer.answer next.answer.id next.answer.dest next.answer.written

          abbrev command : List ℕ
          command = bytes_for t ev next.answer.answer

          counted : length command ≡ next.answer.written
          counted = rw w (written_is t s ev)

          -- a step that was lent the output behind the place of its numbers; they are put there once it is back
          pub goes_on : {part : List ℕ} → part ≡ over command (part_from out (wrote + head_size)) → length part ≡ length (part_from out (wrote + head_size))
              → {put : List ℕ} → put ≡ put_at (back_as out (wrote + head_size) part) wrote numbers
              → Going c bs out₀ s₀ put next.run end (count + 1) (wrote + head_size + next.answer.written)
          goes_on {part} e k {put} p =
              let room : length (part_from out (wrote + head_size)) ≡ length out₀ - (wrote + head_size) = rw (part_is out (wrote + head_size), length-drop (wrote + head_size) out, same) in
              let short : length command + length (drop (length command) (part_from out (wrote + head_size))) ≡ length out₀ - (wrote + head_size) = sym (length-append command _) ∙ ap length (sym e) ∙ k ∙ room in
              turn put
              (p ∙ rw g.out_is (reply_put out₀ g.done wrote g.wrote_is numbers command refl (omega (arith, q)) (omega (arith, g.fits, g.wrote_is)) (rw g.out_is at e)))
              (omega (arith, counted, short, q))

          -- a step that was lent nothing
          pub goes_on_silent : command ≡ [] → {put : List ℕ} → put ≡ put_at out wrote numbers
              → Going c bs out₀ s₀ put next.run end (count + 1) (wrote + head_size + next.answer.written)
          goes_on_silent n {put} p =
              turn put
              (p ∙ rw g.out_is (answer_put out₀ g.done wrote g.wrote_is numbers command refl n))
              (omega (arith, counted, ap length n, q))
