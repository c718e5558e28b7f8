-- A recording that comes in pieces: each call of `resume` goes on with what the call before left unread and the run that it
-- handed back. However the bytes are cut, and whatever room each call has, the calls answer the first events of the whole
-- recording in their order, as many as they counted; all of them, where the last call does not stop for room.
use Rattle.std.specs.Prelude.{◌≡◌, refl, Bool, true, false, ◌⊎◌, List, [], ◌∷◌, ◌++◌, ℕ, zero, suc, ◌+◌, ◌*◌, ◌<◌, ◌≤◌, eqb, ltb, length, take, drop}
use Rattle.std.proofs.Common.{sym, ap, ◌∙◌, ⊎_elim, append_assoc, append-nil, arith, length-append, length-take, length-take-le, get_or-drop, eqb-true, le-ltb, ltb-false}
use Rattle.std.proofs.Math.Seq.{take-append-add, take-append_seam}
use Rattle.std.proofs.lemmas.List.{drop-append-le}
use Rattle.state.specs.declared.types.Config.{Config}
use Rattle.state.specs.declared.types.Run.{Run}
use Rattle.state.specs.Tables.{Tables, tables_of}
use Rattle.state.specs.Test.{keeps_rules}
use Rattle.state.proofs.KeepsLaws.{split}
use Rattle.wire.specs.Bytes.{Bytes, part_bytes}
use Rattle.image_rules.specs.Records.{Record, records_of}
use Rattle.state.specs.Keeps.{Each}
use Rattle.image_load.specs.Image.{load_of}
use Rattle.image_load.proofs.LoadTheorems.{loaded_keeps}
use Rattle.history.specs.Plain.{Event, Reply, replies, latest_first}
use Rattle.history.specs.Known.{known_counts}
use Rattle.history.proofs.Agree.{agree, counters}
use Rattle.history.specs.Path.{step, reply_of, run}
use Rattle.replay_rules.specs.declared.types.Piece.{Piece}
use Rattle.replay_rules.specs.Recording.{cut_short, other_kind, wrong_length, output_full, events_of, first_refusal, reply_bytes, all_bytes, fitting, event_room}
use Rattle.replay_rules.specs.Replay.{idle, piece_of, piece_bytes, replay_of}
use Rattle.replay_rules.proofs.ReplayTheorems.{first_replies, all_answered, replies_long, refusal_range, run_pieces, after_pieces, run_long, path_answered}
use Rattle.replay_rules.proofs.RecordPieces.{same_test, first_inside, events_then_rest, refusal_of_rest, bytes_then_rest, bad_stays, bytes_keep}
use Rattle.replay_rules.specs.Pieces.{FirstAnswers, joined, Turn, chain, chain_bytes, all_more}

-- ---- one call

module _ (t : Tables) where
  run_first : (k : ℕ) (s : Run) (es : List Event) → take k (run t s es) ≡ run t s (take k es)
  run_first zero s es = refl
  run_first (suc k) s [] = refl
  run_first (suc k) s (e ∷ es) = ap (λ (xs : List Reply). reply_of t e (step t s e) ∷ xs) (run_first k (step t s e).run es)

-- one call, on a state that keeps its rules: the first answers of its bytes
pub one_piece : (c : Config) (s : Run) (recording : List ℕ) (room : ℕ) → keeps_rules c s ≡ true → FirstAnswers c s recording (piece_of c s recording room) (piece_bytes c s recording room)
unfolding piece_of piece_bytes
one_piece c s recording room h =
    let xs = run (tables_of c) s (events_of (records_of recording)) in
    let first = first_replies room xs in
    rw h
    (record {
      few = omega (arith, ap length first, length-take (length (fitting room xs)) xs, run_long (tables_of c) s (events_of (records_of recording)));
      out_is = ap all_bytes first;
      run_is = refl;
      read_is = refl;
      stop_is = refl;
      wrote_is = refl;
    })

-- it leaves a state that keeps its rules, so that no later call is refused for it
pub piece_keeps : (c : Config) (s : Run) (recording : List ℕ) (room : ℕ) → keeps_rules c s ≡ true → Bytes recording → keeps_rules c (piece_of c s recording room).run ≡ true
piece_keeps c s recording room h b = rw (one_piece c s recording room h).run_is (bytes_keep c s recording b h (piece_of c s recording room).count)

-- a call on a state that breaks its rules reads nothing
idles : (c : Config) (s : Run) → keeps_rules c s ≡ false → (recording : List ℕ) (room : ℕ) → (piece_of c s recording room ≡ idle s 20) × (piece_bytes c s recording room ≡ [])
unfolding piece_of piece_bytes
idles c s e recording room = rw e (refl, refl)

-- no bad record is told as a full output is
not_full : (rs : List Record) → first_refusal rs ≡ output_full → ⊥
not_full rs e = ⊎_elim (λ z. omega arith) (λ r. omega (arith, r.1)) (refusal_range rs)

-- with its room for each event no call stops for room, on whatever state
pub room_enough : (c : Config) (s : Run) (recording : List ℕ) (room : ℕ) → event_room * length (events_of (records_of recording)) ≤ room → (piece_of c s recording room).stop ≡ output_full → ⊥
unfolding piece_of
room_enough c s recording room l e =
    let rs = records_of recording in
    let es = events_of rs in
    let full = le-ltb (length es) (length es) (omega arith) in
    split ⊥ (keeps_rules c s)
    (λ k. not_full rs (rw (k, path_answered c s k es room l, run_long (tables_of c) s es, full) at e))
    (λ k. omega (arith, rw k at e))

-- nor does a replay
pub replay_room_enough : (image recording : List ℕ) (room : ℕ) → event_room * length (events_of (records_of recording)) ≤ room → (replay_of image recording room).stop ≡ output_full → ⊥
unfolding replay_of
replay_room_enough image recording room l e =
    let rs = records_of recording in
    let es = events_of rs in
    let full = le-ltb (length es) (length es) (omega arith) in
    split ⊥ (eqb (load_of image).answer 0)
    (λ z. let w = all_answered image (eqb-true _ _ z) recording room l in not_full rs (rw (z, rw z at w, replies_long (records_of image) [] es, full) at e))
    (λ z. omega (arith, rw z at e))

bytes_append : (xs ys : List Reply) → all_bytes (xs ++ ys) ≡ all_bytes xs ++ all_bytes ys
bytes_append [] ys = refl
bytes_append (x ∷ xs) ys = rw (bytes_append xs ys) (sym (append_assoc (reply_bytes x) (all_bytes xs) (all_bytes ys)))

take_both : {A : Type 0} (k j : ℕ) (xs ys : List A) → length xs ≡ k → take (k + j) (xs ++ ys) ≡ xs ++ take j ys
take_both k j xs ys e = rw (← e) (take-append-add xs ys j)

-- the second on what the first left unread and the bytes that follow, and on its run: the first answers of the whole
pub two_answers : {c : Config} {s : Run} {a : List ℕ} {p : Piece} {out : List ℕ} (b : List ℕ) {q : Piece} {more : List ℕ}
    → FirstAnswers c s a p out → FirstAnswers c p.run (drop p.read a ++ b) q more → FirstAnswers c s (a ++ b) (joined p q) (out ++ more)
two_answers {c} {s} {a} {p} {out} b {q} {more} h g =
    let t = tables_of c in
    let es = events_of (records_of a) in
    let fs = events_of (records_of (drop p.read a ++ b)) in
    let whole : events_of (records_of (a ++ b)) ≡ take p.count es ++ fs = rw h.read_is (events_then_rest a b p.count h.few) in
    let k : length (take p.count es) ≡ p.count = length-take-le p.count es h.few in
    let long : length (events_of (records_of (a ++ b))) ≡ p.count + length fs = ap length whole ∙ length-append (take p.count es) fs ∙ rw k in
    let first : out ≡ all_bytes (run t s (take p.count es)) = h.out_is ∙ ap all_bytes (run_first t p.count s es) in
    let all : run t s (events_of (records_of (a ++ b))) ≡ run t s (take p.count es) ++ run t p.run fs = rw (whole, h.run_is) (run_pieces t s (take p.count es) fs) in
    record {
      few = omega (arith, long, g.few);
      out_is =
          rw (all, take_both p.count q.count (run t s (take p.count es)) (run t p.run fs) (run_long t s (take p.count es) ∙ k))
          (rw (bytes_append (run t s (take p.count es)) (take q.count (run t p.run fs)), ← first, ← g.out_is));
      run_is = rw (whole, take_both p.count q.count (take p.count es) fs k, after_pieces t s (take p.count es) (take q.count fs), ← h.run_is) g.run_is;
      read_is = rw (bytes_then_rest a b p.count h.few q.count, ← h.read_is, ← g.read_is);
      stop_is = rw (long, same_test (suc (p.count + q.count)) (p.count + length fs) (suc q.count) (length fs) (λ l. omega arith) (λ l. omega arith), refusal_of_rest a b p.count h.few, ← h.read_is) g.stop_is;
      wrote_is = omega (arith, length-append out more, h.wrote_is, g.wrote_is);
    }

-- so it is of two calls, with any bytes and any rooms
pub two_pieces : (c : Config) (s : Run) (a b : List ℕ) (room₁ room₂ : ℕ) → keeps_rules c s ≡ true → Bytes a
    → let p = piece_of c s a room₁ in
    let rest = drop p.read a ++ b in
    FirstAnswers c s (a ++ b) (joined p (piece_of c p.run rest room₂)) (piece_bytes c s a room₁ ++ piece_bytes c p.run rest room₂)
two_pieces c s a b room₁ room₂ k h = two_answers b (one_piece c s a room₁ k) (one_piece c _ _ room₂ (piece_keeps c s a room₁ k h))

-- where a reading did not stop for room, every event was answered
pub all_counted : {c : Config} {s : Run} {recording : List ℕ} {p : Piece} {out : List ℕ} → FirstAnswers c s recording p out → (p.stop ≡ output_full → ⊥)
    → p.count ≡ length (events_of (records_of recording))
all_counted {c} {s} {recording} {p} h n =
    split (p.count ≡ length (events_of (records_of recording))) (ltb p.count (length (events_of (records_of recording))))
    (λ t. absurd (n (h.stop_is ∙ rw t)))
    (λ t. omega (arith, h.few, ltb-false p.count (length (events_of (records_of recording))) t))

-- so two such readings of one recording come to the same
pub same_answers : {c : Config} {s : Run} {recording : List ℕ} {p q : Piece} {out left : List ℕ} → FirstAnswers c s recording p out → FirstAnswers c s recording q left
    → (p.stop ≡ output_full → ⊥) → (q.stop ≡ output_full → ⊥) → (p ≡ q) × (out ≡ left)
same_answers {c} {s} {recording} {p} {q} {out} {left} h g m n =
    let k : p.count ≡ q.count = all_counted h m ∙ sym (all_counted g n) in
    let same : out ≡ left = h.out_is ∙ rw k (sym g.out_is) in
    (fields p q (h.run_is ∙ rw k (sym g.run_is)) (h.stop_is ∙ rw k (sym g.stop_is)) (h.read_is ∙ rw k (sym g.read_is)) k (h.wrote_is ∙ rw same (sym g.wrote_is)), same)
  where
    fields : (p q : Piece) → p.run ≡ q.run → p.stop ≡ q.stop → p.read ≡ q.read → p.count ≡ q.count → p.wrote ≡ q.wrote → p ≡ q
    fields p q a b d e f = λ i. record { run = a i; stop = b i; read = d i; count = e i; wrote = f i }

-- behind a bad record nothing is read: a later call stops at it again, with the same number
pub bad_again : {c : Config} {s : Run} {a : List ℕ} {p : Piece} {out : List ℕ} (b : List ℕ) {q : Piece} {more : List ℕ}
    → FirstAnswers c s a p out → FirstAnswers c p.run (drop p.read a ++ b) q more → (p.stop ≡ other_kind) ⊎ (p.stop ≡ wrong_length)
    → (q.stop ≡ p.stop) × (q.count ≡ 0) × (q.read ≡ 0) × (q.run ≡ p.run) × (more ≡ [])
bad_again {c} {s} {a} {p} b {q} h g d =
    let l : cut_short < p.stop = ⊎_elim (λ e. omega arith) (λ e. omega arith) d in
    let u : p.stop < output_full = ⊎_elim (λ e. omega arith) (λ e. omega arith) d in
    let all = all_counted h (λ e. omega arith) in
    let whole = two_answers b h g in
    let stop : p.stop ≡ first_refusal (records_of a) = h.stop_is ∙ rw (le-ltb p.count (length (events_of (records_of a))) (omega arith)) in
    let same = bad_stays a b (λ e. omega arith) (λ e. omega arith) in
    let none : q.count ≡ 0 = omega (arith, whole.few, ap length same.0) in
    let again : q.stop ≡ p.stop = whole.stop_is ∙ rw (le-ltb (p.count + q.count) (length (events_of (records_of (a ++ b)))) (omega (arith, ap length same.0)), same.1, ← stop) in
    (again, none, rw none at g.read_is, rw none at g.run_is, rw none at g.out_is)

front_bytes : (a b : List ℕ) → Bytes (a ++ b) → Bytes a
front_bytes a b h = rw (take-append_seam a b) at (part_bytes (a ++ b) h 0 (length a))

rest_bytes : (n : ℕ) (a b : List ℕ) → n ≤ length a → Bytes (a ++ b) → Bytes (drop n a ++ b)
rest_bytes n a b l h = rw (← drop-append-le n a b l) (λ k. rw (get_or-drop n (a ++ b) k 0) (h (n + k)))

-- however many calls there are, they answer the first events of all the bytes, as many as they counted, each once
pub chain_answers : (c : Config) (s : Run) (a : List ℕ) (room : ℕ) (xs : List Turn) → keeps_rules c s ≡ true → Bytes (a ++ all_more xs)
    → FirstAnswers c s (a ++ all_more xs) (chain c s a room xs) (chain_bytes c s a room xs)
chain_answers c s a room [] k b = rw (append-nil a) (one_piece c s a room k)
chain_answers c s a room (x ∷ xs) k b =
    let p = piece_of c s a room in
    let more = x.more ++ all_more xs in
    let h = one_piece c s a room k in
    let same = append_assoc (drop p.read a) x.more (all_more xs) in
    let inside : p.read ≤ length a = omega (arith, h.read_is, first_inside a [] p.count h.few) in
    let kept = piece_keeps c s a room k (front_bytes a more b) in
    two_answers more h (rw same at (chain_answers c p.run (drop p.read a ++ x.more) x.room xs kept (rw same (rest_bytes p.read a more inside b))))

chain_idles : (c : Config) (s : Run) → keeps_rules c s ≡ false → (a : List ℕ) (room : ℕ) (xs : List Turn) → (chain c s a room xs ≡ idle s 20) × (chain_bytes c s a room xs ≡ [])
chain_idles c s e a room [] = idles c s e a room
chain_idles c s e a room (x ∷ xs) =
    let one = idles c s e a room in
    let rest = chain_idles c s e (a ++ x.more) x.room xs in
    rw (one.0, one.1, rest.0) (refl, rest.1)

-- from a load on they are the plain replies to the first events, and the counters those behind them; nothing is asked of rooms
pub pieces_agree : (image : List ℕ) → (load_of image).answer ≡ 0 → (a : List ℕ) (room : ℕ) (xs : List Turn) → Bytes (a ++ all_more xs)
    → let es = events_of (records_of (a ++ all_more xs)) in
    let n = (chain (load_of image).config (load_of image).run a room xs).count in
    (chain_bytes (load_of image).config (load_of image).run a room xs ≡ all_bytes (take n (replies (records_of image) [] es)))
    × ((chain (load_of image).config (load_of image).run a room xs).run.standing.counts ≡ known_counts (records_of image) (latest_first [] (take n es)))
pieces_agree image z a room xs b =
    let es = events_of (records_of (a ++ all_more xs)) in
    let h = chain_answers (load_of image).config (load_of image).run a room xs (loaded_keeps image z) b in
    let n = (chain (load_of image).config (load_of image).run a room xs).count in
    (h.out_is ∙ ap (λ (l : List Reply). all_bytes (take n l)) (agree image z es), ap (λ (r : Run). r.standing.counts) h.run_is ∙ counters image z (take n es))

-- with the room of an event in each call for each event of all the bytes, the last call does not stop for room
pub chain_room : (c : Config) (s : Run) (a : List ℕ) (room : ℕ) (xs : List Turn) (most : ℕ) → event_room * length (events_of (records_of (a ++ all_more xs))) ≤ most
    → most ≤ room → Each (λ x. most ≤ x.room) xs → (chain c s a room xs).stop ≡ output_full → ⊥
chain_room c s a room [] most l r e = λ q. room_enough c s a room (omega (arith, rw (append-nil a) at l)) q
chain_room c s a room (x ∷ xs) most l r e = split ((chain c s a room (x ∷ xs)).stop ≡ output_full → ⊥) (keeps_rules c s)
    (λ k.
    let p = piece_of c s a room in
    let h = one_piece c s a room k in
    let more = x.more ++ all_more xs in
    let same = append_assoc (drop p.read a) x.more (all_more xs) in
    let whole : events_of (records_of (a ++ more)) ≡ take p.count (events_of (records_of a)) ++ events_of (records_of (drop p.read a ++ more)) = rw h.read_is (events_then_rest a more p.count h.few) in
    let fewer : length (events_of (records_of (drop p.read a ++ more))) ≤ length (events_of (records_of (a ++ more))) = omega (arith, ap length whole, length-append (take p.count (events_of (records_of a))) (events_of (records_of (drop p.read a ++ more)))) in
    chain_room c p.run (drop p.read a ++ x.more) x.room xs most (rw same (omega arith)) e.0 e.1)
    (λ k q. let idled = ap (λ (p : Piece). p.stop) (chain_idles c s k a room (x ∷ xs)).0 in omega (arith, sym idled ∙ q))

-- where neither the last call nor one call on all the bytes stops for room, they come to the same and write the same
pub as_one_call : (c : Config) (s : Run) (a : List ℕ) (room : ℕ) (xs : List Turn) (ample : ℕ) → Bytes (a ++ all_more xs)
    → ((chain c s a room xs).stop ≡ output_full → ⊥) → ((piece_of c s (a ++ all_more xs) ample).stop ≡ output_full → ⊥)
    → (chain c s a room xs ≡ piece_of c s (a ++ all_more xs) ample) × (chain_bytes c s a room xs ≡ piece_bytes c s (a ++ all_more xs) ample)
as_one_call c s a room xs ample b m n = go (keeps_rules c s) refl
  where
    all : List ℕ
    all = a ++ all_more xs

    go : (t : Bool) → keeps_rules c s ≡ t → (chain c s a room xs ≡ piece_of c s all ample) × (chain_bytes c s a room xs ≡ piece_bytes c s all ample)
    go true k = same_answers (chain_answers c s a room xs k b) (one_piece c s all ample k) m n
    go false e = ((chain_idles c s e a room xs).0 ∙ sym (idles c s e all ample).0, (chain_idles c s e a room xs).1 ∙ sym (idles c s e all ample).1)

-- of two calls: reads and counts add up, and the run and the stop are the second call's
pub two_as_one : (c : Config) (s : Run) (a b : List ℕ) (room₁ room₂ ample : ℕ) → Bytes (a ++ b)
    → let p = piece_of c s a room₁ in
    let rest = drop p.read a ++ b in
    let q = piece_of c p.run rest room₂ in
    (q.stop ≡ output_full → ⊥) → ((piece_of c s (a ++ b) ample).stop ≡ output_full → ⊥)
    → (joined p q ≡ piece_of c s (a ++ b) ample) × (piece_bytes c s a room₁ ++ piece_bytes c p.run rest room₂ ≡ piece_bytes c s (a ++ b) ample)
two_as_one c s a b room₁ room₂ ample = rw (append-nil b) at (as_one_call c s a room₁ (record { more = b; room = room₂ } ∷ []) ample)
