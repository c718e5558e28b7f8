-- Records over bytes that come in pieces: a whole record stays what it is where more bytes follow, and behind the first records
-- stand those of the bytes behind them.
use Rattle.std.specs.Prelude.{◌≡◌, refl, Bool, true, false, cond, ◌⊎◌, List, [], ◌∷◌, ◌++◌, map, ℕ, zero, suc, ◌+◌, ◌-◌, ◌<◌, ◌≤◌, eqb, leb, length, get_or, take, drop}
use Rattle.std.proofs.Common.{ap, ◌∙◌, inl, inr, ⊎_elim, append-nil, add-zero, add_assoc, suc-add, zero-add, arith, length-append, length-drop, take-append-drop, get_or-drop, drop-drop, le-leb, leb-true, leb-false}
use Rattle.std.proofs.lemmas.List.{append_cancel_left, take-append-le, drop-append-le}
use Rattle.std.proofs.Math.ListN.{get_or-append}
use Rattle.std.proofs.Math.Seq.{take-length, take-append_seam}
use Rattle.std.proofs.lemmas.Bool.{lt-leb}
use Rattle.image_rules.specs.Records.{le16, Record, cut, record_at, and_then, records_from, records_of}
use Rattle.image_rules.specs.RecordLaws.{Whole, body_at}
use Rattle.image_rules.proofs.RecordLaws.{whole_at, body_ends, cut_head, cut_body, one_from, none_from}
use Rattle.history.specs.Plain.{Event, packet, tick, fault}
use Rattle.history.specs.Path.{after}
use Rattle.history.specs.Calls.{EventBytes}
use Rattle.history.proofs.Calls.{step_keeps}
use Rattle.wire.specs.Bytes.{Bytes, part_bytes}
use Rattle.state.specs.declared.types.Config.{Config}
use Rattle.state.specs.declared.types.Run.{Run}
use Rattle.state.specs.Tables.{tables_of}
use Rattle.state.specs.Test.{keeps_rules}
use Rattle.state.specs.Keeps.{Keeps}
use Rattle.state.proofs.KeepsLaws.{kept, keeps}
use Rattle.replay_rules.specs.Recording.{cut_short, event_in, event_refusal, events_of, first_refusal, bytes_in}
use Rattle.replay_rules.specs.RecordPieces.{moved, unread}

-- ---- the record at a place

-- a whole record
abbrev There : List ℕ → ℕ → Type 0
There bs p = Whole bs p (le16 bs (p + 2)) (p + 4 + le16 bs p)

whole_or_cut : (bs : List ℕ) (p : ℕ) → There bs p ⊎ (record_at bs p ≡ cut p)
whole_or_cut bs p = go (leb (p + 4) (length bs)) refl (leb (p + 4 + le16 bs p) (length bs)) refl
  where
    go : (a : Bool) → leb (p + 4) (length bs) ≡ a → (b : Bool) → leb (p + 4 + le16 bs p) (length bs) ≡ b → There bs p ⊎ (record_at bs p ≡ cut p)
    go false e b h = inr (cut_head bs p (leb-false _ _ e))
    go true e false h = inr (cut_body bs p (le16 bs p) (refl, leb-true _ _ e, leb-false _ _ h))
    go true e true h = inl (record { kind_is = refl; end_is = refl; inside = leb-true _ _ h })

place_at : (bs : List ℕ) (p : ℕ) → (record_at bs p).place ≡ p
place_at bs p = ⊎_elim (λ (w : There bs p). rw (whole_at w)) (λ (e : record_at bs p ≡ cut p). rw e) (whole_or_cut bs p)

-- two tests, each true where the other is
pub same_test : (a b c d : ℕ) → (c ≤ d → a ≤ b) → (d < c → b < a) → leb a b ≡ leb c d
same_test a b c d f g = go (leb c d) refl
  where
    go : (t : Bool) → leb c d ≡ t → leb a b ≡ t
    go true e = le-leb a b (f (leb-true c d e))
    go false e = lt-leb a b (g (leb-false c d e))

le16_drop : (bs : List ℕ) (n p : ℕ) → le16 (drop n bs) p ≡ le16 bs (n + p)
le16_drop bs n p = rw (get_or-drop n bs p 0, get_or-drop n bs (p + 1) 0, add_assoc n p 1)

fits_drop : (bs : List ℕ) (n p k : ℕ) → leb (p + 4 + k) (length (drop n bs)) ≡ leb (n + p + 4 + k) (length bs)
fits_drop bs n p k =
    let l = length-drop n bs in
    same_test (p + 4 + k) (length (drop n bs)) (n + p + 4 + k) (length bs) (λ h. omega arith) (λ h. omega arith)

-- a record is told by the bytes from its place on
moved_at : (bs : List ℕ) (n p : ℕ) → record_at bs (n + p) ≡ moved n (record_at (drop n bs) p)
unfolding record_at
moved_at bs n p =
    let size = le16_drop bs n p in
    let kind : le16 (drop n bs) (p + 2) ≡ le16 bs (n + p + 2) = le16_drop bs n (p + 2) ∙ rw (add_assoc n p 2) in
    let head : leb (p + 4) (length (drop n bs)) ≡ leb (n + p + 4) (length bs) = simp add-zero at (fits_drop bs n p 0) in
    let body : drop (p + 4) (drop n bs) ≡ drop (n + p + 4) bs = drop-drop (p + 4) n bs ∙ rw (add_assoc n p 4) in
    rw (size, kind, head, fits_drop bs n p (le16 bs (n + p)), body) (go (leb (n + p + 4) (length bs)) (leb (n + p + 4 + le16 bs (n + p)) (length bs)) _ _)
  where
    this : ℕ → ℕ → List ℕ → Record
    this q k l = record { place = q; whole = true; kind = k; body = l }

    go : (a b : Bool) (k : ℕ) (l : List ℕ) → cond a (cond b (this (n + p) k l) (cut (n + p))) (cut (n + p)) ≡ moved n (cond a (cond b (this p k l) (cut p)) (cut p))
    go true true k l = refl
    go true false k l = refl
    go false b k l = refl

-- the records from n on are those of the bytes from n on; any fuel that is enough will do
moved_from_lem : (f g : ℕ) (bs : List ℕ) (n p : ℕ) → length bs ≤ f + (n + p) → length bs ≤ g + (n + p) → records_from f bs (n + p) ≡ map (moved n) (records_from g (drop n bs) p)
moved_from_lem zero g bs n p e h = rw (none_from g (drop n bs) p (omega (arith, length-drop n bs)))
moved_from_lem (suc f) g bs n p e h = go (leb (length bs) (n + p)) refl (λ q l. moved_from_lem f (g - 1) bs n q (omega arith) (omega arith))
  where
    r : Record
    r = record_at (drop n bs) p

    go : (t : Bool) → leb (length bs) (n + p) ≡ t → ((q : ℕ) → p < q → records_from f bs (n + q) ≡ map (moved n) (records_from (g - 1) (drop n bs) q))
        → cond t [] (and_then (records_from f bs) (record_at bs (n + p))) ≡ map (moved n) (records_from g (drop n bs) p)
    go true t ih = rw (none_from g (drop n bs) p (omega (arith, length-drop n bs, leb-true (length bs) (n + p) t)))
    go false t ih =
        let l : length (drop n bs) ≡ length bs - n = length-drop n bs in
        rw (moved_at bs n p, one_from g (drop n bs) p (omega arith) (omega (arith, leb-false (length bs) (n + p) t)))
        (ap (λ (rs : List Record). moved n r ∷ rs) (behind r.whole))
      where
        behind : (b : Bool) → cond b (records_from f bs (n + r.place + 4 + length r.body)) [] ≡ map (moved n) (cond b (records_from (g - 1) (drop n bs) (r.place + 4 + length r.body)) [])
        behind true = rw (add_assoc n r.place 4, add_assoc n (r.place + 4) (length r.body)) (ih (r.place + 4 + length r.body) (omega (arith, place_at (drop n bs) p)))
        behind false = refl

-- ---- the first records of bytes that more bytes follow

module _ {a : List ℕ} {p kind end : ℕ} (w : Whole a p kind end) where
  abbrev found : Record
  found = record { place = p; whole = true; kind = kind; body = body_at a p end }

  first_from : (f : ℕ) → length a ≤ f + p → records_from f a p ≡ found ∷ records_from (f - 1) a end
  first_from f e = one_from f a p e (omega (arith, w.inside, w.end_is)) ∙ rw (whole_at w) (ap (λ k. found ∷ records_from (f - 1) a k) (body_ends w))

  -- more bytes behind it change nothing
  stays : (b : List ℕ) → Whole (a ++ b) p kind end
  stays b =
      let at : (k : ℕ) → k < length a → get_or (a ++ b) k 0 ≡ get_or a k 0 = λ k l. get_or-append a b 0 k l in
      record {
        kind_is = omega (arith, w.kind_is, at (p + 2) (omega (arith, w.inside, w.end_is)), at (p + 2 + 1) (omega (arith, w.inside, w.end_is)));
        end_is = omega (arith, w.end_is, at p (omega (arith, w.inside, w.end_is)), at (p + 1) (omega (arith, w.inside, w.end_is)));
        inside = omega (arith, length-append a b, w.inside);
      }

  same_body : (b : List ℕ) → body_at (a ++ b) p end ≡ body_at a p end
  same_body b =
      rw (drop-append-le (p + 4) a b (omega (arith, w.inside, w.end_is)))
      (take-append-le (end - (p + 4)) (drop (p + 4) a) b (omega (arith, length-drop (p + 4) a, w.inside)))

-- with them or without, it stands first, and behind it the records from its end on
first_of_both : {a : List ℕ} {p kind end : ℕ} (w : Whole a p kind end) (b : List ℕ) (g : ℕ) → length (a ++ b) ≤ g + p → records_from g (a ++ b) p ≡ found w ∷ records_from (g - 1) (a ++ b) end
first_of_both w b g h = first_from (stays w b) g h ∙ rw (same_body w b)

-- records from a place on, read up to the first that is bad
data Reads (a : List ℕ) : ℕ → List Record → Type 0 where
  event : {p kind end : ℕ} (w : Whole a p kind end) → eqb (event_refusal (found w)) 0 ≡ true → {rs : List Record} → Reads a end rs → Reads a p (found w ∷ rs)
  bad : {p kind end : ℕ} (w : Whole a p kind end) → eqb (event_refusal (found w)) 0 ≡ false → {rs : List Record} → Reads a p (found w ∷ rs)
  cut_there : {p : ℕ} → Reads a p (cut p ∷ [])
  ends : {p : ℕ} → Reads a p []

reads : (f : ℕ) (a : List ℕ) (p : ℕ) → length a ≤ f + p → Reads a p (records_from f a p)
reads zero a p e = ends
reads (suc f) a p e = go (whole_or_cut a p) (λ q l. reads f a q l)
  where
    whole : (w : There a p) {rs : List Record} → Reads a (p + 4 + le16 a p) rs → (t : Bool) → eqb (event_refusal (found w)) 0 ≡ t → Reads a p (found w ∷ rs)
    whole w h true t = event w t h
    whole w h false t = bad w t

    none : (t : Bool) → Reads a p (cond t [] (cut p ∷ []))
    none true = ends
    none false = cut_there

    go : There a p ⊎ (record_at a p ≡ cut p) → ((q : ℕ) → length a ≤ f + q → Reads a q (records_from f a q)) → Reads a p (records_from (suc f) a p)
    go (inl w) ih = let less : suc f - 1 ≡ f = omega arith in rw (first_from w (suc f) e, less) (whole w (ih (p + 4 + le16 a p) (omega arith)) (eqb (event_refusal (found w)) 0) refl)
    go (inr c) ih = rw c (none (leb (length a) p))

-- the first k records from a place on, all events, and behind them the records from their end on
record Begins (a b : List ℕ) (k p : ℕ) (rs whole : List Record) : Type 0 where
  fuel : ℕ
  inside : p + bytes_in (take k rs) ≤ length a
  enough : length (a ++ b) ≤ fuel + (p + bytes_in (take k rs))
  same : whole ≡ take k rs ++ records_from fuel (a ++ b) (p + bytes_in (take k rs))

begins : (k g : ℕ) {a : List ℕ} (b : List ℕ) {p : ℕ} {rs : List Record} → Reads a p rs → k ≤ length (events_of rs) → p ≤ length a → length (a ++ b) ≤ g + p → Begins a b k p rs (records_from g (a ++ b) p)
begins zero g b {p} h l i e = record { fuel = g; inside = omega arith; enough = omega arith; same = rw (add-zero p) }
begins (suc k) g {a} b {p} (event {end = end} w t {rs} h) l i e =
    let n = begins k (g - 1) b h (omega (arith, rw t at l)) w.inside (omega (arith, w.end_is)) in
    let q : end + bytes_in (take k rs) ≡ p + bytes_in (take (suc k) (found w ∷ rs)) = omega (arith, body_ends w) in
    record {
      fuel = n.fuel;
      inside = rw q at n.inside;
      enough = rw q at n.enough;
      same = first_of_both w b g e ∙ ap (λ (l : List Record). found w ∷ l) (rw q at n.same);
    }
begins (suc k) g b (bad w t) l i e = absurd (omega (arith, rw t at l))
begins (suc k) g b cut_there l i e = absurd (omega arith)
begins (suc k) g b ends l i e = absurd (omega arith)

-- what a caller asks of records does not ask for their places
module _ (n : ℕ) where
  events_moved : (rs : List Record) → events_of (map (moved n) rs) ≡ events_of rs
  events_moved [] = refl
  events_moved (r ∷ rs) = rw (events_moved rs)

  refusal_moved : (rs : List Record) → first_refusal (map (moved n) rs) ≡ first_refusal rs
  refusal_moved [] = refl
  refusal_moved (r ∷ rs) = rw (refusal_moved rs)

  bytes_moved : (j : ℕ) (rs : List Record) → bytes_in (take j (map (moved n) rs)) ≡ bytes_in (take j rs)
  bytes_moved zero rs = refl
  bytes_moved (suc j) [] = refl
  bytes_moved (suc j) (r ∷ rs) = rw (bytes_moved j rs)

record Joins (n k : ℕ) (rs qs : List Record) : Type 0 where
  events : events_of (take k rs ++ map (moved n) qs) ≡ take k (events_of rs) ++ events_of qs
  refusal : first_refusal (take k rs ++ map (moved n) qs) ≡ first_refusal qs
  bytes : (j : ℕ) → bytes_in (take (k + j) (take k rs ++ map (moved n) qs)) ≡ bytes_in (take k rs) + bytes_in (take j qs)

joins : (n k : ℕ) (rs qs : List Record) → k ≤ length (events_of rs) → Joins n k rs qs
joins n zero rs qs l =
    record { events = events_moved n qs; refusal = refusal_moved n qs; bytes = λ j. rw (zero-add j, zero-add (bytes_in (take j qs))) (bytes_moved n j qs) }
joins n (suc k) [] qs l = absurd (omega arith)
joins n (suc k) (r ∷ rs) qs l = go (eqb (event_refusal r) 0) refl (λ i. joins n k rs qs i)
  where
    go : (b : Bool) → eqb (event_refusal r) 0 ≡ b → (k ≤ length (events_of rs) → Joins n k rs qs) → Joins n (suc k) (r ∷ rs) qs
    go false t ih = absurd (omega (arith, rw t at l))
    go true t ih =
        let j = ih (omega (arith, rw t at l)) in
        record {
          events = rw t (ap (λ (es : List Event). event_in r ∷ es) j.events);
          refusal = rw t j.refusal;
          bytes = λ i. rw (suc-add k i) (omega (arith, j.bytes i));
        }

module _ (a b : List ℕ) (k : ℕ) (few : k ≤ length (events_of (records_of a))) where
  abbrev size : ℕ
  size = bytes_in (take k (records_of a))

  at_start : Begins a b k 0 (records_of a) (records_of (a ++ b))
  at_start = begins k (length (a ++ b)) b (reads (length a) a 0 (omega arith)) few (omega arith) (omega arith)

  -- they take no more bytes than there are
  pub first_inside : bytes_in (take k (records_of a)) ≤ length a
  first_inside = omega (arith, at_start.inside)

  -- where more bytes follow they stay the first, and behind them stand the records of what they leave unread and of what follows
  pub first_then_rest : records_of (a ++ b) ≡ take k (records_of a) ++ map (moved (bytes_in (take k (records_of a)))) (records_of (unread k a ++ b))
  first_then_rest =
      let g = at_start in
      let there = moved_from_lem g.fuel (length (drop size (a ++ b))) (a ++ b) size 0 (omega (arith, g.enough)) (omega (arith, length-drop size (a ++ b))) in
      g.same ∙ rw (zero-add size, ← drop-append-le size a b first_inside) (ap (λ (l : List Record). take k (records_of a) ++ l) (rw (add-zero size) at there))

  rest_joins : Joins size k (records_of a) (records_of (unread k a ++ b))
  rest_joins = joins size k (records_of a) (records_of (unread k a ++ b)) few

  -- so the events are the first k, and then those of the rest
  pub events_then_rest : events_of (records_of (a ++ b)) ≡ take k (events_of (records_of a)) ++ events_of (records_of (unread k a ++ b))
  events_then_rest = rw first_then_rest rest_joins.events

  -- the first bad record is the rest's
  pub refusal_of_rest : first_refusal (records_of (a ++ b)) ≡ first_refusal (records_of (unread k a ++ b))
  refusal_of_rest = rw first_then_rest rest_joins.refusal

  -- and the bytes of k + j records are those of the first k and of j of the rest
  pub bytes_then_rest : (j : ℕ) → bytes_in (take (k + j) (records_of (a ++ b))) ≡ bytes_in (take k (records_of a)) + bytes_in (take j (records_of (unread k a ++ b)))
  bytes_then_rest j = rw first_then_rest (rest_joins.bytes j)

-- the records of what the first k leave unread are the records behind the first k
pub records_behind : (bs : List ℕ) (k : ℕ) → k ≤ length (events_of (records_of bs)) → drop k (records_of bs) ≡ map (moved (bytes_in (take k (records_of bs)))) (records_of (unread k bs))
records_behind bs k few =
    append_cancel_left (take k (records_of bs)) _ _ (take-append-drop k (records_of bs) ∙ (rw (append-nil bs, append-nil (unread k bs)) at (first_then_rest bs [] k few)))

-- the events of some bytes stay the first where more bytes follow
pub events_stay : (a b : List ℕ) → take (length (events_of (records_of a))) (events_of (records_of (a ++ b))) ≡ events_of (records_of a)
events_stay a b =
    let es = events_of (records_of a) in
    rw (events_then_rest a b (length es) (omega arith), take-length es) (take-append_seam es _)

bad_from : {a : List ℕ} (g : ℕ) (b : List ℕ) {p : ℕ} {rs : List Record} → Reads a p rs → length (a ++ b) ≤ g + p → (first_refusal rs ≡ 0 → ⊥) → (first_refusal rs ≡ cut_short → ⊥)
    → (events_of (records_from g (a ++ b) p) ≡ events_of rs) × (first_refusal (records_from g (a ++ b) p) ≡ first_refusal rs)
bad_from g b (event w t h) e m n =
    let ih = bad_from (g - 1) b h (omega (arith, w.end_is)) (rw t at m) (rw t at n) in
    rw (first_of_both w b g e, t, ih.0, ih.1) (refl, refl)
bad_from g b (bad w t) e m n = rw (first_of_both w b g e, t) (refl, refl)
bad_from g b cut_there e m n = absurd (n refl)
bad_from g b ends e m n = absurd (m refl)

-- a bad record that is not cut stays the first bad record, and the events before it stay all
pub bad_stays : (a b : List ℕ) → (first_refusal (records_of a) ≡ 0 → ⊥) → (first_refusal (records_of a) ≡ cut_short → ⊥)
    → (events_of (records_of (a ++ b)) ≡ events_of (records_of a)) × (first_refusal (records_of (a ++ b)) ≡ first_refusal (records_of a))
bad_stays a b = bad_from (length (a ++ b)) b (reads (length a) a 0 (omega arith)) (omega arith)

-- ---- rules

pub event_bytes : (r : Record) → Bytes r.body → EventBytes (event_in r)
event_bytes r h = go (eqb r.kind 16) (eqb r.kind 17)
  where
    go : (p t : Bool) → EventBytes (cond p (packet r.body) (cond t tick (fault (le16 r.body 0))))
    go true t = h
    go false true = tt
    go false false = tt

kept_from : {c : Config} (k : ℕ) {bs : List ℕ} {p : ℕ} {rs : List Record} → Reads bs p rs → Bytes bs → {s : Run} → Keeps c s → Keeps c (after (tables_of c) s (take k (events_of rs)))
kept_from zero r b h = h
kept_from (suc k) {bs} {p} (event {end = end} w t r) b h = rw t (kept_from k r b (step_keeps h (event_in (found w)) (event_bytes (found w) (part_bytes bs b (p + 4) (end - (p + 4))))))
kept_from (suc k) (bad w t) b h = rw t h
kept_from (suc k) cut_there b h = h
kept_from (suc k) ends b h = h

-- a run that keeps its rules keeps them behind the first events of any bytes
pub bytes_keep : (c : Config) (s : Run) (bs : List ℕ) → Bytes bs → keeps_rules c s ≡ true → (k : ℕ) → keeps_rules c (after (tables_of c) s (take k (events_of (records_of bs)))) ≡ true
bytes_keep c s bs b h k = kept c _ (kept_from k (reads (length bs) bs 0 (omega arith)) b (keeps c s h))
