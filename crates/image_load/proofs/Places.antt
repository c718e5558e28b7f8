-- Where a record begins: behind as many bytes as the records before it have, 4 for the header of each and its body.
use Rattle.std.specs.Prelude.{◌≡◌, cond, List, [], ◌∷◌, ◌++◌, ℕ, zero, suc, ◌+◌, leb, length}
use Rattle.std.proofs.Common.{ap, ◌∙◌, zero-add, arith}
use Rattle.state.proofs.KeepsLaws.{split}
use Rattle.image_rules.specs.Records.{le16, Record, record_at, and_then, records_from, records_of}
use Rattle.image_rules.specs.RecordOutcome.{AllGood}
use Rattle.image_load.specs.Places.{bytes_of}

place_at : (bs : List ℕ) (place : ℕ) → (record_at bs place).place ≡ place
unfolding record_at
place_at bs place =
    split ((record_at bs place).place ≡ place) (leb (place + 4) (length bs))
    (λ e. split ((record_at bs place).place ≡ place) (leb (place + 4 + le16 bs place) (length bs)) (λ f. simp (e, f)) (λ f. simp (e, f)))
    (λ e. simp e)

-- no records have none among them
pub none : {A : Type 0} (good : List Record) (bad : Record) (rest : List Record) → [] ≡ good ++ bad ∷ rest → A
none [] bad rest e = let z : ◌≡◌ {A = ℕ} 0 1 = cc e in absurd (omega arith)
none (r ∷ good) bad rest e = let z : ◌≡◌ {A = ℕ} 0 1 = cc e in absurd (omega arith)

-- of the record at a place, and those behind it
module _ (from : ℕ → List Record) (place : ℕ) (bad : Record) (rest : List Record) where
  first : (before : List Record) (q : Record) → q.place ≡ place
      → ((p : ℕ) (before good : List Record) → AllGood before good → from p ≡ good ++ bad ∷ rest → bad.place ≡ p + bytes_of good)
      → (good : List Record) → AllGood before good → and_then from q ≡ good ++ bad ∷ rest → bad.place ≡ place + bytes_of good
  first before q at_place behind [] a e =
      let same : q ≡ bad = cc e in
      let p : q.place ≡ bad.place = ap (λ (r : Record). r.place) same in
      omega arith
  first before q at_place behind (r ∷ good) a e =
      let same : q ≡ r = cc e in
      let tail : cond q.whole (from (q.place + 4 + length q.body)) [] ≡ good ++ bad ∷ rest = cc e in
      let next = behind (r.place + 4 + length r.body) (before ++ r ∷ []) good a.1 (simp a.0.whole at (rw same at tail)) in
      let p : q.place ≡ r.place = ap (λ (r : Record). r.place) same in
      omega arith

begins : (f : ℕ) (bs : List ℕ) (place : ℕ) (before good : List Record) (bad : Record) (rest : List Record) → AllGood before good
    → records_from f bs place ≡ good ++ bad ∷ rest → bad.place ≡ place + bytes_of good
begins zero bs place before good bad rest a e = none good bad rest e
begins (suc f) bs place before good bad rest a e =
    split (bad.place ≡ place + bytes_of good) (leb (length bs) place)
    (λ l. none good bad rest (simp l at e))
    (λ l. first (records_from f bs) place bad rest before (record_at bs place) (place_at bs place) (λ p b g h q. begins f bs p b g bad rest h q) good a (simp l at e))

pub begins_behind : (bs : List ℕ) (good : List Record) (bad : Record) (rest : List Record) → AllGood [] good
    → records_of bs ≡ good ++ bad ∷ rest → bad.place ≡ bytes_of good
begins_behind bs good bad rest a e = begins (length bs) bs 0 [] good bad rest a e ∙ zero-add (bytes_of good)
