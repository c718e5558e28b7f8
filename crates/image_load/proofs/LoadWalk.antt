-- What the loop of `load` keeps true, and its laws: it holds at the start, a good record keeps it, and each way out is the
-- load's answer.
use Rattle.std.specs.Prelude.{◌≡◌, refl, List, [], ◌∷◌, ◌++◌, ℕ, ◌+◌, ◌-◌, ◌<◌, ◌≤◌, length}
use Rattle.std.proofs.Math.Path.{sym}
use Rattle.std.proofs.Common.{◌∙◌, arith, ne_eqb}
use Rattle.state.specs.declared.types.Config.{Config}
use Rattle.image_rules.specs.Records.{Record, cut, record_at, records_from}
use Rattle.image_load.specs.Image.{record_refusal, refused, load_of}
use Rattle.image_rules.specs.RecordLaws.{Whole, body_at}
use Rattle.image_rules.proofs.RecordLaws.{whole_at, body_ends, one_from, none_from, last_snoc}
use Rattle.image_take.specs.Stored.{Countable}
use Rattle.image_take.specs.Held.{none_held, countable}
use Rattle.image_take.specs.Taking.{Ready, whole, Adds, Takes, good_whole}
use Rattle.image_load.specs.LoadWalk.{Walked, Blank, Reads}

-- it stopped with a refusal
pub stops_at : {bs : List ℕ} {n place : ℕ} {c : Config} {states : List ℕ} → (n ≡ 0 → ⊥) → refused n place ≡ load_of bs → Reads bs n place c states
stops_at h e = record { refuses_at = λ q. e; loads = λ z. absurd (h z) }

pub start : {bs : List ℕ} {c : Config} {states : List ℕ} → (length bs ≡ 0 → ⊥) → Blank c states → Walked bs c states 0 0
unfolding load_of
start {bs} h k =
    record {
      before = [];
      fuel = length bs;
      inside = omega arith;
      enough = omega arith;
      held = none_held k.no_tables k.no_starts;
      last_is = refl;
      rest = simp (ne_eqb _ _ h);
    }

module _ {bs : List ℕ} {c : Config} {states : List ℕ} {last place : ℕ} (w : Walked bs c states last place) where
  pub ready : Ready last (λ d. c) (λ s. states)
  ready = record { others = c; other_starts = states; before = w.before; held = w.held; last_is = w.last_is }

  pub ends : length bs ≤ place → Reads bs 0 0 c states
  ends l =
      record {
        refuses_at = λ h. absurd (h refl);
        loads = λ z. sym (w.rest ∙ rw (none_from w.fuel bs place l, w.held.tables_are, w.held.starts_are));
      }

  pub cuts : place < length bs → record_at bs place ≡ cut place → refused 1 place ≡ load_of bs
  unfolding record_refusal
  cuts l e = sym (w.rest ∙ rw (one_from w.fuel bs place w.enough l, e))

  -- a whole record at the cursor, and what taking it came to
  module _ {kind end : ℕ} (l : place < length bs) (h : Whole bs place kind end) {n : ℕ} {d : Config} {ss : List ℕ}
      (takes : Takes last kind (body_at bs place end) c states n d ss) where
    abbrev found : Record
    found = whole place kind (body_at bs place end)

    here : records_from w.fuel bs place ≡ found ∷ records_from (w.fuel - 1) bs (place + 4 + length (body_at bs place end))
    here = one_from w.fuel bs place w.enough l ∙ rw (whole_at h)

    adds : Adds w.before kind (body_at bs place end) n d ss
    adds = takes w.before w.held w.last_is

    told : n ≡ record_refusal w.before found
    unfolding record_refusal
    told = adds.refusal_is

    pub refuses : (n ≡ 0 → ⊥) → refused n place ≡ load_of bs
    refuses q = sym (w.rest ∙ rw (here, ← told) (simp (ne_eqb _ _ q)))

    -- its numbers can be counted
    pub counts : n ≡ 0 → Countable (body_at bs place end) kind c.numbers
    counts z = countable w.held (good_whole adds.refusal_is z place)

    -- the loop goes on behind it
    pub goes_on : n ≡ 0 → Walked bs d ss kind end
    goes_on z =
        let q = body_ends h in
        let good : record_refusal w.before found ≡ 0 = sym told ∙ z in
        record {
          before = w.before ++ found ∷ [];
          fuel = w.fuel - 1;
          inside = h.inside;
          enough = omega (arith, w.enough, h.end_is);
          held = adds.holds z place;
          last_is = sym (last_snoc 0 w.before found);
          rest = w.rest ∙ rw here (simp (good, q));
        }
