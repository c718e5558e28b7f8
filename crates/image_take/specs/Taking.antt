-- What taking a record comes to: its refusal, or arrays that hold it too. The contracts of the functions of `take` say so, and
-- each of their ways out is one law.
use Rattle.std.specs.Prelude.{◌≡◌, true, List, [], ◌∷◌, ◌++◌, ℕ, ◌≤◌, leb, take}
use Rattle.std.proofs.Common.{sym, ap, ◌∙◌, arith, leb-true, leb-false}
use Rattle.state.specs.declared.types.Settings.{Settings}
use Rattle.state.specs.declared.types.Config.{Config}
use Rattle.state.specs.Tables.{Tables, routed}
use Rattle.state.proofs.KeepsLaws.{split}
use Rattle.image_rules.specs.Records.{Record}
use Rattle.image_rules.specs.Written.{tables_of_records}
use Rattle.image_rules.specs.Checks.{refusal_after, record_refusal, last_kind}
use Rattle.image_rules.specs.Kinds.{is_single, last_of_kinds, kind_of, ids_in}
use Rattle.image_rules.specs.RecordOutcome.{GoodAfter, no_kind, past_kinds}
use Rattle.image_rules.proofs.RecordOutcomeLaws.{verdict_only, zero_good}
use Rattle.image_rules.specs.RecordParts.{Holds}
use Rattle.image_take.specs.Stored.{with_numbers, numbers_behind}
use Rattle.image_take.specs.Held.{Held, settings_are, held_one, routes_are, held_routes, held_protected, held_faults}

-- columns that hold good records, the last of this kind: those that are lent, with some others
pub record Ready (last : ℕ) (columns : Config → Config) (starts : List ℕ → List ℕ) : Type 0 where
  pub others : Config
  pub other_starts : List ℕ
  pub before : List Record
  pub held : Held before (columns others) (starts other_starts)
  pub last_is : last ≡ last_kind before

-- a whole record
abbrev pub whole : ℕ → ℕ → List ℕ → Record
whole place kind b = record { place = place; whole = true; kind = kind; body = b }

-- behind records, the refusal of a whole record
abbrev pub whole_refusal : List Record → ℕ → List ℕ → ℕ
whole_refusal rs kind b = refusal_after (last_kind rs) (ids_in kind rs) (tables_of_records rs) kind b

-- and where that is 0 the columns hold it too
pub record Adds (rs : List Record) (kind : ℕ) (b : List ℕ) (n : ℕ) (d : Config) (ss : List ℕ) : Type 0 where
  pub refusal_is : n ≡ whole_refusal rs kind b
  pub holds : n ≡ 0 → (place : ℕ) → Held (rs ++ whole place kind b ∷ []) d ss

-- behind whatever records the columns hold
abbrev pub Takes : ℕ → ℕ → List ℕ → Config → List ℕ → ℕ → Config → List ℕ → Type 0
Takes last kind b c states n d ss = (rs : List Record) → Held rs c states → last ≡ last_kind rs → Adds rs kind b n d ss

module _ {rs : List Record} {kind : ℕ} {b : List ℕ} {n : ℕ} (told : n ≡ whole_refusal rs kind b) where
  pub good_whole : n ≡ 0 → (place : ℕ) → GoodAfter rs (whole place kind b)
  unfolding record_refusal
  good_whole z place = zero_good rs (whole place kind b) (sym told ∙ z)

  pub refuses_it : (n ≡ 0 → ⊥) → {d : Config} {ss : List ℕ} → Adds rs kind b n d ss
  refuses_it h = record { refusal_is = told; holds = λ z. absurd (h z) }

  pub stores_it : n ≡ 0 → {d : Config} {ss : List ℕ} → ((place : ℕ) → GoodAfter rs (whole place kind b) → Held (rs ++ whole place kind b ∷ []) d ss)
      → Adds rs kind b 0 d ss
  stores_it z f = record { refusal_is = sym z ∙ told; holds = λ q place. f place (good_whole z place) }

-- ---- what the check of each kind told, of columns that hold records

module _ {rs : List Record} {c : Config} {states : List ℕ} (h : Held rs c states) {last : ℕ} (l : last ≡ last_kind rs) {n : ℕ} (b : List ℕ) where
  pub told_one : (K : ℕ) → is_single (kind_of K) ≡ true → ((t : Tables) → c.numbers.settings ≡ t.settings → n ≡ refusal_after last [] t K b) → n ≡ whole_refusal rs K b
  told_one K s e = e (tables_of_records rs) (settings_are h) ∙ rw (l, s)

  pub told_2 : ((t : Tables) → c.numbers.settings.base ≡ t.settings.base → n ≡ refusal_after last (take c.numbers.nroutes c.routeids) t 2 b) → n ≡ whole_refusal rs 2 b
  told_2 e = e (tables_of_records rs) (ap (λ (s : Settings). s.base) (settings_are h)) ∙ rw (l, held_routes h)

  pub told_3 : ((t : Tables) → Holds t c.numbers.settings.base (take c.numbers.nroutes c.routeids)
      → n ≡ refusal_after last (take c.numbers.nprotected c.protected) t 3 b) → n ≡ whole_refusal rs 3 b
  told_3 e = e (tables_of_records rs) (record { base_is = ap (λ (s : Settings). s.base) (settings_are h); routes_are = routes_are h }) ∙ rw (l, held_protected h)

  pub told_4 : ((t : Tables) → take c.numbers.nroutes c.routeids ≡ routed t
      → n ≡ refusal_after last (take c.numbers.nrows c.faultids) t 4 b) → n ≡ whole_refusal rs 4 b
  told_4 e = e (tables_of_records rs) (routes_are h) ∙ rw (l, held_faults h)

-- of a single kind nothing is stored: it is in the numbers
pub one_takes : (K : ℕ) {last n : ℕ} {b : List ℕ} {c : Config} {states : List ℕ} → is_single (kind_of K) ≡ true
    → ((t : Tables) → c.numbers.settings ≡ t.settings → n ≡ refusal_after last [] t K b) → Takes last K b c states n (with_numbers c (numbers_behind K b c.numbers)) states
one_takes K {b = b} s e rs h l =
    let told = told_one h l b K s e in
    record { refusal_is = told; holds = λ z place. held_one h (good_whole told z place) s }

-- there is no such kind
pub no_such_kind : {c d : Config} {states ss : List ℕ} {last : ℕ} (kind : ℕ) (b : List ℕ) → ((1 ≤ kind) × (kind ≤ last_of_kinds) → ⊥) → Takes last kind b c states 2 d ss
no_such_kind kind b n rs h q =
    let Two : Type 0 = 2 ≡ whole_refusal rs kind b in
    refuses_it
    (split Two (leb 1 kind)
    (λ l. split Two (leb kind last_of_kinds) (λ m. absurd (n (leb-true _ _ l, leb-true _ _ m))) (λ m. verdict_only (past_kinds (leb-false _ _ m))))
    (λ l. verdict_only (no_kind (leb-false _ _ l))))
    (λ z. omega arith)

-- a function of a kind is lent some of the columns, beside the others
pub lends : {last : ℕ} {columns : Config → Config} {starts : List ℕ → List ℕ} (c : Config) (states : List ℕ) → Ready last (λ d. c) (λ s. states) → columns c ≡ c → starts states ≡ states
    → Ready last columns starts
lends c states r e f = record { others = c; other_starts = states; before = r.before; held = rw (e, f) r.held; last_is = r.last_is }
