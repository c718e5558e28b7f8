-- Laws of event records: the table of what refuses one, both ways, and the event of each kind.
use Rattle.std.specs.Prelude.{◌≡◌, Bool, ◌&&◌, ℕ, eqb}
use Rattle.std.proofs.Math.Path.{refl}
use Rattle.std.proofs.Common.{subst, arith}
use Rattle.std.proofs.Math.Bool.{true, false}
use Rattle.std.proofs.Math.Dec.{leb}
use borrow.Author.Tests.{ne_eqb, eqb-true, eqb-false, leb-true}
use Rattle.image_rules.specs.Records.{le16, Record}
use Rattle.history.specs.Plain.{packet, tick, fault}
use Rattle.replay_rules.specs.Recording.{event_in, kind_refusal}
use Rattle.replay_rules.specs.RecordingLaws.{Sort, is_packet, is_tick, is_fault, long_tick, bad_fault, other}

module _ {kind size : ℕ} where
  pub only : {n : ℕ} → Sort kind size n → n ≡ kind_refusal kind size
  unfolding kind_refusal
  only (is_packet e) = simp e
  only (is_tick e z) = simp (e, z)
  only (is_fault e z) = simp (e, z)
  only (long_tick e z) = simp (e, ne_eqb _ _ z)
  only (bad_fault e z) = simp (e, ne_eqb _ _ z)
  only (other p t f) = simp (between (leb 16 kind) refl (leb kind 18) refl)
    where
      between : (a : Bool) → leb 16 kind ≡ a → (b : Bool) → leb kind 18 ≡ b → (leb 16 kind && leb kind 18) ≡ false
      between true ea true eb = absurd (omega (arith, leb-true 16 kind ea, leb-true kind 18 eb, p, t, f))
      between true ea false eb = simp (ea, eb)
      between false ea b eb = simp ea

pub sort : (kind size : ℕ) → Sort kind size (kind_refusal kind size)
sort kind size = go (eqb kind 16) refl (eqb kind 17) refl (eqb kind 18) refl (eqb size 0) refl (eqb size 2) refl
  where
    this : {n : ℕ} → Sort kind size n → Sort kind size (kind_refusal kind size)
    this s = subst (λ n. Sort kind size n) (only s) s

    go : (p : Bool) → eqb kind 16 ≡ p → (t : Bool) → eqb kind 17 ≡ t → (f : Bool) → eqb kind 18 ≡ f → (z : Bool) → eqb size 0 ≡ z → (w : Bool) → eqb size 2 ≡ w
        → Sort kind size (kind_refusal kind size)
    go true ep t et f ef z ez w ew = this (is_packet (eqb-true _ _ ep))
    go false ep true et f ef true ez w ew = this (is_tick (eqb-true _ _ et) (eqb-true _ _ ez))
    go false ep true et f ef false ez w ew = this (long_tick (eqb-true _ _ et) (eqb-false _ _ ez))
    go false ep false et true ef z ez true ew = this (is_fault (eqb-true _ _ ef) (eqb-true _ _ ew))
    go false ep false et true ef z ez false ew = this (bad_fault (eqb-true _ _ ef) (eqb-false _ _ ew))
    go false ep false et false ef z ez w ew = this (other (eqb-false _ _ ep) (eqb-false _ _ et) (eqb-false _ _ ef))

-- a record that nothing refuses, of no kind but a fault's
pub fault_sized : {kind size : ℕ} → kind_refusal kind size ≡ 0 → (kind ≡ 16 → ⊥) → (kind ≡ 17 → ⊥) → (kind ≡ 18) × (size ≡ 2)
fault_sized {kind} {size} z p t = go (sort kind size) z
  where
    go : {n : ℕ} → Sort kind size n → n ≡ 0 → (kind ≡ 18) × (size ≡ 2)
    go (is_packet e) q = absurd (p e)
    go (is_tick e w) q = absurd (t e)
    go (is_fault e w) q = (e, w)
    go (long_tick e w) q = absurd (t e)
    go (bad_fault e w) q = absurd (omega (arith, q))
    go (other a b c) q = absurd (omega (arith, q))

-- the event of each kind
module _ (r : Record) where
  pub packet_event : r.kind ≡ 16 → event_in r ≡ packet r.body
  packet_event e = rw e

  pub tick_event : r.kind ≡ 17 → event_in r ≡ tick
  tick_event e = rw e

  pub fault_event : r.kind ≡ 18 → event_in r ≡ fault (le16 r.body 0)
  fault_event e = rw e
