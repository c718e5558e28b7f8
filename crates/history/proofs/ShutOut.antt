-- What demand 3 shuts out, each as a theorem about the plain reading, and so, by `agree`, about the running path.
use Rattle.std.specs.Prelude.{◌≡◌, refl, Bool, true, false, cond, ◌&&◌, ◌⊎◌, List, [], ◌∷◌, ◌++◌, ℕ, eqb}
use Rattle.std.proofs.Common.{sym, ap, ◌∙◌, inl, inr, arith, ne_eqb}
use Rattle.std.proofs.Math.Option.{Option, none, some}
use Rattle.image_rules.specs.Records.{Record}
use Rattle.history.specs.Plain.{Event, latest_first, packet, fault, Reply, this_row, accepted, ticks_since, armed, packet_answer, fault_answer, row_at, meant_by, state_of, reply, replies, resets, selects, when_faulted}
use Rattle.history.proofs.RowsLaws.{named_row}

module _ (image : List Record) where
  -- a path that works on its first step and only pretends afterwards: the event behind any list has the reply that the whole
  -- list before it asks for
  pub later : (h es : List Event) (e : Event) → replies image h (es ++ e ∷ []) ≡ replies image h es ++ reply image (latest_first h es) e ∷ []
  later h [] e = refl
  later h (x ∷ es) e = ap (λ (l : List Reply). reply image h x ∷ l) (later (x ∷ h) es e)

module _ (image : List Record) (h : List Event) where
  -- a rejected packet between arm and command that breaks the arming
  pub rejected_between : (p : List ℕ) → accepted image p ≡ false → armed image (packet p ∷ h) ≡ armed image h
  rejected_between p a = rw a

  pub fault_between : (f : ℕ) → armed image (fault f ∷ h) ≡ armed image h
  fault_between f = refl

  -- ticks counted from the wrong packet: from the nearest accepted one, whatever was rejected since
  pub ticks_from_accepted : (p : List ℕ) → accepted image p ≡ true → ticks_since image (packet p ∷ h) ≡ 0
  ticks_from_accepted p a = rw a

  pub ticks_past_rejected : (p : List ℕ) → accepted image p ≡ false → ticks_since image (packet p ∷ h) ≡ ticks_since image h
  ticks_past_rejected p a = rw a

  -- a reset that was stopped by protection counted as completed
  pub stopped_reset : (p : List ℕ) → packet_answer image h p ≡ 30 → resets image h (packet p) ≡ false
  stopped_reset p n = rw n (go (accepted image p) (eqb (selects image p) 1))
    where
      go : (a b : Bool) → (a && (b && false)) ≡ false
      go true true = refl
      go true false = refl
      go false b = refl

  -- a fault state that follows a fault of another id, or one that is not answered 10
  pub other_fault : (f k : ℕ) → (f ≡ (row_at image k).row.id → ⊥) ⊎ (fault_answer (state_of image h) (meant_by image f) ≡ 10 → ⊥) → state_of image (fault f ∷ h) k ≡ state_of image h k
  other_fault f k (inl n) = simp (go (meant_by image f) refl)
    where
      go : (place : Option ℕ) → meant_by image f ≡ place → this_row k place ≡ false
      go none e = refl
      go (some j) e = ne_eqb j k (λ q. n (sym (named_row image f k (e ∙ ap some q)).1))
  other_fault f k (inr n) =
      ap (λ b. cond (this_row k (meant_by image f) && b) (when_faulted (row_at image k).row) (state_of image h k)) (ne_eqb (fault_answer (state_of image h) (meant_by image f)) 10 n) ∙ go (this_row k (meant_by image f))
    where
      go : (b : Bool) → cond (b && false) (when_faulted (row_at image k).row) (state_of image h k) ≡ state_of image h k
      go true = refl
      go false = refl

  -- a fault state that follows faults answered 13
  pub quiet_fault : (f k : ℕ) → fault_answer (state_of image h) (meant_by image f) ≡ 13 → state_of image (fault f ∷ h) k ≡ state_of image h k
  quiet_fault f k n = other_fault f k (inr (λ e. omega (arith, n)))
