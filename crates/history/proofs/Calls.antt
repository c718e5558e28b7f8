-- Demand 3 for the public steps, which judge the state and the output room at each call: no call is ever refused with 20, and
-- a call refused for room does nothing, so that leaving it out of the list is justified.
use Rattle.std.specs.Prelude.{◌≡◌, refl, Bool, true, false, List, [], ◌∷◌, ℕ}
use Rattle.std.proofs.Common.{sym, ap, ◌∙◌}
use Rattle.std.proofs.lemmas.Bool.{false≢true}
use Rattle.state.specs.declared.types.Config.{Config}
use Rattle.state.specs.declared.types.Run.{Run}
use Rattle.state.specs.Tables.{Tables, tables_of}
use Rattle.state.specs.Test.{keeps_rules}
use Rattle.state.specs.Keeps.{Keeps}
use Rattle.state.proofs.KeepsLaws.{kept, keeps}
use Rattle.step_rules.specs.Makers.{unchanged}
use Rattle.step_rules.specs.Step.{packet_step_of, tick_step_of, fault_step_of}
use Rattle.step_rules.proofs.Demand1.{packet_20_broken, tick_20_broken, fault_20_broken}
use Rattle.step_rules.proofs.RulesKept.{packet_keeps, tick_keeps, fault_keeps}
use Rattle.image_rules.specs.Records.{Record, records_of}
use Rattle.image_load.specs.Image.{load_of}
use Rattle.image_load.proofs.LoadTheorems.{loaded_tables, loaded_keeps}
use Rattle.history.specs.Plain.{Event, packet, tick, fault, Reply, bare_reply, reply}
use Rattle.history.specs.Path.{step, reply_of}
use Rattle.history.specs.Known.{known, known_counts}
use Rattle.history.proofs.KnownLaws.{step_known}
use Rattle.history.proofs.Agree.{sound, fresh}
use Rattle.history.specs.Calls.{Call, roomy, step_of, calls, call_replies, call_reply, after_calls, heard, EventBytes, CallBytes}

-- ---- one call

module _ (c : Config) (run : Run) (room : ℕ) (k : keeps_rules c run ≡ true) where
  -- a call refused for room does nothing
  pub cramped : (e : Event) → roomy e room ≡ false → step_of c run e room ≡ unchanged run 21
  unfolding packet_step_of fault_step_of
  cramped (packet p) l = simp (k, l)
  cramped tick l = absurd (false≢true (sym l))
  cramped (fault f) l = simp (k, l)

  pub with_room : (e : Event) → roomy e room ≡ true → step_of c run e room ≡ step (tables_of c) run e
  unfolding packet_step_of fault_step_of tick_step_of
  with_room (packet p) l = simp (k, l)
  with_room tick l = simp k
  with_room (fault f) l = simp (k, l)

pub step_keeps : {c : Config} {run : Run} → Keeps c run → (e : Event) → EventBytes e → Keeps c (step (tables_of c) run e).run
step_keeps k (packet p) b = packet_keeps k p b
step_keeps k tick b = tick_keeps k
step_keeps k (fault f) b = fault_keeps k f

silent : (t : Tables) (e : Event) (run : Run) → reply_of t e (unchanged run 21) ≡ bare_reply 21
silent t (packet p) run = refl
silent t tick run = refl
silent t (fault f) run = refl

-- ---- every list of calls

module _ (image : List ℕ) (z : (load_of image).answer ≡ 0) where
  abbrev records : List Record
  records = records_of image

  abbrev config : Config
  config = (load_of image).config

  -- the same replies, and the run that the plain reading knows, which keeps its rules
  abbrev Agrees : List Event → List Call → Type 0
  Agrees h xs =
      (calls config (known records h) xs ≡ call_replies records h xs)
      × (after_calls config (known records h) xs ≡ known records (heard h xs))
      × (keeps_rules config (known records (heard h xs)) ≡ true)

  from : (h : List Event) (xs : List Call) → keeps_rules config (known records h) ≡ true → CallBytes xs → Agrees h xs
  from h [] k b = (refl, refl, k)
  from h (x ∷ xs) k b = go (roomy x.event x.room) refl (from h xs k b.1) (λ n. from (x.event ∷ h) xs n b.1)
    where
      e : Event
      e = x.event

      go : (r : Bool) → roomy x.event x.room ≡ r → Agrees h xs → (keeps_rules config (known records (x.event ∷ h)) ≡ true → Agrees (x.event ∷ h) xs) → Agrees h (x ∷ xs)
      go false l same next =
          rw (l, cramped config (known records h) x.room k e l, silent (tables_of config) e (known records h)) (ap (λ (rs : List Reply). bare_reply 21 ∷ rs) same.0, same.1, same.2)
      go true l same next =
          let s = step_known records (sound image z) h e in
          let n : keeps_rules config (step (tables_of config) (known records h) e).run ≡ true = kept _ _ (step_keeps (keeps _ _ k) e b.0) in
          let a = next (rw (loaded_tables image z, s.1) at n) in
          rw (l, with_room config (known records h) x.room k e l, loaded_tables image z, s.0, s.1) (ap (λ (rs : List Reply). reply records h e ∷ rs) a.0, a.1, a.2)

  -- one call on the run that the plain reading knows
  answers : (h : List Event) → keeps_rules config (known records h) ≡ true → (x : Call) → reply_of (tables_of config) x.event (step_of config (known records h) x.event x.room) ≡ call_reply records h x
  answers h k x = go (roomy x.event x.room) refl
    where
      go : (r : Bool) → roomy x.event x.room ≡ r → reply_of (tables_of config) x.event (step_of config (known records h) x.event x.room) ≡ call_reply records h x
      go false l = rw (l, cramped config (known records h) x.room k x.event l) (silent (tables_of config) x.event (known records h))
      go true l = rw (l, with_room config (known records h) x.room k x.event l, loaded_tables image z) (step_known records (sound image z) h x.event).0

  module _ (xs : List Call) (b : CallBytes xs) where
    loaded : Agrees [] xs
    loaded = from [] xs (rw (fresh image z) at (loaded_keeps image z)) b

    -- from the load on, the public steps and the plain reading agree on every answer, and on the bytes of every command sent on;
    -- `Outputs` says so of the buffers that the steps leave
    pub calls_agree : calls config (load_of image).run xs ≡ call_replies records [] xs
    calls_agree = rw (fresh image z) loaded.0

    -- the run that they leave is the one that the plain reading knows
    pub calls_leave : after_calls config (load_of image).run xs ≡ known records (heard [] xs)
    calls_leave = rw (fresh image z) loaded.1

    -- it keeps its rules
    pub calls_keep : keeps_rules config (after_calls config (load_of image).run xs) ≡ true
    calls_keep = rw calls_leave loaded.2

    -- so no call from the load on is answered 20
    pub never_20 : (x : Call) → (step_of config (after_calls config (load_of image).run xs) x.event x.room).answer.answer ≡ 20 → ⊥
    never_20 x n = false≢true (sym (broken x.event n) ∙ calls_keep)
      where
        broken : (e : Event) → (step_of config (after_calls config (load_of image).run xs) e x.room).answer.answer ≡ 20 → keeps_rules config (after_calls config (load_of image).run xs) ≡ false
        broken (packet p) n = packet_20_broken _ _ p x.room n
        broken tick n = tick_20_broken _ _ n
        broken (fault f) n = fault_20_broken _ _ f x.room n

    -- and each counter is the number of its steps among the calls that had room
    pub calls_count : (after_calls config (load_of image).run xs).standing.counts ≡ known_counts records (heard [] xs)
    calls_count = ap (λ (r : Run). r.standing.counts) calls_leave

    -- one call behind them has the plain reply that the calls before it with room ask for
    pub call_behind : (x : Call) → reply_of (tables_of config) x.event (step_of config (after_calls config (load_of image).run xs) x.event x.room) ≡ call_reply records (heard [] xs) x
    call_behind x = rw calls_leave (answers (heard [] xs) loaded.2 x)
