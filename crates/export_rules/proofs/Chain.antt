-- The C boundary carries demands 1 and 3: a refused call hands back the very run that was saved, and a row of calls from a load
-- on has the plain replies, buffers and counters.
use Rattle.std.specs.Prelude.{◌≡◌, List, [], ◌∷◌, map, ℕ, ◌≤◌, eqb, leb, length}
use Rattle.std.proofs.Math.Path.{refl, ap}
use Rattle.std.proofs.Common.{sym, ◌∙◌, arith, leb-true, eqb-true}
use Rattle.std.proofs.Math.Bool.{Bool, true, false, cond}
use Rattle.std.proofs.lemmas.Bool.{false≢true, eqb-false}
use Rattle.packet_rules.specs.Layout.{command_id}
use Rattle.state.specs.declared.types.Config.{Config}
use Rattle.state.specs.declared.types.Run.{Run}
use Rattle.state.specs.Tables.{tables_of, config_from, with_arm, run_from}
use Rattle.state.specs.Rules.{member}
use Rattle.packet_rules.specs.Rejection.{is_rejection}
use Rattle.step_effects.specs.Dispatch.{over, step_room}
use Rattle.step_rules.specs.declared.types.Stepped.{Stepped}
use Rattle.step_rules.specs.Makers.{unchanged}
use Rattle.step_rules.specs.Step.{packet_step_of, tick_step_of, fault_step_of}
use Rattle.step_rules.proofs.Demand1.{packet_refused_unchanged, fault_refused_unchanged, tick_refused_unchanged, rejected_moves_only_r, packet_output_stays, fault_output_stays}
use Rattle.image_rules.specs.Records.{Record, records_of}
use Rattle.image_load.specs.Image.{load_of}
use Rattle.history.specs.Plain.{Event, packet, tick, fault, Reply, accepted, tables}
use Rattle.history.specs.Path.{reply_with}
use Rattle.history.specs.Known.{known_counts}
use Rattle.history.specs.Calls.{Call, step_of, calls, call_replies, after_calls, heard, CallBytes}
use Rattle.history.proofs.Calls.{calls_agree, calls_count}
use Rattle.history.specs.Outputs.{Buffered, call_of, output_for, outputs, laid}
use Rattle.history.proofs.Outputs.{outputs_agree}
use Rattle.history.specs.ArmRule.{PastExactly}
use Rattle.history.proofs.ArmRule.{arm_rule}
use Rattle.replay_rules.specs.Replay.{piece_of, piece_bytes}
use Rattle.replay_rules.proofs.ReplayTheorems.{piece_20}
use Rattle.export_rules.specs.declared.types.Saved.{Saved}
use Rattle.export_rules.specs.declared.types.Handed.{Handed}
use Rattle.export_rules.specs.declared.types.Portion.{Portion}
use Rattle.export_rules.specs.Boundary.{standing_inward, numbered, inward, outward, told, loading_of, Stepping, handed, refused_call, packet_call, tick_call, fault_call, Resuming, portion, idle_portion, resume_call, resume_bytes, saved_from, stepping, resuming, PacketCalls, FaultCalls, ResumeCalls}
use Rattle.export_rules.specs.Chain.{left_alone, only_r, call_on, calls_on, after_calls_on, outputs_on, Exports, Chain, ends, next}

-- ---- a run saved and taken back

-- is the run that it was
pub taken_back : (r : Run) → inward (outward r) ≡ r
taken_back r = ap (λ (b : Bool). run_from (with_arm (record { armed = b; ticks = r.standing.arm.ticks }) r.standing) r.states) (go r.standing.arm.armed)
  where
    go : (b : Bool) → eqb (cond b 1 0) 1 ≡ b
    go true = refl
    go false = refl

-- the number in place of its bool is 0 or 1
pub saved_told : (r : Run) → told (outward r) ≡ true
saved_told r = go r.standing.arm.armed
  where
    go : (b : Bool) → leb (cond b 1 0) 1 ≡ true
    go true = refl
    go false = refl

-- taken back and saved again, a run with such a number is what it was
pub saved_again : (s : Saved) → told s ≡ true → outward (inward s) ≡ s
saved_again s t = ap (λ (n : ℕ). saved_from (numbered n (standing_inward s.standing)) s.states) (go (eqb s.standing.armed 1) refl)
  where
    go : (b : Bool) → eqb s.standing.armed 1 ≡ b → cond b 1 0 ≡ s.standing.armed
    go true e = sym (eqb-true _ _ e)
    go false e = omega (arith, eqb-false s.standing.armed 1 e, leb-true s.standing.armed 1 t)

-- the step's own, handed out, where the run is told, and else 20
abbrev call_by : Saved → Stepped → Bool → Stepping
call_by s x b = cond b (handed x) (refused_call s)

alone : (s : Saved) (x : Stepped) → (20 ≤ x.answer.answer → x.answer.answer ≤ 21 → x ≡ unchanged (inward s) x.answer.answer) → (b : Bool) → told s ≡ b
    → 20 ≤ (call_by s x b).answer.answer → (call_by s x b).answer.answer ≤ 21 → call_by s x b ≡ left_alone s (call_by s x b).answer.answer
alone s x u true t h l = ap handed (u h l) ∙ ap (λ (r : Saved). left_alone r x.answer.answer) (saved_again s t)
alone s x u false t h l = refl

module _ (c : Config) (s : Saved) where
  -- a packet answered 20 or 21
  pub packet_call_refused : (p : List ℕ) (room : ℕ) → 20 ≤ (packet_call c s p room).answer.answer → (packet_call c s p room).answer.answer ≤ 21
      → packet_call c s p room ≡ left_alone s (packet_call c s p room).answer.answer
  unfolding packet_call
  packet_call_refused p room = alone s (packet_step_of c (inward s) p room) (packet_refused_unchanged c (inward s) p room) (told s) refl

  -- a fault answered 20 or 21
  pub fault_call_refused : (f room : ℕ) → 20 ≤ (fault_call c s f room).answer.answer → (fault_call c s f room).answer.answer ≤ 21
      → fault_call c s f room ≡ left_alone s (fault_call c s f room).answer.answer
  unfolding fault_call
  fault_call_refused f room = alone s (fault_step_of c (inward s) f room) (fault_refused_unchanged c (inward s) f room) (told s) refl

  -- a tick answered 20
  pub tick_call_refused : (tick_call c s).answer.answer ≡ 20 → tick_call c s ≡ left_alone s 20
  unfolding tick_call
  tick_call_refused = go (told s) refl
    where
      go : (b : Bool) → told s ≡ b → (call_by s (tick_step_of c (inward s)) b).answer.answer ≡ 20 → call_by s (tick_step_of c (inward s)) b ≡ left_alone s 20
      go true t h = ap handed (tick_refused_unchanged c (inward s) h) ∙ ap (λ (r : Saved). left_alone r 20) (saved_again s t)
      go false t h = refl

  -- a piece that stops with 20: nothing read, answered or written
  pub resume_call_refused : (recording : List ℕ) (room : ℕ) → (resume_call c s recording room).stop ≡ 20
      → (resume_call c s recording room ≡ idle_portion s) × (resume_bytes c s recording room ≡ [])
  unfolding resume_call resume_bytes
  resume_call_refused recording room = go (told s) refl
    where
      y : Bool → Resuming
      y b = cond b (portion (piece_of c (inward s) recording room)) (idle_portion s)

      go : (b : Bool) → told s ≡ b → (y b).stop ≡ 20 → (y b ≡ idle_portion s) × (cond b (piece_bytes c (inward s) recording room) [] ≡ [])
      go true e h =
          let i = piece_20 c (inward s) recording room h in
          (ap portion i.0 ∙ ap idle_portion (saved_again s e), i.1)
      go false e h = (refl, refl)

-- so of a packet that is rejected, whatever the configuration and the saved run
pub packet_call_rejected : (c : Config) (s : Saved) (p : List ℕ) (room : ℕ) → is_rejection (packet_call c s p room).answer.answer ≡ true
    → (packet_call c s p room).run ≡ only_r s
unfolding packet_call
packet_call_rejected c s p room = go (told s) refl
  where
    x : Stepped
    x = packet_step_of c (inward s) p room

    go : (b : Bool) → told s ≡ b → is_rejection (call_by s x b).answer.answer ≡ true → (call_by s x b).run ≡ only_r s
    go true t h = ap outward (rejected_moves_only_r c (inward s) p room h) ∙ ap only_r (saved_again s t)
    go false t h = absurd (false≢true h)

-- so of an exported function, by its contract: what it hands back and the fault states that it leaves are the run that it was
-- given, and the output is as it was
module _ {c : Config} {s : Saved} where
  pub packet_handed_back : {p out : List ℕ} {h : Handed} {states left : List ℕ} → PacketCalls c s p out h states left → 20 ≤ h.answer.answer → h.answer.answer ≤ 21
      → (stepping h states ≡ left_alone s h.answer.answer) × (left ≡ out)
  packet_handed_back {p} {out} {h} k a b =
      let e = ap (λ (x : Stepping). x.answer.answer) k.step in (
        k.step ∙ packet_call_refused c s p (length out) (rw e at a) (rw e at b) ∙ ap (λ (n : ℕ). left_alone s n) (sym e),
        k.output ∙ packet_output_stays (tables_of c) h.answer.answer p out (λ q. omega arith),
      )

  pub fault_handed_back : {f : ℕ} {out : List ℕ} {h : Handed} {states left : List ℕ} → FaultCalls c s f out h states left → 20 ≤ h.answer.answer → h.answer.answer ≤ 21
      → (stepping h states ≡ left_alone s h.answer.answer) × (left ≡ out)
  fault_handed_back {f} {out} {h} k a b =
      let e = ap (λ (x : Stepping). x.answer.answer) k.step in (
        k.step ∙ fault_call_refused c s f (length out) (rw e at a) (rw e at b) ∙ ap (λ (n : ℕ). left_alone s n) (sym e),
        k.output ∙ fault_output_stays (tables_of c) h.answer.answer f out (λ q. omega arith),
      )

  pub resume_handed_back : {recording out : List ℕ} {p : Portion} {states left : List ℕ} → ResumeCalls c s recording out p states left → p.stop ≡ 20
      → (resuming p states ≡ idle_portion s) × (left ≡ out)
  resume_handed_back {recording} {out} k a =
      let i = resume_call_refused c s recording (length out) (sym (ap (λ (x : Resuming). x.stop) k.told) ∙ a) in
      (k.told ∙ i.0, k.output ∙ ap (λ (b : List ℕ). over b out) i.1)

  -- any answer but 10 leaves the output, on any saved run
  pub packet_unsent_stays : {p out : List ℕ} {h : Handed} {states left : List ℕ} → PacketCalls c s p out h states left → (h.answer.answer ≡ 10 → ⊥) → left ≡ out
  packet_unsent_stays {p} {out} {h} k n = k.output ∙ packet_output_stays (tables_of c) h.answer.answer p out n

  pub fault_unsent_stays : {f : ℕ} {out : List ℕ} {h : Handed} {states left : List ℕ} → FaultCalls c s f out h states left → (h.answer.answer ≡ 10 → ⊥) → left ≡ out
  fault_unsent_stays {f} {out} {h} k n = k.output ∙ fault_output_stays (tables_of c) h.answer.answer f out n

pub tick_handed_back : (c : Config) (s : Saved) (h : Handed) (states : List ℕ) → stepping h states ≡ tick_call c s → h.answer.answer ≡ 20 → stepping h states ≡ left_alone s 20
tick_handed_back c s h states k a = k ∙ tick_call_refused c s (sym (ap (λ (x : Stepping). x.answer.answer) k) ∙ a)

-- on a saved run each of these is what the path does on the run itself, whatever the configuration and the run
module _ (c : Config) where
  same_call : (r : Run) (e : Event) (room : ℕ) → call_on c (outward r) e room ≡ handed (step_of c r e room)
  unfolding packet_call tick_call fault_call
  same_call r (packet p) room = rw (saved_told r, taken_back r)
  same_call r tick room = rw (saved_told r, taken_back r)
  same_call r (fault f) room = rw (saved_told r, taken_back r)

  pub same_calls : (r : Run) (xs : List Call) → calls_on c (outward r) xs ≡ calls c r xs
  same_calls r [] = refl
  same_calls r (x ∷ xs) =
      let s = step_of c r x.event x.room in
      rw (same_call r x.event x.room) (ap (λ (l : List Reply). reply_with (tables_of c) x.event s.answer ∷ l) (same_calls s.run xs))

  pub same_after : (r : Run) (xs : List Call) → after_calls_on c (outward r) xs ≡ outward (after_calls c r xs)
  same_after r [] = refl
  same_after r (x ∷ xs) = rw (same_call r x.event x.room) (same_after (step_of c r x.event x.room).run xs)

  pub same_outputs : (r : Run) (xs : List Buffered) → outputs_on c (outward r) xs ≡ outputs c r xs
  same_outputs r [] = refl
  same_outputs r (x ∷ xs) =
      let s = step_of c r x.event (length x.out) in
      rw (same_call r x.event (length x.out)) (ap (λ (l : List (List ℕ)). output_for (tables_of c) x.event s.answer.answer x.out ∷ l) (same_outputs s.run xs))

-- from a load on
module _ (image : List ℕ) (z : (loading_of image).answer ≡ 0) where
  abbrev records : List Record
  records = records_of image

  abbrev config : Config
  config = (loading_of image).config

  abbrev begun : Saved
  begun = (loading_of image).run

  module _ (xs : List Call) (b : CallBytes xs) where
    -- every answer is the plain one
    pub c_calls_agree : calls_on config begun xs ≡ call_replies records [] xs
    c_calls_agree = same_calls config (load_of image).run xs ∙ calls_agree image z xs b

    -- each counter of the saved run is the number of its steps among the calls that had room
    pub c_calls_count : (after_calls_on config begun xs).standing.counts ≡ known_counts records (heard [] xs)
    c_calls_count = ap (λ (s : Saved). s.standing.counts) (same_after config (load_of image).run xs) ∙ calls_count image z xs b

    -- the arm rule: a protected command from an accepted packet is let past exactly when the calls before it with room say so
    pub c_arm_rule :
        (p : List ℕ) → accepted records p ≡ true → member (command_id p) (tables records).protected ≡ true → (room : ℕ) → step_room ≤ room
        → PastExactly records (heard [] xs) (call_on config (after_calls_on config begun xs) (packet p) room).answer.answer
    c_arm_rule p a m room l =
        let s = same_after config (load_of image).run xs in
        let e = ap (λ (r : Saved). (call_on config r (packet p) room).answer.answer) s ∙ ap (λ (x : Stepping). x.answer.answer) (same_call config (after_calls config (load_of image).run xs) (packet p) room) in
        rw e (arm_rule image z xs b p a m room l)

  -- every buffer is, byte by byte, the plain one
  pub c_outputs_agree : (xs : List Buffered) → CallBytes (map call_of xs) → outputs_on config begun xs ≡ laid (call_replies records [] (map call_of xs)) xs
  c_outputs_agree xs b = same_outputs config (load_of image).run xs ∙ outputs_agree image z xs b

-- a call is lent columns and numbers; where they are those of a configuration and of a run, its contract speaks of these
pub lent_config : (c : Config) → config_from c.numbers c.routeids c.dests c.protected c.faultids c.responses c.latching c.argcounts c.args ≡ c
lent_config c = refl

pub lent_run : (s : Saved) → saved_from s.standing s.states ≡ s
lent_run s = refl

exports : (c : Config) (s : Saved) (e : Event) (out : List ℕ) (h : Handed) (states left : List ℕ) → Exports c s e out h states left
    → (stepping h states ≡ call_on c s e (length out)) × (left ≡ output_for (tables_of c) e h.answer.answer out)
exports c s (packet p) out h states left k = (k.step, k.output)
exports c s tick out h states left k = (k.0, k.2)
exports c s (fault f) out h states left k = (k.step, k.output)

-- such a row is a list of the calls above
pub chained : {c : Config} {s last : Saved} {xs : List Buffered} {rs : List Reply} {os : List (List ℕ)} → Chain c s xs rs os last
    → (rs ≡ calls_on c s (map call_of xs)) × (os ≡ outputs_on c s xs) × (last ≡ after_calls_on c s (map call_of xs))
chained (ends s) = (refl, refl, refl)
chained {c} (next s x h states left k {xs} more) =
    let e = exports c s x.event x.out h states left k in
    let ih = chained more in (
      rw (← e.0) (ap (λ (l : List Reply). reply_with (tables_of c) x.event h.answer ∷ l) ih.0),
      rw (← e.0, e.1) (ap (λ (l : List (List ℕ)). output_for (tables_of c) x.event h.answer.answer x.out ∷ l) ih.1),
      ih.2 ∙ ap (λ (y : Stepping). after_calls_on c y.run (map call_of xs)) e.0,
    )

-- any row of exported calls behind a load that answered 0: the plain replies, the plain buffers, and the plain counters
pub chain_agrees : (image : List ℕ) → (loading_of image).answer ≡ 0 → {xs : List Buffered} {rs : List Reply} {os : List (List ℕ)} {last : Saved}
    → CallBytes (map call_of xs) → Chain (loading_of image).config (loading_of image).run xs rs os last
    → (rs ≡ call_replies (records_of image) [] (map call_of xs))
    × (os ≡ laid (call_replies (records_of image) [] (map call_of xs)) xs)
    × (last.standing.counts ≡ known_counts (records_of image) (heard [] (map call_of xs)))
chain_agrees image z {xs} b k =
    let e = chained k in (
      e.0 ∙ c_calls_agree image z (map call_of xs) b,
      e.1 ∙ c_outputs_agree image z xs b,
      ap (λ (s : Saved). s.standing.counts) e.2 ∙ c_calls_count image z (map call_of xs) b,
    )

-- and the arm rule: behind any such row, a protected command from an accepted packet is let past exactly when the calls say so
pub chain_arm_rule : (image : List ℕ) → (loading_of image).answer ≡ 0 → {xs : List Buffered} {rs : List Reply} {os : List (List ℕ)} {last : Saved}
    → CallBytes (map call_of xs) → Chain (loading_of image).config (loading_of image).run xs rs os last
    → {p out : List ℕ} {h : Handed} {states left : List ℕ} → accepted (records_of image) p ≡ true → member (command_id p) (tables (records_of image)).protected ≡ true → step_room ≤ length out
    → PacketCalls (loading_of image).config last p out h states left
    → PastExactly (records_of image) (heard [] (map call_of xs)) h.answer.answer
chain_arm_rule image z {xs} b k {p} {out} a m l q =
    let e = ap (λ (x : Stepping). x.answer.answer) q.step ∙ ap (λ (s : Saved). (packet_call (loading_of image).config s p (length out)).answer.answer) (chained k).2 in
    rw e (c_arm_rule image z (map call_of xs) b p a m (length out) l)
