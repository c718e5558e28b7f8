-- Demand 3 over the output buffers themselves: what each public step leaves in the buffer that was lent to it, byte by byte, is
-- the plain reply's bytes over what stood there.
use Rattle.std.specs.Prelude.{◌≡◌, refl, Bool, true, false, cond, List, [], ◌∷◌, map, ℕ, zero, suc, ◌≤◌, eqb, leb, length, drop}
use Rattle.std.proofs.Common.{ap, subst, ◌∙◌, arith, lit≤, length-append, length-drop, drop_at, ne_eqb, leb-true}
use Rattle.std.proofs.Math.Option.{Option, none, some}
use Rattle.packet_rules.specs.Layout.{command_id}
use Rattle.packet_rules.specs.Judge.{arguments_of}
use Rattle.packet_rules.proofs.PacketParts.{arguments_few}
use Rattle.state.specs.declared.types.Config.{Config}
use Rattle.state.specs.declared.types.Run.{Run}
use Rattle.state.specs.Tables.{FaultRow, Tables, routed, tables_of}
use Rattle.state.specs.Keeps.{Each, RowOk}
use Rattle.step_effects.specs.Dispatch.{command_bytes, over, sent, step_room}
use Rattle.step_effects.specs.FaultStates.{meant, row_for}
use Rattle.step_rules.specs.Step.{packet_output, fault_output}
use Rattle.image_rules.specs.Records.{Record, records_of}
use Rattle.image_load.specs.Image.{load_of}
use Rattle.image_load.proofs.LoadTheorems.{loads_good}
use Rattle.history.specs.Plain.{Event, packet, tick, fault, Reply, bare_reply, tables, reply}
use Rattle.history.specs.Path.{step, bytes_for, reply_of}
use Rattle.history.specs.Known.{known}
use Rattle.history.proofs.KnownLaws.{step_known}
use Rattle.history.proofs.Agree.{sound}
use Rattle.history.specs.Calls.{Call, roomy, step_of, calls, call_replies, call_reply, after_calls, heard, CallBytes}
use Rattle.history.proofs.Calls.{calls_agree, call_behind}
use Rattle.history.specs.Outputs.{Buffered, call_of, output_for, output_of, outputs, laid, Fits, Leaves}

-- ---- the output of a step is its reply's bytes over what stood there, on any configuration and run

sent_over : (n source id : ℕ) (args out : List ℕ) → sent n source id args out ≡ over (cond (eqb n 10) (command_bytes source id args) []) out
unfolding sent
sent_over n source id args out = go (eqb n 10)
  where
    go : (b : Bool) → cond b (over (command_bytes source id args) out) out ≡ over (cond b (command_bytes source id args) []) out
    go true = refl
    go false = refl

module _ (t : Tables) (n : ℕ) (out : List ℕ) where
  pub packet_over : (p : List ℕ) → packet_output t n p out ≡ over (bytes_for t (packet p) n) out
  unfolding packet_output
  packet_over p = sent_over n t.settings.ground_source (command_id p) (arguments_of p) out

  pub fault_over : (f : ℕ) → fault_output t n f out ≡ over (bytes_for t (fault f) n) out
  unfolding fault_output
  fault_over f = let row = row_for (meant t f) t.rows in sent_over n t.settings.fault row.response row.args out

  pub output_over : (e : Event) → output_for t e n out ≡ over (bytes_for t e n) out
  output_over (packet p) = packet_over p
  output_over tick = refl
  output_over (fault f) = fault_over f

-- of a list of calls
pub outputs_over : (c : Config) (s : Run) (xs : List Buffered) → outputs c s xs ≡ laid (calls c s (map call_of xs)) xs
outputs_over c s [] = refl
outputs_over c s (x ∷ xs) =
    let r = step_of c s x.event (length x.out) in
    rw (output_over (tables_of c) r.answer.answer x.out x.event)
    (ap (λ (l : List (List ℕ)). over (bytes_for (tables_of c) x.event r.answer.answer) x.out ∷ l) (outputs_over c r.run xs))

-- a row that keeps its rules has at most 16 arguments
row_few : (ids : List ℕ) (rows : List FaultRow) → Each (RowOk ids) rows → (place : Option ℕ) → length (row_for place rows).args ≤ 255
row_few ids rows h none = lit≤ tt
row_few ids [] h (some k) = lit≤ tt
row_few ids (r ∷ rows) h (some zero) = omega (arith, h.0.few_args)
row_few ids (r ∷ rows) h (some (suc k)) = row_few ids rows h.1 (some k)

command_fits : (n source id : ℕ) (args : List ℕ) → length args ≤ 255
    → (length (cond (eqb n 10) (command_bytes source id args) []) ≤ step_room) × ((n ≡ 10 → ⊥) → cond (eqb n 10) (command_bytes source id args) [] ≡ [])
command_fits n source id args l = (go (eqb n 10), λ h. simp (ne_eqb n 10 h))
  where
    go : (b : Bool) → length (cond b (command_bytes source id args) []) ≤ step_room
    go true = omega arith
    go false = lit≤ tt

-- so does every reply of the running path, whatever its run
pub step_fits : (t : Tables) → Each (RowOk (routed t)) t.rows → (s : Run) (e : Event) → Fits (reply_of t e (step t s e))
step_fits t ok s (packet p) =
    let f = command_fits (step t s (packet p)).answer.answer t.settings.ground_source (command_id p) (arguments_of p) (arguments_few p) in
    record { short = f.0; quiet = f.1 }
step_fits t ok s tick = record { short = lit≤ tt; quiet = λ q. refl }
step_fits t ok s (fault f) =
    let r = row_for (meant t f) t.rows in
    let w = command_fits (step t s (fault f)).answer.answer t.settings.fault r.response r.args (row_few (routed t) t.rows ok (meant t f)) in
    record { short = w.0; quiet = w.1 }

bare_fits : (n : ℕ) → Fits (bare_reply n)
bare_fits n = record { short = lit≤ tt; quiet = λ q. refl }

leaves : {r : Reply} {out left : List ℕ} → Fits r → length r.bytes ≤ length out → left ≡ over r.bytes out → Leaves r out left
leaves {r} {out} h l e =
    record {
      is = e;
      stays = λ n. e ∙ rw (h.quiet n);
      later_stay = rw e (drop_at r.bytes (drop (length r.bytes) out) (length r.bytes) refl);
      long = rw e (simp (length-append, length-drop) (omega arith));
    }

module _ (image : List ℕ) (z : (load_of image).answer ≡ 0) where
  abbrev records : List Record
  records = records_of image

  abbrev config : Config
  config = (load_of image).config

  -- every plain reply under an image that loads
  pub reply_fits : (h : List Event) (e : Event) → Fits (reply records h e)
  reply_fits h e =
      subst (λ (r : Reply). Fits r) (step_known records (sound image z) h e).0 (step_fits (tables records) (loads_good image z).rules.rows_ok (known records h) e)

  call_fits : (h : List Event) (x : Call) → Fits (call_reply records h x)
  call_fits h x = go (roomy x.event x.room)
    where
      go : (b : Bool) → Fits (cond b (reply records h x.event) (bare_reply 21))
      go true = reply_fits h x.event
      go false = bare_fits 21

  -- the bytes of a plain reply find room
  call_room : (h : List Event) (x : Call) → length (call_reply records h x).bytes ≤ x.room
  call_room h x = by x.event
    where
      sends : (e : Event) (b : Bool) → leb step_room x.room ≡ b → length (cond b (reply records h e) (bare_reply 21)).bytes ≤ x.room
      sends e true l = omega (arith, (reply_fits h e).short, leb-true step_room x.room l)
      sends e false l = omega arith

      by : (e : Event) → length (cond (roomy e x.room) (reply records h e) (bare_reply 21)).bytes ≤ x.room
      by (packet p) = sends (packet p) (leb step_room x.room) refl
      by tick = omega arith
      by (fault f) = sends (fault f) (leb step_room x.room) refl

  -- from the load on, every buffer that the public steps leave is, byte by byte, the one of the plain reading
  pub outputs_agree : (xs : List Buffered) → CallBytes (map call_of xs) → outputs config (load_of image).run xs ≡ laid (call_replies records [] (map call_of xs)) xs
  outputs_agree xs b = rw (outputs_over config (load_of image).run xs, calls_agree image z (map call_of xs) b)

  -- so behind any calls: what a call leaves in its buffer
  pub output_behind : (xs : List Call) → CallBytes xs → (x : Buffered) → Leaves (call_reply records (heard [] xs) (call_of x)) x.out (output_of config (after_calls config (load_of image).run xs) x)
  output_behind xs b x =
      let s = step_of config (after_calls config (load_of image).run xs) x.event (length x.out) in
      leaves (call_fits (heard [] xs) (call_of x)) (call_room (heard [] xs) (call_of x))
      (output_over (tables_of config) s.answer.answer x.out x.event ∙ ap (λ (r : Reply). over r.bytes x.out) (call_behind image z xs b (call_of x)))
