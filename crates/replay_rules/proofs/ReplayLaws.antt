-- Laws of a replay for its two entry points: a state that breaks its rules, one that keeps them, an image that is refused, and
-- one that loads, where the running path gives way to the plain reading.
use Rattle.std.specs.Prelude.{◌≡◌, true, false, ℕ, length, take}
use Rattle.std.proofs.Math.Path.{refl, ap}
use Rattle.std.proofs.Common.{sym, ◌∙◌, eq-eqb, ne_eqb}
use mathlib.Core.List.{List, []}
use Rattle.state.specs.declared.types.Config.{Config}
use Rattle.state.specs.declared.types.Counts.{Counts}
use Rattle.state.specs.declared.types.Run.{Run}
use Rattle.state.specs.Tables.{tables_of}
use Rattle.state.specs.Test.{keeps_rules}
use Rattle.step_effects.specs.Dispatch.{over}
use Rattle.image_load.specs.declared.types.Loaded.{Loaded}
use Rattle.image_rules.specs.Records.{Record, records_of}
use Rattle.image_load.specs.Image.{load_of}
use Rattle.history.specs.Plain.{Reply, latest_first}
use Rattle.history.specs.Path.{after}
use Rattle.history.specs.Known.{known_counts}
use Rattle.history.proofs.Agree.{agree, counters}
use Rattle.replay_rules.specs.declared.types.Piece.{Piece}
use Rattle.replay_rules.specs.declared.types.Replayed.{Replayed}
use Rattle.replay_rules.specs.Recording.{events_of, bytes_in, all_bytes, fitting}
use Rattle.replay_rules.specs.declared.types.Reached.{Reached}
use Rattle.replay_rules.specs.Replay.{Replays, Resumes, stop_of, answered, path_replies, piece, piece_of, piece_bytes, plain_replies, replayed, unloaded, replay_of, replay_bytes, reached_at}

-- ---- a piece behind any state

module _ (c : Config) (s : Run) (recording out : List ℕ) where
  pub breaks : keeps_rules c s ≡ false → Resumes c s recording out (reached_at s.standing 20 0 0 0) s.states out
  unfolding piece_of piece_bytes
  breaks e = record { told = rw e refl; output = rw e refl }

  pub keeps : keeps_rules c s ≡ true → {r : Reached} {states left : List ℕ} → Replays c s recording out r states left → Resumes c s recording out r states left
  unfolding piece_of piece_bytes
  keeps e h = record { told = h.told ∙ rw e refl; output = h.output ∙ rw e refl }

-- ---- a recording under any image

module _ (image recording out : List ℕ) {l : Loaded} (e : l ≡ load_of image) where
  pub refused : (l.answer ≡ 0 → ⊥) → (unloaded l.answer l.offset ≡ replay_of image recording (length out)) × (out ≡ over (replay_bytes image recording (length out)) out)
  unfolding replay_of replay_bytes
  refused n = rw (← e) (simp (ne_eqb _ _ n) (refl, refl))

  module _ (z : l.answer ≡ 0) where
    abbrev events : List Record
    events = records_of recording

    abbrev path : List Reply
    path = path_replies (tables_of l.config) l.run events (length out)

    loads : (load_of image).answer ≡ 0
    loads = ap (λ (x : Loaded). x.answer) (sym e) ∙ z

    plain : path ≡ plain_replies image recording (length out)
    plain = rw (e, eq-eqb _ _ loads) (ap (λ (xs : List Reply). fitting (length out) xs) (agree image loads (events_of events)))

    counted : (xs : List Reply) → (after (tables_of l.config) l.run (answered xs events)).standing.counts ≡ known_counts (records_of image) (latest_first [] (answered xs events))
    counted xs = rw e (counters image loads (answered xs events))

    abbrev whole : Piece → Replayed
    whole p = record { load = 0; offset = 0; stop = p.stop; read = p.read; count = p.count; wrote = p.wrote; counts = p.run.standing.counts }

    abbrev counting : List Reply → Counts → Replayed
    counting xs cs =
        record { load = 0; offset = 0; stop = stop_of xs events; read = bytes_in (take (length xs) events); count = length xs; wrote = length (all_bytes xs); counts = cs }

    final : replayed image events (plain_replies image recording (length out)) ≡ replay_of image recording (length out)
    unfolding replay_of
    final = rw (eq-eqb _ _ loads)

    -- the piece of the running path is the plain reading's
    pub loaded : {p : Piece} → p ≡ piece (tables_of l.config) l.run events path → {left : List ℕ} → left ≡ over (all_bytes path) out
        → (whole p ≡ replay_of image recording (length out))
        × (left ≡ over (replay_bytes image recording (length out)) out)
    unfolding replay_bytes
    loaded h o =
        let same : whole (piece (tables_of l.config) l.run events path) ≡ replayed image events path = ap (counting path) (counted path) in
        (ap whole h ∙ same ∙ ap (λ (xs : List Reply). replayed image events xs) plain ∙ final, o ∙ ap (λ (xs : List Reply). over (all_bytes xs) out) plain)
