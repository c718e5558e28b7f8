-- A recording in pieces across the C boundary: a row of `tz_resume` calls, each on what the one before left unread and on the run
-- that it handed back, gives the bytes and the run of one call on the whole.
use Rattle.std.specs.Prelude.{◌≡◌, Bool, true, false, List, [], ◌∷◌, ◌++◌, ℕ, take, drop}
use Rattle.std.proofs.Math.Path.{refl}
use Rattle.std.proofs.Common.{sym, ap, subst, ◌∙◌}
use Rattle.state.specs.declared.types.Config.{Config}
use Rattle.state.specs.declared.types.Run.{Run}
use Rattle.wire.specs.Bytes.{Bytes}
use Rattle.image_rules.specs.Records.{records_of}
use Rattle.image_load.specs.Image.{load_of}
use Rattle.history.specs.Plain.{replies, latest_first}
use Rattle.history.specs.Known.{known_counts}
use Rattle.replay_rules.specs.Recording.{output_full, events_of, all_bytes}
use Rattle.replay_rules.specs.Replay.{piece_of, piece_bytes}
use Rattle.replay_rules.specs.Pieces.{Turn, chain, chain_bytes, all_more}
use Rattle.replay_rules.proofs.Pieces.{pieces_agree, as_one_call}
use Rattle.export_rules.specs.declared.types.Saved.{Saved}
use Rattle.export_rules.specs.Boundary.{loading_of, inward, outward, told, Resuming, portion, idle_portion, resume_call, resume_bytes}
use Rattle.export_rules.proofs.Chain.{taken_back, saved_told, saved_again}
use Rattle.export_rules.specs.PieceChain.{joined_on, chain_on, chain_bytes_on}

module _ (c : Config) where
  same_piece : (r : Run) (a : List ℕ) (room : ℕ) → resume_call c (outward r) a room ≡ portion (piece_of c r a room)
  unfolding resume_call
  same_piece r a room = rw (saved_told r, taken_back r)

  same_bytes : (r : Run) (a : List ℕ) (room : ℕ) → resume_bytes c (outward r) a room ≡ piece_bytes c r a room
  unfolding resume_bytes
  same_bytes r a room = rw (saved_told r, taken_back r)

  -- on a saved run these are the path's own pieces, handed out
  pub same_chain : (r : Run) (a : List ℕ) (room : ℕ) (xs : List Turn) → chain_on c (outward r) a room xs ≡ portion (chain c r a room xs)
  same_chain r a room [] = same_piece r a room
  same_chain r a room (x ∷ xs) =
      let p = piece_of c r a room in
      rw (same_piece r a room) (ap (λ (q : Resuming). joined_on (portion p) q) (same_chain p.run (drop p.read a ++ x.more) x.room xs))

  pub same_chain_bytes : (r : Run) (a : List ℕ) (room : ℕ) (xs : List Turn) → chain_bytes_on c (outward r) a room xs ≡ chain_bytes c r a room xs
  same_chain_bytes r a room [] = same_bytes r a room
  same_chain_bytes r a room (x ∷ xs) =
      let p = piece_of c r a room in
      rw (same_piece r a room, same_bytes r a room) (ap (λ (l : List ℕ). piece_bytes c r a room ++ l) (same_chain_bytes p.run (drop p.read a ++ x.more) x.room xs))

  from_run : (r : Run) (a : List ℕ) (room : ℕ) (xs : List Turn) (ample : ℕ) → Bytes (a ++ all_more xs)
      → ((chain_on c (outward r) a room xs).stop ≡ output_full → ⊥) → ((resume_call c (outward r) (a ++ all_more xs) ample).stop ≡ output_full → ⊥)
      → (chain_on c (outward r) a room xs ≡ resume_call c (outward r) (a ++ all_more xs) ample)
      × (chain_bytes_on c (outward r) a room xs ≡ resume_bytes c (outward r) (a ++ all_more xs) ample)
  from_run r a room xs ample b =
      rw (same_chain r a room xs, same_chain_bytes r a room xs, same_piece r (a ++ all_more xs) ample, same_bytes r (a ++ all_more xs) ample)
      (λ m n. let e = as_one_call c r a room xs ample b m n in (ap portion e.0, e.1))

  -- on a saved run with any other number in place of its bool each call idles, and so do all of them
  module _ (s : Saved) (e : told s ≡ false) where
    idle_call : (a : List ℕ) (room : ℕ) → resume_call c s a room ≡ idle_portion s
    unfolding resume_call
    idle_call a room = rw e refl

    idle_bytes : (a : List ℕ) (room : ℕ) → resume_bytes c s a room ≡ []
    unfolding resume_bytes
    idle_bytes a room = rw e refl

    pub idle_chain : (a : List ℕ) (room : ℕ) (xs : List Turn) → chain_on c s a room xs ≡ idle_portion s
    idle_chain a room [] = idle_call a room
    idle_chain a room (x ∷ xs) = rw (idle_call a room) (ap (λ (q : Resuming). joined_on (idle_portion s) q) (idle_chain (a ++ x.more) x.room xs))

    pub idle_chain_bytes : (a : List ℕ) (room : ℕ) (xs : List Turn) → chain_bytes_on c s a room xs ≡ []
    idle_chain_bytes a room [] = idle_bytes a room
    idle_chain_bytes a room (x ∷ xs) = rw (idle_call a room, idle_bytes a room) (idle_chain_bytes (a ++ x.more) x.room xs)

  -- so any calls on any saved run come to one call on all the bytes, where neither the last of them nor that one stops for room
  pub c_pieces : (s : Saved) (a : List ℕ) (room : ℕ) (xs : List Turn) (ample : ℕ) → Bytes (a ++ all_more xs)
      → ((chain_on c s a room xs).stop ≡ output_full → ⊥) → ((resume_call c s (a ++ all_more xs) ample).stop ≡ output_full → ⊥)
      → (chain_on c s a room xs ≡ resume_call c s (a ++ all_more xs) ample)
      × (chain_bytes_on c s a room xs ≡ resume_bytes c s (a ++ all_more xs) ample)
  c_pieces s a room xs ample b = go (told s) refl
    where
      One : Saved → Type 0
      One v = ((chain_on c v a room xs).stop ≡ output_full → ⊥) → ((resume_call c v (a ++ all_more xs) ample).stop ≡ output_full → ⊥)
          → (chain_on c v a room xs ≡ resume_call c v (a ++ all_more xs) ample) × (chain_bytes_on c v a room xs ≡ resume_bytes c v (a ++ all_more xs) ample)

      go : (k : Bool) → told s ≡ k → One s
      go true t = subst One (saved_again s t) (from_run (inward s) a room xs ample b)
      go false t = λ m n. (
        idle_chain s t a room xs ∙ sym (idle_call s t (a ++ all_more xs) ample),
        idle_chain_bytes s t a room xs ∙ sym (idle_bytes s t (a ++ all_more xs) ample),
      )

-- demand 3 of such calls from `tz_load` on: they write the plain replies to the first events, as many as they counted, and each
-- counter is the number of its steps among these; nothing is asked of the rooms
pub c_pieces_agree : (image : List ℕ) → (loading_of image).answer ≡ 0 → (a : List ℕ) (room : ℕ) (xs : List Turn) → Bytes (a ++ all_more xs)
    → let es = events_of (records_of (a ++ all_more xs)) in
    let n = (chain_on (loading_of image).config (loading_of image).run a room xs).count in
    (chain_bytes_on (loading_of image).config (loading_of image).run a room xs ≡ all_bytes (take n (replies (records_of image) [] es)))
    × ((chain_on (loading_of image).config (loading_of image).run a room xs).run.standing.counts ≡ known_counts (records_of image) (latest_first [] (take n es)))
c_pieces_agree image z a room xs b =
    rw (same_chain (load_of image).config (load_of image).run a room xs, same_chain_bytes (load_of image).config (load_of image).run a room xs) (pieces_agree image z a room xs b)
