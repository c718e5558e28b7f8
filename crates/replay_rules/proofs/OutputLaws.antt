-- Laws of the output: a command written behind the place of its numbers, then the numbers, then the next reply behind both.
use Rattle.std.specs.Prelude.{◌≡◌, List, [], ◌++◌, ℕ, ◌+◌, ◌-◌, ◌≤◌, length, take, drop}
use Rattle.std.proofs.Common.{sym, ap, ◌∙◌, append_assoc, append-nil, arith, length-append, length-drop, drop_of_length-le, take_all, take_at, drop_at, drop-drop, length-take-le, take-take}
use Rattle.std.proofs.Math.Seq.{drop-append-add}
use Rattle.std.proofs.lemmas.List.{take-append-le}
use Rattle.wire.specs.Put.{put_at}
use Rattle.step_effects.specs.Dispatch.{over}
use Rattle.replay_rules.specs.Recording.{head_size}
use Rattle.replay_rules.specs.OutputLaws.{back_as, part_from}

pub part_is : (out : List ℕ) (n : ℕ) → part_from out n ≡ drop n out
part_is out n = take_all (length out - n) (drop n out) (omega (arith, length-drop n out))

nothing_behind : (out : List ℕ) (n : ℕ) → drop (length out - n) (drop n out) ≡ []
nothing_behind out n = drop_of_length-le (drop n out) {i = length out - n} (omega (arith, length-drop n out))

module _ (out₀ done : List ℕ) (w : ℕ) (e : w ≡ length done) where
  -- what stands behind the replies is as it was
  pub behind_done : (n : ℕ) → drop (w + n) (over done out₀) ≡ drop (w + n) out₀
  behind_done n = rw e (drop-append-add done (drop (length done) out₀) n ∙ drop-drop n (length done) out₀)

  pub done_first : take w (over done out₀) ≡ done
  done_first = take_at done (drop (length done) out₀) w (sym e)

  module _ (head cmd : List ℕ) (sized : length head ≡ head_size) where
    -- the numbers put before a command
    pub numbers_put : (out : List ℕ) → take w out ≡ done → drop (w + head_size) out ≡ over cmd (drop (w + head_size) out₀)
        → put_at out w head ≡ over (done ++ (head ++ cmd)) out₀
    numbers_put out t d =
        let long : w + head_size + length cmd ≡ length (done ++ (head ++ cmd)) = rw (length-append done (head ++ cmd), length-append head cmd, sized) (omega (arith, e)) in
        let rest : drop (length cmd) (drop (w + head_size) out₀) ≡ drop (length (done ++ (head ++ cmd))) out₀ = drop-drop (length cmd) (w + head_size) out₀ ∙ ap (λ k. drop k out₀) long in
        rw (sized, t, d, rest) (simp append_assoc)

    -- a command of a step that was lent the part behind the numbers
    pub reply_put : w + head_size ≤ length out₀ → length done ≤ length out₀ → {part : List ℕ} → part ≡ over cmd (part_from (over done out₀) (w + head_size))
        → put_at (back_as (over done out₀) (w + head_size) part) w head ≡ over (done ++ (head ++ cmd)) out₀
    reply_put fits l {part} p =
        let out = over done out₀ in
        let long : length out ≡ length out₀ = length-append done (drop (length done) out₀) ∙ omega (arith, length-drop (length done) out₀) in
        let front : length (take (w + head_size) out) ≡ w + head_size = length-take-le (w + head_size) out (omega (arith, long)) in
        let same : part ++ drop (length out - (w + head_size)) (drop (w + head_size) out) ≡ over cmd (drop (w + head_size) out₀) = rw (nothing_behind out (w + head_size), append-nil part, p, part_is out (w + head_size), behind_done head_size) in
        numbers_put (back_as out (w + head_size) part)
        (take-append-le w (take (w + head_size) out) _ (omega (arith, front)) ∙ take-take w (w + head_size) out (omega arith) ∙ done_first)
        (drop_at (take (w + head_size) out) _ (w + head_size) front ∙ same)

    -- an answer with no command
    pub answer_put : cmd ≡ [] → put_at (over done out₀) w head ≡ over (done ++ (head ++ cmd)) out₀
    answer_put z = numbers_put (over done out₀) done_first (behind_done head_size ∙ rw z)
