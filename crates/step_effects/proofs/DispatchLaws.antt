-- Laws of the dispatch writer: a head and then the arguments put into the output, and the two cases of an answer.
use Rattle.std.specs.Prelude.{◌≡◌, ℕ, List, ◌++◌, length, ◌≢◌}
use Rattle.std.proofs.Common.{eq-eqb, ne_eqb}
use Rattle.wire.specs.Put.{put_at}
use Rattle.wire.specs.PutLaws.{put_first, put_behind}
use Rattle.step_effects.specs.Dispatch.{command_bytes, over, sent, for10}

-- bytes from the start, and bytes behind them, are the two together from the start
pub put_twice : (out head rest : List ℕ) (n : ℕ) → length head ≡ n → put_at (put_at out 0 head) n rest ≡ over (head ++ rest) out
put_twice out head rest n e = rw (put_first out head) (put_behind out head rest n e)

module _ (n source id : ℕ) (args out : List ℕ) where
  pub sent_not : (n ≢ 10) → out ≡ sent n source id args out
  unfolding sent
  sent_not h = simp (ne_eqb n 10 h)

  pub sent_10 : n ≡ 10 → over (command_bytes source id args) out ≡ sent n source id args out
  unfolding sent
  sent_10 e = simp (eq-eqb n 10 e)

module _ (n x : ℕ) where
  pub for_not : (n ≢ 10) → 0 ≡ for10 n x
  for_not h = simp (ne_eqb n 10 h)

  pub for_10 : n ≡ 10 → x ≡ for10 n x
  for_10 e = simp (eq-eqb n 10 e)
