-- What a caller of a replay may rely on: an output with its room for each event holds every answer, a shorter one the first of
-- them; each answer stands at its event's place and keeps the arm rule; a piece that stops with 20 has done nothing; and a list
-- of events in pieces gets the answers of the whole.
use Rattle.std.specs.Prelude.{List, ℕ, get_or}
use Rattle.history.specs.Plain.{Reply, bare_reply}

-- ---- each answer of a replay

-- the reply at a place, and one with the answer 0 where there is none
abbrev pub reply_at : List Reply → ℕ → Reply
reply_at xs k = get_or xs k (bare_reply 0)
