-- The plain reply to an event stands at its own place among the replies. It has a file of its own, so that an edit of it reads where
-- what rests on it falls.
use Rattle.std.specs.Prelude.{◌≡◌, refl, List, [], ◌∷◌, ◌++◌, length}
use Rattle.image_rules.specs.Records.{Record}
use Rattle.history.specs.Plain.{Event, replies, reply, latest_first}
use Rattle.replay_rules.specs.ReplayTheorems.{reply_at}

pub plain_at : (image : List Record) (h before : List Event) (e : Event) (later : List Event) → reply_at (replies image h (before ++ (e ∷ later))) (length before) ≡ reply image (latest_first h before) e
plain_at image h [] e later = refl
plain_at image h (x ∷ before) e later = plain_at image (x ∷ h) before e later
