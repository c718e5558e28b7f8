-- Records over bytes that come in pieces: a whole record stays what it is where more bytes follow, and behind the first records
-- stand those of the bytes behind them.
use Rattle.std.specs.Prelude.{List, ℕ, ◌+◌, take, drop}
use Rattle.image_rules.specs.Records.{Record, records_of}
use Rattle.replay_rules.specs.Recording.{bytes_in}

-- ---- the same records, n bytes further on

-- a record that stands n bytes further on
abbrev pub moved : ℕ → Record → Record
moved n r = record { place = n + r.place; whole = r.whole; kind = r.kind; body = r.body }

-- ---- the first k records of some bytes, all events, and the bytes behind them

-- what the first k records leave unread
abbrev pub unread : ℕ → List ℕ → List ℕ
unread k bs = drop (bytes_in (take k (records_of bs))) bs
