-- `event`: a record that is no packet and no tick is a fault's, of two bytes.
use Rattle.std.proofs.Common.{sym, arith}
use Rattle.replay_rules.proofs.RecordingLaws.{fault_sized}
use Rattle.replay_rules.proofs.recording.event.Goals as goal

pub word_at-requires : goal.word_at-requires
word_at-requires c =
    omega (arith, (fault_sized (sym (c.in_ok-refusal.ensures)) (λ e. omega (arith, e)) (λ e. omega (arith, e))).1)
