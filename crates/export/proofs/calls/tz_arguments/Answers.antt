-- `tz_arguments`: the part's length, and its place by the refusal.
use Rattle.std.proofs.Common.{sym}
use Rattle.packet_rules.proofs.RejectionLaws.{refused}
use Rattle.export_rules.proofs.BoundaryLaws.{part_refused, part_accepted}
use Rattle.export.proofs.calls.tz_arguments.Goals as goal

pub returns-in-Ok : goal.returns-in-Ok
returns-in-Ok c = rw c.arguments-part.ensures.content (part_accepted _ (sym c.in-Ok.ensures))

pub returns-in-Err : goal.returns-in-Err
returns-in-Err c = rw c.arguments-part.ensures.content (part_refused _ (refused c.in-Err.field-0 c.in-Err.ensures))
