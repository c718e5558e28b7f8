-- `written`: each return is one line of the table of outcomes.
use Rattle.std.proofs.Common.{arith, rules}
use Rattle.build_rules.specs.declared.types.Unbuildable.TheVariants.{ApidTooHigh, CountTooHigh, TooManyArguments, TooManyPads, OutputTooSmall}
use Rattle.build_rules.specs.BuildOutcome.{high_apid, high_count, many_args, many_pads, small_output}
use Rattle.build_rules.proofs.BuildLaws.{build_told, build_written}
use Rattle.build_packet.proofs.written.Goals as goal

pub returns-then-apid-gt2047 : goal.returns-then-apid-gt2047
returns-then-apid-gt2047 c =
    let both = build_told _ _ ApidTooHigh (high_apid (omega arith)) in
    record { told = both.0; output = both.1 }

pub returns-then-count-gt16383 : goal.returns-then-count-gt16383
returns-then-count-gt16383 c =
    let both = build_told _ _ CountTooHigh (high_count (omega arith) (omega arith)) in
    record { told = both.0; output = both.1 }

pub returns-then-args-gt255 : goal.returns-then-args-gt255
returns-then-args-gt255 c =
    let both = build_told _ _ TooManyArguments (many_args (omega arith) (omega arith) (omega arith)) in
    record { told = both.0; output = both.1 }

pub returns-then-pads-gt127 : goal.returns-then-pads-gt127
returns-then-pads-gt127 c =
    let both = build_told _ _ TooManyPads (many_pads (omega arith) (omega arith) (omega arith) (omega arith)) in
    record { told = both.0; output = both.1 }

pub returns-then-out-size : goal.returns-then-out-size
returns-then-out-size c =
    let both = build_told _ _ OutputTooSmall (small_output (search rules) (omega arith)) in
    record { told = both.0; output = both.1 }

pub returns : goal.returns
returns c =
    let both = build_written _ _ _ c.write.ensures (search rules) in
    record { told = both.0; output = both.1 }
