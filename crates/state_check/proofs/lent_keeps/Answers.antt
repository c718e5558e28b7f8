-- `lent_keeps`: each part in its turn, and false where one fails.
use Rattle.std.specs.Prelude.{not}
use Rattle.std.proofs.Common.{sym, ap, ◌∙◌, arith}
use Rattle.state.proofs.LentSized.{lent_sized}
use Rattle.state.proofs.Settings.{settings_keeps}
use Rattle.state.proofs.KeepsLaws.{counts_keeps}
use Rattle.state_check.specs.StateJudgeLaws.{refused, passed, judged, routes_rise, zero_behind}
use Rattle.state_check.proofs.lent_keeps.Goals as goal

pub returns-then-not-counts_ok : goal.returns-then-not-counts_ok
returns-then-not-counts_ok c = refused (lent_sized c.args.config.now c.told-states) c.args.standing 0 c.counts_ok.ensures (ap not c.if-not-counts_ok.true)

pub returns-then-not-arm_ok : goal.returns-then-not-arm_ok
returns-then-not-arm_ok c = refused (lent_sized c.args.config.now c.told-states) c.args.standing 1 c.arm_ok.ensures (ap not c.if-not-arm_ok.true)

pub returns-then-not-settings_ok : goal.returns-then-not-settings_ok
returns-then-not-settings_ok c = refused (lent_sized c.args.config.now c.told-states) c.args.standing 2 c.settings_ok.ensures (ap not c.if-not-settings_ok.true)

pub routes_judged-requires : goal.routes_judged-requires
routes_judged-requires c =
    let n = counts_keeps (sym c.counts_ok.ensures ∙ c.if-not-counts_ok.false) in
    let b = settings_keeps (sym c.settings_ok.ensures ∙ c.if-not-settings_ok.false) in
    omega (arith, b.base_fits, c.args.config.now.lengths.dests_128)

pub returns-then-not-routes_judged : goal.returns-then-not-routes_judged
returns-then-not-routes_judged c = refused (lent_sized c.args.config.now c.told-states) c.args.standing 3 c.routes_judged.ensures (ap not c.if-not-routes_judged.true)

pub rows_keep-requires : goal.rows_keep-requires
rows_keep-requires c =
    let n = counts_keeps (sym c.counts_ok.ensures ∙ c.if-not-counts_ok.false) in
    (routes_rise (lent_sized c.args.config.now c.told-states) c.args.standing (omega arith) (passed (lent_sized c.args.config.now c.told-states) c.args.standing 3 c.routes_judged.ensures (ap not c.if-not-routes_judged.false)), omega arith, omega arith, omega arith)

pub returns-then-not-rows_keep : goal.returns-then-not-rows_keep
returns-then-not-rows_keep c = refused (lent_sized c.args.config.now c.told-states) c.args.standing 4 c.rows_keep.ensures (ap not c.if-not-rows_keep.true)

pub words_unused-requires : goal.words_unused-requires
words_unused-requires c = omega (arith, (lent_sized c.args.config.now c.told-states).states_32)

pub returns-then-not-words_unused : goal.returns-then-not-words_unused
returns-then-not-words_unused c = refused (lent_sized c.args.config.now c.told-states) c.args.standing 5 c.words_unused.ensures (ap not c.if-not-words_unused.true)

pub bytes_unused-requires : goal.bytes_unused-requires
bytes_unused-requires c = omega (arith, (lent_sized c.args.config.now c.told-states).states_32)

pub returns-then-not-bytes_unused : goal.returns-then-not-bytes_unused
returns-then-not-bytes_unused c = refused (lent_sized c.args.config.now c.told-states) c.args.standing 6 c.bytes_unused.ensures (ap not c.if-not-bytes_unused.true)

pub args_keep-requires : goal.args_keep-requires
args_keep-requires c =
    let n = counts_keeps (sym c.counts_ok.ensures ∙ c.if-not-counts_ok.false) in
    omega arith

pub returns-then-not-args_keep : goal.returns-then-not-args_keep
returns-then-not-args_keep c = refused (lent_sized c.args.config.now c.told-states) c.args.standing 7 c.args_keep.ensures (ap not c.if-not-args_keep.true)

pub states_keep-requires : goal.states_keep-requires
states_keep-requires c =
    let n = counts_keeps (sym c.counts_ok.ensures ∙ c.if-not-counts_ok.false) in
    (omega arith, omega arith, zero_behind (lent_sized c.args.config.now c.told-states) c.args.standing (passed (lent_sized c.args.config.now c.told-states) c.args.standing 6 c.bytes_unused.ensures (ap not c.if-not-bytes_unused.false)))

pub returns : goal.returns
returns c =
    judged (lent_sized c.args.config.now c.told-states) c.args.standing (
      passed (lent_sized c.args.config.now c.told-states) c.args.standing 0 c.counts_ok.ensures (ap not c.if-not-counts_ok.false),
      (
        passed (lent_sized c.args.config.now c.told-states) c.args.standing 1 c.arm_ok.ensures (ap not c.if-not-arm_ok.false),
        (
          passed (lent_sized c.args.config.now c.told-states) c.args.standing 2 c.settings_ok.ensures (ap not c.if-not-settings_ok.false),
          (
            passed (lent_sized c.args.config.now c.told-states) c.args.standing 3 c.routes_judged.ensures (ap not c.if-not-routes_judged.false),
            (
              passed (lent_sized c.args.config.now c.told-states) c.args.standing 4 c.rows_keep.ensures (ap not c.if-not-rows_keep.false),
              (
                passed (lent_sized c.args.config.now c.told-states) c.args.standing 5 c.words_unused.ensures (ap not c.if-not-words_unused.false),
                (
                  passed (lent_sized c.args.config.now c.told-states) c.args.standing 6 c.bytes_unused.ensures (ap not c.if-not-bytes_unused.false),
                  (
                    passed (lent_sized c.args.config.now c.told-states) c.args.standing 7 c.args_keep.ensures (ap not c.if-not-args_keep.false),
                    tt,
                  ),
                ),
              ),
            ),
          ),
        ),
      ),
    )
    c.states_keep.ensures
