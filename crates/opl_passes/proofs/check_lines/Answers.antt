use Rattle.opl_said.specs.Said.{all_names}
use Rattle.opl_passes.proofs.LineLaws.{lines-first, lines-on, lines_end}
use Rattle.opl_passes.proofs.check_lines.Goals as goal

pub loop-at-init : goal.loop-at-init
loop-at-init c =
    let x = c.args.texts in
    lines-first (all_names x.policy.now x.lines.now) x.lines.now c.requires.1

pub loop-at-preserved : goal.loop-at-preserved
loop-at-preserved c =
    let x = c.args.texts in
    let loop = c.loop-at in
    let row = c.in_ok-row.row in
    lines-on (all_names x.policy.now x.lines.now) x.lines.now loop.n loop.at loop.invariant row.a row.b row.next c.in_ok-row.ensures

pub returns : goal.returns
returns c =
    let x = c.args.texts in
    let loop = c.loop-at in
    lines_end (all_names x.policy.now x.lines.now) x.lines.now loop.n loop.at loop.invariant c.loop-at-test.false
