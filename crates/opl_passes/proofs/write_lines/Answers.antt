use Rattle.opl_said.specs.Said.{all_names}
use Rattle.opl_passes.proofs.LineLaws.{put_first, put-end}
use Rattle.opl_passes.proofs.write_lines.Goals as goal

pub loop-at-init : goal.loop-at-init
loop-at-init c =
    let args = c.args in
    let x = args.texts in
    let pre = c.requires in
    put_first (all_names x.policy.now x.lines.now) x.lines.now args.place args.out.now pre.0.1 pre.1.0 pre.1.1

pub returns : goal.returns
returns c =
    let args = c.args in
    let x = args.texts in
    let loop = c.loop-at in
    put-end (all_names x.policy.now x.lines.now) x.lines.now args.place args.out.now loop.at loop.p loop.out loop.invariant c.loop-at-test.false
