-- `row_at` meets its contract: an accepted text has a line here.
use Rattle.opl_said.specs.Said.{all_names}
use Rattle.opl_passes.proofs.LineLaws.{row-never, row_apart, row_is}
use Rattle.opl_passes.proofs.row_at.Goals as goal

pub numbers-requires : goal.numbers-requires
numbers-requires c =
    let x = c.args.texts in
    let pre = c.requires in
    (pre.0, row_apart (all_names x.policy.now x.lines.now) x.lines.now c.args.at pre.1.0 pre.1.1 c.in-Ok.line c.in-Ok.ensures)

pub returns-in_default : goal.returns-in_default
returns-in_default c =
    let x = c.args.texts in
    let pre = c.requires in
    row-never (all_names x.policy.now x.lines.now) x.lines.now c.args.at pre.1.0 pre.1.1 c.in_default.field-0 c.in_default.ensures

pub returns : goal.returns
returns c =
    let x = c.args.texts in
    let pre = c.requires in
    row_is (all_names x.policy.now x.lines.now) x.lines.now c.args.at pre.1.0 pre.1.1 c.in-Ok.line c.in-Ok.ensures c.numbers.result c.numbers.ensures
