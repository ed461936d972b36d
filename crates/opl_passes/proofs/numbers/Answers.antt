-- `numbers` meets its contract: both names have numbers, or one has none and there is no record.
use Rattle.opl_said.specs.Said.{all_names}
use Rattle.opl_passes.proofs.LineLaws.{no-task, no-template, both-named}
use Rattle.opl_passes.proofs.numbers.Goals as goal

pub returns-in_err-a : goal.returns-in_err-a
returns-in_err-a c =
    let x = c.args.texts in
    rw c.from_residual.ensures (no-task (all_names x.policy.now x.lines.now) _ _ c.in_err-a.ensures)

pub returns-in_err-b : goal.returns-in_err-b
returns-in_err-b c =
    let x = c.args.texts in
    rw c.from_residual-in_err-b.ensures (no-template (all_names x.policy.now x.lines.now) _ _ c.in_ok-a.a c.in_ok-a.ensures c.in_err-b.ensures)

pub returns : goal.returns
returns c =
    let x = c.args.texts in
    both-named (all_names x.policy.now x.lines.now) _ _ c.in_ok-a.a c.in_ok-a.ensures c.in_ok-b.b c.args.line.next c.in_ok-b.ensures
