-- `task` meets its contract: it writes a record if the task is declared, with its template.
use native.Mathlib.Omega.{arith}
use Rattle.paper_lower.specs.Written.{row}
use Rattle.policy_writing.proofs.Laws.{as_row}
use Rattle.policy_writing.proofs.LineLaws.{of_number}
use Rattle.policy_writing.proofs.task.Goals as goal

pub returns : goal.returns
returns c =
    let args = c.args in
    let task-declared = c.task_declared-there in
    let template = c.template-b in
    as_row 1 c.put.ensures (of_number (λ j. row 6 0 args.a j 0 0) _ task-declared.ensures template.ensures.0) (omega arith)
