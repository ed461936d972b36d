-- `most` meets its contract: it writes a record if the task has a count limit, with that limit.
use native.Mathlib.Omega.{arith}
use Rattle.paper_lower.specs.Written.{row}
use Rattle.policy_writing.proofs.Laws.{as_row}
use Rattle.policy_writing.proofs.LineLaws.{of_number}
use Rattle.policy_writing.proofs.most.Goals as goal

pub returns : goal.returns
returns c =
    let args = c.args in
    let task-limited = c.task_limited-there in
    let most = c.most-n in
    as_row 1 c.put.ensures (of_number (λ n. row 14 n args.a 0 0 0) _ task-limited.ensures most.ensures.0) (omega arith)
