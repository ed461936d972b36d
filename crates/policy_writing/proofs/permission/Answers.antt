-- `permission` meets its contract: it writes a record if the permission is declared, with its operation and its object.
use native.Mathlib.Omega.{arith}
use Rattle.paper_lower.specs.Written.{row}
use Rattle.policy_writing.proofs.Laws.{as_row}
use Rattle.policy_writing.proofs.LineLaws.{of-permission}
use Rattle.policy_writing.proofs.permission.Goals as goal

pub returns : goal.returns
returns c =
    let args = c.args in
    let permission-declared = c.permission_declared-there in
    let permission-operation = c.permission_operation-b in
    let permission-object = c.permission_object-c in
    as_row 1 c.put.ensures
    (of-permission (λ x y. row 3 0 args.a x y 0) _ permission-declared.ensures permission-operation.ensures.0 permission-object.ensures.0)
    (omega arith)
