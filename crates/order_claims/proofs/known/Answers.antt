-- `known` meets its contract: its tests are those of the definition, and it reads the instance once.
use Rattle.order_requests.specs.Tables.{engine_tables}
use Rattle.order_claims.proofs.ClaimLaws.{closed-unknown, template-known}
use Rattle.order_claims.proofs.known.Goals as goal

pub returns-in_err-template : goal.returns-in_err-template
returns-in_err-template c =
    let z = c.args in
    rw c.from_residual.ensures (closed-unknown (engine_tables z.p.now z.s.now z.o.now) z.a z.b z.c c.in_err-template.ensures.0)

pub returns : goal.returns
returns c =
    let z = c.args in
    let there = c.in_ok-template.ensures in
    rw c.then_some.ensures
    (template-known (engine_tables z.p.now z.s.now z.o.now) z.a z.b z.c c.in_ok-template.template there.0 there.1 c.live.ensures c.task_is_of.ensures)
