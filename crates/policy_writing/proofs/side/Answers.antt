-- `side` meets its contract: it reads the roles that have the permission for kind 5, and the tasks that carry it for other kinds.
use borrow.Author.Tests.{eq-eqb, ne_eqb}
use Rattle.policy_writing.specs.Lines.{side_in}
use Rattle.policy_writing.proofs.side.Goals as goal

pub returns-then-kind-eq5 : goal.returns-then-kind-eq5
unfolding side_in
returns-then-kind-eq5 c = rw (eq-eqb _ _ c.if-kind-eq5.true) c.holders.ensures

pub returns : goal.returns
unfolding side_in
returns c = rw (ne_eqb _ _ c.if-kind-eq5.false) c.carriers.ensures
