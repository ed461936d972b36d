-- `load` meets its contract: a buffer of a wrong length gets ROOM; otherwise the orders are emptied and the lower part loads the policy.
use borrow.Author.Rules.{rules}
use Rattle.engine.proofs.Ways.{policy-unfit, sessions-unfit, orders-unfit, fits, same-lengths, no-load, loaded}
use Rattle.engine.proofs.load.Goals as goal

pub returns-in_default : goal.returns-in_default
returns-in_default c = rw c.from.ensures (no-load _ _ (policy-unfit _ _ _ c.in_default.ensures.cases))

pub returns-in_default-as_mut_array : goal.returns-in_default-as_mut_array
returns-in_default-as_mut_array c =
    rw (c.from-in_default-as_mut_array.ensures, c.in-Some.ensures.cases.same)
    (no-load _ _ (sessions-unfit _ _ _ c.in_default-as_mut_array.ensures.cases))

pub returns-in_default-as_mut_array-2 : goal.returns-in_default-as_mut_array-2
returns-in_default-as_mut_array-2 c =
    rw (c.from-in_default-as_mut_array-2.ensures, c.in-Some.ensures.cases.same, c.in-Some-as_mut_array.ensures.cases.same)
    (no-load _ _ (orders-unfit c.args.policy.now c.args.sessions.now c.args.orders.now c.in_default-as_mut_array-2.ensures.cases))

pub returns : goal.returns
returns c =
    let p = c.in-Some.ensures.cases in
    let s = c.in-Some-as_mut_array.ensures.cases in
    let o = c.in-Some-as_mut_array-2.ensures.cases in
    let loads = rw (p.same, s.same) at c.load.ensures in
    loaded (fits _ _ _ p.long s.long o.long) c.clear.ensures loads (same-lengths (search rules) (search rules) (search rules))
