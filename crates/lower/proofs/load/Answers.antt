-- `load` meets its contract: buffers of the wrong length give ROOM, and otherwise the sessions are cleared and the policy is loaded.
use borrow.Author.Rules.{rules}
use Rattle.lower.proofs.Ways.{sessions-unfit, no-load, loaded}
use Rattle.lower.proofs.load.Goals as goal

pub returns-in_default-as_mut_array : goal.returns-in_default-as_mut_array
returns-in_default-as_mut_array c =
    rw (c.from-in_default-as_mut_array.ensures, c.in-Some.ensures.cases.same)
    (no-load _ _ _ (sessions-unfit c.args.policy.now c.args.sessions.now c.in_default-as_mut_array.ensures.cases))

pub returns : goal.returns
returns c =
    let p = c.in-Some.ensures.cases in
    let loads = rw p.same at c.load.ensures in
    loaded p.long c.in-Some-as_mut_array.ensures.cases.long c.clear.ensures loads (search rules, search rules)
