-- `down_with` meets its contract: the result of `down`, with b and all roles below b if it has role a.
use mathlib.Core.Bool.{not}
use mathlib.Core.Path.{ap}
use Rattle.policy.specs.Reading.{policy_of}
use Rattle.policy_seniors.proofs.Counting.{unraised, raised-too}
use Rattle.policy_seniors.proofs.down_with.Goals as goal

pub returns-then-not-has : goal.returns-then-not-has
returns-then-not-has c =
    let args = c.args in
    let pre = c.requires in
    unraised (policy_of args.p.now).seniority _ _ _ pre.0 c.down-all.ensures c.has.ensures (ap not c.if-not-has.true)

pub returns : goal.returns
returns c =
    let args = c.args in
    let pre = c.requires in
    let down = c.down-all in
    let has = c.has in
    let if1 = c.if-not-has in
    raised-too (policy_of args.p.now).seniority _ _ _ pre.0 down.ensures has.ensures (ap not if1.false) c.below.ensures
    c.with.ensures c.union.ensures
