-- `number_of` meets its contract, by cases: the five spaces of the policy text, and the two of the task lines.
use native.Mathlib.Omega.{arith}
use Rattle.opl_said.proofs.NumberLaws.{number_in}
use Rattle.opl_said.proofs.number_of.Goals as goal

pub number-requires : goal.number-requires
number-requires c =
    let pre = c.requires in
    let args = c.args in
    ((pre.0.room, pre.1), pre.0.tags-sound args.i c.if-i-lt-BY_TAGS.true)

pub returns-then-i-lt-BY_TAGS : goal.returns-then-i-lt-BY_TAGS
returns-then-i-lt-BY_TAGS c =
    let args = c.args in
    let pre = c.requires in
    number_in args.texts.policy.now args.i args.texts.scratch.now args.name.now _ c.number.result (pre.0.tags-sound args.i c.if-i-lt-BY_TAGS.true)
    (pre.0.tag-numbers args.i c.if-i-lt-BY_TAGS.true args.name.now) c.number.ensures

pub number-requires-2 : goal.number-requires-2
number-requires-2 c =
    let pre = c.requires in
    let args = c.args in
    ((pre.0.room, pre.1), pre.0.lines-sound args.i (omega (arith, c.if-i-lt-BY_TAGS.false)) pre.1)

pub returns : goal.returns
returns c =
    let args = c.args in
    let pre = c.requires in
    number_in args.texts.lines.now args.i args.texts.scratch.now args.name.now _ c.number-2.result
    (pre.0.lines-sound args.i (omega (arith, c.if-i-lt-BY_TAGS.false)) pre.1)
    (pre.0.line-numbers args.i (omega (arith, c.if-i-lt-BY_TAGS.false)) pre.1 args.name.now) c.number-2.ensures
