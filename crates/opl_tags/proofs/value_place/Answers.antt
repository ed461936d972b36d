use mathlib.Core.Path.{ap}
use native.Mathlib.Omega.{arith}
use lib.ListN.{length, drop, length-drop}
use Rattle.paper_opl.specs.Naming.{value_of as value_in}
use Rattle.opl_table.specs.Numbers.{name_of}
use Rattle.opl_tags.proofs.AttributeLaws.{collected-enough, collected_none, value_none, value_here, value_later, value_end}
use Rattle.opl_tags.proofs.value_place.Goals as goal

pub loop-i-init : goal.loop-i-init
loop-i-init c = (
  c.requires,
  ap (value_in (name_of c.args.id)) (collected-enough (length (drop c.args.at c.args.s.now))
      (length c.args.s.now) (drop c.args.at c.args.s.now) (omega arith)
      (omega (arith, length-drop c.args.at c.args.s.now))),
)

pub returns-in_default : goal.returns-in_default
returns-in_default c =
    value_none c.args.s.now c.args.at c.loop-i.i (name_of c.args.id) c.loop-i.invariant.1
    (collected_none c.args.s.now c.loop-i.i (length c.args.s.now) c.given.result c.given.ensures c.in_default.not-Pair)

pub returns-then-is_name : goal.returns-then-is_name
returns-then-is_name c =
    let g = c.in-Pair in
    value_here c.args.s.now c.args.at c.loop-i.i (name_of c.args.id) c.loop-i.invariant.1 g.from g.end g.value g.close g.ensures
    c.is_name.result c.is_name.ensures c.if-is_name.true

pub loop-i-preserved : goal.loop-i-preserved
loop-i-preserved c =
    let g = c.in-Pair in (
      g.ensures.stands.inside,
      value_later c.args.s.now c.args.at c.loop-i.i (name_of c.args.id) c.loop-i.invariant.1 g.from g.end g.value g.close g.ensures
          c.is_name.result c.is_name.ensures c.if-is_name.false,
    )

pub returns : goal.returns
returns c = value_end c.args.s.now c.args.at c.loop-i.i (name_of c.args.id) c.loop-i.invariant.1 c.loop-i-test.false
