-- `declare_tag` meets its contract: a start tag is listed; if it declares a name, the name is declared in its space.
use Rattle.opl_naming.proofs.NamingLaws.{goes-stands, goes-low, goes-room, goes-sound, goes_other, goes-long, goes-halt, goes_end, goes_on}
use mathlib.Core.Path.{refl, sym, ap}
use Rattle.std.specs.Prelude.{Some}
use native.Mathlib.Omega.{arith}
use Rattle.opl_naming.proofs.declare_tag.Goals as goal

pub enter-requires : goal.enter-requires
enter-requires c =
    let pre = c.requires in
    let args = c.args in
    let t2 = c.in-Start in (
      pre.0,
      (
        (goes-stands args.s.now args.at _ c.in-Some.ensures args.w.now pre.1.0 t2.name t2.end
            (ap Some t2.is)).inside,
        goes-low args.s.now args.at _ c.in-Some.ensures args.w.now pre.1.0 t2.name t2.end
            (ap Some t2.is) c.element-e.result c.element-e.ensures,
      ),
    )

pub returns-then-i-ge-BY_TAGS : goal.returns-then-i-ge-BY_TAGS
returns-then-i-ge-BY_TAGS c =
    let args = c.args in
    let pre = c.requires in
    let t2 = c.in-Start in
    let element = c.element-e in
    let enter = c.enter in
    let space = c.space-i in
    goes_other args.s.now args.at _ c.in-Some.ensures args.w.now pre.1.0 t2.name t2.end
    (ap Some t2.is) element.result element.ensures pre.0 enter.new.w enter.ensures (λ i h u. omega (arith, h, u, space.ensures, c.if-i-ge-BY_TAGS.true))

pub returns-then-size-gt-LONGEST_NAME : goal.returns-then-size-gt-LONGEST_NAME
returns-then-size-gt-LONGEST_NAME c =
    let args = c.args in
    let pre = c.requires in
    let t2 = c.in-Start in
    let element = c.element-e in
    let enter = c.enter in
    let space = c.space-i in
    let if1 = c.if-i-ge-BY_TAGS in
    let attribute = c.attribute in
    let value-place = c.value_place-v in
    goes-long args.s.now args.at _ c.in-Some.ensures args.w.now pre.1.0 t2.name t2.end
    (ap Some t2.is) element.result element.ensures pre.0 enter.new.w enter.ensures space.result
    (omega (arith, if1.false)) (sym space.ensures) value-place.result (rw attribute.ensures at value-place.ensures) c.if-size-gt-LONGEST_NAME.true

pub declare-requires : goal.declare-requires
declare-requires c =
    let args = c.args in
    let pre = c.requires in
    let t2 = c.in-Start in
    let element = c.element-e in
    let enter = c.enter in
    let space = c.space-i in
    let if1 = c.if-i-ge-BY_TAGS in
    let value-place = c.value_place-v in (
      (
        goes-room args.s.now args.at _ c.in-Some.ensures args.w.now pre.1.0 t2.name t2.end
            (ap Some t2.is) element.result element.ensures pre.0 enter.new.w enter.ensures,
        omega (arith, if1.false),
      ),
      (
        goes-sound args.s.now args.at _ c.in-Some.ensures args.w.now pre.1.0 t2.name t2.end
            (ap Some t2.is) element.result element.ensures pre.0 enter.new.w enter.ensures space.result (omega (arith, if1.false)),
        (omega (arith, value-place.ensures.inside, value-place.ensures.order), c.if-size-gt-LONGEST_NAME.false),
      ),
    )

pub returns-in_default : goal.returns-in_default
returns-in_default c =
    let args = c.args in
    let pre = c.requires in
    goes-halt args.s.now args.at _ c.in_default.ensures args.w.now pre.1.0 refl

pub returns-in-End : goal.returns-in-End
returns-in-End c =
    let args = c.args in
    let pre = c.requires in
    goes_end args.s.now args.at _ c.in-Some.ensures args.w.now pre.1.0 c.in-End.next (ap Some c.in-End.is)

pub returns-else-size-gt-LONGEST_NAME : goal.returns-else-size-gt-LONGEST_NAME
returns-else-size-gt-LONGEST_NAME c =
    let args = c.args in
    let pre = c.requires in
    let t2 = c.in-Start in
    let element = c.element-e in
    let enter = c.enter in
    let space = c.space-i in
    let if1 = c.if-i-ge-BY_TAGS in
    let attribute = c.attribute in
    let value-place = c.value_place-v in
    let if2 = c.if-size-gt-LONGEST_NAME in
    let declare = c.declare in
    goes_on args.s.now args.at _ c.in-Some.ensures args.w.now pre.1.0 t2.name t2.end (ap Some t2.is)
    element.result element.ensures pre.0 enter.new.w enter.ensures space.result (omega (arith, if1.false))
    (sym space.ensures) value-place.result (rw attribute.ensures at value-place.ensures) declare.new.w declare.result if2.false
    declare.ensures
