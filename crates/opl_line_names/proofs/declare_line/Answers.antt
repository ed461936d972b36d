-- `declare_line` meets its contract: the name is too long, or it is declared in the table.
use native.Mathlib.Omega.{arith}
use Rattle.opl_line_names.proofs.LineNames.{line-order, part_in, line-long, line-never, line_on}
use Rattle.opl_line_names.proofs.declare_line.Goals as goal

pub part_of-p-requires : goal.part_of-p-requires
part_of-p-requires c =
    let args = c.args in
    let pre = c.requires in
    line-order args.t.now args.i args.at pre.1.1.1 c.in-Ok.line c.in-Ok.ensures args.w.now pre.1.0

pub overflow_sub-size : goal.overflow_sub-size
overflow_sub-size c =
    let args = c.args in
    let pre = c.requires in
    (part_in args.t.now args.i args.at pre.1.1.1 c.in-Ok.line c.in-Ok.ensures args.w.now pre.1.0 c.part_of-p.result c.part_of-p.ensures).0

pub returns-then-size-gt-LONGEST_NAME : goal.returns-then-size-gt-LONGEST_NAME
returns-then-size-gt-LONGEST_NAME c =
    let args = c.args in
    let pre = c.requires in
    line-long args.t.now args.i args.at pre.1.1.1 c.in-Ok.line c.in-Ok.ensures args.w.now pre.1.0 c.part_of-p.result c.part_of-p.ensures
    c.if-size-gt-LONGEST_NAME.true

pub declare-requires : goal.declare-requires
declare-requires c =
    let args = c.args in
    let pre = c.requires in
    let p = part_in args.t.now args.i args.at pre.1.1.1 c.in-Ok.line c.in-Ok.ensures args.w.now pre.1.0 c.part_of-p.result c.part_of-p.ensures in
    (pre.0, (pre.1.0, (omega (arith, p.0, p.1), c.if-size-gt-LONGEST_NAME.false)))

pub returns-in_default : goal.returns-in_default
returns-in_default c =
    let args = c.args in
    line-never args.t.now args.i args.at c.requires.1.1.1 c.in_default.field-0 c.in_default.ensures args.w.now

pub returns : goal.returns
returns c =
    let args = c.args in
    let pre = c.requires in
    line_on args.t.now args.i args.at pre.1.1.1 c.in-Ok.line c.in-Ok.ensures args.w.now pre.1.0 c.part_of-p.result c.part_of-p.ensures
    c.declare.new.w c.declare.result c.if-size-gt-LONGEST_NAME.false c.declare.ensures
