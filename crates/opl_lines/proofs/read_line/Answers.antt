-- `read_line` meets its contract: each return by the bytes that were read (LineLaws.antt).
use mathlib.Core.Bool.{not}
use mathlib.Core.Path.{ap}
use Prim.Native.Nat.{◌+◌}
use native.Mathlib.Omega.{arith}
use Rattle.std.proofs.lemmas.Result.{err_from_is_err_and}
use Rattle.paper_opl.specs.Naming.{in_line}
use Rattle.opl_text.proofs.Laws.{onward}
use Rattle.opl_lines.proofs.LineLaws.{line_past, line_one, line_unended, line_whole, line_onward}
use Rattle.opl_lines.proofs.read_line.Goals as goal

pub name_end-template-requires : goal.name_end-template-requires
name_end-template-requires c =
    let args = c.args in
    let pre = c.requires in
    let name-end = c.name_end-task in
    line_past args.t.now args.at name-end.result pre name-end.ensures.rest name-end.ensures.inside c.if-task-at.false
    c.is_at.result c.is_at.ensures (ap not c.if-not-is_at.false)

pub returns-then-template-from : goal.returns-then-template-from
returns-then-template-from c =
    let args = c.args in
    let pre = c.requires in
    let name-end = c.name_end-task in
    let if1 = c.if-task-at in
    let is_at = c.is_at in
    record {
      read_is =
          line_one args.t.now args.at name-end.result pre name-end.ensures.rest name-end.ensures.inside if1.false is_at.result
          is_at.ensures (ap not c.if-not-is_at.false) c.name_end-template.result c.name_end-template.ensures.rest
          c.name_end-template.ensures.inside c.if-template-from.true;
      stands = c.name_end-template.ensures.inside;
    }

pub returns-in_err-next : goal.returns-in_err-next
returns-in_err-next c =
    let t = c.args.t.now in
    let task = c.name_end-task in
    let template = c.name_end-template in
    let refused = err_from_is_err_and c.from_residual.result c.from_residual.ensures.1 in
    rw (refused.1, refused.2)
    (record {
      read_is =
          line_unended t c.args.at task.result c.requires task.ensures.rest task.ensures.inside c.if-task-at.false c.is_at.result
          c.is_at.ensures (ap not c.if-not-is_at.false) template.result template.ensures.rest template.ensures.inside c.if-template-from.false
          c.in_err-next.field-0.0.at c.in_err-next.ensures.read_is;
      stands = c.in_err-next.ensures.inside;
    })

pub returns : goal.returns
returns c =
    let t = c.args.t.now in
    let task = c.name_end-task in
    let template = c.name_end-template in
    let spaced = ap not c.if-not-is_at.false in
    let read = c.in_ok-next.ensures in
    record {
      read_is =
          line_whole t c.args.at task.result c.requires task.ensures.rest task.ensures.inside c.if-task-at.false c.is_at.result
          c.is_at.ensures spaced template.result template.ensures.rest template.ensures.inside c.if-template-from.false c.in_ok-next.next
          read.read_is read.inside;
      stands =
          record {
            task = omega (arith, onward in_line t c.args.at task.result c.requires task.ensures.rest task.ensures.inside, c.if-task-at.false);
            template =
                omega (
                  arith,
                  onward in_line t (task.result + 1) template.result (line_past t c.args.at task.result c.requires task.ensures.rest
                      task.ensures.inside c.if-task-at.false c.is_at.result c.is_at.ensures spaced) template.ensures.rest template.ensures.inside,
                  c.if-template-from.false,
                );
            next =
                line_onward t c.args.at task.result c.requires task.ensures.rest task.ensures.inside c.if-task-at.false c.is_at.result
                c.is_at.ensures spaced template.result template.ensures.rest template.ensures.inside c.if-template-from.false c.in_ok-next.next
                read.read_is read.inside;
            inside = read.inside;
          };
    }
