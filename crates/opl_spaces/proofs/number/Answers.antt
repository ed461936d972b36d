-- `number` meets its contract: a name that is too long has no number; for others it lends the words of one table.
use mathlib.Core.Path.{sym, ap, ◌∙◌}
use borrow.Author.Tests.{le-leb, lt-leb}
use Rattle.opl_names.specs.Table.{found_of}
use Rattle.opl_spaces.proofs.SpaceLaws.{lent_is}
use Rattle.opl_spaces.proofs.number.Goals as goal

pub returns-then-name-gt-LONGEST_NAME : goal.returns-then-name-gt-LONGEST_NAME
returns-then-name-gt-LONGEST_NAME c = rw (lt-leb _ 64 c.if-name-gt-LONGEST_NAME.true)

pub find-r-requires : goal.find-r-requires
find-r-requires c =
    let args = c.args in
    let pre = c.requires in
    let limit = c.limit-n in
    rw (
      lent_is args.i pre.0.1 args.w.now limit.result c.base-from.result limit.ensures c.base-from.ensures pre.0.0,
      limit.ensures,
    ) pre.1

pub returns-in-Some : goal.returns-in-Some
returns-in-Some c =
    let args = c.args in
    let pre = c.requires in
    let if1 = c.if-name-gt-LONGEST_NAME in
    let limit = c.limit-n in
    let base = c.base-from in
    let find = c.find-r in
    rw (le-leb _ 64 if1.false) (ap found_of (sym c.in-Some.is) ∙
    rw (lent_is args.i pre.0.1 args.w.now limit.result base.result limit.ensures base.ensures pre.0.0) at find.ensures)

pub returns-in-None : goal.returns-in-None
returns-in-None c =
    let args = c.args in
    let pre = c.requires in
    let if1 = c.if-name-gt-LONGEST_NAME in
    let limit = c.limit-n in
    let base = c.base-from in
    rw (le-leb _ 64 if1.false) (ap found_of (sym c.in-None.is) ∙
    rw (lent_is args.i pre.0.1 args.w.now limit.result base.result limit.ensures base.ensures pre.0.0) at
    c.find-r.ensures)
