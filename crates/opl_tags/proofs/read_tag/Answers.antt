-- `read_tag` meets its contract: from the next "<" on, after white space and comments, it finds an end tag or a start tag.
use mathlib.Core.Bool.{not}
use mathlib.Core.Path.{ap}
use Rattle.opl_tags.proofs.TagLaws.{read_on, read_bad, tag_unnamed, tag_start}
use Rattle.opl_tags.proofs.read_tag.Goals as goal

pub returns-in_err-end : goal.returns-in_err-end
returns-in_err-end c =
    let bad = read_bad c.read_name.result c.in_err-end.ensures.value c.read_name.ensures in
    rw c.from_residual-in_err-end.ensures
    (tag_unnamed c.args.s.now c.args.at c.open_at-o.result c.open_at-o.ensures.rest c.in_ok-i.i
    (read_on c.skip_misc.result c.in_ok-i.i c.in_ok-i.ensures.value c.skip_misc.ensures) c.is_at.result c.is_at.ensures
    (ap not c.if-not-is_at.false) c.is_at-2.result c.is_at-2.ensures c.if-is_at.false bad.0 bad.1)

pub returns : goal.returns
returns c =
    tag_start c.args.s.now c.args.at c.open_at-o.result c.open_at-o.ensures.rest c.in_ok-i.i
    (read_on c.skip_misc.result c.in_ok-i.i c.in_ok-i.ensures.value c.skip_misc.ensures) c.is_at.result c.is_at.ensures
    (ap not c.if-not-is_at.false) c.is_at-2.result c.is_at-2.ensures c.if-is_at.false c.in_ok-end.end
    (read_on c.read_name.result c.in_ok-end.end c.in_ok-end.ensures.value c.read_name.ensures)
