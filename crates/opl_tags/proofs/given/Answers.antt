-- `given` meets its contract: it finds the end of the tag, or an attribute after white space.
use Rattle.opl_tags.proofs.AttributeLaws.{given_plain}
use Rattle.opl_tags.proofs.given.Goals as goal

pub returns : goal.returns
returns c =
    let args = c.args in
    let pre = c.requires in
    let skip-space = c.skip_space-i in
    let is_at = c.is_at in
    let is-at2 = c.is_at-2 in
    given_plain args.s.now args.at skip-space.result pre skip-space.ensures.rest skip-space.ensures.inside is_at.result is-at2.result
    is_at.ensures is-at2.ensures c.if-is_at.false c.if-i-at.false c.plain.result c.plain.ensures
