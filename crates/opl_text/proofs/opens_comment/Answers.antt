-- `opens_comment` meets its contract: it tests the four bytes that open a comment, one after the other.
use Rattle.opl_text.proofs.Laws.{opening-is}
use Rattle.opl_text.proofs.opens_comment.Goals as goal

pub returns : goal.returns
returns c =
    let args = c.args in
    let is_at = c.is_at in
    let is-at2 = c.is_at-2 in
    opening-is args.s.now args.at is_at.result is-at2.result c.is_at-3.result c.is_at-4.result is_at.ensures is-at2.ensures
    c.is_at-3.ensures c.is_at-4.ensures
