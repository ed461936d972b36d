-- `empty` meets its contract: it lends the words of one table, so no other table changes.
use Rattle.opl_spaces.proofs.SpaceLaws.{bounds, lent_length, empties}
use Rattle.opl_spaces.proofs.empty.Goals as goal

pub empty-requires : goal.empty-requires
empty-requires c =
    let args = c.args in
    let pre = c.requires in
    let limit = c.limit-n in (
      rw limit.ensures (bounds args.i pre.1).some,
      (
        rw limit.ensures (bounds args.i pre.1).few,
        lent_length args.i pre.1 args.w.now limit.result c.base-from.result limit.ensures c.base-from.ensures pre.0,
      ),
    )

pub returns : goal.returns
returns c =
    let args = c.args in
    let pre = c.requires in
    let limit = c.limit-n in
    let base = c.base-from in
    let empty = c.empty in
    empties args.i pre.1 args.w.now limit.result base.result limit.ensures base.ensures pre.0 empty.new.t empty.ensures
