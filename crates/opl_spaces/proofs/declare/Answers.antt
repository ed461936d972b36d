-- `declare` meets its contract: it lends the words of one table, so no other table changes.
use Rattle.opl_spaces.proofs.SpaceLaws.{lent_is, declares-in}
use Rattle.opl_spaces.proofs.declare.Goals as goal

pub declare-requires : goal.declare-requires
declare-requires c =
    let args = c.args in
    let pre = c.requires in
    let limit = c.limit-n in (
      rw (
        lent_is args.i pre.0.1 args.w.now limit.result c.base-from.result limit.ensures c.base-from.ensures pre.0.0,
        limit.ensures,
      ) pre.1.0,
      pre.1.1,
    )

pub returns : goal.returns
returns c =
    let args = c.args in
    let pre = c.requires in
    let limit = c.limit-n in
    let base = c.base-from in
    let declare = c.declare in
    declares-in args.i pre.0.1 args.w.now limit.result base.result limit.ensures base.ensures pre.0.0 args.s.now _
    declare.new.t declare.result declare.ensures
