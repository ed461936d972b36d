use Rattle.opl_text.proofs.Turns.{opening-room, misc-first, misc-done, misc-refused, misc-again, misc-past}
use Prim.Native.Nat.{◌<◌}
use native.Mathlib.Omega.{arith}
use Rattle.std.proofs.lemmas.Result.{err_from_is_err_and}
use Rattle.opl_text.proofs.skip_misc.Goals as goal

pub loop-i-init : goal.loop-i-init
loop-i-init c = (c.skip_space-i.ensures.inside, misc-first c.args.s.now c.args.at c.skip_space-i.result c.skip_space-i.ensures.rest)

pub comment_end-requires : goal.comment_end-requires
comment_end-requires c = opening-room c.args.s.now c.loop-i.i c.opens_comment.result c.opens_comment.ensures c.loop-i-test.true

pub returns-in_err-end : goal.returns-in_err-end
returns-in_err-end c =
    let loop = c.loop-i in
    let opens = c.opens_comment in
    let refused = err_from_is_err_and c.from_residual.result c.from_residual.ensures.1 in
    rw (refused.1, refused.2)
    (record {
      read_is =
          misc-refused c.args.s.now c.args.at loop.i loop.invariant.1 loop.invariant.0 opens.result opens.ensures c.loop-i-test.true
          c.in_err-end.field-0.0.at c.in_err-end.ensures.read_is;
      inside = c.in_err-end.ensures.inside;
    })

pub loop-i-smaller : goal.loop-i-smaller
loop-i-smaller c =
    let loop = c.loop-i in
    let opens = c.opens_comment in
    let next = c.skip_space-i-in-loop-i.ensures in
    let past : loop.i < c.skip_space-i-in-loop-i.result =
    misc-past c.args.s.now c.args.at loop.i loop.invariant.1 loop.invariant.0 opens.result opens.ensures c.loop-i-test.true c.in_ok-end.end
    c.in_ok-end.ensures.read_is c.in_ok-end.ensures.inside c.skip_space-i-in-loop-i.result next.rest next.inside in
    omega (arith, next.inside)

pub loop-i-preserved : goal.loop-i-preserved
loop-i-preserved c =
    let loop = c.loop-i in
    let opens = c.opens_comment in
    let next = c.skip_space-i-in-loop-i.ensures in (
      next.inside,
      misc-again c.args.s.now c.args.at loop.i loop.invariant.1 loop.invariant.0 opens.result opens.ensures c.loop-i-test.true c.in_ok-end.end
          c.in_ok-end.ensures.read_is c.in_ok-end.ensures.inside c.skip_space-i-in-loop-i.result next.rest next.inside,
    )

pub returns : goal.returns
returns c =
    let loop = c.loop-i in
    record {
      read_is =
          misc-done c.args.s.now c.args.at loop.i loop.invariant.1 loop.invariant.0 c.opens_comment.result c.opens_comment.ensures
          c.loop-i-test.false;
      inside = loop.invariant.0;
    }
