use native.Mathlib.Omega.{arith}
use Rattle.opl_passes.proofs.TagLaws.{put_first, put-fits, put-again}
use Rattle.opl_passes.proofs.write_kept.Goals as goal

pub loop-j-init : goal.loop-j-init
loop-j-init c = put_first c.args.w.now c.args.next.now c.args.out.now c.args.n

pub put_kept-requires : goal.put_kept-requires
put_kept-requires c =
    let pre = c.requires in
    let args = c.args in
    let loop = c.loop-j in
    let h = c.loop-j-test.true in (
      pre.0,
      (
        omega (arith, pre.1.0, h),
        (
          (pre.1.1.kinds loop.j h).1,
          put-fits args.w.now args.next.now args.out.now args.n pre.1.1 loop.next loop.out loop.j loop.invariant h,
        ),
      ),
    )

pub loop-j-preserved : goal.loop-j-preserved
loop-j-preserved c =
    let args = c.args in
    let loop = c.loop-j in
    put-again args.w.now args.next.now args.out.now args.n c.requires.1.1 loop.next loop.out loop.j loop.invariant c.loop-j-test.true
    c.put_kept.new.next c.put_kept.new.out c.put_kept.ensures
