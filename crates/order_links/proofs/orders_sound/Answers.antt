use mathlib.Core.Path.{sym, subst, ◌∙◌}
use native.Mathlib.Omega.{arith}
use Rattle.order_links.specs.Chains.{open_of}
use Rattle.order_links.proofs.ReadLaws.{read-closed}
use Rattle.order_links.proofs.CheckLaws.{Left, all_left, all_met, one_less, here, start, more, fails, ends}
use Rattle.order_links.proofs.orders_sound.Goals.{else-loop-i-test, then-loop-i-test+then-rest-eq0}
use Rattle.order_links.proofs.orders_sound.Goals as goal

pub loop-i-init : goal.loop-i-init
loop-i-init c = (
  c.requires.1.0,
  (
    start c.args.o.now c.args.m c.args.s,
    subst (Left (open_of c.args.o.now) 0) (sym c.requires.1.1) (all_left (open_of c.args.o.now)),
  ),
)

pub counted-n-requires : goal.counted-n-requires
counted-n-requires c =
    let l = c.args.o.now in
    let loop = c.loop-i in (
      c.requires.0,
      (
        loop.invariant.0,
        (
          omega arith,
          here (open_of l) loop.i loop.rest loop.invariant.1.1 ∙ sym (read-closed l loop.i (omega arith)),
        ),
      ),
    )

pub returns-then-m-n : goal.returns-then-m-n
returns-then-m-n c =
    let args = c.args in
    let loop = c.loop-i in
    fails args.o.now args.m args.s loop.i loop.n c.counted-n.result (omega arith) loop.invariant.1.0 c.counted-n.ensures c.if-m-n.true

pub loop-i-preserved : goal.loop-i-preserved
loop-i-preserved c =
    let args = c.args in
    let loop = c.loop-i in (
      c.if-m-n.false,
      (
        more args.o.now args.m args.s loop.i loop.n c.counted-n.result loop.invariant.1.0 c.counted-n.ensures c.if-m-n.false,
        one_less (open_of args.o.now) loop.i loop.rest loop.invariant.1.1,
      ),
    )

pub returns : goal.returns
returns c =
    let args = c.args in
    let loop = c.loop-i in
    ends args.o.now args.m args.s loop.i loop.n loop.rest (omega arith) loop.invariant.1.0 loop.invariant.1.1 (elim c.loop-i-test.branch [
      | else-loop-i-test w ↦ all_met (open_of args.o.now) loop.i loop.rest (c.fits-o 1) loop.invariant.1.1 w.loop-i-test.false
      | then-loop-i-test+then-rest-eq0 w ↦ w.if-rest-eq0.true
    ])
