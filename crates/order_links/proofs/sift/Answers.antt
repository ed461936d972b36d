use borrow.Author.Tests.{eqb-true, eqb-false, ltb-false}
use mathlib.Core.Path.{refl, ◌∙◌, sym}
use native.Mathlib.Omega.{arith}
use Rattle.order_links.proofs.CutLaws.{begun, ends, any_gone}
use Rattle.order_links.proofs.TotalLaws.{any-goes, any-takes}
use Rattle.order_links.proofs.sift.Goals as goal

pub loop-kept-init : goal.loop-kept-init
loop-kept-init c =
    let z = c.args in
    (c.told-o, (omega arith, (omega arith, (λ _. refl, rw (c.head-h.ensures, c.count-all.ensures) (λ w. begun z.i z.key z.o.now c.chain-x.result.bits w c.chain-x.ensures)))))

pub loop-kept-preserved-then-goes : goal.loop-kept-preserved-then-goes
loop-kept-preserved-then-goes c =
    let z = c.args in
    let v = c.loop-kept in
    let b = v.invariant.1.1.0 in
    let t = c.loop-kept-test.true in (
      c.free.ensures.0 ∙ v.invariant.0,
      (
        v.invariant.1.0,
        (
          omega arith,
          (
            λ h. let n : ⊥ = omega arith in absurd n,
            rw c.link-h.ensures (any-takes z.i z.key z.o.now v.o v.h v.n v.kept v.q c.in_reach-k.result c.word-w.result.bits c.requires (omega arith) c.in_reach-k.ensures.1.1
                c.word-w.ensures v.invariant.1.1.1.1 _ (eqb-true _ _ (sym c.fits-goes.ensures ∙ c.if-goes.true)) c.free.ensures),
          ),
        ),
      ),
    )

pub loop-kept-preserved : goal.loop-kept-preserved
loop-kept-preserved c =
    let z = c.args in
    let v = c.loop-kept in (
      v.invariant.0,
      (
        c.in_reach-k.ensures.1.0,
        (
          v.invariant.1.1.0,
          (
            v.invariant.1.1.1.0,
            rw c.link-h.ensures (any-goes z.i z.key z.o.now v.o v.h v.n v.kept v.q c.in_reach-k.result c.word-w.result.bits c.requires (omega arith) c.in_reach-k.ensures.1.1
                c.word-w.ensures v.invariant.1.1.1.1 (eqb-false _ _ (sym c.fits-goes.ensures ∙ c.if-goes.false))),
          ),
        ),
      ),
    )

pub returns : goal.returns
returns c =
    let z = c.args in
    let v = c.loop-kept in
    record {
      room = v.invariant.0 ∙ sym c.told-o;
      kept = λ e. v.invariant.1.1.1.0 (ltb-false _ _ e);
      sound = λ w.
          let s = v.invariant.1.1.1.1 w in (
            ends z.i z.key z.o.now v.o v.h v.n v.kept v.q c.requires s (omega arith),
            rw c.count-all.ensures (any_gone z.i z.key z.o.now v.o v.h v.n v.kept v.q c.requires s (omega arith) c.chain-x.result.bits c.chain-x.ensures),
          );
    }
