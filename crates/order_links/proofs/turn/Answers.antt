use Prim.Native.Nat.{◌+◌, ◌-◌}
use native.Mathlib.Omega.{arith}
use mathlib.Core.Path.{◌≡◌, refl, sym, ◌∙◌}
use lib.ListN.{length-set}
use Rattle.paper_lower.proofs.ListLaws.{or-none}
use Rattle.order_links.proofs.TurnLaws.{turn-begins, turns-on, turned-all, not-turned}
use Rattle.order_links.proofs.turn.Goals as goal

pub loop-passed-init : goal.loop-passed-init
loop-passed-init c =
    let all : c.count-n.result - 0 ≡ c.count-n.result = omega arith in
    (c.told-o, (λ _. refl, rw (all, c.head-h.ensures, c.count-n.ensures) (λ w. turn-begins c.args.i c.args.key c.args.o.now c.chain-x.result.bits c.chain-x.ensures)))

pub loop-passed-preserved : goal.loop-passed-preserved
loop-passed-preserved c =
    let pre = c.requires in
    let z = c.args in
    let v = c.loop-passed in
    let w = c.word-w.result.bits in
    let k = c.in_reach-k.result in
    let x = c.turned-v.result.bits in (
      length-set v.o _ x ∙ v.invariant.0,
      (
        λ e. let o = or-none _ _ e in not-turned v.o z.key k w x c.turned-v.ensures c.word-w.ensures (sym c.fits-hit.ensures ∙ o.0) ∙ v.invariant.1.0 o.1,
        rw (c.link-h.ensures, c.fits-hit.ensures) (λ s.
            turns-on z.i z.key z.o.now v.o v.h (c.count-n.result - v._passed) v.hit pre.0 pre.1 c.told-o s (v.invariant.1.1 s) k w x
            (c.count-n.result - (v._passed + 1)) (omega arith) c.in_reach-k.ensures.0 c.in_reach-k.ensures.1.1 c.word-w.ensures
            c.turned-v.ensures),
      ),
    )

pub returns : goal.returns
returns c =
    let pre = c.requires in
    let z = c.args in
    let v = c.loop-passed in
    record {
      room = v.invariant.0 ∙ sym c.told-o;
      kept = v.invariant.1.0;
      sound = λ s. turned-all z.i z.key z.o.now v.o v.h (c.count-n.result - v._passed) v.hit pre.0 pre.1 c.told-o s (v.invariant.1.1 s) (omega arith);
    }
