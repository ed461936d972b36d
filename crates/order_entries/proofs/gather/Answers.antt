use Prim.Native.Nat.{ℕ, ◌≤◌, ◌+◌, ◌-◌}
use mathlib.Core.Path.{◌≡◌, sym, ap, subst, ◌∙◌}
use native.Mathlib.Omega.{arith}
use Rattle.order_links.specs.Chains.{mark_of, head_of, count_of, walk_over, Fine, Linked}
use Rattle.order_links.proofs.ChainLaws.{linked-here, linked_on, walk_turn, walk_end}
use Rattle.order_links.proofs.ActLaws.{whole}
use Rattle.order_entries.specs.Gathering.{set_of, take_in}
use Rattle.order_entries.proofs.GatherLaws.{gather-all, times_more}
use Rattle.order_entries.proofs.gather.Goals as goal

pub loop-passed-init : goal.loop-passed-init
loop-passed-init c =
    let args = c.args in
    let chain = c.chain-x in
    let l = c.args.o.now in
    let i = c.args.i in
    let all : c.count-n.result - 0 ≡ c.count-n.result = omega arith in (
      omega arith,
      λ s. rw (all, c.head-h.ensures, c.count-n.ensures) (
        subst (λ (x : ℕ). Linked l (Fine l i (mark_of l)) (head_of x) (count_of x)) (sym chain.ensures) ((whole l s).woven.chain i (omega arith)),
        ap (λ (x : ℕ). walk_over (take_in args.u args.t) l (head_of x) (count_of x)
            (record { mine = set_of 0; done = c.done-done.result; others = set_of 0; times = 0; held = 0 })) chain.ensures,
      ),
    )

pub loop-passed-preserved : goal.loop-passed-preserved
loop-passed-preserved c =
    let linked = c.linked-w in
    let args = c.args in
    let l = c.args.o.now in
    let v = c.loop-passed in
    let left = c.count-n.result - v._passed in
    let next = c.count-n.result - (v._passed + 1) in
    let less : left - 1 ≡ next = omega arith in
    let fine = Fine l args.i (mark_of l) in
    let m = times_more args.u args.t linked.result.bits v.g in
    let e : c.take_in-g.result.times ≤ v.g.times + 1 = rw c.take_in-g.ensures m in
    let b = v.invariant.0 in (
      omega arith,
      λ s.
          let i = v.invariant.1 s in
          let f = linked-here l fine v.h left (omega arith) i.0 in
          let k = (whole l s).woven.mark in
          let q = linked.ensures f.0 (omega arith) in (
            rw (c.link-h.ensures, q) (rw less at (linked_on l fine v.h left (omega arith) i.0)),
            rw (c.link-h.ensures, c.take_in-g.ensures, q)
                (sym (walk_turn (take_in args.u args.t) l v.h left next v.g (omega arith)) ∙ i.1),
          ),
    )

pub returns : goal.returns
returns c =
    let args = c.args in
    λ s.
    let l = args.o.now in
    let v = c.loop-passed in
    sym (walk_end (take_in args.u args.t) l v.h (c.count-n.result - v._passed) v.g (omega arith)) ∙ (v.invariant.1 s).1
    ∙ gather-all args.i args.u args.t c.done-done.result l (whole l s) c.requires c.done-done.ensures
