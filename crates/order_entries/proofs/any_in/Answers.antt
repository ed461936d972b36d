use Prim.Native.Nat.{ℕ, ◌+◌, ◌-◌}
use mathlib.Core.Bool.{false}
use mathlib.Core.Path.{◌≡◌, sym, ap, subst, ◌∙◌}
use native.Mathlib.Omega.{arith}
use Rattle.order_links.specs.Chains.{mark_of, head_of, count_of, walk_over, Fine, Linked}
use Rattle.order_links.proofs.ChainLaws.{linked-here, linked_on, walk_turn, walk_end}
use Rattle.order_links.proofs.ActLaws.{whole}
use Rattle.order_entries.specs.Reading.{fits, take_fit}
use Rattle.order_entries.proofs.any_in.Goals as goal

pub loop-passed-init : goal.loop-passed-init
loop-passed-init c =
    let chain = c.chain-x in
    let args = c.args in
    let all : c.count-n.result - 0 ≡ c.count-n.result = omega arith in
    λ s.
    let l = args.o.now in
    let i = args.i in
    rw (all, c.head-h.ensures, c.count-n.ensures) (
      subst (λ (x : ℕ). Linked l (Fine l i (mark_of l)) (head_of x) (count_of x)) (sym chain.ensures) ((whole l s).woven.chain i (omega arith)),
      ap (λ (x : ℕ). walk_over (take_fit args.mask args.key) l (head_of x) (count_of x) false) chain.ensures,
    )

pub loop-passed-preserved : goal.loop-passed-preserved
unfolding fits
loop-passed-preserved c =
    let args = c.args in
    λ s.
    let l = args.o.now in
    let v = c.loop-passed in
    let left = c.count-n.result - v._passed in
    let next = c.count-n.result - (v._passed + 1) in
    let less : left - 1 ≡ next = omega arith in
    let fine = Fine l args.i (mark_of l) in
    let i = v.invariant s in
    let f = linked-here l fine v.h left (omega arith) i.0 in
    let k = (whole l s).woven.mark in
    let q = c.linked-w.ensures f.0 (omega arith) in
    rw (c.link-h.ensures, q) (
      rw less at (linked_on l fine v.h left (omega arith) i.0),
      sym (walk_turn (take_fit args.mask args.key) l v.h left next v.found (omega arith)) ∙ i.1,
    )

pub returns : goal.returns
returns c =
    let args = c.args in
    λ s.
    let v = c.loop-passed in
    sym (walk_end (take_fit args.mask args.key) args.o.now v.h (c.count-n.result - v._passed) v.found (omega arith)) ∙ (v.invariant s).1
