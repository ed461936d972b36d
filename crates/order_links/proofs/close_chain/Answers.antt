-- `close_chain` meets its contract: all entries of the instance are made free, and the instance is removed from the set of open ones.
use Prim.Native.Nat.{ℕ}
use mathlib.Core.Path.{sym, ap, subst, ◌∙◌}
use mathlib.Core.List.{[]}
use lib.ListN.{set, length-set}
use Rattle.paper_lower.specs.Sets.{minus}
use Rattle.paper_lower.specs.Lists.Maybe.{none}
use Rattle.order_links.specs.Acts.{Leaves}
use Rattle.order_links.proofs.ActLaws.{whole, closed}
use Rattle.order_links.proofs.close_chain.Goals as goal

pub returns : goal.returns
returns c =
    let pre = c.requires in
    let drop_all = c.drop_all in
    let z = c.args in
    let l = z.o.now in
    let i = z.i in
    let l₁ = c.drop_all.new.o in (
      length-set l₁ 1 _ ∙ drop_all.ensures.0,
      λ s.
          let w = whole l s in
          subst (λ (x : ℕ). Leaves i none [] l (set l₁ 1 x)) (sym (c.without-fewer.ensures ∙ ap (λ (m : ℕ). minus m i) c.set_of.ensures))
          (closed l l₁ i c.told-o w pre (drop_all.ensures.1 w.woven)),
    )
