-- `open_chain` meets its contract: its four stores add the instance to the open ones, with its template and without entries.
use Prim.Native.Nat.{ℕ, ◌+◌}
use mathlib.Core.Path.{sym, ap, subst, ◌∙◌}
use mathlib.Core.List.{[]}
use lib.ListN.{set}
use Rattle.paper_lower.specs.Sets.{plus}
use Rattle.paper_lower.specs.Lists.Maybe.{just}
use Rattle.order_links.specs.Acts.{Leaves}
use Rattle.order_links.proofs.ActLaws.{whole, newly-opened}
use borrow.Author.Rules.{rules}
use Rattle.order_links.proofs.open_chain.Goals as goal

pub returns : goal.returns
returns c =
    let pre = c.requires in
    let z = c.args in
    let l = z.o.now in
    let i = z.i in
    let j = z.j in
    let ready = set (set (set l (2 + i) j) (66 + i) 0) (132 + i) 0 in (
      search rules,
      λ s was.
          subst (λ (x : ℕ). Leaves i (just j) [] l (set ready 1 x)) (sym (c.with-more.ensures ∙ ap (λ (m : ℕ). plus m i) c.set_of.ensures))
          (newly-opened l i j c.told-o (whole l s) pre.0 pre.1 was),
    )
