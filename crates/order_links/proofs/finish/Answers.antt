-- `finish` meets its contract: the entries that fit are marked as done and their task is added to the kept set. If none fits, nothing is stored.
use Prim.Native.Nat.{ℕ, ◌+◌}
use mathlib.Core.Path.{sym, ap, subst, ◌∙◌}
use mathlib.Core.List.{List}
use mathlib.Core.Bool.{true≢false}
use lib.ListN.{length-set}
use Rattle.paper_lower.specs.Sets.{plus}
use Rattle.paper_lower.specs.Lists.{each}
use Rattle.paper_upper.specs.Requests.{turned}
use Rattle.order_links.specs.Chains.{template_at, entries_in}
use Rattle.order_links.specs.Acts.{Leaves}
use Rattle.order_links.proofs.ActLaws.{whole, unchanged, finished}
use Rattle.order_links.proofs.TurnLaws.{held_fits, none-turned}
use Rattle.order_links.proofs.finish.Goals as goal

pub returns-then-not-turn : goal.returns-then-not-turn
returns-then-not-turn c =
    let turn = c.turn in
    let z = c.args in
    let l = z.o.now in
    let hi = c.requires.0 in
    let ht = c.requires.1.0 in
    let ha = c.requires.1.1 in
    let f = c.if-not-turn.true in
    let k = turn.ensures.kept f in
    let es = each (turned z.i z.t z.a) (entries_in l z.i) in
    record {
      room = turn.ensures.room;
      kept = λ _. k;
      sound = λ s opens.
          let w = whole l s in
          let e = sym ((turn.ensures.sound w.woven).1 ∙ held_fits l w.woven z.i z.t z.a hi ht ha) ∙ f in (
            sym e,
            subst (λ (x : List ℕ). Leaves z.i (template_at l z.i) es l x) (sym k)
                (unchanged l z.i es c.told-o s (sym (none-turned z.i z.t z.a (entries_in l z.i) e))),
          );
    }

pub returns : goal.returns
returns c =
    let turn = c.turn in
    let if1 = c.if-not-turn in
    let z = c.args in
    let l = z.o.now in
    let l₁ = c.turn.new.o in
    let hi = c.requires.0 in
    let ht = c.requires.1.0 in
    let ha = c.requires.1.1 in
    let t = if1.false in
    record {
      room = length-set l₁ (132 + z.i) _ ∙ turn.ensures.room;
      kept = λ e. absurd (true≢false e);
      sound = λ s opens.
          let w = whole l s in
          let out = turn.ensures.sound w.woven in
          let e = sym (out.1 ∙ held_fits l w.woven z.i z.t z.a hi ht ha) ∙ t in (
            sym e,
            finished l l₁ z.i z.t z.a _ c.told-o w hi ht ha opens out.0 e
                (c.with-more.ensures ∙ ap (λ (m : ℕ). plus m z.t) c.set_of.ensures),
          );
    }
