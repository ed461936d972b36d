-- The rule over prerequisites, "a task with an entry has a done entry for each task required
-- before it": the requests keep it, and a claim keeps it exactly if BEFORE does not apply.
use Prim.Native.Nat.{ℕ}
use mathlib.Core.Path.{◌≡◌, refl, sym, ap, ◌∙◌}
use mathlib.Core.Bool.{Bool, true, false, not, ◌&&◌, false≢true}
use mathlib.Core.List.{List, ◌∷◌}
use mathlib.Core.Logic.{◌↔◌}
use borrow.Author.Tests.{eqb-true, eqb-false, eq-eqb, ne_eqb, not-true, not-false}
use lib.Dec.{eqb}
use Rattle.paper_lower.specs.Sets.{has}
use Rattle.paper_lower.specs.Lists.{Maybe, keep, each, Every}
use Rattle.paper_lower.specs.Records.{Record}
use Rattle.paper_lower.specs.Tables.{Tasks, Rules}
use Rattle.paper_lower.proofs.ListLaws.{both, not-both, and-false, every_map, every-both, every-kept, every-each}
use Rattle.sets.proofs.SetLaws.{has_part}
use Rattle.paper_upper.specs.Orders.{Standing, is_done, is_held_by, Entry, entry, Orders, are_in_order, of_task, held_of, tasks_where, tasks_done}
use Rattle.paper_upper.specs.Orders.Standing.{held, done}
use Rattle.paper_upper.specs.Rules.{missing, before, found}
use Rattle.paper_upper.specs.Requests.{turned}
use Rattle.theorems.specs.OverEntries.{of_kind, Ready, Prerequisites}
use Rattle.theorems.proofs.EntryLaws.{ending, claiming, releasing, finishing, where-kept, turned_same, done-turned}
use Rattle.theorems.proofs.Made.{pair_of_two, Made, places}

-- A done entry is not held.
not-held : (i t a : ℕ) (e : Entry) → is_done e.standing ≡ true → not (held_of i t a e) ≡ true
unfolding held_of is_held_by is_done
not-held i t a e h = go e.standing h
  where
    go : (x : Standing) → is_done x ≡ true → not (of_task i t e && is_held_by a x) ≡ true
    go (held s) h = absurd (false≢true h)
    go done h = ap not (and-false (of_task i t e))

-- A new entry is held, so that it adds no done task.
same-done : (es : List Entry) (i a b u c : ℕ) → tasks_done i (entry b u c (held a) ∷ es) ≡ tasks_done i es
unfolding tasks_done tasks_where is_done
same-done es i a b u c = rw (and-false (are_in_order i (entry b u c (held a))))

pub one-before : (es : List Entry) (a b u c : ℕ) (r : Record) → Every (Ready es r) es
    → (missing (tasks_done b es) c (pair_of_two r) ≡ false) ↔ Every (Ready (entry b u c (held a) ∷ es) r) (entry b u c (held a) ∷ es)
unfolding missing
one-before es a b u c r old = (
  λ h. (
    λ e. rw (same-done es b a b u c) (not-false _ (not-both (eqb r.b c) (not (has (tasks_done b es) r.a)) h (eq-eqb _ _ (sym e)))),
    every_map es (λ e k q. rw (same-done es e.instance a b u c) (k q)) old,
  ),
  λ w. back (eqb r.b c) refl w.0,
)
  where
    back : (x : Bool) → eqb r.b c ≡ x → Ready (entry b u c (held a) ∷ es) r (entry b u c (held a)) → x && not (has (tasks_done b es) r.a) ≡ false
    back true e k = ap not (sym (ap (λ (d : ℕ). has d r.a) (same-done es b a b u c)) ∙ k (sym (eqb-true _ _ e)))
    back false e k = refl

module _ (policy : List Record) (o : Orders) (h : Prerequisites policy o) where
  -- Removing entries keeps the rule if no done entry is removed from an order that keeps an entry.
  fewer : (f : ℕ → Maybe ℕ) (q : Entry → Bool) → ((e g : Entry) → q e ≡ true → are_in_order e.instance g && is_done g.standing ≡ true → q g ≡ true)
      → Prerequisites policy (record { opened = f; entries = keep q o.entries })
  unfolding tasks_done
  fewer f q k =
      every_map (of_kind 16 policy) (λ r x. every-kept (Ready o.entries r) (Ready (keep q o.entries) r) q o.entries
      (λ e y g t. has_part _ _ r.a (where-kept _ q o.entries (λ d z. k e d y z)) (g t)) x) h

  pub befores-end : (a : ℕ) → Prerequisites policy (ending o a)
  unfolding are_in_order
  befores-end a = fewer (ending o a).opened (λ e. not (are_in_order a e)) (λ e g x y.
      ap not (ne_eqb g.instance a
      (λ q. eqb-false e.instance a (not-true _ x) (sym (eqb-true _ _ (both (eqb g.instance e.instance) (is_done g.standing) y).0) ∙ q))))

  pub befores-release : (a b c : ℕ) → Prerequisites policy (releasing o a b c)
  befores-release a b c =
      fewer o.opened (λ e. not (held_of b c a e)) (λ e g x y. not-held b c a g (both (are_in_order e.instance g) (is_done g.standing) y).1)

  pub befores-finish : (a b c : ℕ) → Prerequisites policy (finishing o a b c)
  befores-finish a b c =
      every_map (of_kind 16 policy) (λ r x. every-each (Ready (each (turned b c a) o.entries) r) (turned b c a) o.entries
      (every_map o.entries (λ e g t.
      rw (turned_same (λ e. e.instance) b c a e refl)
      (has_part _ _ r.a (done-turned e.instance b c a o.entries) (g (sym (turned_same (λ e. e.task) b c a e refl) ∙ t)))) x)) h

  pub befores-claim : (k : Tasks) (ru : Rules) → Made policy k ru → (a b u c : ℕ)
      → (found (before ru (tasks_done b o.entries) c) ≡ false) ↔ Prerequisites policy (claiming o a b u c)
  unfolding before
  befores-claim k ru made a b u c =
      let x = places (missing (tasks_done b o.entries) c) pair_of_two ru.befores (of_kind 16 policy) made.befores in (
        λ e. every-both (of_kind 16 policy) (λ r y z. (one-before o.entries a b u c r y).0 z) h (x.0 e),
        λ w. x.1 (every-both (of_kind 16 policy) (λ r y z. (one-before o.entries a b u c r y).1 z) h w),
      )
