-- The rule over bindings, "any entry of a task and any entry of a task bound to it are of one
-- user": removing entries and done keep it, and a claim keeps it exactly if BOUND does not apply.
use Prim.Native.Nat.{ℕ}
use mathlib.Core.Path.{◌≡◌, refl, sym, ◌∙◌}
use mathlib.Core.Bool.{Bool, true, false, not, ◌&&◌, ◌||◌, true≢false}
use mathlib.Core.List.{List, ◌∷◌}
use mathlib.Core.Logic.{◌↔◌}
use borrow.Author.Tests.{eqb-true, eqb-false, eq-eqb, not-true}
use lib.Dec.{eqb}
use Rattle.paper_lower.specs.Sets.{has}
use Rattle.paper_lower.specs.Lists.{Maybe, keep, each, Every}
use Rattle.paper_lower.specs.Records.{Record}
use Rattle.paper_lower.specs.Tables.{Tasks, Rules}
use Rattle.paper_lower.proofs.ListLaws.{or-none, both, not-both, every_map, every-both, every-kept, every-each, every-pull, some-none, none-some}
use Rattle.paper_upper.specs.Orders.{Entry, entry, Orders, are_in_order, tasks_others}
use Rattle.paper_upper.specs.Orders.Standing.{held}
use Rattle.paper_upper.specs.Rules.{tied, bound, found}
use Rattle.paper_upper.specs.Requests.{turned}
use Rattle.theorems.specs.OverEntries.{of_kind, OneUser, Bindings}
use Rattle.theorems.proofs.EntryLaws.{claiming, finishing, has-where, as_done, turned_same}
use Rattle.theorems.proofs.Made.{pair_of_two, Made, places}

-- If the entry f is of task y in instance b, it is of user u.
abbrev OfOne : ℕ → ℕ → ℕ → Entry → Type 0
OfOne b u y f = f.instance ≡ b → f.task ≡ y → f.user ≡ u

-- One side of a binding does not refuse the claim exactly if all entries of the task on the other side are of user u.
one_side : (es : List Entry) (b u c x y : ℕ) → (eqb x c && has (tasks_others b u es) y ≡ false) ↔ Every (λ f. x ≡ c → OfOne b u y f) es
unfolding tasks_others are_in_order
one_side es b u c x y = (
  λ h. every-pull (λ (e : x ≡ c) f. OfOne b u y f) es
      (λ e. every_map es (λ f n i t. of_one f (eqb f.user u) refl i t n)
      (some-none _ es (sym (has-where _ es y) ∙ not-both (eqb x c) _ h (eq-eqb x c e)))),
  λ h. back (eqb x c) refl h,
)
  where
    of_one : (f : Entry) (v : Bool) → eqb f.user u ≡ v → f.instance ≡ b → f.task ≡ y → (eqb f.instance b && not v) && eqb y f.task ≡ false
        → f.user ≡ u
    of_one f true e i t n = eqb-true _ _ e
    of_one f false e i t n = absurd (true≢false (rw (eq-eqb f.instance b i, eq-eqb y f.task (sym t)) at n))

    none : (f : Entry) → OfOne b u y f → (v : Bool) → (eqb f.instance b && not (eqb f.user u)) && eqb y f.task ≡ v → v ≡ false
    none f g false e = refl
    none f g true e =
        let s = both (eqb f.instance b && not (eqb f.user u)) (eqb y f.task) e in
        let r = both (eqb f.instance b) (not (eqb f.user u)) s.0 in
        absurd (eqb-false _ _ (not-true _ r.1) (g (eqb-true _ _ r.0) (sym (eqb-true _ _ s.1))))

    back : (v : Bool) → eqb x c ≡ v → Every (λ f. x ≡ c → OfOne b u y f) es → v && has (tasks_others b u es) y ≡ false
    back true e h = has-where _ es y ∙ none-some _ es (every_map es (λ f g. none f (g (eqb-true _ _ e)) _ refl) h)
    back false e h = refl

pub one-binding : (es : List Entry) (a b u c : ℕ) (r : Record) → Every (λ e. Every (OneUser r e) es) es
    → (tied (tasks_others b u es) c (pair_of_two r) ≡ false) ↔ Every (λ e. Every (OneUser r e) (entry b u c (held a) ∷ es)) (entry b u c (held a) ∷ es)
unfolding tied
one-binding es a b u c r old =
    let left = one_side es b u c r.a r.b in
    let right = one_side es b u c r.b r.a in (
      λ h.
          let s = or-none (eqb r.a c && has (tasks_others b u es) r.b) (eqb r.b c && has (tasks_others b u es) r.a) h in (
            (λ i p q. refl, every_map es (λ f g i p q. sym (g (sym p) (sym i) q)) (left.0 s.0)),
            every-both es (λ e g k. (λ i p q. g (sym q) i p, k)) (right.0 s.1) old,
          ),
      λ w. none (left.1 (every_map es (λ f g p i q. sym (g (sym i) (sym p) q)) w.0.1))
          (right.1 (every_map es (λ e (k : Every (OneUser r e) (entry b u c (held a) ∷ es)) q i p. k.0 i p (sym q)) w.1)),
    )
  where
    none : {x y : Bool} → x ≡ false → y ≡ false → x || y ≡ false
    none {x} {y} p q = rw (p, q)

module _ (policy : List Record) (o : Orders) (h : Bindings policy o) where
  pub bindings-less : (f : ℕ → Maybe ℕ) (q : Entry → Bool) → Bindings policy (record { opened = f; entries = keep q o.entries })
  bindings-less f q =
      every_map (of_kind 15 policy) (λ r x.
      every-kept (λ e. Every (OneUser r e) o.entries) (λ e. Every (OneUser r e) (keep q o.entries)) q o.entries
      (λ e y k. every-kept (OneUser r e) (OneUser r e) q o.entries (λ f z g. g) k) x) h

  pub bindings-finish : (a b c : ℕ) → Bindings policy (finishing o a b c)
  bindings-finish a b c =
      every_map (of_kind 15 policy) (λ r x.
      every-each (λ e. Every (OneUser r e) (each (turned b c a) o.entries)) (turned b c a) o.entries
      (every_map o.entries (λ e k. every-each (OneUser r (turned b c a e)) (turned b c a) o.entries
      (every_map o.entries (λ f g. one r e f g) k)) x)) h
    where
      same : (g : Entry → ℕ) (e : Entry) → g (as_done e) ≡ g e → g (turned b c a e) ≡ g e
      same g e q = turned_same g b c a e q

      one : (r : Record) (e f : Entry) → OneUser r e f → OneUser r (turned b c a e) (turned b c a f)
      one r e f g i p q =
          same (λ e. e.user) e refl
          ∙ g (sym (same (λ e. e.instance) e refl) ∙ i ∙ same (λ e. e.instance) f refl) (sym (same (λ e. e.task) e refl) ∙ p)
          (sym (same (λ e. e.task) f refl) ∙ q)
          ∙ sym (same (λ e. e.user) f refl)

  pub bindings-claim : (k : Tasks) (ru : Rules) → Made policy k ru → (a b u c : ℕ)
      → (found (bound ru (tasks_others b u o.entries) c) ≡ false) ↔ Bindings policy (claiming o a b u c)
  unfolding bound
  bindings-claim k ru made a b u c =
      let x = places (tied (tasks_others b u o.entries) c) pair_of_two ru.bindings (of_kind 15 policy) made.bindings in (
        λ e. every-both (of_kind 15 policy) (λ r y z. (one-binding o.entries a b u c r y).0 z) h (x.0 e),
        λ w. x.1 (every-both (of_kind 15 policy) (λ r y z. (one-binding o.entries a b u c r y).1 z) h w),
      )
