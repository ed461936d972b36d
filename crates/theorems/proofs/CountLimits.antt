-- The rule over count limits, "a limited task has at most n entries": removing entries and done keep it, and a claim keeps it exactly if COUNT does not apply.
use Prim.Native.Nat.{ℕ, suc, ◌≤◌}
use mathlib.Core.Path.{◌≡◌, refl, sym, ◌∙◌}
use mathlib.Core.Bool.{Bool, true, false, ◌&&◌}
use mathlib.Core.List.{List, ◌∷◌}
use mathlib.Core.Logic.{◌↔◌}
use native.Mathlib.Omega.{arith}
use borrow.Author.Tests.{eqb-true, eq-eqb, leb-false, lt-leb}
use lib.Dec.{eqb, leb}
use Rattle.paper_lower.specs.Lists.{Maybe, many, keep}
use Rattle.paper_lower.specs.Records.{Record}
use Rattle.paper_lower.specs.Tables.{Tasks, Rules}
use Rattle.paper_lower.proofs.ListLaws.{both, not-both, every_map, every-both, some-none, none-some}
use Rattle.paper_upper.specs.Orders.{Entry, entry, Orders, are_in_order, of_task}
use Rattle.paper_upper.specs.Orders.Standing.{held}
use Rattle.paper_upper.specs.Rules.{spent}
use Rattle.paper_upper.specs.Requests.{turned}
use Rattle.theorems.specs.OverEntries.{of_kind, AtMost, CountLimits}
use Rattle.theorems.proofs.EntryLaws.{claiming, finishing, turned_same}
use Rattle.theorems.proofs.CountLaws.{count_less, count-each, count_same}
use Rattle.theorems.proofs.Made.{Made}

module _ (policy : List Record) (o : Orders) (h : CountLimits policy o) where
  pub counts-less : (f : ℕ → Maybe ℕ) (q : Entry → Bool) → CountLimits policy (record { opened = f; entries = keep q o.entries })
  counts-less f q i = every_map (of_kind 14 policy) (λ r x. let l = count_less (of_task i r.a) q o.entries in omega arith) (h i)

  pub counts-finish : (a b c : ℕ) → CountLimits policy (finishing o a b c)
  unfolding of_task are_in_order
  counts-finish a b c i =
      every_map (of_kind 14 policy) (λ r x.
      let e = count-each (of_task i r.a) (turned b c a) o.entries in
      let s = count_same (λ e. of_task i r.a (turned b c a e)) (of_task i r.a) o.entries (λ e. turned_same (of_task i r.a) b c a e refl) in
      omega arith) (h i)

  -- The number of entries of task t in instance i.
  abbrev times : ℕ → ℕ → ℕ
  times i t = many (keep (of_task i t) o.entries)

  pub counts-claim : (k : Tasks) (ru : Rules) → Made policy k ru → (a b u c : ℕ)
      → (spent k (times b c) c ≡ false) ↔ CountLimits policy (claiming o a b u c)
  unfolding spent of_task are_in_order many keep
  counts-claim k ru made a b u c = (
    λ e i. every-both (of_kind 14 policy) (λ r x y. forth i r x (eqb b i && eqb c r.a) refl y) (h i)
        (some-none _ (of_kind 14 policy) (sym (made.most (λ n. leb n (times b c)) c) ∙ e)),
    λ w. made.most (λ n. leb n (times b c)) c ∙ none-some _ (of_kind 14 policy)
        (every_map (of_kind 14 policy) (λ r x. back r (eqb c r.a) refl x) (w b)),
  )
    where
      forth : (i : ℕ) (r : Record) → AtMost o.entries i r → (x : Bool) → eqb b i && eqb c r.a ≡ x
          → eqb c r.a && leb r.n (times b c) ≡ false
          → AtMost (entry b u c (held a) ∷ o.entries) i r
      forth i r old true e y =
          let s = both (eqb b i) (eqb c r.a) e in
          let l = leb-false r.n (times b c) (not-both (eqb c r.a) _ y s.1) in
          let z : times b c ≡ times i r.a = rw (eqb-true b i s.0, eqb-true c r.a s.1) in
          rw e (omega arith)
      forth i r old false e y = rw e old

      back : (r : Record) (x : Bool) → eqb c r.a ≡ x → AtMost (entry b u c (held a) ∷ o.entries) b r → x && leb r.n (times b c) ≡ false
      back r true e w =
          let l : suc (times b r.a) ≤ r.n = rw (eq-eqb b b refl, e) at w in
          let z : times b c ≡ times b r.a = rw (eqb-true c r.a e) in
          lt-leb r.n (times b c) (omega arith)
      back r false e w = refl
