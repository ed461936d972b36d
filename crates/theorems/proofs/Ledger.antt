-- The ledger stays sound after each request: every entry is of an open instance, a
-- task of an order has at most one holder, and at most 2,048 entries are in use.
use Prim.Native.Nat.{ℕ, ◌≤◌}
use mathlib.Core.Path.{◌≡◌, refl, ap, ◌∙◌}
use mathlib.Core.Bool.{Bool, true, false, not, cond, ◌&&◌, false≢true}
use mathlib.Core.List.{◌∷◌}
use mathlib.Core.Logic.{⊎_elim}
use native.Mathlib.Omega.{arith}
use borrow.Author.Tests.{eqb-true, eqb-false, leb-false, not-true}
use lib.Dec.{eqb, leb}
use Rattle.paper_lower.specs.Lists.{upd, Maybe, holds, there, some, many, keep, Every}
use Rattle.paper_lower.specs.Lists.Maybe.{none, just}
use Rattle.paper_lower.proofs.ListLaws.{both, upd_same, upd_other, every_map, every-kept, every-each, some-none}
use Rattle.sets.proofs.Bits.{same-or-other}
use Rattle.paper_upper.specs.Orders.{is_held, Entry, entry, Orders, are_in_order, of_task, held_of}
use Rattle.paper_upper.specs.Orders.Standing.{held}
use Rattle.paper_upper.specs.Requests.{turned}
use Rattle.theorems.specs.WellMade.{Ledger}
use Rattle.theorems.proofs.EntryLaws.{opening, ending, claiming, releasing, finishing, as_done, turned-cases, turned_same}
use Rattle.theorems.proofs.CountLaws.{count-imp, count-each, many-each, count-split, count_none, count_less}

-- Whether the entry is a held one of this task of this instance.
abbrev pub held_task : ℕ → ℕ → Entry → Bool
held_task i t e = of_task i t e && is_held e.standing

module _ (o : Orders) (h : Ledger o) where
  pub ledger-open : (a b : ℕ) → Ledger (opening o a b)
  unfolding holds
  ledger-open a b = record {
    open-orders = every_map o.entries (λ e k. ⊎_elim
        (λ q. ap there (upd_same o.opened a e.instance (just b) q))
        (λ n. ap there (upd_other o.opened a e.instance (just b) n) ∙ k) (same-or-other e.instance a)) h.open-orders;
    one-holder = h.one-holder;
    room = h.room;
  }

  fewer : (f : ℕ → Maybe ℕ) (p : Entry → Bool) → Every (λ e. there (f e.instance) ≡ true) (keep (λ e. not (p e)) o.entries)
      → Ledger (record { opened = f; entries = keep (λ e. not (p e)) o.entries })
  fewer f p k = record {
    open-orders = k;
    one-holder = λ i t. let l = count_less (held_task i t) (λ e. not (p e)) o.entries in let m = h.one-holder i t in omega arith;
    room = let s = count-split p o.entries in let l = h.room in omega arith;
  }

  pub ledger-end : (a : ℕ) → Ledger (ending o a)
  unfolding are_in_order
  ledger-end a =
      fewer (upd o.opened a none) (are_in_order a)
      (every-kept (λ e. there (o.opened e.instance) ≡ true) (λ e. there (upd o.opened a none e.instance) ≡ true)
      (λ e. not (are_in_order a e)) o.entries
      (λ e n k. ap there (upd_other o.opened a e.instance none (eqb-false _ _ (not-true _ n))) ∙ k) h.open-orders)

  pub ledger-release : (a b c : ℕ) → Ledger (releasing o a b c)
  ledger-release a b c =
      fewer o.opened (held_of b c a)
      (every-kept (λ e. there (o.opened e.instance) ≡ true) (λ e. there (o.opened e.instance) ≡ true) (λ e. not (held_of b c a e))
      o.entries (λ e n k. k) h.open-orders)

  pub ledger-finish : (a b c : ℕ) → Ledger (finishing o a b c)
  unfolding is_held
  ledger-finish a b c = record {
    open-orders = every-each (λ e. there (o.opened e.instance) ≡ true) (turned b c a) o.entries
        (every_map o.entries (λ e k. rw (turned_same (λ e. e.instance) b c a e refl) k) h.open-orders);
    one-holder = λ i t.
        let e = count-each (held_task i t) (turned b c a) o.entries in
        let l = count-imp (λ e. held_task i t (turned b c a e)) (held_task i t) o.entries (was-held i t) in
        let m = h.one-holder i t in
        omega arith;
    room = let e = many-each (turned b c a) o.entries in let l = h.room in omega arith;
  }
    where
      was-held : (i t : ℕ) (e : Entry) → held_task i t (turned b c a e) ≡ true → held_task i t e ≡ true
      was-held i t e =
          turned-cases (λ x. held_task i t x ≡ true → held_task i t e ≡ true) b c a e
          (λ k. absurd (false≢true (both (of_task i t (as_done e)) false k).1)) (λ k. k)

  pub ledger-claim : (a b u c : ℕ) → there (o.opened b) ≡ true → some (held_task b c) o.entries ≡ false → leb 2048 (many o.entries) ≡ false
      → Ledger (claiming o a b u c)
  unfolding many keep is_held of_task are_in_order
  ledger-claim a b u c stands free room = record {
    open-orders = (stands, h.open-orders);
    one-holder = λ i t. go i t (eqb b i && eqb c t) refl;
    room = let l = leb-false 2048 (many o.entries) room in omega arith;
  }
    where
      go : (i t : ℕ) (x : Bool) → eqb b i && eqb c t ≡ x
          → many (cond (x && true) (entry b u c (held a) ∷ keep (held_task i t) o.entries) (keep (held_task i t) o.entries)) ≤ 1
      go i t true e =
          let s = both (eqb b i) (eqb c t) e in
          let n = count_none (held_task b c) o.entries (some-none (held_task b c) o.entries free) in
          let z : many (keep (held_task i t) o.entries) ≡ 0 = rw (← eqb-true b i s.0, ← eqb-true c t s.1) n in
          omega arith
      go i t false e = h.one-holder i t
