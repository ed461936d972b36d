-- A rule P over the tasks of one user in one order, of the kind that fewer tasks keep: each request that changes the orders keeps it for all users and orders.
use Prim.Native.Nat.{ℕ}
use mathlib.Core.Path.{◌≡◌}
use mathlib.Core.Bool.{true, false, not}
use mathlib.Core.Logic.{⊎_elim, ◌↔◌}
use Rattle.paper_lower.specs.Sets.{Set, empty, plus}
use Rattle.paper_lower.specs.Lists.{Maybe, there, Every}
use Rattle.paper_lower.specs.Lists.Maybe.{none, just}
use Rattle.paper_lower.proofs.ListLaws.{upd_same, upd_other}
use Rattle.sets.proofs.Bits.{same-or-other}
use Rattle.sets.proofs.SetLaws.{Part}
use Rattle.paper_upper.specs.Orders.{Orders, are_in_order, of_user, held_of, tasks_by}
use Rattle.theorems.specs.OverEntries.{OfUsers}
use Rattle.theorems.proofs.EntryLaws.{opening, ending, claiming, releasing, finishing, where-less, by_turned, claimed-by, by-claimant, no-entries}

module _ (P : Maybe ℕ → Set → Type 0) where
  pub users-open : (o : Orders) (a b : ℕ) → Every (λ e. there (o.opened e.instance) ≡ true) o.entries → there (o.opened a) ≡ false
      → P (just b) empty → OfUsers P o → OfUsers P (opening o a b)
  users-open o a b all new p h i u =
      ⊎_elim
      (λ (e : i ≡ a). rw (upd_same o.opened a i (just b) e, e, no-entries o.opened a u o.entries all new) p)
      (λ n. rw (upd_other o.opened a i (just b) n) (h i u)) (same-or-other i a)

  pub users-claim : (o : Orders) (a b u c : ℕ) → OfUsers P o → P (o.opened b) (plus (tasks_by b u o.entries) c) ↔ OfUsers P (claiming o a b u c)
  users-claim o a b u c h = (
    λ p. claimed-by (λ i v d. P (o.opened i) d) o.entries a b u c p h,
    λ k. rw (by-claimant o.entries a b u c) at (k b u),
  )

  pub users-finish : (o : Orders) (a b c : ℕ) → OfUsers P o → OfUsers P (finishing o a b c)
  users-finish o a b c h i u = rw (by_turned i u b c a o.entries) (h i u)

  module _ (less : (m : Maybe ℕ) (d e : Set) → Part d e → P m e → P m d) where
    pub users-end : ((m : Maybe ℕ) (d : Set) → P m d → P none d) → (o : Orders) (a : ℕ) → OfUsers P o → OfUsers P (ending o a)
    unfolding tasks_by
    users-end gone o a h i u =
        let p = less (o.opened i) _ _ (where-less (of_user i u) (λ e. not (are_in_order a e)) o.entries) (h i u) in
        ⊎_elim (λ e. rw (upd_same o.opened a i none e) (gone (o.opened i) _ p)) (λ n. rw (upd_other o.opened a i none n) p) (same-or-other i a)

    pub users-release : (o : Orders) (a b c : ℕ) → OfUsers P o → OfUsers P (releasing o a b c)
    unfolding tasks_by
    users-release o a b c h i u = less (o.opened i) _ _ (where-less (of_user i u) (λ e. not (held_of b c a e)) o.entries) (h i u)
