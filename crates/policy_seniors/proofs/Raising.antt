-- Putting role a above role b, row by row: one row, the rows before r, and all rows.
use Prim.Native.Nat.{ℕ, ◌+◌, ◌<◌}
use mathlib.Core.Bool.{Bool, true, false, cond, ◌||◌}
use mathlib.Core.List.{List}
use mathlib.Core.Path.{◌≡◌, refl, sym, ap, ◌∙◌, fun_ext}
use native.Mathlib.Omega.{arith}
use borrow.Author.Tests.{eqb-true, eqb-false, ne_eqb, lt-ltb, le-ltb, ltb-true, ltb-false}
use lib.Dec.{eqb, ltb}
use Rattle.paper_lower.specs.Sets.{Set, has, plus, union}
use Rattle.paper_lower.specs.Lists.{upd}
use Rattle.paper_lower.specs.Tables.{Policy, with_seniority}
use Rattle.paper_lower.specs.Policy.{raised, raise_next}
use Rattle.paper_lower.proofs.ListLaws.{upd_same, upd_other}
use Rattle.sets.proofs.SetLaws.{has-empty}
use Rattle.policy.specs.Reading.{policy_of, juniors_anew, below_anew}
use Rattle.policy.proofs.SeniorLaws.{past-below}
use Rattle.policy_seniors.specs.Rows.{lowered, lowered_at, lowered_to}

-- The tables with these roles below each role.
abbrev belows : Policy → (ℕ → Set) → Policy
belows t f = with_seniority t (record { juniors = t.seniority.juniors; below = f })

-- ---- One row.
module _ (t : Policy) (r a : ℕ) (under : Set) {roles : Set} {q : Bool} (is : roles ≡ t.seniority.below r) (e : q ≡ has roles a) where
  pub row-lowered : eqb r a || q ≡ true → {m : Set} → m ≡ union roles under → below_anew t r m ≡ lowered_at t r a under
  row-lowered hit {m} f =
      let test : eqb r a || has (t.seniority.below r) a ≡ true = ap (λ x. eqb r a || x) (ap (λ k. has k a) (sym is) ∙ sym e) ∙ hit in
      ap (below_anew t r) (f ∙ ap (λ k. union k under) is ∙ sym (rw test))

  pub row_kept : eqb r a || q ≡ false → t ≡ lowered_at t r a under
  row_kept out =
      let test : eqb r a || has (t.seniority.below r) a ≡ false = ap (λ x. eqb r a || x) (ap (λ k. has k a) (sym is) ∙ sym e) ∙ out in
      ap (belows t) (fun_ext (λ k. at k (eqb k r) refl)) ∙ ap (below_anew t r) (sym (rw test))
    where
      at : (k : ℕ) (here : Bool) → eqb k r ≡ here → t.seniority.below k ≡ upd t.seniority.below r (t.seniority.below r) k
      at k true o = let s = eqb-true k r o in ap t.seniority.below s ∙ sym (upd_same t.seniority.below r k (t.seniority.below r) s)
      at k false o = sym (upd_other t.seniority.below r k (t.seniority.below r) (eqb-false k r o))

-- ---- The rows before r.
module _ (t : Policy) (a : ℕ) (under : Set) where
  pub rows_none : t ≡ lowered_to t 0 a under
  rows_none = ap (belows t) (fun_ext (λ k. sym (rw (le-ltb k 0 (omega arith)))))

  module _ (r : ℕ) where
    before : ℕ → Set
    before k = cond (ltb k r) (lowered t.seniority a under k) (t.seniority.below k)

    here : before r ≡ t.seniority.below r
    unfolding before
    here = rw (le-ltb r r (omega arith))

    earlier : (k : ℕ) → (k ≡ r → ⊥) → ltb k r ≡ ltb k (r + 1)
    earlier k n = at (ltb k r) refl
      where
        at : (x : Bool) → ltb k r ≡ x → x ≡ ltb k (r + 1)
        at true e = let l = ltb-true k r e in sym (lt-ltb k (r + 1) (omega arith))
        at false e = let l = ltb-false k r e in sym (le-ltb k (r + 1) (omega arith))

    turn : (k : ℕ) (same : Bool) → eqb k r ≡ same →
        upd before r (cond (eqb r a || has (before r) a) (union (before r) under) (before r)) k ≡
        cond (ltb k (r + 1)) (lowered t.seniority a under k) (t.seniority.below k)
    turn k true e =
        let q = eqb-true k r e in
        upd_same before r k _ q
        ∙ ap (λ m. cond (eqb r a || has m a) (union m under) m) here
        ∙ sym (ap (λ i. cond (ltb i (r + 1)) (lowered t.seniority a under i) (t.seniority.below i)) q ∙ rw (lt-ltb r (r + 1) (omega arith)))
    turn k false e =
        let q = eqb-false k r e in
        upd_other before r k _ q ∙ unfold before in ap (λ x. cond x (lowered t.seniority a under k) (t.seniority.below k)) (earlier k q)

    pub rows_more : {u : Policy} → u ≡ lowered_to t r a under → lowered_at u r a under ≡ lowered_to t (r + 1) a under
    unfolding before
    rows_more e = ap (λ u. lowered_at u r a under) e ∙ ap (belows t) (fun_ext (λ k. turn k (eqb k r) refl))

-- ---- All rows, and the pair of the record.
module _ (l : List ℕ) (a b : ℕ) (h : a < 64) {under named : Set} (p : under ≡ plus ((policy_of l).seniority.below b) b)
    (n : named ≡ plus ((policy_of l).seniority.juniors a) b) where
  every-row : (k : ℕ) (role : Bool) → ltb k 64 ≡ role →
      cond role (lowered (policy_of l).seniority a under k) ((policy_of l).seniority.below k) ≡
      lowered (policy_of l).seniority a (plus ((policy_of l).seniority.below b) b) k
  every-row k true e = ap (λ u. lowered (policy_of l).seniority a u k) p
  every-row k false e =
      let past = ltb-false k 64 e in
      let none : eqb k a || has ((policy_of l).seniority.below k) a ≡ false = rw (ne_eqb k a (omega arith), past-below l k past) (has-empty a) in
      sym (rw none)

  pub all-rows : {u : Policy} {r : ℕ} → r ≡ 64 → u ≡ lowered_to (policy_of l) r a under → juniors_anew u a named ≡ raise_next (policy_of l) a b
  unfolding raise_next raised
  all-rows e f =
      ap (λ u. juniors_anew u a named) (f ∙ ap (λ r. lowered_to (policy_of l) r a under) e)
      ∙ (λ x. with_seniority (policy_of l) (record { juniors = upd (policy_of l).seniority.juniors a (n x); below = λ k. every-row k (ltb k 64) refl x }))
