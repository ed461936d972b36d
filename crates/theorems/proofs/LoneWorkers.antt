-- The rule over lone workers, "in a banned template no user has entries in every task", for templates with
-- "two or more tasks": fewer tasks keep it, and one more task keeps it exactly if ALONE does not apply.
use Prim.Native.Nat.{ℕ, ◌≤◌}
use mathlib.Core.Path.{◌≡◌, refl, sym, ap, ◌∙◌}
use mathlib.Core.Bool.{Bool, true, false, cond, ◌&&◌, ◌||◌, true≢false, false≢true}
use mathlib.Core.List.{List, [], ◌∷◌}
use mathlib.Core.Logic.{⊎_elim, ◌↔◌}
use native.Mathlib.Omega.{arith}
use borrow.Author.Tests.{eqb-true, eqb-false, eq-eqb, ltb-true, ltb-false, leb-true, le-leb, not-true}
use lib.Dec.{eqb, ltb, leb}
use Rattle.paper_lower.specs.Sets.{Set, empty, has, plus, minus, size, within, collect}
use Rattle.paper_lower.specs.Lists.{Maybe, holds, is, some, Every}
use Rattle.paper_lower.specs.Lists.Maybe.{none, just}
use Rattle.paper_lower.specs.Records.{Record}
use Rattle.paper_lower.specs.Tables.{Tasks, Rules}
use Rattle.paper_lower.specs.Policy.{tasks_of, has_task}
use Rattle.paper_lower.proofs.ListLaws.{and-false, both, not-both, every_map, every-all, some-elim, some_of}
use Rattle.sets.proofs.Bits.{same-or-other, some-bit}
use Rattle.sets.proofs.SetLaws.{same-members, Part, has_part, bit-has, has-empty, has-plus, has_new, has-old, has_other, has_kept, has-gone, within_has, has_within, collect-above, collect-below}
use Rattle.paper_upper.specs.Rules.{alone}
use Rattle.theorems.specs.OverEntries.{of_kind, tasks_in, EveryTask}
use Rattle.theorems.specs.WellMade.{WellMade}
use Rattle.theorems.proofs.Made.{Made}
use Rattle.theorems.proofs.WellMade.{is-just, in-collect}

none-just : {j : ℕ} → none ≡ just j → ⊥
none-just {j} e = let z : ◌≡◌ {A = ℕ} 0 1 = cc in omega arith

swapped : (a b : Bool) → (a || b) ≡ (b && true || a)
swapped true true = refl
swapped true false = refl
swapped false true = refl
swapped false false = refl

has-tasks : (j : ℕ) (rs : List Record) (t : ℕ) → has (tasks_in rs j) t ≡ some (λ q. eqb t q.a && eqb q.b j) rs
unfolding tasks_in some
has-tasks j [] t = has-empty t
has-tasks j (r ∷ rs) t = go (eqb r.b j) ∙ ap (λ x. eqb t r.a && eqb r.b j || x) (has-tasks j rs t)
  where
    go : (b : Bool) → has (cond b (plus (tasks_in rs j) r.a) (tasks_in rs j)) t ≡ (eqb t r.a && b || has (tasks_in rs j) t)
    go true = has-plus (tasks_in rs j) r.a t ∙ swapped (has (tasks_in rs j) t) (eqb t r.a)
    go false = rw (and-false (eqb t r.a)) refl

module _ (policy : List Record) where
  -- The rule for one user in one order: if the template is banned and has two or more tasks, d does not have all of them.
  abbrev pub LoneOf : Maybe ℕ → Set → Type 0
  LoneOf template d = Every (λ r. template ≡ just r.a → 2 ≤ size (tasks_in (of_kind 6 policy) r.a) → EveryTask policy r.a d → ⊥) (of_kind 13 policy)

  pub lone-less : (m : Maybe ℕ) (d e : Set) → Part d e → LoneOf m e → LoneOf m d
  lone-less m d e p h = every_map (of_kind 13 policy) (λ r f i two all. f i two (every_map (of_kind 6 policy) (λ q x y. has_part d e q.a p (x y)) all)) h

  pub lone-none : (d : Set) → LoneOf none d
  lone-none d = every-all (of_kind 13 policy) (λ r e two all. none-just e)

  module _ (k : Tasks) (ru : Rules) (made : Made policy k ru) (well : WellMade k.template k.most ru) where
    -- d has every task that the records put into template j exactly if it has every task of the template in the tables.
    all_in : (j : ℕ) (d : Set) → EveryTask policy j d ↔ ((t : ℕ) → has (tasks_of k j) t ≡ true → has d t ≡ true)
    unfolding tasks_of
    all_in j d = (
      λ h t e. some-elim (λ q. eqb t q.a && eqb q.b j) (has d t ≡ true) (of_kind 6 policy)
          (sym (made.template (λ n. eqb n j) t) ∙ (in-collect 64 _ t e).1)
          (every_map (of_kind 6 policy) (λ q f x.
          let s = both (eqb t q.a) (eqb q.b j) x in
          ap (has d) (eqb-true _ _ s.0) ∙ f (eqb-true _ _ s.1)) h),
      λ h. every_map (of_kind 6 policy)
          (λ q f e. h q.a (at q.a (made.template (λ n. eqb n j) q.a ∙ f q.a (both-are (eq-eqb q.a q.a refl) (eq-eqb q.b j e)))))
          (some_of (λ t q. eqb t q.a && eqb q.b j) (of_kind 6 policy)),
    )
      where
        at : (t : ℕ) → is j (k.template t) ≡ true → has (collect 64 (λ t. is j (k.template t))) t ≡ true
        at t e = collect-below 64 (λ t. is j (k.template t)) t (well.tasks t j (is-just j (k.template t) e)) ∙ e

        both-are : {a b : Bool} → a ≡ true → b ≡ true → a && b ≡ true
        both-are {a} {b} x y = rw (x, y)

    -- The tasks that the records put into a template are those of the template in the tables.
    tasks-in : (j : ℕ) → tasks_in (of_kind 6 policy) j ≡ tasks_of k j
    unfolding tasks_of
    tasks-in j =
        same-members _ _ (λ t. has-tasks j (of_kind 6 policy) t ∙ sym (made.template (λ n. eqb n j) t) ∙ go t (ltb t 64) refl (is j (k.template t)) refl)
      where
        go : (t : ℕ) (b : Bool) → ltb t 64 ≡ b → (x : Bool) → is j (k.template t) ≡ x → is j (k.template t) ≡ has (collect 64 (λ t. is j (k.template t))) t
        go t true e x f = sym (collect-below 64 (λ t. is j (k.template t)) t (ltb-true t 64 e))
        go t false e true f = let l = well.tasks t j (is-just j (k.template t) f) in let n = ltb-false t 64 e in absurd (omega arith)
        go t false e false f = f ∙ sym (collect-above 64 (λ t. is j (k.template t)) t (ltb-false t 64 e))

    pub lone-fresh : (b : ℕ) → has_task k b ≡ true → LoneOf (just b) empty
    unfolding has_task
    lone-fresh b h =
        let some = some-bit (tasks_of k b) (eqb-false _ _ (not-true (eqb (tasks_of k b) empty) h)) in
        every-all (of_kind 13 policy) (λ r e two all.
        let i : b ≡ r.a = cc in
        false≢true (sym (has-empty some.0) ∙ (all_in r.a empty).0 all some.0 (rw (← i) (bit-has (tasks_of k b) some.0 some.1))))

    -- Every task other than c is in d exactly if every task is in d with c added.
    others-in : (j : ℕ) (d : Set) (c : ℕ) → (within (minus (tasks_of k j) c) d ≡ true) ↔ EveryTask policy j (plus d c)
    others-in j d c = (
      λ h. (all_in j (plus d c)).1 (λ t e. ⊎_elim
          (λ (q : t ≡ c). ap (has (plus d c)) q ∙ has_new d c)
          (λ n. has-old d c t (within_has (minus (tasks_of k j) c) d t h (has_kept (tasks_of k j) c t n ∙ e))) (same-or-other t c)),
      λ h. has_within (minus (tasks_of k j) c) d (λ t e.
          let n : t ≡ c → ⊥ = λ q. false≢true (sym (has-gone (tasks_of k j) c) ∙ ap (has (minus (tasks_of k j) c)) (sym q) ∙ e) in
          sym (has_other d c t n) ∙ (all_in j (plus d c)).0 h t (sym (has_kept (tasks_of k j) c t n) ∙ e)),
    )

    pub lone-claim : (m : Maybe ℕ) (d : Set) (c : ℕ) → (alone k m d c ≡ false) ↔ LoneOf m (plus d c)
    unfolding alone holds
    lone-claim m d c = (
      λ h. every_map (of_kind 13 policy) (λ r f i two all.
          let w : k.banned r.a && within (minus (tasks_of k r.a) c) d && leb 2 (size (tasks_of k r.a)) ≡ false = rw i at h in
          let banned = made.banned r.a ∙ f r.a (eq-eqb r.a r.a refl) in
          let two = le-leb 2 (size (tasks_of k r.a)) (rw (tasks-in r.a) at two) in
          true≢false (sym two ∙ not-both (k.banned r.a && within (minus (tasks_of k r.a) c) d) _ w (rw (banned, (others-in r.a d c).1 all))))
          (some_of (λ j r. eqb j r.a) (of_kind 13 policy)),
      λ h. back m h,
    )
      where
        broken : (j : ℕ) → LoneOf (just j) (plus d c) → (b : Bool)
            → k.banned j && within (minus (tasks_of k j) c) d && leb 2 (size (tasks_of k j)) ≡ b → b ≡ false
        broken j h true e =
            let y = both (k.banned j && within (minus (tasks_of k j) c) d) (leb 2 (size (tasks_of k j))) e in
            let s = both (k.banned j) (within (minus (tasks_of k j) c) d) y.0 in
            let two : 2 ≤ size (tasks_in (of_kind 6 policy) j) = rw (tasks-in j) (leb-true 2 (size (tasks_of k j)) y.1) in
            some-elim (λ r. eqb j r.a) (true ≡ false) (of_kind 13 policy) (sym (made.banned j) ∙ s.0)
            (every_map (of_kind 13 policy) (λ r f x.
            let i = eqb-true j r.a x in
            absurd (f (ap (λ (n : ℕ). just n) i) (rw (← i) two) (rw (← i) ((others-in j d c).0 s.1)))) h)
        broken j h false e = refl

        back : (m : Maybe ℕ) → LoneOf m (plus d c) → alone k m d c ≡ false
        back none h = refl
        back (just j) h = broken j h _ refl
