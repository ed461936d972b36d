-- The theorem ReadAsMeant: what the functions mean that the statements about the six rules and their places use.
use Prim.Native.Nat.{ℕ, suc, ◌<◌}
use mathlib.Core.Path.{◌≡◌, refl, sym, ap, subst, ◌∙◌}
use mathlib.Core.Bool.{Bool, true, false, cond, ◌&&◌, true≢false, false≢true}
use mathlib.Core.Logic.Iff
use mathlib.Core.Logic.{◌⊎◌, inl, inr, ⊎_elim, ◌↔◌}
use mathlib.Core.List.{List, [], ◌∷◌}
use native.Mathlib.Omega.{arith}
use borrow.Author.Tests.{eqb-true, eq-eqb}
use lib.Dec.{eqb}
use Rattle.paper_lower.specs.Sets.{Set, empty, has, plus, overlap}
use Rattle.paper_lower.specs.Lists.{many, keep}
use Rattle.paper_lower.specs.Records.{Record}
use Rattle.paper_lower.specs.Tables.{Sessions}
use Rattle.paper_lower.specs.Roles.{subject_of, of_subjects, counted_of}
use Rattle.paper_lower.proofs.ListLaws.{both, every_map, some_below}
use Rattle.paper_upper.specs.Orders.{Standing, is_done, Entry, are_in_order, of_task, of_user, tasks_where, tasks_by, tasks_done}
use Rattle.paper_upper.specs.Orders.Standing.{held, done}
use Rattle.sets.proofs.SetLaws.{has-empty, has-union_below}
use Rattle.theorems.specs.OverEntries.{Any, tasks_in}
use Rattle.theorems.specs.Exactly.{In, Of}
use Rattle.theorems.specs.Exactly.Of.{none, one, other}
use Rattle.theorems.specs.Meant.{MoreThan, ReadAsMeant}
use Rattle.theorems.proofs.EntryLaws.{has-where}
use Rattle.theorems.proofs.Limits.{no_more, as_many, own-overlap, plus-parts}
use Rattle.theorems.proofs.Reflects.{together, all_three, is_same, turned_same, some-any, row_below, common}

-- ---- Entries.
pub is-done : (x : Standing) → (is_done x ≡ true) ↔ (x ≡ done)
unfolding is_done
is-done (held s) = (λ e. absurd (false≢true e), λ e. ap is_done e)
is-done done = (λ e. refl, λ e. refl)

tasks-where : (p : Entry → Bool) (P : Entry → ℕ → Type 0) (es : List Entry) (t : ℕ) → ((e : Entry) → (p e && eqb t e.task ≡ true) ↔ P e t)
    → (has (tasks_where p es) t ≡ true) ↔ Any (λ e. P e t) es
tasks-where p P es t h =
    let x = some-any (λ e. p e && eqb t e.task) (λ e. P e t) h es in
    (λ e. x.0 (sym (has-where p es t) ∙ e), λ a. has-where p es t ∙ x.1 a)

-- ---- Subjects.

-- Some live subject of user u has role q in this table.
abbrev InColumn : Sessions → (ℕ → Set) → ℕ → ℕ → Type 0
InColumn s roles u q = (k : ℕ) × (k < 128) × (s.live k ≡ true) × (s.user k ≡ u) × (has (roles k) q ≡ true)

-- The roles of subject k in the table, if it is a live one of user u.
abbrev row : Sessions → (ℕ → Set) → ℕ → ℕ → Set
row s roles u k = cond (s.live k && eqb (s.user k) u) (roles k) empty

found : (s : Sessions) (roles : ℕ → Set) (u q k : ℕ) → k < 128 → has (row s roles u k) q ≡ true → InColumn s roles u q
found s roles u q k l h = go (s.live k && eqb (s.user k) u) refl h
  where
    go : (b : Bool) → s.live k && eqb (s.user k) u ≡ b → has (cond b (roles k) empty) q ≡ true → InColumn s roles u q
    go true e h = let x = both (s.live k) _ e in (k, l, x.0, eqb-true _ _ x.1, h)
    go false e h = absurd (false≢true (sym (has-empty q) ∙ h))

pub in-column : (s : Sessions) (roles : ℕ → Set) (u q : ℕ) → (has (of_subjects s roles u) q ≡ true) ↔ InColumn s roles u q
unfolding of_subjects subject_of
in-column s roles u q = (
  λ h. let x = row_below 128 (λ k. has (row s roles u k) q) (sym (has-union_below 128 (row s roles u) q) ∙ h) in found s roles u q x.0 x.1 x.2,
  λ x. has-union_below 128 (row s roles u) q ∙ some_below 128 (λ k. has (row s roles u k) q) x.0 x.1 (rw (x.2, eq-eqb (s.user x.0) u x.3) x.4),
)

-- The roles that a dynamic set counts, if every live subject has a number below 128.
pub counted-had : (s : Sessions) → ((k : ℕ) → s.live k ≡ true → k < 128) → (u q : ℕ)
    → (has (counted_of s u) q ≡ true) ↔ ((k : ℕ) × (s.live k ≡ true) × (s.user k ≡ u) × (has (s.had k) q ≡ true))
unfolding counted_of
counted-had s small u q = Iff.trans (in-column s s.had u q) (λ x. (x.0, x.2, x.3, x.4), λ x. (x.0, small x.0 x.1, x.1, x.2, x.3))

-- ---- Counts.
pub of-task : (i t : ℕ) (e : Entry) → (of_task i t e ≡ true) ↔ ((e.instance ≡ i) × (e.task ≡ t))
unfolding of_task are_in_order
of-task i t e = together _ _ (is_same e.instance i) (is_same e.task t)

module _ {A : Type 0} (p : A → Bool) (P : A → Type 0) (h : (x : A) → (p x ≡ true) ↔ P x) where
  pub counted : (xs : List A) → Of P xs (many (keep p xs))
  unfolding many keep
  counted [] = none
  counted (x ∷ xs) = go (p x) refl (counted xs)
    where
      go : (b : Bool) → p x ≡ b → Of P xs (many (keep p xs)) → Of P (x ∷ xs) (many (cond b (x ∷ keep p xs) (keep p xs)))
      go true e rest = one ((h x).0 e) rest
      go false e rest = other (λ y. true≢false (sym ((h x).1 y) ∙ e)) rest

  pub counts-once : {xs : List A} {n : ℕ} → Of P xs n → n ≡ many (keep p xs)
  unfolding many keep
  counts-once none = refl
  counts-once (one {x = x} {xs = xs} y rest) = ap suc (counts-once rest) ∙ ap (λ (b : Bool). many (cond b (x ∷ keep p xs) (keep p xs))) (sym ((h x).1 y))
  counts-once (other {x = x} {xs = xs} y rest) = counts-once rest ∙ go (p x) refl
    where
      go : (b : Bool) → p x ≡ b → many (keep p xs) ≡ many (cond b (x ∷ keep p xs) (keep p xs))
      go true e = absurd (y ((h x).0 e))
      go false e = refl

-- ---- The tasks that records put into a template.
in-template : (rs : List Record) (j t : ℕ) → In (tasks_in rs j) t ↔ Any (λ q. (q.a ≡ t) × (q.b ≡ j)) rs
unfolding tasks_in
in-template [] j t = (λ e. false≢true (sym (has-empty t) ∙ e), λ x. absurd x)
in-template (r ∷ rs) j t = go (eqb r.b j) refl (in-template rs j t)
  where
    go : (b : Bool) → eqb r.b j ≡ b → In (tasks_in rs j) t ↔ Any (λ q. (q.a ≡ t) × (q.b ≡ j)) rs
        → In (cond b (plus (tasks_in rs j) r.a) (tasks_in rs j)) t ↔ (((r.a ≡ t) × (r.b ≡ j)) ⊎ Any (λ q. (q.a ≡ t) × (q.b ≡ j)) rs)
    go true e rest = Iff.trans (plus-parts (tasks_in rs j) r.a t) (
      λ x. ⊎_elim (λ h. inr (rest.0 h)) (λ h. inl (sym h, eqb-true _ _ e)) x,
      λ x. ⊎_elim (λ h. inr (sym h.0)) (λ h. inl (rest.1 h)) x,
    )
    go false e rest = Iff.trans rest (λ x. inr x, λ x. ⊎_elim (λ h. absurd (true≢false (sym (eq-eqb r.b j h.1) ∙ e))) (λ h. h) x)

-- ---- The theorem.
more-than : (m d : Set) (n : ℕ) → (n < overlap m d) ↔ MoreThan n (λ t. In m t × In d t)
more-than m d n = (
  λ l. let x = as_many m d (suc n) (omega arith) in let k = x.2 in (x.0, x.1, omega arith, x.3),
  λ x. let l = no_more m d x.0 x.1 x.3 in let k = x.2 in omega arith,
)

pub read-as-meant : ReadAsMeant
unfolding tasks_by tasks_done of_user are_in_order
read-as-meant = record {
  mine = λ i u es t. tasks-where (of_user i u) (λ e t. (e.instance ≡ i) × (e.user ≡ u) × (e.task ≡ t)) es t
      (λ e. all_three _ _ _ (is_same e.instance i) (is_same e.user u) (turned_same t e.task));
  finished = λ i es t. tasks-where (λ e. are_in_order i e && is_done e.standing) (λ e t. (e.instance ≡ i) × (e.standing ≡ done) × (e.task ≡ t)) es t
      (λ e. all_three _ _ _ (is_same e.instance i) (is-done e.standing) (turned_same t e.task));
  entries = λ i t es n. (
    λ e. subst (Of _ es) e (counted (of_task i t) _ (of-task i t) es),
    λ x. sym (counts-once (of_task i t) _ (of-task i t) x),
  );
  template = in-template;
  shared = more-than;
  members = λ m n. subst (λ (k : ℕ). (n < k) ↔ MoreThan n (In m)) (own-overlap m) (Iff.trans (more-than m m n) (
    λ x. (x.0, x.1, x.2, every_map x.0 (λ t h. h.0) x.3),
    λ x. (x.0, x.1, x.2, every_map x.0 (λ t h. (h, h)) x.3),
  ));
  met = common;
}
