-- The limits on roles (`Limited`) after each request about users and subjects: static sets, dynamic sets, and active roles within those assigned.
use Prim.Native.Nat.{ℕ, ◌<◌, ◌≤◌}
use mathlib.Core.Path.{◌≡◌, refl, sym, ap, ◌∙◌}
use mathlib.Core.Bool.{Bool, true, false, cond, ◌&&◌, true≢false, false≢true}
use mathlib.Core.List.{List}
use mathlib.Core.Logic.{⊎_elim}
use native.Mathlib.Omega.{arith}
use borrow.Author.Tests.{eqb-true, eq-eqb, ltb-false}
use lib.Dec.{eqb}
use Rattle.paper_lower.specs.Sets.{Set, empty, has, plus, minus, union, overlap, meets, within, without}
use Rattle.paper_lower.specs.Lists.{upd, some_number_below, Maybe, some, Every}
use Rattle.paper_lower.specs.Tables.{Limit, Rules, People, Seniority, Sessions, no_sessions, with_assigned, with_bound_to}
use Rattle.paper_lower.specs.Policy.{down, breaks}
use Rattle.paper_lower.specs.Roles.{subject_of, of_subjects, active_of, counted_of}
use Rattle.paper_lower.specs.Sessions.{create_next, destroy_next, activate_next, deactivate_next}
use Rattle.paper_lower.proofs.ListLaws.{both, upd_same, upd_other, none_below, every_map, every-all, some-none}
use Rattle.sets.proofs.Bits.{same-or-other}
use Rattle.sets.proofs.SetLaws.{Part, part-refl, part-empty, part-plus, part-more, part-trans, part-minus, part_left, part_right, has_part, part-within, within_has, has_within, within-trans, within-minus, overlap-empty, overlap-part, none-common, union-le, union-ge, plus-member}
use Rattle.theorems.proofs.Down.{down-part, down-nothing, has-without}

-- No set of the list has more than n of the roles m.
abbrev pub Within : List Limit → Set → Type 0
Within ls m = Every (λ l. overlap l.members m ≤ l.n) ls

pub within_none : (ls : List Limit) → Within ls empty
within_none ls = every-all ls (λ l. let o = overlap-empty l.members in omega arith)

pub within-less : (ls : List Limit) (m k : Set) → Part m k → Within ls k → Within ls m
within-less ls m k p h = every_map ls (λ l x. let o = overlap-part l.members m k p in omega arith) h

-- If the check STATIC or DYNAMIC does not apply, no set is broken.
pub not-broken : (ls : List Limit) (m : Set) → some (breaks m) ls ≡ false → Within ls m
unfolding breaks
not-broken ls m h = every_map ls (λ l x. ltb-false l.n (overlap l.members m) x) (some-none (breaks m) ls h)

-- The limits, where roles count with the roles below them.
pub record Limited (p : People) (se : Seniority) (s : Sessions) (ru : Rules) : Type 0 where
  pub statics : (u : ℕ) → Within ru.statics (down se (p.assigned u))
  pub dynamics : (u : ℕ) → Within ru.dynamics (down se (counted_of s u))
  pub small : (k : ℕ) → s.live k ≡ true → k < 128
  pub known : (k : ℕ) → s.live k ≡ true → p.users (s.user k) ≡ true
  pub active : (k : ℕ) → s.live k ≡ true → within (s.active k) (down se (p.assigned (s.user k))) ≡ true

-- ---- The roles of all subjects of a user.
of-user : (s : Sessions) (u k : ℕ) → s.live k ≡ true → s.user k ≡ u → subject_of s u k ≡ true
unfolding subject_of
of-user s u k l e = rw (l, eq-eqb (s.user k) u e)

own-roles : (s : Sessions) (roles : ℕ → Set) (u k : ℕ) → k < 128 → s.live k ≡ true → s.user k ≡ u → Part (roles k) (of_subjects s roles u)
unfolding of_subjects
own-roles s roles u k b l e = rw (of-user s u k l e) at (union-ge 128 (λ k. cond (subject_of s u k) (roles k) empty) k b)

own-active : (s : Sessions) (u k : ℕ) → k < 128 → s.live k ≡ true → s.user k ≡ u → Part (s.active k) (active_of s u)
unfolding active_of
own-active s u k b l e = own-roles s s.active u k b l e

own-had : (s : Sessions) (u k : ℕ) → k < 128 → s.live k ≡ true → s.user k ≡ u → Part (s.had k) (counted_of s u)
unfolding counted_of
own-had s u k b l e = own-roles s s.had u k b l e

counted-le : (s : Sessions) (u : ℕ) (z : Set) → ((k : ℕ) → k < 128 → s.live k ≡ true → s.user k ≡ u → Part (s.had k) z) → Part (counted_of s u) z
unfolding counted_of of_subjects subject_of
counted-le s u z h = union-le 128 (λ k. cond (subject_of s u k) (s.had k) empty) z (λ k l. go k l (subject_of s u k) refl)
  where
    go : (k : ℕ) → k < 128 → (b : Bool) → s.live k && eqb (s.user k) u ≡ b → Part (cond b (s.had k) empty) z
    go k l true e = let x = both (s.live k) (eqb (s.user k) u) e in h k l x.0 (eqb-true _ _ x.1)
    go k l false e = part-empty z

pub nothing-down : (ls : List Limit) (se : Seniority) → Within ls (down se empty)
nothing-down ls se = within-less ls _ empty (down-nothing se) (within_none ls)

pub none-counted : (ls : List Limit) (se : Seniority) (u : ℕ) → Within ls (down se (counted_of no_sessions u))
unfolding no_sessions
none-counted ls se u =
    within-less ls _ (down se empty) (down-part se _ empty (counted-le no_sessions u empty (λ k b l e. absurd (false≢true l)))) (nothing-down ls se)

-- ---- Requests about users: the roles of one user are replaced.
module _ (p : People) (se : Seniority) (s : Sessions) (ru : Rules) (h : Limited p se s ru) where
  reassigned : (users : ℕ → Bool) (a : ℕ) (m : Set) → ((k : ℕ) → s.live k ≡ true → users (s.user k) ≡ true) → Within ru.statics (down se m)
      → ((k : ℕ) → s.live k ≡ true → s.user k ≡ a → within (s.active k) (down se m) ≡ true)
      → Limited (record { users = users; roles = p.roles; assigned = upd p.assigned a m }) se s ru
  reassigned users a m known w own = record {
    statics = λ u. ⊎_elim (λ e. rw (upd_same p.assigned a u m e) w) (λ n. rw (upd_other p.assigned a u m n) (h.statics u)) (same-or-other u a);
    dynamics = h.dynamics;
    small = h.small;
    known = known;
    active = λ k l. ⊎_elim (λ e. rw (upd_same p.assigned a (s.user k) m e) (own k l e))
        (λ n. rw (upd_other p.assigned a (s.user k) m n) (h.active k l)) (same-or-other (s.user k) a);
  }

  pub joins : (a : ℕ) (m : Set) → p.users a ≡ false → some (breaks (down se m)) ru.statics ≡ false
      → Limited (record { users = upd p.users a true; roles = p.roles; assigned = upd p.assigned a m }) se s ru
  joins a m new fits =
      reassigned (upd p.users a true) a m (λ k l. upd_other p.users a (s.user k) true (other k l) ∙ h.known k l)
      (not-broken ru.statics _ fits) (λ k l e. absurd (other k l e))
    where
      other : (k : ℕ) → s.live k ≡ true → s.user k ≡ a → ⊥
      other k l e = true≢false (sym (h.known k l) ∙ ap p.users e ∙ new)

  pub deletes : (a : ℕ) → some_number_below 128 (subject_of s a) ≡ false
      → Limited (record { users = upd p.users a false; roles = p.roles; assigned = upd p.assigned a empty }) se s ru
  deletes a gone =
      reassigned (upd p.users a false) a empty (λ k l. upd_other p.users a (s.user k) false (other k l) ∙ h.known k l)
      (nothing-down ru.statics se) (λ k l e. absurd (other k l e))
    where
      other : (k : ℕ) → s.live k ≡ true → s.user k ≡ a → ⊥
      other k l e = true≢false (sym (of-user s a k l e) ∙ none_below 128 (subject_of s a) gone k (h.small k l))

  pub assigns : (a b : ℕ) → some (breaks (down se (plus (p.assigned a) b))) ru.statics ≡ false
      → Limited (with_assigned p (upd p.assigned a (plus (p.assigned a) b))) se s ru
  assigns a b c =
      reassigned p.users a (plus (p.assigned a) b) h.known (not-broken ru.statics _ c)
      (λ k l e. within-trans (s.active k) (down se (p.assigned a)) _ (rw (← e) (h.active k l))
      (part-within _ _ (down-part se _ _ (part-more _ _ b (part-refl (p.assigned a))))))

  -- Role b is taken from user a: no active role of the user is lost with it.
  pub takes : (a b : ℕ) → meets (active_of s a) (without (down se (p.assigned a)) (down se (minus (p.assigned a) b))) ≡ false
      → Limited (with_assigned p (upd p.assigned a (minus (p.assigned a) b))) se s ru
  takes a b c =
      reassigned p.users a (minus (p.assigned a) b) h.known
      (within-less ru.statics _ _ (down-part se _ _ (part-minus (p.assigned a) b)) (h.statics a))
      (λ k l e. has_within (s.active k) _ (λ t x. go k l e t x (has (down se (minus (p.assigned a) b)) t) refl))
    where
      go : (k : ℕ) → s.live k ≡ true → s.user k ≡ a → (t : ℕ) → has (s.active k) t ≡ true
          → (x : Bool) → has (down se (minus (p.assigned a) b)) t ≡ x → has (down se (minus (p.assigned a) b)) t ≡ true
      go k l e t x true q = q
      go k l e t x false q =
          let stood : has (down se (p.assigned a)) t ≡ true = within_has (s.active k) (down se (p.assigned a)) t (rw (← e) (h.active k l)) x in
          absurd (none-common (active_of s a) _ t c (has_part _ _ t (own-active s a k (h.small k l) l e) x) (has-without _ _ t ∙ rw (stood, q) refl))

-- ---- The blocks of walls that users are bound to do not matter.
pub bound : (p : People) (se : Seniority) (s : Sessions) (ru : Rules) → Limited p se s ru → (x : ℕ → ℕ → Maybe ℕ) → Limited p se (with_bound_to s x) ru
unfolding counted_of of_subjects subject_of
bound p se s ru h x = record { statics = h.statics; dynamics = h.dynamics; small = h.small; known = h.known; active = h.active }

-- ---- Requests about subjects: one subject is replaced.
record Elsewhere (a : ℕ) (s z : Sessions) : Type 0 where
  live : (k : ℕ) → (k ≡ a → ⊥) → z.live k ≡ s.live k
  user : (k : ℕ) → (k ≡ a → ⊥) → z.user k ≡ s.user k
  active : (k : ℕ) → (k ≡ a → ⊥) → z.active k ≡ s.active k
  had : (k : ℕ) → (k ≡ a → ⊥) → z.had k ≡ s.had k

seated-part : (a : ℕ) (s z : Sessions) → Elsewhere a s z → (u : ℕ) (m : Set) → Part (counted_of s u) m
    → (z.live a ≡ true → z.user a ≡ u → Part (z.had a) m) → Part (counted_of z u) m
seated-part a s z same u m h own = counted-le z u m (λ k b l e. ⊎_elim
    (λ (q : k ≡ a). rw q (own (rw q at l) (rw q at e)))
    (λ n. rw (same.had k n) (part-trans _ _ _ (own-had s u k b (sym (same.live k n) ∙ l) (sym (same.user k n) ∙ e)) h)) (same-or-other k a))

module _ (p : People) (se : Seniority) (s : Sessions) (ru : Rules) (h : Limited p se s ru) (a : ℕ) where
  -- Subject a is replaced by that of z. For its user the limits were checked with the set m, and the roles of all other users are at most those before.
  seated : (z : Sessions) → Elsewhere a s z
      → (z.live a ≡ true → (a < 128) × (p.users (z.user a) ≡ true) × (within (z.active a) (down se (p.assigned (z.user a))) ≡ true))
      → (m : Set) → (z.live a ≡ true → Within ru.dynamics (down se m) × Part (counted_of s (z.user a)) m × Part (z.had a) m) → Limited p se z ru
  seated z same row m checked = record {
    statics = h.statics;
    dynamics = λ u. go u (z.live a) refl;
    small = λ k l. ⊎_elim (λ (e : k ≡ a). let r = row (rw e at l) in let b = r.0 in omega arith) (λ n. h.small k (sym (same.live k n) ∙ l))
        (same-or-other k a);
    known = λ k l. ⊎_elim (λ e. rw e (row (rw e at l)).1) (λ n. rw (same.user k n) (h.known k (sym (same.live k n) ∙ l))) (same-or-other k a);
    active = λ k l. ⊎_elim (λ e. rw e (row (rw e at l)).2) (λ n. rw (same.user k n, same.active k n) (h.active k (sym (same.live k n) ∙ l)))
        (same-or-other k a);
  }
    where
      others : (u : ℕ) → (z.live a ≡ true → z.user a ≡ u → ⊥) → Within ru.dynamics (down se (counted_of z u))
      others u n =
          within-less ru.dynamics _ _ (down-part se _ _ (seated-part a s z same u (counted_of s u) (part-refl _) (λ l e. absurd (n l e)))) (h.dynamics u)

      go : (u : ℕ) (b : Bool) → z.live a ≡ b → Within ru.dynamics (down se (counted_of z u))
      go u true l = ⊎_elim
          (λ (e : z.user a ≡ u). let c = checked l in
          within-less ru.dynamics _ (down se m) (down-part se _ _ (seated-part a s z same u m (rw e at c.1) (λ _ _. c.2))) c.0)
          (λ n. others u (λ _ e. n e)) (same-or-other (z.user a) u)
      go u false l = others u (λ i e. true≢false (sym i ∙ l))

  pub creates : (b : ℕ) (m : Set) → a < 128 → p.users b ≡ true → within m (down se (p.assigned b)) ≡ true
      → some (breaks (down se (union (counted_of s b) m))) ru.dynamics ≡ false → Limited p se (create_next s a b m) ru
  unfolding create_next
  creates b m small user mine c =
      seated _
      (record {
        live = λ k. upd_other s.live a k true;
        user = λ k. upd_other s.user a k b;
        active = λ k. upd_other s.active a k m;
        had = λ k. upd_other s.had a k m;
      })
      (λ l. (small, rw (upd_same s.user a a b refl) user, rw (upd_same s.user a a b refl, upd_same s.active a a m refl) mine))
      (union (counted_of s b) m)
      (λ l. (not-broken ru.dynamics _ c, rw (upd_same s.user a a b refl) (part_left _ _), rw (upd_same s.had a a m refl) (part_right _ _)))

  pub destroys : Limited p se (destroy_next s a) ru
  unfolding destroy_next
  destroys =
      seated _
      (record {
        live = λ k. upd_other s.live a k false;
        user = λ k. upd_other s.user a k 0;
        active = λ k. upd_other s.active a k empty;
        had = λ k. upd_other s.had a k empty;
      })
      (λ l. absurd (gone l)) empty (λ l. absurd (gone l))
    where
      gone : upd s.live a false a ≡ true → ⊥
      gone l = false≢true (sym (upd_same s.live a a false refl) ∙ l)

  pub activates : (b : ℕ) → s.live a ≡ true → has (down se (p.assigned (s.user a))) b ≡ true
      → some (breaks (down se (plus (counted_of s (s.user a)) b))) ru.dynamics ≡ false → Limited p se (activate_next s a b) ru
  unfolding activate_next
  activates b live mine c =
      seated _
      (record {
        live = λ k n. refl;
        user = λ k n. refl;
        active = λ k. upd_other s.active a k (plus (s.active a) b);
        had = λ k. upd_other s.had a k (plus (s.had a) b);
      })
      (λ l. (
        h.small a live,
        h.known a live,
        rw (upd_same s.active a a (plus (s.active a) b) refl)
            (has_within _ _ (λ t x. ⊎_elim (λ (e : t ≡ b). rw e mine) (λ y. within_has _ _ t (h.active a live) y) (plus-member (s.active a) b t x))),
      ))
      (plus (counted_of s (s.user a)) b)
      (λ l. (
        not-broken ru.dynamics _ c,
        part-more _ _ b (part-refl _),
        rw (upd_same s.had a a (plus (s.had a) b) refl)
            (part-plus _ _ b (own-had s (s.user a) a (h.small a live) live refl)),
      ))

  pub deactivates : (b : ℕ) → s.live a ≡ true → Limited p se (deactivate_next s a b) ru
  unfolding deactivate_next
  deactivates b live =
      seated _ (record { live = λ k n. refl; user = λ k n. refl; active = λ k. upd_other s.active a k (minus (s.active a) b); had = λ k n. refl })
      (λ l. (
        h.small a live,
        h.known a live,
        rw (upd_same s.active a a (minus (s.active a) b) refl)
            (within-trans _ (s.active a) _ (within-minus (s.active a) b) (h.active a live)),
      ))
      (counted_of s (s.user a)) (λ l. (h.dynamics (s.user a), part-refl _, own-had s (s.user a) a (h.small a live) live refl))
