-- Requests 32 to 37, 40 to 43, 56 and 59: each check applies exactly when specs/Exactly.antt says so.
use Prim.Native.Nat.{ℕ, ◌<◌}
use mathlib.Core.Path.{◌≡◌, refl, sym, subst, ◌∙◌}
use mathlib.Core.Bool.{true, false, not, ◌&&◌, true≢false}
use mathlib.Core.Logic.Iff
use mathlib.Core.Logic.{◌⊎◌, inl, ⊎_elim, ◌↔◌}
use mathlib.Core.List.{List}
use native.Mathlib.Omega.{arith}
use borrow.Author.Tests.{not-false}
use lib.Dec.{eqb}
use Rattle.paper_lower.specs.Sets.{Set, has, plus, minus, union, meets, within}
use Rattle.paper_lower.specs.Lists.{some_number_below, holds, there, some}
use Rattle.paper_lower.specs.Checks.{first}
use Rattle.paper_lower.specs.Records.{Record}
use Rattle.paper_lower.specs.Tables.{Seniority, Lower}
use Rattle.paper_lower.specs.Policy.{down, breaks, is_for, assign_checks, give_checks}
use Rattle.paper_lower.specs.Roles.{subject_of, active_of, counted_of, join_checks, delete_checks, lost_by, take_back_checks, withdraw_checks}
use Rattle.paper_lower.specs.Sessions.{create_checks, activate_checks, deactivate_checks, destroy_checks, allowed, check_checks}
use Rattle.paper_lower.proofs.ListLaws.{both}
use Rattle.paper_upper.specs.Orders.{Orders, no_orders}
use Rattle.sets.proofs.SetLaws.{within_has}
use Rattle.theorems.specs.OverEntries.{of_kind, Reached, Broken, HasHad}
use Rattle.theorems.specs.Theorems.{shown, fixed}
use Rattle.theorems.specs.Walls.{Commits}
use Rattle.theorems.specs.Exactly.{Not, Known, GivenExactly, In, IsRole, IsPermission, PermissionFor, Assigned, Has, Live, user_of, Active, Acts, Undeclared, joining, deleting, assigning, taking_back, giving, withdrawing, creating, destroying, activating, deactivating, checking}
use Rattle.theorems.proofs.Down.{has-without}
use Rattle.theorems.proofs.Keeps.{LowerKept}
use Rattle.theorems.proofs.Outside.{over}
use Rattle.theorems.proofs.Reflects.{either, either_same, one_of_three, together, negated, same, is_same, turned_same, as-test, some-any, any_of, some-row, astray, common, minus-parts, none_left, check}
use Rattle.theorems.proofs.Declared.{Declared}
use Rattle.theorems.proofs.Limits.{plus-parts, union-parts, reached, broken}
use Rattle.theorems.proofs.Meant.{in-column, counted-had}
use Rattle.theorems.proofs.Walls.{Told, walled}

module _ (policy : List Record) (t : Lower) (kept : LowerKept policy t) (d : Declared policy (fixed t.policy)) (o : Orders) (y : Commits) where
  -- What an observer knows.
  abbrev pub seen : Known
  seen = record { policy = policy; told = shown (over o t); commits = y }

  -- ---- What is declared.
  pub is-role : (a : ℕ) → (has t.policy.people.roles a ≡ true) ↔ IsRole seen a
  is-role a = as-test (d.roles a) (some-any (λ q. eqb a q.a) (λ q. q.a ≡ a) (λ q. turned_same a q.a) (of_kind 2 policy))

  undeclared : (m : Set) → (not (within m t.policy.people.roles) ≡ true) ↔ Undeclared seen m
  undeclared m = Iff.trans (astray m t.policy.people.roles) (
    λ x. (x.0, x.1, λ h. x.2 ((is-role x.0).1 h)),
    λ x. (x.0, x.1, λ h. x.2 ((is-role x.0).0 h)),
  )

  is-permission : (a : ℕ) → (there (t.policy.permissions.declared a) ≡ true) ↔ IsPermission seen a
  is-permission a =
      as-test (d.permissions (λ _. true) a)
      (some-any (λ q. eqb a q.a && true) (λ q. q.a ≡ a)
      (λ q. Iff.trans (together (eqb a q.a) true (turned_same a q.a) same) (λ x. x.0, λ x. (x, refl))) (of_kind 3 policy))

  pub permission-for : (a b c : ℕ) → (holds (is_for b c) (t.policy.permissions.declared a) ≡ true) ↔ PermissionFor seen a b c
  unfolding is_for
  permission-for a b c =
      as-test (d.permissions (is_for b c) a)
      (some-any (λ q. eqb a q.a && (eqb q.b b && eqb q.c c)) (λ q. (q.a ≡ a) × (q.b ≡ b) × (q.c ≡ c))
      (λ q. Iff.trans (together (eqb a q.a) _ (turned_same a q.a) (together (eqb q.b b) (eqb q.c c) (is_same q.b b) (is_same q.c c)))
      (λ x. (x.0, x.1.0, x.1.1), λ x. (x.0, (x.1, x.2)))) (of_kind 3 policy))

  pub small-permission : (a b c : ℕ) → PermissionFor seen a b c → a < 256
  small-permission a b c h = any_of (a < 256) (of_kind 3 policy) d.small (λ q l x. let e = x.0 in omega arith) h

  -- ---- Roles together with the roles below them.
  with-below : (Roles : ℕ → Type 0) (m : Set) → ((q : ℕ) → In m q ↔ Roles q) → (r : ℕ) → In (down t.policy.seniority m) r ↔ Reached policy Roles r
  with-below = reached policy t.policy.seniority kept.0.ranked kept.0.recorded

  pub roles-of : (m : Set) (q : ℕ) → In (down t.policy.seniority m) q ↔ Reached policy (In m) q
  roles-of m = with-below (In m) m (λ q. same)

  static-broken : (Roles : ℕ → Type 0) (m : Set) → ((q : ℕ) → In m q ↔ Roles q)
      → (some (breaks (down t.policy.seniority m)) t.policy.rules.statics ≡ true) ↔ Broken policy 9 Roles
  static-broken Roles m parts =
      broken policy t.policy.seniority kept.0.ranked kept.0.recorded Roles m parts 9 t.policy.rules.statics kept.0.made.statics

  dynamic-broken : (u : ℕ) (New : ℕ → Type 0) (m : Set) → ((q : ℕ) → In m q ↔ (In (counted_of t.sessions u) q ⊎ New q))
      → (some (breaks (down t.policy.seniority m)) t.policy.rules.dynamics ≡ true) ↔ Broken policy 10 (λ q. HasHad seen.told u q ⊎ New q)
  dynamic-broken u New m parts =
      broken policy t.policy.seniority kept.0.ranked kept.0.recorded _ m
      (λ q. Iff.trans (parts q) (either_same (counted-had t.sessions kept.1.small u q))) 10 t.policy.rules.dynamics kept.0.made.dynamics

  -- ---- Users, their roles, and the permissions of roles.
  pub joined : (r : Record) → GivenExactly (joining seen r) (first (join_checks t.policy r.a r.m))
  unfolding join_checks
  joined r =
      check (omega arith) (omega arith) _ (undeclared r.m) (λ _.
      check (omega arith) (omega arith) _ same (λ _.
      check (omega arith) tt _ (static-broken (In r.m) r.m (λ q. same)) (λ _. none_left)))

  pub live-subject : (u : ℕ) → (some_number_below 128 (subject_of t.sessions u) ≡ true) ↔ ((s : ℕ) × Live seen s × (user_of seen s ≡ u))
  unfolding subject_of
  live-subject u = Iff.trans
      (some-row 128 (λ s. t.sessions.live s && eqb (t.sessions.user s) u) (λ s. Live seen s × (user_of seen s ≡ u))
      (λ s l. together (t.sessions.live s) _ same (is_same (t.sessions.user s) u)) (λ s x. kept.1.small s x.0))
      (λ x. (x.0, x.1.0, x.1.1), λ x. (x.0, (x.1, x.2)))

  pub assigned : (r : Record) → GivenExactly (assigning seen r) (first (assign_checks t.policy r.a r.b))
  unfolding assign_checks
  assigned r =
      let m = t.policy.people.assigned r.a in
      check (omega arith) (omega arith) _ (either _ _ (negated _ same) (negated _ (is-role r.b))) (λ _.
      check (omega arith) (omega arith) _ same (λ _.
      check (omega arith) tt _ (static-broken _ (plus m r.b) (plus-parts m r.b)) (λ _. none_left)))

  -- Some active role q of user a would be lost without role b: no role assigned to a other than b is q or above q.
  taken_back : (a b : ℕ) → (meets (active_of t.sessions a) (lost_by t.policy a b) ≡ true)
      ↔ ((s q : ℕ) × Live seen s × (user_of seen s ≡ a) × Active seen s q × Not (Reached policy (λ p. Assigned seen a p × Not (p ≡ b)) q))
  unfolding active_of lost_by
  taken_back a b = Iff.trans (common (active_of t.sessions a) (lost_by t.policy a b)) (
    λ x.
        let z = (in-column t.sessions t.sessions.active a x.0).0 x.1 in
        let w = both (has (down se mine) x.0) _ (sym (has-without (down se mine) (down se (minus mine b)) x.0) ∙ x.2) in
        (z.0, x.0, z.2, z.3, z.4, λ h. (negated (has (down se (minus mine b)) x.0) (left x.0)).0 w.1 h),
    λ x.
        let q = x.1 in (
          q,
          (in-column t.sessions t.sessions.active a q).1 (x.0, kept.1.small x.0 x.2, x.2, x.3, x.4),
          has-without (down se mine) (down se (minus mine b)) q
              ∙ (together (has (down se mine) q) _ same (negated (has (down se (minus mine b)) q) (left q))).1 (
                subst (λ (u : ℕ). has (down se (t.policy.people.assigned u)) q ≡ true) x.3
                    (within_has (t.sessions.active x.0) _ q (kept.1.active x.0 x.2) x.4),
                x.5,
              ),
        ),
  )
    where
      se : Seniority
      se = t.policy.seniority

      mine : Set
      mine = t.policy.people.assigned a

      left : (q : ℕ) → (has (down se (minus mine b)) q ≡ true) ↔ Reached policy (λ p. Assigned seen a p × Not (p ≡ b)) q
      left = with-below _ (minus mine b) (minus-parts mine b)

  pub taken : (r : Record) → GivenExactly (taking_back seen r) (first (take_back_checks t r.a r.b))
  unfolding take_back_checks
  taken r =
      check (omega arith) (omega arith) _ (one_of_three _ _ _ (negated _ same) (negated _ (is-role r.b)) (negated _ same)) (λ _.
      check (omega arith) tt _ (taken_back r.a r.b) (λ _. none_left))

  pub given : (r : Record) → GivenExactly (giving seen r) (first (give_checks t.policy r.a r.b))
  unfolding give_checks
  given r =
      check (omega arith) (omega arith) _ (either _ _ (negated _ (is-role r.a)) (negated _ (is-permission r.b))) (λ _.
      check (omega arith) tt _ same (λ _. none_left))

  pub withdrawn : (r : Record) → GivenExactly (withdrawing seen r) (first (withdraw_checks t.policy r.a r.b))
  unfolding withdraw_checks
  withdrawn r =
      check (omega arith) tt _ (one_of_three _ _ _ (negated _ (is-role r.a)) (negated _ (is-permission r.b)) (negated _ same)) (λ _. none_left)

  -- ---- Subjects.
  pub created : (r : Record) → GivenExactly (creating seen r) (first (create_checks t r.a r.b r.m))
  unfolding create_checks
  created r =
      let mine = counted_of t.sessions r.b in
      check (omega arith) (omega arith) _ (either _ _ (negated _ same) (undeclared r.m)) (λ _.
      check (omega arith) (omega arith) _ same (λ _.
      check (omega arith) (omega arith) _ (Iff.trans (astray r.m _) (
        λ x. (x.0, x.1, λ h. x.2 ((roles-of _ x.0).1 h)),
        λ x. (x.0, x.1, λ h. x.2 ((roles-of _ x.0).0 h)),
      )) (λ _.
      check (omega arith) tt _ (dynamic-broken r.b (In r.m) (union mine r.m) (union-parts mine r.m)) (λ _. none_left))))

  pub activated : (r : Record) → GivenExactly (activating seen r) (first (activate_checks t r.a r.b))
  unfolding activate_checks
  activated r =
      let u = t.sessions.user r.a in
      let mine = counted_of t.sessions u in
      check (omega arith) (omega arith) _ (either _ _ (negated _ same) (negated _ (is-role r.b))) (λ _.
      check (omega arith) (omega arith) _ same (λ _.
      check (omega arith) (omega arith) _ (negated _ (roles-of (t.policy.people.assigned u) r.b)) (λ _.
      check (omega arith) tt _ (dynamic-broken u (λ q. q ≡ r.b) (plus mine r.b) (plus-parts mine r.b)) (λ _. none_left))))

  pub deactivated : (r : Record) → GivenExactly (deactivating seen r) (first (deactivate_checks t r.a r.b))
  unfolding deactivate_checks
  deactivated r = check (omega arith) tt _ (one_of_three _ _ _ (negated _ same) (negated _ (is-role r.b)) (negated _ same)) (λ _. none_left)

  -- ---- The check and the commit.
  may : (a b c : ℕ) → (allowed t.policy.permissions (down t.policy.seniority (t.sessions.active a)) b c ≡ true)
      ↔ ((p q : ℕ) × PermissionFor seen p b c × Acts seen a q × Has seen q p)
  unfolding allowed
  may a b c = Iff.trans
      (some-row 256 (λ p. holds (is_for b c) (t.policy.permissions.declared p) && meets (t.policy.permissions.holders p) acting)
      (λ p. PermissionFor seen p b c × ((q : ℕ) × Has seen q p × Acts seen a q))
      (λ p l. together _ _ (permission-for p b c) (Iff.trans (common (t.policy.permissions.holders p) acting) (
        λ x. (x.0, x.1, (roles-of (t.sessions.active a) x.0).0 x.2),
        λ x. (x.0, x.1, (roles-of (t.sessions.active a) x.0).1 x.2),
      )))
      (λ p x. small-permission p b c x.0))
      (λ x. (x.0, x.1.1.0, x.1.0, x.1.1.2, x.1.1.1), λ x. (x.0, (x.2, (x.1, x.4, x.3))))
    where
      acting : Set
      acting = down t.policy.seniority (t.sessions.active a)

  pub checked : Told t y → (r : Record) → GivenExactly (checking seen r) (first (check_checks t r.a r.b r.c))
  unfolding check_checks
  checked h r =
      check (omega arith) (omega arith) _ (negated _ same) (λ e.
      check (omega arith) (omega arith) _ (negated _ (may r.a r.b r.c)) (λ _.
      check (omega arith) tt _ (walled policy t kept y h r.a r.c (not-false (t.sessions.live r.a) e)) (λ _. none_left)))

-- ---- Requests 33 and 41 in the lower part alone, where there are no entries.
module _ (policy : List Record) (t : Lower) (kept : LowerKept policy t) (d : Declared policy (fixed t.policy)) (y : Commits) where
  pub lower-deleted : (r : Record) → GivenExactly (deleting (seen policy t kept d no_orders y) r) (first (delete_checks t r.a))
  unfolding delete_checks no_orders
  lower-deleted r =
      check (omega arith) (omega arith) _ (negated _ same) (λ _.
      check (omega arith) tt _ (Iff.trans (live-subject policy t kept d no_orders y r.a) (inl, λ x. ⊎_elim (λ z. z) (λ z. absurd z) x)) (λ _. none_left))

  pub lower-destroyed : (r : Record) → GivenExactly (destroying (seen policy t kept d no_orders y) r) (first (destroy_checks t r.a))
  unfolding destroy_checks no_orders
  lower-destroyed r =
      check (omega arith) (omega arith) _ (negated _ same) (λ _.
      check (omega arith) tt false (λ e. absurd (true≢false (sym e)), λ z. absurd z) (λ _. none_left))
