-- The roles and permissions, the roles that each task is open to and the permissions that it carries
-- are in the tables exactly as the records of an accepted policy declare them, after any requests too.
use Prim.Native.Nat.{ℕ, ◌≤◌}
use mathlib.Core.Path.{◌≡◌, refl, sym, ap, subst, ◌∙◌}
use mathlib.Core.Bool.{Bool, true, false, cond, ◌&&◌, ◌||◌}
use mathlib.Core.List.{List, [], ◌∷◌}
use borrow.Author.Tests.{eqb-true}
use lib.Dec.{eqb}
use Rattle.paper_lower.specs.Sets.{Set, has, plus}
use Rattle.paper_lower.specs.Lists.{upd, Maybe, holds, there, some, keep, Every}
use Rattle.paper_lower.specs.Lists.Maybe.{just}
use Rattle.paper_lower.specs.Records.{Bytes, Record}
use Rattle.paper_lower.specs.Forms.{policy_forms, form_of, above, out_of_range}
use Rattle.paper_lower.specs.Kinds.{chosen, after}
use Rattle.paper_lower.specs.Tables.{Permission, Policy, Lower, no_policy}
use Rattle.paper_lower.specs.Policy.{user_next, role_next, permission_checks, permission_next, assign_next, give_next, task_next, open_to_next, carries_next, static_next, dynamic_next, task_set_next, block_next, ban_next, most_next, bind_next, before_next, raise_next, wall_next, policy_kinds}
use Rattle.paper_lower.specs.Load.{load, records_of}
use Rattle.paper_lower.specs.Sessions.{lower_kinds, lower_request, lower_of}
use Rattle.paper_lower.specs.Forms.{lower_forms}
use Rattle.paper_lower.proofs.ListLaws.{or-none, or-false, every_map, ◌⨾◌}
use Rattle.paper_lower.proofs.CheckLaws.{Passed}
use Rattle.paper_upper.specs.Orders.{Engine}
use Rattle.paper_upper.specs.Engine.{request, engine_of}
use Rattle.sets.proofs.SetLaws.{has-empty, has-plus}
use Rattle.theorems.specs.OverEntries.{of_kind}
use Rattle.theorems.specs.Theorems.{AfterEvery, tables_next, lower_after, Fixed, fixed}
use Rattle.theorems.proofs.Replies.{lower-order}
use Rattle.theorems.proofs.Rows.{Rows, answer-rows}
use Rattle.theorems.proofs.Loads.{step, filled, Fits, Accepted, fits-rows, load-accepted}
use Rattle.theorems.proofs.Made.{not_there}
use Rattle.theorems.proofs.WellMade.{a-within}
use Rattle.theorems.proofs.Theorems.{lower-rows, requests-change-no-rule}

-- The permission that a record of kind 3 declares.
abbrev pub a_permission : Record → Permission
a_permission r = record { operation = r.b; object = r.c }

-- These tables are what the records declare.
pub record Declared (policy : List Record) (x : Fixed) : Type 0 where
  pub roles : (a : ℕ) → has x.roles a ≡ some (λ q. eqb a q.a) (of_kind 2 policy)
  pub permissions : (p : Permission → Bool) (a : ℕ) → holds p (x.declared a) ≡ some (λ q. eqb a q.a && p (a_permission q)) (of_kind 3 policy)
  pub open_to : (a b : ℕ) → has (x.tasks.open_to a) b ≡ some (λ q. eqb a q.a && eqb b q.b) (of_kind 7 policy)
  pub carriers : (a b : ℕ) → has (x.carriers b) a ≡ some (λ q. eqb b q.b && eqb a q.a) (of_kind 8 policy)
  -- "Permissions 0 to 255."
  pub small : Every (λ q. q.a ≤ 255) (of_kind 3 policy)

-- ---- A test of the tables that a record of kind c may make true and no record makes false: after
-- accepted records it holds exactly if it held before or some record of the kind made it true.
or-or : (a b c : Bool) → (a || b) || c ≡ a || (b || c)
or-or true b c = refl
or-or false b c = refl

gathered : (f : Policy → Bool) (c : ℕ) (g : Record → Bool)
    → ((p : Policy) (r : Record) → Fits p r → f (step p r) ≡ cond (eqb r.kind c) (f p || g r) (f p))
    → (p : Policy) (rs : List Record) → Accepted p rs → f (filled p rs) ≡ f p || some g (of_kind c rs)
unfolding filled of_kind keep some
gathered f c g one p [] a = sym (or-false (f p))
gathered f c g one p (r ∷ rs) a =
    gathered f c g one (step p r) rs a.1 ∙ ap (λ (b : Bool). b || some g (of_kind c rs)) (one p r a.0) ∙ go (eqb r.kind c)
  where
    go : (b : Bool) → cond b (f p || g r) (f p) || some g (of_kind c rs) ≡ f p || some g (cond b (r ∷ of_kind c rs) (of_kind c rs))
    go true = or-or (f p) (g r) _
    go false = refl

-- ---- What a record of kind n declares.

-- The table of sets f with member b added to set a.
abbrev pub more : (ℕ → Set) → ℕ → ℕ → ℕ → Set
more f a b = upd f a (plus (f a) b)

-- How the tables x after a record r of kind n differ from the tables p before it.
abbrev Declares : ℕ → Policy → Record → Policy → Type 0
Declares n p r x =
    (x.people.roles ≡ cond (eqb n 2) (plus p.people.roles r.a) p.people.roles)
    × (x.permissions.declared ≡ cond (eqb n 3) (upd p.permissions.declared r.a (just (a_permission r))) p.permissions.declared)
    × (x.tasks.open_to ≡ cond (eqb n 7) (more p.tasks.open_to r.a r.b) p.tasks.open_to)
    × (x.permissions.carriers ≡ cond (eqb n 8) (more p.permissions.carriers r.b r.a) p.permissions.carriers)

rows : Rows policy_forms Declares policy_kinds
unfolding policy_kinds user_next role_next permission_next assign_next give_next task_next open_to_next carries_next static_next dynamic_next task_set_next block_next ban_next most_next bind_next before_next raise_next wall_next
rows =
    (λ p r g c. (refl, refl, refl, refl)) ⨾ (λ p r g c. (refl, refl, refl, refl)) ⨾ (λ p r g c. (refl, refl, refl, refl))
    ⨾ (λ p r g c. (refl, refl, refl, refl)) ⨾ (λ p r g c. (refl, refl, refl, refl)) ⨾ (λ p r g c. (refl, refl, refl, refl))
    ⨾ (λ p r g c. (refl, refl, refl, refl)) ⨾ (λ p r g c. (refl, refl, refl, refl)) ⨾ (λ p r g c. (refl, refl, refl, refl))
    ⨾ (λ p r g c. (refl, refl, refl, refl)) ⨾ (λ p r g c. (refl, refl, refl, refl)) ⨾ (λ p r g c. (refl, refl, refl, refl))
    ⨾ (λ p r g c. (refl, refl, refl, refl)) ⨾ (λ p r g c. (refl, refl, refl, refl)) ⨾ (λ p r g c. (refl, refl, refl, refl))
    ⨾ (λ p r g c. (refl, refl, refl, refl)) ⨾ (λ p r g c. (refl, refl, refl, refl)) ⨾ (λ p r g c. (refl, refl, refl, refl)) ⨾ tt

declares : (p : Policy) (r : Record) → Fits p r → Declares r.kind p r (step p r)
declares p r f = fits-rows Declares rows p r f

-- ---- One record.
role-more : (a : ℕ) (p : Policy) (r : Record) → Fits p r
    → has (step p r).people.roles a ≡ cond (eqb r.kind 2) (has p.people.roles a || eqb a r.a) (has p.people.roles a)
role-more a p r f = ap (λ (m : Set). has m a) (declares p r f).0 ∙ go (eqb r.kind 2)
  where
    go : (b : Bool) →
        has (cond b (plus p.people.roles r.a) p.people.roles) a ≡ cond b (has p.people.roles a || eqb a r.a) (has p.people.roles a)
    go true = has-plus p.people.roles r.a a
    go false = refl

-- The members of a table of sets to which one member is added in one set.
pub column-more : (f : ℕ → Set) (a b i k : ℕ) → has (more f a b i) k ≡ has (f i) k || (eqb i a && eqb k b)
unfolding upd
column-more f a b i k = go (eqb i a) refl
  where
    go : (x : Bool) → eqb i a ≡ x → has (cond x (plus (f a) b) (f i)) k ≡ has (f i) k || (x && eqb k b)
    go true e = has-plus (f a) b k ∙ ap (λ (j : ℕ). has (f j) k || eqb k b) (sym (eqb-true i a e))
    go false e = sym (or-false (has (f i) k))

pub column : (f g : ℕ → Set) (x : Bool) (a b i k : ℕ) → g ≡ cond x (more f a b) f → has (g i) k ≡ cond x (has (f i) k || (eqb i a && eqb k b)) (has (f i) k)
column f g true a b i k e = ap (λ (h : ℕ → Set). has (h i) k) e ∙ column-more f a b i k
column f g false a b i k e = ap (λ (h : ℕ → Set). has (h i) k) e

-- A permission is declared only once: a second record for it is refused with TAKEN.
permission-new : (p : Policy) (r : Record) → Fits p r → r.kind ≡ 3 → there (p.permissions.declared r.a) ≡ false
unfolding policy_kinds chosen permission_checks
permission-new p r f e =
    let c : Passed ((chosen policy_kinds 3).checks p r) = subst (λ (k : ℕ). Passed ((chosen policy_kinds k).checks p r)) e f.checks in
    (or-none (there (p.permissions.declared r.a)) _ c.0).0

permission-more : (h : Permission → Bool) (a : ℕ) (p : Policy) (r : Record) → Fits p r
    → holds h ((step p r).permissions.declared a)
    ≡ cond (eqb r.kind 3) (holds h (p.permissions.declared a) || (eqb a r.a && h (a_permission r))) (holds h (p.permissions.declared a))
unfolding upd holds
permission-more h a p r f = ap (λ (d : ℕ → Maybe Permission). holds h (d a)) (declares p r f).1 ∙ go (eqb r.kind 3) refl
  where
    d : ℕ → Maybe Permission
    d = p.permissions.declared

    at : (b : Bool) → eqb a r.a ≡ b → there (d r.a) ≡ false → holds h (cond b (just (a_permission r)) (d a)) ≡ holds h (d a) || (b && h (a_permission r))
    at true e n = rw (not_there h (d a) (ap (λ (i : ℕ). there (d i)) (eqb-true _ _ e) ∙ n))
    at false e n = sym (or-false (holds h (d a)))

    go : (b : Bool) → eqb r.kind 3 ≡ b
        → holds h (cond b (upd d r.a (just (a_permission r))) d a) ≡ cond b (holds h (d a) || (eqb a r.a && h (a_permission r))) (holds h (d a))
    go true e = at (eqb a r.a) refl (permission-new p r f (eqb-true _ _ e))
    go false e = refl

-- ---- The numbers of permissions are at most 255.
in-range : (r : Record) → out_of_range (form_of policy_forms r.kind) r ≡ false → r.kind ≡ 3 → r.a ≤ 255
unfolding policy_forms form_of out_of_range above
in-range r g e = a-within 255 r.a false (subst (λ (n : ℕ). out_of_range (form_of policy_forms n) r ≡ false) e g)

all-in-range : (p : Policy) (rs : List Record) → Accepted p rs → Every (λ q. q.a ≤ 255) (of_kind 3 rs)
unfolding of_kind keep
all-in-range p [] a = tt
all-in-range p (r ∷ rs) a = go (eqb r.kind 3) refl (all-in-range (step p r) rs a.1)
  where
    go : (b : Bool) → eqb r.kind 3 ≡ b → Every (λ q. q.a ≤ 255) (of_kind 3 rs) → Every (λ q. q.a ≤ 255) (cond b (r ∷ of_kind 3 rs) (of_kind 3 rs))
    go true e h = (in-range r a.0.range (eqb-true _ _ e), h)
    go false e h = h

-- ---- All records of an accepted policy.
pub nothing_yet : (rs : List Record) → Accepted no_policy rs → (f : Policy → Bool) (c : ℕ) (g : Record → Bool) → f no_policy ≡ false
    → ((p : Policy) (r : Record) → Fits p r → f (step p r) ≡ cond (eqb r.kind c) (f p || g r) (f p)) → f (filled no_policy rs) ≡ some g (of_kind c rs)
nothing_yet rs a f c g start one = gathered f c g one no_policy rs a ∙ ap (λ (b : Bool). b || some g (of_kind c rs)) start

pub declared-of : (rs : List Record) → Accepted no_policy rs → Declared rs (fixed (filled no_policy rs))
unfolding no_policy holds
declared-of rs x = record {
  roles = λ a. nothing_yet rs x (λ p. has p.people.roles a) 2 (λ q. eqb a q.a) (has-empty a) (role-more a);
  permissions = λ h a. nothing_yet rs x (λ p. holds h (p.permissions.declared a)) 3 (λ q. eqb a q.a && h (a_permission q)) refl (permission-more h a);
  open_to = λ a b. nothing_yet rs x (λ p. has (p.tasks.open_to a) b) 7 (λ q. eqb a q.a && eqb b q.b) (has-empty b)
      (λ p r f. column p.tasks.open_to _ (eqb r.kind 7) r.a r.b a b (declares p r f).2);
  carriers = λ a b. nothing_yet rs x (λ p. has (p.permissions.carriers b) a) 8 (λ q. eqb b q.b && eqb a q.a) (has-empty a)
      (λ p r f. column p.permissions.carriers _ (eqb r.kind 8) r.b r.a b a (declares p r f).3);
  small = all-in-range no_policy rs x;
}

pub declared-load : (policy : Bytes) → (load policy).reply ≡ 0 → Declared (records_of policy) (fixed (load policy).tables)
declared-load policy h = let x = load-accepted policy h in rw x.1 (declared-of (records_of policy) x.0)

-- ---- Requests change nothing of this.
fixed-after : (t : Engine) (ss : List Bytes) → fixed (after request t ss).lower.policy ≡ fixed t.lower.policy
unfolding after
fixed-after t [] = refl
fixed-after t (s ∷ ss) = fixed-after (request t s).tables ss ∙ requests-change-no-rule t s

lower-fixed : (t : Lower) (s : Bytes) → fixed (lower_request t s).tables.policy ≡ fixed t.policy
unfolding lower_request
lower-fixed t s =
    answer-rows lower_forms (λ n t r x. fixed x.policy ≡ fixed t.policy) lower_kinds lower-order
    (every_map lower_kinds (λ k h t r g p. h t r) lower-rows) t s (λ q x. fixed x.policy ≡ fixed t.policy) (λ x h. h) (λ q. refl)

lower-fixed-after : (t : Lower) (ss : List Bytes) → fixed (after lower_request t ss).policy ≡ fixed t.policy
unfolding after
lower-fixed-after t [] = refl
lower-fixed-after t (s ∷ ss) = lower-fixed-after (lower_request t s).tables ss ∙ lower-fixed t s

pub declared-after : AfterEvery (λ policy requests. Declared (records_of policy) (fixed (tables_next policy requests).lower.policy))
unfolding engine_of lower_of
declared-after policy accepted ss =
    subst (Declared (records_of policy)) (sym (fixed-after (engine_of (load policy).tables) ss)) (declared-load policy accepted)

pub lower-declared-after : AfterEvery (λ policy requests. Declared (records_of policy) (fixed (lower_after policy requests).policy))
unfolding lower_of
lower-declared-after policy accepted ss =
    subst (Declared (records_of policy)) (sym (lower-fixed-after (lower_of (load policy).tables) ss)) (declared-load policy accepted)
