-- The tables after accepted records are what the records say: the users, the roles of
-- users, the permissions of roles, and the number of records that put a role above another.
use Prim.Native.Nat.{ℕ, zero, suc, ◌+◌, ◌<◌}
use mathlib.Core.Path.{◌≡◌, refl, sym, ap, subst, ◌∙◌}
use mathlib.Core.Bool.{Bool, true, false, cond, ◌&&◌, ◌||◌}
use mathlib.Core.Logic.{◌⊎◌, inl, inr, ⊎_elim}
use mathlib.Core.List.{List, [], ◌∷◌}
use native.Mathlib.Omega.{arith}
use borrow.Author.Tests.{eqb-true}
use lib.Dec.{eqb, ltb}
use lib.ListN.{length}
use Rattle.paper_lower.specs.Sets.{Set, empty, has, plus, ones_in, size}
use Rattle.paper_lower.specs.Lists.{upd, sum_below, some, many, keep, Every}
use Rattle.paper_lower.specs.Records.{Record}
use Rattle.paper_lower.specs.Forms.{policy_forms, form_of, above, out_of_range}
use Rattle.paper_lower.specs.Kinds.{chosen}
use Rattle.paper_lower.specs.Tables.{Seniority, Policy, no_policy}
use Rattle.paper_lower.specs.Policy.{user_checks, user_next, role_next, permission_next, assign_next, give_next, task_next, open_to_next, carries_next, static_next, dynamic_next, task_set_next, block_next, ban_next, most_next, bind_next, before_next, raised, raisings, raise_checks, raise_next, wall_next, policy_kinds}
use Rattle.paper_lower.proofs.ListLaws.{or-false, upd_same, upd_other, ◌⨾◌}
use Rattle.paper_lower.proofs.CheckLaws.{Passed}
use Rattle.sets.proofs.Bits.{same-or-other, ones-or}
use Rattle.sets.proofs.SetLaws.{has-empty, hasnt-bit, size-ones}
use Rattle.theorems.specs.OverEntries.{of_kind}
use Rattle.theorems.proofs.Rows.{Rows}
use Rattle.theorems.proofs.Loads.{step, filled, Fits, Accepted, fits-rows, load-keeps}
use Rattle.theorems.proofs.LoadedRoles.{InOrder, in-order-start}
use Rattle.theorems.proofs.LoadedRoles as LoadedRoles
use Rattle.theorems.proofs.Ranks.{step-rows}
use Rattle.theorems.proofs.WellMade.{a-within}
use Rattle.theorems.proofs.Declared.{more, column-more, column, nothing_yet}

pub many-length : {A : Type 0} (xs : List A) → many xs ≡ length xs
unfolding many
many-length [] = refl
many-length (x ∷ xs) = ap suc (many-length xs)

-- ---- A property of every record of a kind that follows from its limits.
pub all-of-kind : (c : ℕ) (P : Record → Type 0) → ((r : Record) → out_of_range (form_of policy_forms c) r ≡ false → P r)
    → (p : Policy) (rs : List Record) → Accepted p rs → Every P (of_kind c rs)
unfolding of_kind keep
all-of-kind c P one p [] a = tt
all-of-kind c P one p (r ∷ rs) a = go (eqb r.kind c) refl (all-of-kind c P one (step p r) rs a.1)
  where
    go : (b : Bool) → eqb r.kind c ≡ b → Every P (of_kind c rs) → Every P (cond b (r ∷ of_kind c rs) (of_kind c rs))
    go true e h = (one r (subst (λ (n : ℕ). out_of_range (form_of policy_forms n) r ≡ false) (eqb-true _ _ e) a.0.range), h)
    go false e h = h

-- ---- What a record of kind n adds.
abbrev Adds : ℕ → Policy → Record → Policy → Type 0
Adds n p r x =
    (x.people.users ≡ cond (eqb n 1) (upd p.people.users r.a true) p.people.users)
    × (x.people.assigned
    ≡ cond (eqb n 1) (upd p.people.assigned r.a empty) (cond (eqb n 4) (more p.people.assigned r.a r.b) p.people.assigned))
    × (x.permissions.holders ≡ cond (eqb n 5) (more p.permissions.holders r.b r.a) p.permissions.holders)

rows : Rows policy_forms Adds policy_kinds
unfolding policy_kinds user_next role_next permission_next assign_next give_next task_next open_to_next carries_next static_next dynamic_next task_set_next block_next ban_next most_next bind_next before_next raise_next wall_next
rows =
    (λ p r g c. (refl, refl, refl)) ⨾ (λ p r g c. (refl, refl, refl)) ⨾ (λ p r g c. (refl, refl, refl)) ⨾ (λ p r g c. (refl, refl, refl)) ⨾
    (λ p r g c. (refl, refl, refl))
    ⨾ (λ p r g c. (refl, refl, refl)) ⨾ (λ p r g c. (refl, refl, refl)) ⨾ (λ p r g c. (refl, refl, refl)) ⨾ (λ p r g c. (refl, refl, refl)) ⨾
    (λ p r g c. (refl, refl, refl))
    ⨾ (λ p r g c. (refl, refl, refl)) ⨾ (λ p r g c. (refl, refl, refl)) ⨾ (λ p r g c. (refl, refl, refl)) ⨾ (λ p r g c. (refl, refl, refl)) ⨾
    (λ p r g c. (refl, refl, refl))
    ⨾ (λ p r g c. (refl, refl, refl)) ⨾ (λ p r g c. (refl, refl, refl)) ⨾ (λ p r g c. (refl, refl, refl)) ⨾ tt

adds : (p : Policy) (r : Record) → Fits p r → Adds r.kind p r (step p r)
adds p r f = fits-rows Adds rows p r f

-- ---- Users.
user-more : (u : ℕ) (p : Policy) (r : Record) → Fits p r
    → (step p r).people.users u ≡ cond (eqb r.kind 1) (p.people.users u || eqb u r.a) (p.people.users u)
unfolding upd
user-more u p r f = ap (λ (g : ℕ → Bool). g u) (adds p r f).0 ∙ go (eqb r.kind 1)
  where
    at : (b c : Bool) → cond c true b ≡ b || c
    at true true = refl
    at true false = refl
    at false true = refl
    at false false = refl

    go : (b : Bool) → cond b (upd p.people.users r.a true) p.people.users u ≡ cond b (p.people.users u || eqb u r.a) (p.people.users u)
    go true = at (p.people.users u) (eqb u r.a)
    go false = refl

pub users-of : (rs : List Record) → Accepted no_policy rs → (u : ℕ) → (filled no_policy rs).people.users u ≡ some (λ q. eqb u q.a) (of_kind 1 rs)
unfolding no_policy
users-of rs a u = nothing_yet rs a (λ p. p.people.users u) 1 (λ q. eqb u q.a) refl (user-more u)

-- ---- The permissions of roles.
pub holders-of : (rs : List Record) → Accepted no_policy rs → (a b : ℕ)
    → has ((filled no_policy rs).permissions.holders b) a ≡ some (λ q. eqb b q.b && eqb a q.a) (of_kind 5 rs)
unfolding no_policy
holders-of rs x a b = nothing_yet rs x (λ p. has (p.permissions.holders b) a) 5 (λ q. eqb b q.b && eqb a q.a) (has-empty a)
    (λ p r f. column p.permissions.holders _ (eqb r.kind 5) r.b r.a b a (adds p r f).2)

-- ---- The roles of users. A user is declared only once, and has no roles before.
user-new : (p : Policy) (r : Record) → Fits p r → r.kind ≡ 1 → p.people.users r.a ≡ false
unfolding policy_kinds chosen user_checks
user-new p r f e =
    let c : Passed ((chosen policy_kinds 1).checks p r) = subst (λ (k : ℕ). Passed ((chosen policy_kinds k).checks p r)) e f.checks in c.0

role-more : (u b : ℕ) (p : Policy) (r : Record) → InOrder p → Fits p r
    → has ((step p r).people.assigned u) b ≡
    cond (eqb r.kind 4) (has (p.people.assigned u) b || (eqb u r.a && eqb b r.b)) (has (p.people.assigned u) b)
role-more u b p r i f = ap (λ (g : ℕ → Set). has (g u) b) (adds p r f).1 ∙ go (eqb r.kind 1) (eqb r.kind 4) refl refl
  where
    m : ℕ → Set
    m = p.people.assigned

    idle : r.kind ≡ 1 → upd m r.a empty u ≡ m u
    idle e = ⊎_elim
        (λ (q : u ≡ r.a). upd_same m r.a u empty q ∙ sym (ap m q ∙ i.bare r.a (user-new p r f e)))
        (λ n. upd_other m r.a u empty n) (same-or-other u r.a)

    go : (x y : Bool) → eqb r.kind 1 ≡ x → eqb r.kind 4 ≡ y
        → has (cond x (upd m r.a empty) (cond y (more m r.a r.b) m) u) b ≡ cond y (has (m u) b || (eqb u r.a && eqb b r.b)) (has (m u) b)
    go true true e h = let c : r.kind ≡ 1 = eqb-true _ _ e in let d : r.kind ≡ 4 = eqb-true _ _ h in let z : ⊥ = omega arith in absurd z
    go true false e h = ap (λ (s : Set). has s b) (idle (eqb-true _ _ e))
    go false true e h = column-more m r.a r.b u b
    go false false e h = refl

or-or : (a b c : Bool) → (a || b) || c ≡ a || (b || c)
or-or true b c = refl
or-or false b c = refl

gathered : (u b : ℕ) (p : Policy) (rs : List Record) → InOrder p → Accepted p rs
    → has ((filled p rs).people.assigned u) b ≡ has (p.people.assigned u) b || some (λ q. eqb u q.a && eqb b q.b) (of_kind 4 rs)
unfolding filled of_kind keep some
gathered u b p [] i a = sym (or-false (has (p.people.assigned u) b))
gathered u b p (r ∷ rs) i a =
    gathered u b (step p r) rs (fits-rows (λ n p r x. InOrder p → InOrder x) LoadedRoles.rows p r a.0 i) a.1
    ∙ ap (λ (c : Bool). c || some (λ q. eqb u q.a && eqb b q.b) (of_kind 4 rs)) (role-more u b p r i a.0)
    ∙ go (eqb r.kind 4)
  where
    go : (c : Bool) →
        cond c (has (p.people.assigned u) b || (eqb u r.a && eqb b r.b)) (has (p.people.assigned u) b) || some (λ q. eqb u q.a && eqb b q.b)
        (of_kind 4 rs)
        ≡ has (p.people.assigned u) b || some (λ q. eqb u q.a && eqb b q.b) (cond c (r ∷ of_kind 4 rs) (of_kind 4 rs))
    go true = or-or (has (p.people.assigned u) b) (eqb u r.a && eqb b r.b) _
    go false = refl

pub assigned-of : (rs : List Record) → Accepted no_policy rs → (u b : ℕ)
    → has ((filled no_policy rs).people.assigned u) b ≡ some (λ q. eqb u q.a && eqb b q.b) (of_kind 4 rs)
unfolding no_policy
assigned-of rs a u b = gathered u b no_policy rs in-order-start a ∙ rw (has-empty b) refl

pub in_order : (rs : List Record) → Accepted no_policy rs → InOrder (filled no_policy rs)
in_order rs a = load-keeps InOrder LoadedRoles.rows no_policy rs a in-order-start

-- ---- The number of records that put a role above another.
sum_same : (n : ℕ) (f g : ℕ → ℕ) → ((r : ℕ) → r < n → g r ≡ f r) → sum_below n g ≡ sum_below n f
unfolding sum_below
sum_same zero f g h = refl
sum_same (suc n) f g h = let a = h n (omega arith) in let b = sum_same n f g (λ r l. h r (omega arith)) in omega arith

sum_one : (n : ℕ) (f g : ℕ → ℕ) (a : ℕ) → a < n → ((r : ℕ) → (r ≡ a → ⊥) → g r ≡ f r) → g a ≡ f a + 1 → sum_below n g ≡ sum_below n f + 1
unfolding sum_below
sum_one zero f g a l h q = omega arith
sum_one (suc n) f g a l h q = go (same-or-other n a) (sum_one n f g a)
  where
    go : (n ≡ a) ⊎ (n ≡ a → ⊥) → (a < n → ((r : ℕ) → (r ≡ a → ⊥) → g r ≡ f r) → g a ≡ f a + 1 → sum_below n g ≡ sum_below n f + 1)
        → g n + sum_below n g ≡ f n + sum_below n f + 1
    go (inl e) rest =
        let x : g n ≡ f n + 1 = rw (← e) at q in
        let y = sum_same n f g (λ r k. h r (λ (z : r ≡ a). let w : ⊥ = omega arith in w)) in
        omega arith
    go (inr d) rest = let x = h n d in let y = rest (omega arith) h q in omega arith

size-new : (m : Set) (b : ℕ) → has m b ≡ false → size (plus m b) ≡ size m + 1
unfolding plus
size-new m b e = let o = ones-or b m in let u = size-ones (plus m b) in let v = size-ones m in let z = hasnt-bit m b e in omega arith

raised-one : (s : Seniority) (a b : ℕ) → a < 64 → has (s.juniors a) b ≡ false → raisings (raised s a b) ≡ raisings s + 1
unfolding raisings raised
raised-one s a b l new = sum_one 64 (λ r. size (s.juniors r)) (λ r. size (upd s.juniors a (plus (s.juniors a) b) r)) a l
    (λ r n. ap size (upd_other s.juniors a r (plus (s.juniors a) b) n))
    (ap size (upd_same s.juniors a a (plus (s.juniors a) b) refl) ∙ size-new (s.juniors a) b new)

raise-new : (p : Policy) (r : Record) → Fits p r → r.kind ≡ 17 → (r.a < 64) × (has (p.seniority.juniors r.a) r.b ≡ false)
unfolding policy_kinds chosen raise_checks policy_forms form_of out_of_range above
raise-new p r f e =
    let c : Passed ((chosen policy_kinds 17).checks p r) = subst (λ (k : ℕ). Passed ((chosen policy_kinds k).checks p r)) e f.checks in
    let l = a-within 63 r.a (ltb 63 r.b) (subst (λ (n : ℕ). out_of_range (form_of policy_forms n) r ≡ false) e f.range) in
    (omega arith, c.1.0)

-- How a record of kind n changes the senior roles.
abbrev Ranks : ℕ → Policy → Record → Policy → Type 0
Ranks n p r x = x.seniority ≡ cond (eqb n 17) (raised p.seniority r.a r.b) p.seniority

counted : (p : Policy) (rs : List Record) → Accepted p rs → raisings (filled p rs).seniority ≡ raisings p.seniority + length (of_kind 17 rs)
unfolding filled of_kind keep
counted p [] a = omega arith
counted p (r ∷ rs) a = go (eqb r.kind 17) refl (step p r).seniority (fits-rows Ranks step-rows p r a.0) (counted (step p r) rs a.1)
  where
    go : (b : Bool) → eqb r.kind 17 ≡ b → (z : Seniority) → z ≡ cond b (raised p.seniority r.a r.b) p.seniority
        → raisings (filled (step p r) rs).seniority ≡ raisings z + length (of_kind 17 rs)
        → raisings (filled (step p r) rs).seniority ≡ raisings p.seniority + length (cond b (r ∷ of_kind 17 rs) (of_kind 17 rs))
    go true e z q ih =
        let w = raise-new p r a.0 (eqb-true _ _ e) in
        let x = ap raisings q ∙ raised-one p.seniority r.a r.b w.0 w.1 in
        omega arith
    go false e z q ih = ih ∙ ap (λ (s : Seniority). raisings s + length (of_kind 17 rs)) q

none_yet : raisings no_policy.seniority ≡ 0
unfolding no_policy raisings sum_below size ones_in
none_yet = refl

pub raisings-of : (rs : List Record) → Accepted no_policy rs → raisings (filled no_policy rs).seniority ≡ length (of_kind 17 rs)
raisings-of rs a = let c = counted no_policy rs a in let z = none_yet in omega arith
