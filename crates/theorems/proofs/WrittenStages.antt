-- Writing declarations, kinds 1 to 8: the records of tables that are ready are accepted from the
-- empty policy on and lead to those tables. The other kinds are in WrittenRules and WrittenRanks.
use Prim.Native.Nat.{ℕ, suc, ◌<◌, ◌≤◌}
use mathlib.Core.Path.{◌≡◌, refl, sym, ap, ◌∙◌}
use mathlib.Core.Bool.{Bool, true, false, ◌&&◌, false≢true}
use mathlib.Core.List.{[]}
use native.Mathlib.Omega.{arith}
use borrow.Author.Tests.{eqb-true, le-ltb, ltb-true, ltb-false}
use lib.Dec.{eqb, ltb}
use Rattle.paper_lower.specs.Sets.{Set, empty, has, collect}
use Rattle.paper_lower.specs.Lists.{upd, Maybe, holds, there, some}
use Rattle.paper_lower.specs.Lists.Maybe.{none, just}
use Rattle.paper_lower.specs.Forms.{policy_forms, form_of, misplaced, above, misshapen, out_of_range}
use Rattle.paper_lower.specs.Kinds.{chosen}
use Rattle.paper_lower.specs.Tables.{People, Seniority, Permission, Permissions, Tasks, Rules, Policy}
use Rattle.paper_lower.specs.Policy.{is_for, user_checks, user_next, role_checks, role_next, permission_checks, permission_next, assign_checks, assign_next, give_checks, give_next, task_checks, task_next, open_to_checks, open_to_next, carries_checks, carries_next, policy_kinds}
use Rattle.paper_lower.specs.Written.{in_turn, when, of_there, row}
use Rattle.paper_lower.proofs.ListLaws.{both, below_none}
use Rattle.sets.proofs.SetLaws.{has-empty, same-members, collect-above}
use Rattle.theorems.proofs.WrittenRuns.{Run, run-turns, run-when, run-as, bare, nowhere, run-marks, run-theres, run-rows, run-columns, mix, mix-below, mix-from, upd-idle, collect-next, collect-skip, collect-all}
use Rattle.theorems.proofs.WrittenReady.{Ready}

-- A policy with these tables and no walls, which are written last.
abbrev pub whole : People → Seniority → Permissions → Tasks → Rules → Policy
whole x s k t ru = record { people = x; seniority = s; permissions = k; tasks = t; rules = ru; walls = [] }

-- The tables with these columns, and tables with nothing in them.
abbrev pub folk : (ℕ → Bool) → Set → (ℕ → Set) → People
folk users roles assigned = record { users = users; roles = roles; assigned = assigned }

abbrev pub may : (ℕ → Maybe Permission) → (ℕ → Set) → (ℕ → Set) → Permissions
may declared holders carriers = record { declared = declared; holders = holders; carriers = carriers }

abbrev pub work : (ℕ → Maybe ℕ) → (ℕ → Set) → (ℕ → Bool) → (ℕ → Maybe ℕ) → Tasks
work template open_to banned most = record { template = template; open_to = open_to; banned = banned; most = most }

abbrev pub no : ℕ → Bool
no = λ _. false

abbrev pub unranked : Seniority
unranked = record { juniors = bare; below = bare }

abbrev pub unruled : Rules
unruled = record { statics = []; dynamics = []; task_sets = []; blocks = []; bindings = []; befores = [] }

-- ---- Tables have nothing outside their limits.
pub no-mark : (f : ℕ → Bool) (n : ℕ) → ((i : ℕ) → f i ≡ true → i < n) → (i : ℕ) → n ≤ i → f i ≡ false
no-mark f n h i l = go (f i) refl
  where
    go : (b : Bool) → f i ≡ b → b ≡ false
    go true e = let k = h i e in let z : ⊥ = omega arith in absurd z
    go false e = refl

pub no-there : {A : Type 0} (f : ℕ → Maybe A) (n : ℕ) → ((i : ℕ) (x : A) → f i ≡ just x → i < n) → (i : ℕ) → n ≤ i → f i ≡ none
no-there f n h i l = go (f i) refl
  where
    go : (x : Maybe _) → f i ≡ x → x ≡ none
    go none e = refl
    go (just x) e = let k = h i x e in let z : ⊥ = omega arith in absurd z

pub no-set : (f : ℕ → Set) (n : ℕ) → ((i b : ℕ) → has (f i) b ≡ true → i < n) → (i : ℕ) → n ≤ i → f i ≡ empty
no-set f n h i l = same-members (f i) empty (λ b. no-mark (λ (k : ℕ). has (f k) b) n (λ k e. h k b e) i l ∙ sym (has-empty b))

pub is-there : {A : Type 0} (x : Maybe A) → there x ≡ true → (y : A) × (x ≡ just y)
unfolding holds
is-there none e = absurd (false≢true e)
is-there (just y) e = (y, refl)

module _ (p : Policy) (h : Ready p) where
  abbrev x : People
  x = p.people

  abbrev k : Permissions
  k = p.permissions

  abbrev t : Tasks
  t = p.tasks

  pub role-small : (r : ℕ) → has x.roles r ≡ true → r < 64
  role-small r e = h.people.roles r e

  user-of : (u r : ℕ) → has (x.assigned u) r ≡ true → x.users u ≡ true
  user-of u r e = go (x.users u) refl
    where
      go : (b : Bool) → x.users u ≡ b → b ≡ true
      go true q = refl
      go false q = absurd (false≢true (sym (has-empty r) ∙ ap (λ (m : Set). has m r) (sym (h.people.bare u q)) ∙ e))

  pub task-small : (a : ℕ) → there (t.template a) ≡ true → a < 64
  task-small a e = let y = is-there (t.template a) e in (h.tasks.template a y.0 y.1).0

  permission-small : (a : ℕ) → there (k.declared a) ≡ true → a < 256
  permission-small a e = let y = is-there (k.declared a) e in (h.permissions.declared a y.0 y.1).0

  -- ---- Kind 1: users.
  abbrev pub P1 : (ℕ → Bool) → Policy
  P1 g = whole (folk g empty bare) unranked (may nowhere bare bare) (work nowhere bare no nowhere) unruled

  pub run-1 : Run (P1 no) (in_turn 1024 (λ a. when (x.users a) (row 1 0 a 0 0 0))) (P1 x.users)
  unfolding chosen policy_kinds user_checks user_next policy_forms form_of misshapen misplaced out_of_range above
  run-1 = run-marks P1 x.users 1024 (λ a. row 1 0 a 0 0 0) (no-mark x.users 1024 h.people.users) (λ g a l e f. (
    record {
      a = omega arith;
      b = omega arith;
      c = omega arith;
      m = omega arith;
      shape = refl;
      range = rw (le-ltb 1023 a (omega arith)) refl;
      checks = (f, tt);
    },
    λ j. whole (folk (upd g a true) empty (upd-idle bare a empty refl j)) unranked (may nowhere bare bare) (work nowhere bare no nowhere) unruled,
  ))

  -- ---- Kind 2: roles.
  abbrev pub P2 : Set → Policy
  P2 m = whole (folk x.users m bare) unranked (may nowhere bare bare) (work nowhere bare no nowhere) unruled

  pub run-2 : Run (P2 empty) (in_turn 64 (λ a. when (has x.roles a) (row 2 0 a 0 0 0))) (P2 x.roles)
  unfolding chosen policy_kinds role_checks role_next policy_forms form_of misshapen misplaced out_of_range above collect
  run-2 =
      run-as (P2 (collect 0 (has x.roles))) (P2 empty) (P2 (collect 64 (has x.roles))) (P2 x.roles) _ refl
      (ap P2 (collect-all 64 x.roles role-small))
      (run-turns (λ a. P2 (collect a (has x.roles))) (λ a. when (has x.roles a) (row 2 0 a 0 0 0)) 64 (λ a l.
      run-when (P2 (collect a (has x.roles))) (P2 (collect (suc a) (has x.roles))) (has x.roles a) (row 2 0 a 0 0 0)
      (λ e. (
        record {
          a = omega arith;
          b = omega arith;
          c = omega arith;
          m = omega arith;
          shape = refl;
          range = rw (le-ltb 63 a (omega arith)) refl;
          checks = (collect-above a (has x.roles) a (omega arith), tt);
        },
        ap P2 (collect-next x.roles a e),
      ))
      (λ e. ap P2 (collect-skip x.roles a e))))

  -- ---- Kind 3: permissions.
  abbrev pub P3 : (ℕ → Maybe Permission) → Policy
  P3 g = whole (folk x.users x.roles bare) unranked (may g bare bare) (work nowhere bare no nowhere) unruled

  other-pair : (a : ℕ) (y : Permission) → k.declared a ≡ just y → (i : ℕ) → holds (is_for y.operation y.object) (mix k.declared nowhere a i) ≡ false
  unfolding holds is_for
  other-pair a y e i = go (ltb i a) refl
    where
      same : (z : Maybe Permission) → k.declared i ≡ z → i < a → holds (λ w. eqb w.operation y.operation && eqb w.object y.object) z ≡ false
      same none q l = refl
      same (just w) q l = differs (eqb w.operation y.operation && eqb w.object y.object) refl
        where
          differs : (b : Bool) → eqb w.operation y.operation && eqb w.object y.object ≡ b → b ≡ false
          differs true s =
              let d = both (eqb w.operation y.operation) _ s in
              let n = h.permissions.pairs i a w y q e (eqb-true _ _ d.0) (eqb-true _ _ d.1) in
              let c : ⊥ = omega arith in absurd c
          differs false s = refl

      go : (b : Bool) → ltb i a ≡ b → holds (λ w. eqb w.operation y.operation && eqb w.object y.object) (mix k.declared nowhere a i) ≡ false
      go true q = let l = ltb-true i a q in rw (mix-below k.declared nowhere a i l) (same (k.declared i) refl l)
      go false q = rw (mix-from k.declared nowhere a i (ltb-false i a q)) refl

  pub run-3 : Run (P3 nowhere) (in_turn 256 (λ a. of_there (λ y. row 3 0 a y.operation y.object 0) (k.declared a))) (P3 k.declared)
  unfolding chosen policy_kinds permission_checks permission_next policy_forms form_of misshapen misplaced out_of_range above holds
  run-3 =
      run-theres P3 k.declared 256 (λ a y. row 3 0 a y.operation y.object 0) (no-there k.declared 256 (λ i y e. (h.permissions.declared i y e).0))
      (λ a y l e. let d = h.permissions.declared a y e in (
        record {
          a = omega arith;
          b = d.1;
          c = d.2;
          m = omega arith;
          shape = refl;
          range = rw (le-ltb 255 a (omega arith)) refl;
          checks = (
            rw (
              mix-from k.declared nowhere a a (omega arith),
              below_none 256 (λ i. holds (is_for y.operation y.object) (mix k.declared nowhere a i)) (λ i q. other-pair a y e i),
            ) refl,
            tt,
          );
        },
        refl,
      ))

  -- ---- Kind 4: the roles of users.
  abbrev pub P4 : (ℕ → Set) → Policy
  P4 g = whole (folk x.users x.roles g) unranked (may k.declared bare bare) (work nowhere bare no nowhere) unruled

  pub run-4 : Run (P4 bare) (in_turn 1024 (λ a. in_turn 64 (λ b. when (has (x.assigned a) b) (row 4 0 a b 0 0)))) (P4 x.assigned)
  unfolding chosen policy_kinds assign_checks assign_next policy_forms form_of misshapen misplaced out_of_range above some
  run-4 = run-rows P4 x.assigned 1024 64 (λ a b. row 4 0 a b 0 0) (no-set x.assigned 1024 (λ u r e. h.people.users u (user-of u r e)))
      (λ a b e. role-small b (h.people.assigned a b e))
      (λ g a b l lb e f. (
        record {
          a = omega arith;
          b = omega arith;
          c = omega arith;
          m = omega arith;
          shape = refl;
          range = rw (le-ltb 1023 a (omega arith), le-ltb 63 b (omega arith)) refl;
          checks = (rw (user-of a b e, h.people.assigned a b e) refl, (f, (refl, tt)));
        },
        refl,
      ))

  -- ---- Kind 5: the permissions of roles.
  abbrev pub P5 : (ℕ → Set) → Policy
  P5 g = whole x unranked (may k.declared g bare) (work nowhere bare no nowhere) unruled

  pub run-5 : Run (P5 bare) (in_turn 64 (λ a. in_turn 256 (λ b. when (has (k.holders b) a) (row 5 0 a b 0 0)))) (P5 k.holders)
  unfolding chosen policy_kinds give_checks give_next policy_forms form_of misshapen misplaced out_of_range above
  run-5 = run-columns P5 k.holders 64 256 (λ a b. row 5 0 a b 0 0) (no-set k.holders 256 (λ i r e. permission-small i (h.permissions.holders i r e).1))
      (λ b a e. role-small a (h.permissions.holders b a e).0)
      (λ g a b l lb e f. let d = h.permissions.holders b a e in (
        record {
          a = omega arith;
          b = omega arith;
          c = omega arith;
          m = omega arith;
          shape = refl;
          range = rw (le-ltb 63 a (omega arith), le-ltb 255 b (omega arith)) refl;
          checks = (rw (d.0, d.1) refl, (f, tt));
        },
        refl,
      ))

  -- ---- Kind 6: tasks.
  abbrev pub P6 : (ℕ → Maybe ℕ) → Policy
  P6 g = whole x unranked (may k.declared k.holders bare) (work g bare no nowhere) unruled

  pub run-6 : Run (P6 nowhere) (in_turn 64 (λ a. of_there (λ j. row 6 0 a j 0 0) (t.template a))) (P6 t.template)
  unfolding chosen policy_kinds task_checks task_next policy_forms form_of misshapen misplaced out_of_range above holds
  run-6 = run-theres P6 t.template 64 (λ a j. row 6 0 a j 0 0) (no-there t.template 64 (λ i j e. (h.tasks.template i j e).0))
      (λ a j l e. let d = (h.tasks.template a j e).1 in (
        record {
          a = omega arith;
          b = omega arith;
          c = omega arith;
          m = omega arith;
          shape = refl;
          range = rw (le-ltb 63 a (omega arith), le-ltb 15 j (omega arith)) refl;
          checks = (rw (mix-from t.template nowhere a a (omega arith)) refl, tt);
        },
        refl,
      ))

  -- ---- Kind 7: the roles that tasks are open to.
  abbrev pub P7 : (ℕ → Set) → Policy
  P7 g = whole x unranked (may k.declared k.holders bare) (work t.template g no nowhere) unruled

  pub run-7 : Run (P7 bare) (in_turn 64 (λ a. in_turn 64 (λ b. when (has (t.open_to a) b) (row 7 0 a b 0 0)))) (P7 t.open_to)
  unfolding chosen policy_kinds open_to_checks open_to_next policy_forms form_of misshapen misplaced out_of_range above
  run-7 = run-rows P7 t.open_to 64 64 (λ a b. row 7 0 a b 0 0) (no-set t.open_to 64 (λ a b e. task-small a (h.tasks.open_to a b e).0))
      (λ a b e. role-small b (h.tasks.open_to a b e).1)
      (λ g a b l lb e f. let d = h.tasks.open_to a b e in (
        record {
          a = omega arith;
          b = omega arith;
          c = omega arith;
          m = omega arith;
          shape = refl;
          range = rw (le-ltb 63 a (omega arith), le-ltb 63 b (omega arith)) refl;
          checks = (rw (d.0, d.1) refl, (f, tt));
        },
        refl,
      ))

  -- ---- Kind 8: the permissions that tasks carry.
  abbrev pub P8 : (ℕ → Set) → Policy
  P8 g = whole x unranked (may k.declared k.holders g) (work t.template t.open_to no nowhere) unruled

  pub run-8 : Run (P8 bare) (in_turn 64 (λ a. in_turn 256 (λ b. when (has (k.carriers b) a) (row 8 0 a b 0 0)))) (P8 k.carriers)
  unfolding chosen policy_kinds carries_checks carries_next policy_forms form_of misshapen misplaced out_of_range above
  run-8 =
      run-columns P8 k.carriers 64 256 (λ a b. row 8 0 a b 0 0) (no-set k.carriers 256 (λ i r e. permission-small i (h.permissions.carriers i r e).1))
      (λ b a e. task-small a (h.permissions.carriers b a e).0)
      (λ g a b l lb e f. let d = h.permissions.carriers b a e in (
        record {
          a = omega arith;
          b = omega arith;
          c = omega arith;
          m = omega arith;
          shape = refl;
          range = rw (le-ltb 63 a (omega arith), le-ltb 255 b (omega arith)) refl;
          checks = (rw (d.0, d.1) refl, (f, tt));
        },
        refl,
      ))
