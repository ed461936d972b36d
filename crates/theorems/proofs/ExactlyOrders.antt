-- Requests 48, 49, 51, 52, 57, 58 and 60, and requests 33 and 41 with the checks of entries: each check applies exactly when specs/Exactly.antt says so.
use Prim.Native.Nat.{ℕ, ◌/◌, ◌%◌, ◌<◌}
use mathlib.Core.Path.{◌≡◌, refl, sym, ap, subst}
use mathlib.Core.Bool.{Bool, true, false, cond, ◌&&◌, ◌||◌, true≢false, false≢true}
use mathlib.Core.Logic.Iff
use mathlib.Core.Logic.{◌↔◌}
use mathlib.Core.List.{List, ◌++◌}
use native.Mathlib.Omega.{arith}
use lib.Dec.{eqb}
use Rattle.paper_lower.specs.Sets.{has}
use Rattle.paper_lower.specs.Lists.{Maybe, some_number_below, holds, there, is, some}
use Rattle.paper_lower.specs.Lists.Maybe.{just}
use Rattle.paper_lower.specs.Checks.{first}
use Rattle.paper_lower.specs.Records.{Record}
use Rattle.paper_lower.specs.Policy.{is_for, tasks_of, has_task}
use Rattle.paper_lower.specs.Roles.{subject_of, delete_checks}
use Rattle.paper_lower.specs.Sessions.{destroy_checks}
use Rattle.paper_upper.specs.Orders.{Standing, is_held, is_held_by, Engine, are_in_order, of_task, held_of}
use Rattle.paper_upper.specs.Orders.Standing.{held, done}
use Rattle.paper_upper.specs.Requests.{delete_above, destroy_above, open_checks, end_checks, unknown, hold_checks, carried, task_check_checks, figures_checks, stuck_checks}
use Rattle.sets.proofs.SetLaws.{some-collected}
use Rattle.theorems.specs.OverEntries.{of_kind}
use Rattle.theorems.specs.Theorems.{shown, fixed}
use Rattle.theorems.specs.Walls.{Commits}
use Rattle.theorems.specs.Exactly.{Known, GivenExactly, TaskOf, Carries, HasTask, PermissionFor, Open, AnEntry, Held, deleting, destroying, opening, ending, UnknownTask, leaving, task_checking, figures, stuck}
use Rattle.theorems.proofs.Keeps.{Kept, LowerKept}
use Rattle.theorems.proofs.Reflects.{either, together, all_three, negated, same, is_same, turned_same, as-test, some-any, any-map, any-choose, some-row, is-there, none_left, check}
use Rattle.theorems.proofs.Declared.{Declared}
use Rattle.theorems.proofs.ExactlyRoles.{live-subject, permission-for, small-permission}

-- ---- The standing of an entry: held, and by whom.
holder : Standing → ℕ
holder (held s) = s
holder done = 0

pub held_by : (a : ℕ) (x : Standing) → (is_held_by a x ≡ true) ↔ (x ≡ held a)
unfolding is_held_by is_held holder
held_by a (held s) = Iff.trans (is_same s a) (ap held, ap holder)
held_by a done = (λ e. absurd (false≢true e), λ e. absurd (true≢false (sym (ap is_held e))))

pub is-held : (x : Standing) → (is_held x ≡ true) ↔ ((s : ℕ) × (x ≡ held s))
unfolding is_held
is-held (held s) = (λ _. (s, refl), λ _. refl)
is-held done = (λ e. absurd (false≢true e), λ x. ap is_held x.1)

-- Two checks that give the same refusal may be joined to one.
merged : (a b : Bool) (n : ℕ) → cond (a || b) n 0 ≡ cond a n (cond b n 0)
merged true b n = refl
merged false b n = refl

pub open_at : (x : Maybe ℕ) → (there x ≡ true) ↔ ((j : ℕ) × (x ≡ just j))
open_at x = Iff.trans (is-there (λ _. true) x) (λ y. (y.0, y.1), λ y. (y.0, y.1, refl))

module _ (policy : List Record) (t : Engine) (kept : Kept policy t) (d : Declared policy (fixed t.lower.policy)) (y : Commits) where
  -- What an observer knows.
  abbrev pub all : Known
  all = record { policy = policy; told = shown t; commits = y }

  abbrev below : LowerKept policy t.lower
  below = (kept.0, kept.2)

  -- ---- The tasks of templates.
  pub task-of : (a j : ℕ) → (is j (t.lower.policy.tasks.template a) ≡ true) ↔ TaskOf all a j
  task-of a j =
      as-test (kept.0.made.template (λ n. eqb n j) a)
      (some-any (λ q. eqb a q.a && eqb q.b j) (λ q. (q.a ≡ a) × (q.b ≡ j)) (λ q. together _ _ (turned_same a q.a) (is_same q.b j))
      (of_kind 6 policy))

  pub small-task : (a j : ℕ) → TaskOf all a j → a < 64
  small-task a j h = let x = (is-there (λ n. eqb n j) (t.lower.policy.tasks.template a)).0 ((task-of a j).1 h) in kept.0.well.tasks a x.0 x.1

  has-task : (j : ℕ) → (has_task t.lower.policy.tasks j ≡ true) ↔ HasTask all j
  unfolding has_task tasks_of
  has-task j =
      as-test (sym (some-collected 64 (λ a. is j (t.lower.policy.tasks.template a))))
      (Iff.trans (some-row 64 (λ a. is j (t.lower.policy.tasks.template a)) (λ a. TaskOf all a j) (λ a l. task-of a j) (λ a h. small-task a j h)) (
        λ x. any-map (of_kind 6 policy) (λ q e. e.1) x.1,
        λ h. any-choose (λ a q. (q.a ≡ a) × (q.b ≡ j)) (of_kind 6 policy) (λ q e. (q.a, (refl, e))) h,
      ))

  -- ---- Requests 33 and 41.
  pub deleted : (r : Record) → GivenExactly (deleting all r) (first (delete_checks t.lower r.a ++ delete_above t r.a))
  unfolding delete_checks delete_above
  deleted r =
      check (omega arith) (omega arith) _ (negated _ same) (λ _.
      subst (GivenExactly _) (merged (some_number_below 128 (subject_of t.lower.sessions r.a)) _ 6)
      (check (omega arith) tt _ (either _ _ (live-subject policy t.lower below d t.orders y r.a)
      (some-any _ (λ e. (e.user ≡ r.a) × Open all e.instance) (λ e. together _ _ (is_same e.user r.a) (open_at (t.orders.opened e.instance)))
      t.orders.entries))
      (λ _. none_left)))

  pub destroyed : (r : Record) → GivenExactly (destroying all r) (first (destroy_checks t.lower r.a ++ destroy_above t r.a))
  unfolding destroy_checks destroy_above
  destroyed r =
      check (omega arith) (omega arith) _ (negated _ same) (λ _.
      check (omega arith) tt _ (some-any _ (λ e. e.standing ≡ held r.a) (λ e. held_by r.a e.standing) t.orders.entries) (λ _. none_left))

  -- ---- Instances: requests 48 and 49; and release and done, requests 51 and 52.
  pub opened : (r : Record) → GivenExactly (opening all r) (first (open_checks t r.a r.b))
  unfolding open_checks
  opened r =
      check (omega arith) (omega arith) _ (negated _ (has-task r.b)) (λ _.
      check (omega arith) tt _ (open_at (t.orders.opened r.a)) (λ _. none_left))

  pub ended : (r : Record) → GivenExactly (ending all r) (first (end_checks t r.a))
  unfolding end_checks are_in_order
  ended r =
      check (omega arith) (omega arith) _ (negated _ (open_at (t.orders.opened r.a))) (λ _.
      check (omega arith) tt _
      (some-any _ (λ e. (e.instance ≡ r.a) × Held all e) (λ e. together _ _ (is_same e.instance r.a) (is-held e.standing)) t.orders.entries)
      (λ _. none_left))

  pub unknown-task : (r : Record) → (unknown t r.a r.b r.c ≡ true) ↔ UnknownTask all r
  unfolding unknown
  unknown-task r =
      either _ _ (negated _ same) (negated _ (Iff.trans (is-there (λ j. is j (t.lower.policy.tasks.template r.c)) (t.orders.opened r.b)) (
        λ x. (x.0, x.1, (task-of r.c x.0).0 x.2),
        λ x. (x.0, x.1, (task-of r.c x.0).1 x.2),
      )))

  held-there : (r : Record) → (some (held_of r.b r.c r.a) t.orders.entries ≡ true)
      ↔ AnEntry all (λ e. (e.instance ≡ r.b) × (e.task ≡ r.c) × (e.standing ≡ held r.a))
  unfolding held_of of_task are_in_order
  held-there r =
      some-any (held_of r.b r.c r.a) (λ e. (e.instance ≡ r.b) × (e.task ≡ r.c) × (e.standing ≡ held r.a))
      (λ e. all_three _ _ _ (is_same e.instance r.b) (is_same e.task r.c) (held_by r.a e.standing)) t.orders.entries

  pub left : (r : Record) → GivenExactly (leaving all r) (first (hold_checks t r.a r.b r.c))
  unfolding hold_checks
  left r =
      check (omega arith) (omega arith) _ (unknown-task r) (λ _.
      check (omega arith) tt _ (negated _ (held-there r)) (λ _. none_left))

  -- ---- The task check, request 57.
  carries : (a b : ℕ) → (has (t.lower.policy.permissions.carriers b) a ≡ true) ↔ Carries all a b
  carries a b =
      as-test (d.carriers a b)
      (some-any (λ q. eqb b q.b && eqb a q.a) (λ q. (q.a ≡ a) × (q.b ≡ b))
      (λ q. Iff.trans (together _ _ (turned_same b q.b) (turned_same a q.a)) (λ x. (x.1, x.0), λ x. (x.1, x.0))) (of_kind 8 policy))

  may-carry : (a b c : ℕ) → (carried t.lower.policy.permissions a b c ≡ true) ↔ ((p : ℕ) × PermissionFor all p b c × Carries all a p)
  unfolding carried
  may-carry a b c = Iff.trans
      (some-row 256 (λ p. holds (is_for b c) (t.lower.policy.permissions.declared p) && has (t.lower.policy.permissions.carriers p) a)
      (λ p. PermissionFor all p b c × Carries all a p)
      (λ p l. together _ _ (permission-for policy t.lower below d t.orders y p b c) (carries a p))
      (λ p x. small-permission policy t.lower below d t.orders y p b c x.0))
      (λ x. (x.0, x.1.0, x.1.1), λ x. (x.0, (x.1, x.2)))

  pub task-checked : (r : Record) → GivenExactly (task_checking all r) (first (task_check_checks t r.a r.b r.c r.m))
  unfolding task_check_checks hold_checks
  task-checked r =
      check (omega arith) (omega arith) _ (unknown-task r) (λ _.
      check (omega arith) (omega arith) _ (negated _ (held-there r)) (λ _.
      check (omega arith) tt _ (negated _ (may-carry r.c (r.m % 65536) (r.m / 65536))) (λ _. none_left)))

  -- ---- The questions, requests 58 and 60.
  pub figured : (r : Record) → GivenExactly (figures all r) (first (figures_checks t r.a))
  unfolding figures_checks
  figured r = check (omega arith) tt _ (negated _ (open_at (t.orders.opened r.a))) (λ _. none_left)

  pub stuck-asked : (r : Record) → GivenExactly (stuck all r) (first (stuck_checks t.lower.policy.tasks r.a))
  unfolding stuck_checks
  stuck-asked r = check (omega arith) tt _ (negated _ (has-task r.a)) (λ _. none_left)
