-- Writing rules, bans, count limits and walls, kinds 9 to 16 and 18: the records of tables that are ready are accepted and lead to those tables.
use Prim.Native.Nat.{ℕ, ◌<◌, ◌≤◌, ◌^◌, ◌%◌}
use mathlib.Core.Path.{◌≡◌, refl, ap, subst, ◌∙◌}
use mathlib.Core.Bool.{Bool, true, false, not, ◌&&◌}
use mathlib.Core.List.{List, [], ◌∷◌}
use native.Mathlib.Omega.{arith}
use borrow.Author.Tests.{le-ltb}
use Rattle.paper_lower.specs.Sets.{Set, has, overlap, within}
use Rattle.paper_lower.specs.Lists.{some_number_below, Maybe, holds, there, add, each, Every}
use Rattle.paper_lower.specs.Forms.{policy_forms, form_of, misplaced, above, misshapen, out_of_range}
use Rattle.paper_lower.specs.Kinds.{chosen}
use Rattle.paper_lower.specs.Tables.{Limit, Block, Pair, People, Permissions, Tasks, Rules, Policy, with_walls}
use Rattle.paper_lower.specs.Policy.{down, breaks, declared_tasks, tasks_of, has_task, one_template, static_checks, static_next, dynamic_checks, dynamic_next, task_set_checks, task_set_next, block_checks, block_next, ban_checks, ban_next, most_checks, most_next, bind_checks, bind_next, before_checks, before_next, wall_checks, wall_next, policy_kinds}
use Rattle.paper_lower.specs.Records.{Record}
use Rattle.paper_lower.specs.Written.{in_turn, when, of_there, row}
use Rattle.paper_lower.proofs.ListLaws.{and-false, below_none, every-pull}
use Rattle.sets.proofs.SetLaws.{below-members, collect-lt, within_has, member_below}
use Rattle.sets.proofs.DownLaws.{down-alone}
use Rattle.theorems.proofs.Loads.{step}
use Rattle.theorems.proofs.Roles.{Within}
use Rattle.theorems.proofs.WrittenRuns.{Clean, Run, Prefixed, nowhere, run-marks, run-theres, run-rules, mix-from}
use Rattle.theorems.proofs.WrittenReady.{SetOk, TaskSetOk, BlockOk, BindingOk, BeforeOk, WallOk, Ready}
use Rattle.theorems.proofs.WrittenStages.{whole, work, no, unranked, no-mark, no-there, role-small, task-small}

-- A further property of every element.
pub prefixed-with : {A : Type 0} (P : List A → A → Type 0) (Q : A → Type 0) (acc xs : List A) → Prefixed P acc xs → Every Q xs →
    Prefixed (λ acc x. P acc x × Q x) acc xs
prefixed-with P Q acc [] h k = tt
prefixed-with P Q acc (x ∷ xs) h k = ((h.0, k.0), prefixed-with P Q (add acc x) xs h.1 k.1)

-- n is below 256 and is written whole.
whole-byte : (P : List Limit → Policy) (make : ℕ → ℕ → ℕ → ℕ → ℕ → Record) (acc : List Limit) (l : Limit) → l.n < 256
    → Clean (P acc) (make l.n 0 0 0 l.members) × (step (P acc) (make l.n 0 0 0 l.members) ≡ P (add acc l))
    → Clean (P acc) (make (l.n % 256) 0 0 0 l.members) × (step (P acc) (make (l.n % 256) 0 0 0 l.members) ≡ P (add acc l))
whole-byte P make acc l small x =
    let e : l.n ≡ l.n % 256 = omega arith in
    subst (λ (n : ℕ). Clean (P acc) (make n 0 0 0 l.members) × (step (P acc) (make n 0 0 0 l.members) ≡ P (add acc l))) e x

-- The rules with these lists.
abbrev pub ruled : List Limit → List Limit → List Limit → List Block → List Pair → List Pair → Rules
ruled s d ts b bi be = record { statics = s; dynamics = d; task_sets = ts; blocks = b; bindings = bi; befores = be }

module _ (p : Policy) (h : Ready p) (hold : (u : ℕ) → Within p.rules.statics (p.people.assigned u)) where
  abbrev x : People
  x = p.people

  abbrev k : Permissions
  k = p.permissions

  abbrev t : Tasks
  t = p.tasks

  abbrev ru : Rules
  ru = p.rules

  -- The tasks before bans and count limits are written.
  abbrev unmarked : Tasks
  unmarked = work t.template t.open_to no nowhere

  roles-lt : (m : Set) → within m x.roles ≡ true → m < 2 ^ 64
  roles-lt m e = below-members 64 m (no-mark (has m) 64 (λ i q. role-small p h i (within_has m x.roles i e q)))

  tasks-lt : (m : Set) → within m (declared_tasks t) ≡ true → m < 2 ^ 64
  unfolding declared_tasks
  tasks-lt m e =
      below-members 64 m
      (no-mark (has m) 64 (λ i q. member_below 64 (declared_tasks t) i (collect-lt 64 (λ i. there (t.template i))) (within_has m (declared_tasks t) i e q)))

  -- ---- Kind 9: static sets, while no role is above another.
  abbrev pub P9 : List Limit → Policy
  P9 acc = whole x unranked k unmarked (ruled acc [] [] [] [] [])

  unbroken : (l : Limit) → ((u : ℕ) → overlap l.members (x.assigned u) ≤ l.n)
      → some_number_below 1024 (λ u. x.users u && breaks (down unranked (x.assigned u)) l) ≡ false
  unfolding breaks
  unbroken l f = below_none 1024 (λ u. x.users u && breaks (down unranked (x.assigned u)) l)
      (λ u q. ap (λ (m : Set). x.users u && breaks m l) (down-alone unranked (x.assigned u) (λ r b e. refl))
      ∙ ap (λ (b : Bool). x.users u && b) (le-ltb l.n (overlap l.members (x.assigned u)) (f u)) ∙ and-false (x.users u))

  pub run-9 : Run (P9 []) (each (λ l. row 9 (l.n % 256) 0 0 0 l.members) ru.statics) (P9 ru.statics)
  unfolding chosen policy_kinds static_checks static_next policy_forms form_of misshapen misplaced out_of_range above
  run-9 =
      run-rules P9 (λ acc l. SetOk x.roles acc l × ((u : ℕ) → overlap l.members (x.assigned u) ≤ l.n)) (λ l. row 9 (l.n % 256) 0 0 0 l.members)
      (λ acc l q. whole-byte P9 (row 9) acc l q.0.4 (
        record {
          a = omega arith;
          b = omega arith;
          c = omega arith;
          m = roles-lt l.members q.0.0;
          shape = refl;
          range = refl;
          checks = (ap not q.0.0, (q.0.1, (q.0.2, (unbroken l q.1, (q.0.3, tt)))));
        },
        refl,
      ))
      [] ru.statics
      (prefixed-with (SetOk x.roles) (λ l. (u : ℕ) → overlap l.members (x.assigned u) ≤ l.n) [] ru.statics h.rules.statics
      (every-pull (λ (u : ℕ) l. overlap l.members (x.assigned u) ≤ l.n) ru.statics hold))

  -- ---- Kind 10: dynamic sets.
  abbrev pub P10 : List Limit → Policy
  P10 acc = whole x unranked k unmarked (ruled ru.statics acc [] [] [] [])

  pub run-10 : Run (P10 []) (each (λ l. row 10 (l.n % 256) 0 0 0 l.members) ru.dynamics) (P10 ru.dynamics)
  unfolding chosen policy_kinds dynamic_checks dynamic_next policy_forms form_of misshapen misplaced out_of_range above
  run-10 =
      run-rules P10 (SetOk x.roles) (λ l. row 10 (l.n % 256) 0 0 0 l.members)
      (λ acc l q. whole-byte P10 (row 10) acc l q.4 (
        record {
          a = omega arith;
          b = omega arith;
          c = omega arith;
          m = roles-lt l.members q.0;
          shape = refl;
          range = refl;
          checks = (ap not q.0, (q.1, (q.2, (q.3, tt))));
        },
        refl,
      ))
      [] ru.dynamics h.rules.dynamics

  -- ---- Kind 11: task sets.
  abbrev pub P11 : List Limit → Policy
  P11 acc = whole x unranked k unmarked (ruled ru.statics ru.dynamics acc [] [] [])

  pub run-11 : Run (P11 []) (each (λ l. row 11 (l.n % 256) 0 0 0 l.members) ru.task_sets) (P11 ru.task_sets)
  unfolding chosen policy_kinds task_set_checks task_set_next policy_forms form_of misshapen misplaced out_of_range above declared_tasks one_template tasks_of
  run-11 =
      run-rules P11 (TaskSetOk t) (λ l. row 11 (l.n % 256) 0 0 0 l.members)
      (λ acc l q. whole-byte P11 (row 11) acc l q.5 (
        record {
          a = omega arith;
          b = omega arith;
          c = omega arith;
          m = tasks-lt l.members q.0;
          shape = refl;
          range = refl;
          checks = (ap not q.0, (q.1, (rw (q.2, q.3) refl, (q.4, tt))));
        },
        refl,
      ))
      [] ru.task_sets h.rules.task_sets

  -- ---- Kind 12: blocks.
  abbrev pub P12 : List Block → Policy
  P12 acc = whole x unranked k unmarked (ruled ru.statics ru.dynamics ru.task_sets acc [] [])

  pub run-12 : Run (P12 []) (each (λ y. row 12 0 y.partitioning 0 0 y.tasks) ru.blocks) (P12 ru.blocks)
  unfolding chosen policy_kinds block_checks block_next policy_forms form_of misshapen misplaced out_of_range above declared_tasks one_template tasks_of
  run-12 =
      run-rules P12 (BlockOk t) (λ y. row 12 0 y.partitioning 0 0 y.tasks)
      (λ acc y q. let s = q.0 in (
        record {
          a = omega arith;
          b = omega arith;
          c = omega arith;
          m = tasks-lt y.tasks q.1;
          shape = refl;
          range = rw (le-ltb 15 y.partitioning (omega arith)) refl;
          checks = (ap not q.1, (q.2, (rw (q.3, q.4, q.5) refl, (q.6, tt))));
        },
        refl,
      ))
      [] ru.blocks h.rules.blocks

  -- ---- Kind 13: bans.
  abbrev cut : Rules
  cut = ruled ru.statics ru.dynamics ru.task_sets ru.blocks [] []

  abbrev pub P13 : (ℕ → Bool) → Policy
  P13 g = whole x unranked k (work t.template t.open_to g nowhere) cut

  pub run-13 : Run (P13 no) (in_turn 16 (λ a. when (t.banned a) (row 13 0 a 0 0 0))) (P13 t.banned)
  unfolding chosen policy_kinds ban_checks ban_next policy_forms form_of misshapen misplaced out_of_range above has_task tasks_of
  run-13 = run-marks P13 t.banned 16 (λ a. row 13 0 a 0 0 0) (no-mark t.banned 16 (λ j e. (h.tasks.banned j e).0))
      (λ g a l e f. (
        record {
          a = omega arith;
          b = omega arith;
          c = omega arith;
          m = omega arith;
          shape = refl;
          range = rw (le-ltb 15 a (omega arith)) refl;
          checks = (ap not (h.tasks.banned a e).1, (f, tt));
        },
        refl,
      ))

  -- ---- Kind 14: count limits.
  abbrev pub P14 : (ℕ → Maybe ℕ) → Policy
  P14 g = whole x unranked k (work t.template t.open_to t.banned g) cut

  pub run-14 : Run (P14 nowhere) (in_turn 64 (λ a. of_there (λ n. row 14 n a 0 0 0) (t.most a))) (P14 t.most)
  unfolding chosen policy_kinds most_checks most_next policy_forms form_of misshapen misplaced out_of_range above holds
  run-14 = run-theres P14 t.most 64 (λ a n. row 14 n a 0 0 0) (no-there t.most 64 (λ i n e. task-small p h i (h.tasks.most i n e).0))
      (λ a n l e. let d = h.tasks.most a n e in (
        record {
          a = omega arith;
          b = omega arith;
          c = omega arith;
          m = omega arith;
          shape = refl;
          range = rw (le-ltb 63 a (omega arith)) refl;
          checks = (ap not d.0, (rw (mix-from t.most nowhere a a (omega arith)) refl, (d.1, tt)));
        },
        refl,
      ))

  -- ---- Kind 15: bindings.
  abbrev pub P15 : List Pair → Policy
  P15 acc = whole x unranked k t (ruled ru.statics ru.dynamics ru.task_sets ru.blocks acc [])

  pub run-15 : Run (P15 []) (each (λ y. row 15 0 y.a y.b 0 0) ru.bindings) (P15 ru.bindings)
  unfolding chosen policy_kinds bind_checks bind_next policy_forms form_of misshapen misplaced out_of_range above
  run-15 =
      run-rules P15 (BindingOk t) (λ y. row 15 0 y.a y.b 0 0)
      (λ acc y q.
      let la = task-small p h y.a q.0.0 in
      let lb = task-small p h y.b q.0.1 in (
        record {
          a = omega arith;
          b = omega arith;
          c = omega arith;
          m = omega arith;
          shape = refl;
          range = rw (le-ltb 63 y.a (omega arith), le-ltb 63 y.b (omega arith)) refl;
          checks = (rw (q.0.0, q.0.1) refl, (q.1, (rw (q.0.2, q.0.3) refl, (q.2, tt))));
        },
        refl,
      ))
      [] ru.bindings h.rules.bindings

  -- ---- Kind 16: prerequisites.
  abbrev pub P16 : List Pair → Policy
  P16 acc = whole x unranked k t (ruled ru.statics ru.dynamics ru.task_sets ru.blocks ru.bindings acc)

  pub run-16 : Run (P16 []) (each (λ y. row 16 0 y.a y.b 0 0) ru.befores) (P16 ru.befores)
  unfolding chosen policy_kinds before_checks before_next policy_forms form_of misshapen misplaced out_of_range above
  run-16 =
      run-rules P16 (BeforeOk t) (λ y. row 16 0 y.a y.b 0 0)
      (λ acc y q.
      let la = task-small p h y.a q.0.0 in
      let lb = task-small p h y.b q.0.1 in (
        record {
          a = omega arith;
          b = omega arith;
          c = omega arith;
          m = omega arith;
          shape = refl;
          range = rw (le-ltb 63 y.a (omega arith), le-ltb 63 y.b (omega arith)) refl;
          checks = (rw (q.0.0, q.0.1) refl, (q.1, (rw (q.0.2, q.0.3) refl, (q.2, tt))));
        },
        refl,
      ))
      [] ru.befores h.rules.befores

-- ---- Kind 18: walls, which are written last.
pub run-18 : (p : Policy) → Ready p → Run (with_walls p []) (each (λ y. row 18 0 y.wall y.block y.object 0) p.walls) p
unfolding chosen policy_kinds wall_checks wall_next policy_forms form_of misshapen misplaced out_of_range above
run-18 p h =
    run-rules (λ acc. with_walls p acc) WallOk (λ y. row 18 0 y.wall y.block y.object 0)
    (λ acc y q.
    let la = q.0 in
    let lb = q.1 in (
      record {
        a = omega arith;
        b = omega arith;
        c = q.2;
        m = omega arith;
        shape = refl;
        range = rw (le-ltb 15 y.wall (omega arith), le-ltb 15 y.block (omega arith)) refl;
        checks = (q.3, (q.4, (q.5, tt)));
      },
      refl,
    ))
    [] p.walls h.walls
