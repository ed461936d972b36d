-- Test cases for 02, Ask 13. A row has a policy, one of its templates, and the expected figures.
use Rattle.std.specs.Prelude.{ℕ, Bool, true, false, ◌&&◌, ◌≡◌, refl, List, [], ◌∷◌, ◌++◌, eqb}
use Rattle.std.proofs.Common.{true≢false, lit<}
use Rattle.std.proofs.lemmas.Bool.{false≢true}
use Rattle.paper_lower.specs.Sets.{empty}
use Rattle.paper_lower.specs.Lists.{every}
use Rattle.paper_lower.specs.Checks.{GRANTED, RULE}
use Rattle.paper_lower.specs.Records.{Bytes}
use Rattle.paper_lower.specs.Tables.{Pair}
use Rattle.paper_lower.specs.Load.{load}
use Rattle.paper_lower.specs.Words.{joined, words_open, task, is_before}
use Rattle.paper_lower.specs.Sessions.{lower_open}
use Rattle.paper_upper.specs.Rules.{rules_open}
use Rattle.paper_upper.specs.Stuck.{Orderly, Lowest, stuck_of, stuck_open}

-- A row of the table.
pub record Told : Type 0 where
  pub policy : List Bytes
  pub template : ℕ
  pub figures : List ℕ

-- The row with these parts.
abbrev pub tells : List Bytes → ℕ → List ℕ → Told
tells policy template figures = record { policy = policy; template = template; figures = figures }

-- Tasks 4 to 7 of template 0.
unfoldable pub four_to : List Bytes
four_to = task 4 0 ∷ task 5 0 ∷ task 6 0 ∷ task 7 0 ∷ []

-- A circle of prerequisites: "Planning wrote task 4 before 5, 5 before 6, 6 before 4"
unfoldable pub circle : List Bytes
circle = is_before 4 5 ∷ is_before 5 6 ∷ is_before 6 4 ∷ []

-- Tasks 0 to 3 of template 0.
unfoldable pub beside : List Bytes
beside = task 0 0 ∷ task 1 0 ∷ task 2 0 ∷ task 3 0 ∷ []

-- The table. The figures are the set of stuck tasks, the number of free tasks, and the free tasks in their order.
unfoldable pub told : List Told
told =
    -- Tasks 4, 5 and 6 are stuck; task 7, which has no prerequisite, is free.
    tells (four_to ++ circle) 0 (112 ∷ 1 ∷ 7 ∷ [])
    -- Task 3 depends on the circle and is stuck too. Each place has the lowest task: 1 stands before 2, although 0 can only follow 2.
    ∷ tells (beside ++ four_to ++ circle ++ (is_before 2 0 ∷ is_before 4 3 ∷ [])) 0 (120 ∷ 4 ∷ 1 ∷ 2 ∷ 0 ∷ 7 ∷ [])
    -- A chain of prerequisites, given from its last task to its first.
    ∷ tells (beside ++ (is_before 1 0 ∷ is_before 2 1 ∷ is_before 3 2 ∷ [])) 0 (0 ∷ 4 ∷ 3 ∷ 2 ∷ 1 ∷ 0 ∷ [])
    -- Two prerequisites of one task: both stand before it. If one of them is stuck, the task is stuck.
    ∷ tells (beside ++ (is_before 3 0 ∷ is_before 2 0 ∷ [])) 0 (0 ∷ 4 ∷ 1 ∷ 2 ∷ 3 ∷ 0 ∷ [])
    ∷ tells (beside ++ four_to ++ circle ++ (is_before 2 7 ∷ is_before 6 7 ∷ [])) 0 (240 ∷ 4 ∷ 0 ∷ 1 ∷ 2 ∷ 3 ∷ [])
    -- Two tasks that wait for each other: nothing is free.
    ∷ tells (task 0 0 ∷ task 1 0 ∷ is_before 0 1 ∷ is_before 1 0 ∷ []) 0 (3 ∷ 0 ∷ [])
    -- Tasks of other templates do not count. The highest template and the highest task.
    ∷ tells (task 0 0 ∷ task 9 15 ∷ task 63 15 ∷ []) 15 (0 ∷ 2 ∷ 9 ∷ 63 ∷ [])
    -- A template without tasks.
    ∷ tells beside 1 (0 ∷ 0 ∷ [])
    ∷ []

-- Whether two lists of figures are equal.
unfoldable pub same_figures : List ℕ → List ℕ → Bool
same_figures [] [] = true
same_figures [] (k ∷ ks) = false
same_figures (x ∷ xs) [] = false
same_figures (x ∷ xs) (k ∷ ks) = eqb x k && same_figures xs ks

-- Whether a row holds, and the policy loads: "The load goes on accepting such policies."
unfoldable pub told_so : Told → Bool
told_so c =
    eqb (load (joined c.policy)).reply GRANTED
    && same_figures (stuck_of (load (joined c.policy)).tables.tasks (load (joined c.policy)).tables.rules c.template) c.figures

-- Every row of the table holds.
pub all_told : every told_so told ≡ true
unfolding lower_open words_open rules_open stuck_open four_to circle beside told same_figures told_so
all_told = refl

-- A prerequisite between tasks of two templates is RULE.
pub across : (load (joined (task 0 0 ∷ task 1 1 ∷ is_before 0 1 ∷ []))).reply ≡ RULE
unfolding lower_open words_open
across = refl

-- ---- Examples of the lists that Ask 13 describes, of tasks 0 and 1 with 0 before 1, and of both tasks without a prerequisite.
abbrev zero_first : List Pair
zero_first = record { a = 0; b = 1 } ∷ []

-- 0 and then 1 is such a list.
in_order : Orderly 3 zero_first empty (0 ∷ 1 ∷ [])
unfolding lower_open rules_open stuck_open
in_order = (refl, refl, refl, (refl, refl, refl, tt))

-- 1 and then 0 is not, as 0 is required before 1.
not_behind : Orderly 3 zero_first empty (1 ∷ 0 ∷ []) → ⊥
unfolding lower_open rules_open stuck_open
not_behind o = false≢true o.2

-- A list must not have a task twice.
not-twice : Orderly 3 [] empty (0 ∷ 0 ∷ []) → ⊥
unfolding lower_open rules_open stuck_open
not-twice o = true≢false o.3.1

-- 1 and then 0 is not the lowest list if both could stand first.
not-the-higher : Lowest 3 [] empty (1 ∷ 0 ∷ []) → ⊥
unfolding lower_open rules_open stuck_open
not-the-higher l = true≢false (l.0 0 (lit< tt))
