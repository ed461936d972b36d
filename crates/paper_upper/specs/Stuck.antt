-- 02, Ask 13: orders that can never finish. "Add kind 60, a question about template a: which of its tasks can never be claimed because of prerequisites." In
-- this file m is the set of tasks of the template, `befores` the prerequisites of the policy, and `had` the tasks that come earlier in a list.
use Rattle.std.specs.Prelude.{ℕ, zero, suc, ◌<◌, ◌≡◌, Bool, true, false, not, cond, ◌&&◌, List, [], ◌∷◌, ◌++◌, eqb}
use Rattle.paper_lower.specs.Sets.{Set, empty, has, plus, collect}
use Rattle.paper_lower.specs.Lists.{Maybe, some, many}
use Rattle.paper_lower.specs.Lists.Maybe.{none, just}
use Rattle.paper_lower.specs.Tables.{Tasks, Pair, Rules}
use Rattle.paper_lower.specs.Policy.{tasks_of}
use Rattle.paper_upper.specs.Rules.{missing}

-- Whether every prerequisite of task t is in `had`.
unfoldable pub ready : List Pair → Set → ℕ → Bool
ready befores had t = not (some (missing had t) befores)

module _ (m : Set) (befores : List Pair) where
  -- The statement that a list can follow the tasks in `had`: "some list of distinct
  -- tasks of the template .. has each member's prerequisites earlier in the list"
  abbrev pub Orderly : Set → List ℕ → Type 0
  Orderly had [] = Unit {0}
  Orderly had (t ∷ ts) = (has m t ≡ true) × (has had t ≡ false) × (ready befores had t ≡ true) × Orderly (plus had t) ts

  -- Task t is free: "A task is free if some list .. ends in it"
  abbrev pub Free : ℕ → Type 0
  Free t = (ts : List ℕ) × Orderly empty (ts ++ (t ∷ []))

  -- ---- "such a list of all free ones, at each place the lowest number that may stand there"

  -- Whether task t may come next after the tasks in `had`.
  unfoldable pub may : Set → ℕ → Bool
  may had t = has m t && not (has had t) && ready befores had t

  -- The statement that no lower task could stand at any place of the list.
  abbrev pub Lowest : Set → List ℕ → Type 0
  Lowest had [] = Unit {0}
  Lowest had (t ∷ ts) = ((u : ℕ) → u < t → may had u ≡ false) × Lowest (plus had t) ts

-- The lowest of the n numbers from k on for which f holds, if there is one.
unfoldable pub lowest_from : ℕ → ℕ → (ℕ → Bool) → Maybe ℕ
lowest_from k zero f = none
lowest_from k (suc n) f = cond (f k) (just k) (lowest_from (suc k) n f)

-- A task followed by the rest of the list, or the end of the list if there is no task.
unfoldable pub go_on : (Set → List ℕ) → Set → Maybe ℕ → List ℕ
go_on rest had none = []
go_on rest had (just t) = t ∷ rest (plus had t)

-- The list of at most n tasks in which each is the lowest that may come next.
unfoldable pub free_from : Set → List Pair → ℕ → Set → List ℕ
free_from m befores zero had = []
free_from m befores (suc n) had = go_on (free_from m befores n) had (lowest_from 0 64 (may m befores had))

-- The list of all free tasks. A template has at most 64 tasks, so 64 steps are enough.
unfoldable pub free_tasks : Set → List Pair → List ℕ
free_tasks m befores = free_from m befores 64 empty

-- The stuck tasks: "the others are stuck"
unfoldable pub stuck_tasks : Set → List Pair → Set
stuck_tasks m befores = collect 64 (λ t. has m t && not (some (eqb t) (free_tasks m befores)))

-- ---- "The reply gives the stuck ones as a set and such a list of all free ones": the words are the set, the number of free tasks, and the list.
abbrev pub stuck_figures : Set → List Pair → List ℕ
stuck_figures m befores = stuck_tasks m befores ∷ many (free_tasks m befores) ∷ free_tasks m befores

-- The words for template a.
unfoldable pub stuck_of : Tasks → Rules → ℕ → List ℕ
stuck_of k rules a = stuck_figures (tasks_of k a) rules.befores

-- Unfolds all definitions above at once, for proofs that compute a case.
unfoldable pub stuck_open : Unit {0}
unfolding ready may lowest_from go_on free_from free_tasks stuck_tasks stuck_of
stuck_open = tt
