-- How the code finds the list: the tasks that wait, a task that may be absent, and what the loop over the list leaves.
use Rattle.std.specs.Prelude.{ℕ, cond, ◌≡◌, List, [], ◌∷◌, set, Option, Some, None}
use Rattle.std.proofs.lemmas.List.Edits.{sets}
use Rattle.paper_lower.specs.Sets.{Set, empty, has, plus}
use Rattle.paper_lower.specs.Lists.{Maybe, many}
use Rattle.paper_lower.specs.Lists.Maybe.{none, just}
use Rattle.paper_lower.specs.Tables.{Pair}
use Rattle.paper_upper.specs.Stuck.{free_tasks}

-- The set `rest`, with the later task of the prerequisite x added unless the earlier one is in `had`.
abbrev pub waits : Set → Pair → Set → Set
waits had x rest = cond (has had x.a) rest (plus rest x.b)

-- The tasks that wait for a task that is not in `had`.
unfoldable pub waiting : Set → List Pair → Set
waiting had [] = empty
waiting had (x ∷ xs) = waits had x (waiting had xs)

-- A number that may be absent, as the code has it.
abbrev pub optional : Maybe ℕ → Option ℕ
optional none = None
optional (just t) = Some t

-- The set `had` with the tasks of a list added.
unfoldable pub having : Set → List ℕ → Set
having had [] = had
having had (t ∷ ts) = having (plus had t) ts

-- The words after the list was written, and the set of its tasks.
pub record Listed (m : Set) (befores : List Pair) (l l' : List ℕ) (had : Set) : Type 0 where
  pub words : l' ≡ set (sets l 2 (free_tasks m befores)) 1 (many (free_tasks m befores))
  pub taken : had ≡ having empty (free_tasks m befores)
