-- 02, Ask 13: what follows from the definitions of paper_upper/specs/Stuck.antt, for the tasks m of a template and the policy's prerequisites.
use Rattle.std.specs.Prelude.{ℕ, ◌<◌, ◌^◌, ◌≡◌, ◌↔◌, Bool, true, not, ◌&&◌, List, [], ◌∷◌, ◌++◌, eqb}
use Rattle.paper_lower.specs.Sets.{Set, empty, has, plus}
use Rattle.paper_lower.specs.Lists.{some, Every}
use Rattle.paper_lower.specs.Lists.Maybe.{just}
use Rattle.paper_lower.specs.Checks.{BEFORE}
use Rattle.paper_lower.specs.Records.{Bytes, Record, decode}
use Rattle.paper_lower.specs.Tables.{Pair, Rules}
use Rattle.paper_lower.specs.Policy.{tasks_of}
use Rattle.paper_lower.specs.Load.{load}
use Rattle.paper_upper.specs.Orders.{Orders, tasks_done}
use Rattle.paper_upper.specs.Rules.{before}
use Rattle.paper_upper.specs.Stuck.{Orderly, Free, Lowest, free_tasks, stuck_tasks}
use Rattle.theorems.specs.Theorems.{AfterEvery, told_after, reply_after, Fixed, fixed}

-- ---- "The reply gives the stuck ones as a set and such a list of all free ones"

-- The list and the set are what Ask 13 describes.
pub record Answered (m : Set) (befores : List Pair) : Type 0 where
  pub orderly : Orderly m befores empty (free_tasks m befores)
  pub lowest : Lowest m befores empty (free_tasks m befores)
  pub free : (t : ℕ) → Free m befores t ↔ (some (eqb t) (free_tasks m befores) ≡ true)
  pub stuck : (t : ℕ) → has (stuck_tasks m befores) t ≡ has m t && not (some (eqb t) (free_tasks m befores))

-- This holds for every set of tasks.
abbrev pub StuckAreTold : Type 0
StuckAreTold = (m : Set) (befores : List Pair) → m < 2 ^ 64 → Answered m befores

-- ---- What it is for: after every accepted load and any requests, no task with an entry is stuck.

-- The list of the free tasks of template j.
abbrev pub list_of : Fixed → ℕ → List ℕ
list_of p j = free_tasks (tasks_of p.tasks j) p.rules.befores

-- Whether task t is on that list.
abbrev pub on_list : Fixed → ℕ → ℕ → Bool
on_list p j t = some (eqb t) (list_of p j)

-- Every entry of an open order is of a free task.
abbrev pub NoneStuck : Fixed → Orders → Type 0
NoneStuck p o = Every (λ e. (j : ℕ) → o.opened e.instance ≡ just j → on_list p j e.task ≡ true) o.entries

-- This holds after every accepted load and any requests.
abbrev pub StuckAreNeverEntered : Type 0
StuckAreNeverEntered =
    AfterEvery (λ policy requests. NoneStuck (fixed (load policy).tables) (told_after policy requests).orders)

-- BEFORE refuses no task of a list if the tasks before it on the list are done.
abbrev pub Passes : Rules → Set → List ℕ → Type 0
Passes k had [] = Unit {0}
Passes k had (t ∷ ts) = ((finished : Set) → ((x : ℕ) → has had x ≡ true → has finished x ≡ true) → before k finished t ≡ 0) × Passes k (plus had t) ts

-- This holds for the list of free tasks.
abbrev pub TheListPasses : Type 0
TheListPasses = (m : Set) (k : Rules) → m < 2 ^ 64 → Passes k empty (free_tasks m k.befores)

-- The claim r is of a task on the list of its template, and the tasks before it on the list are done in its order.
pub record NextOnList (p : Fixed) (o : Orders) (r : Record) : Type 0 where
  pub template : ℕ
  pub front : List ℕ
  pub back : List ℕ
  pub list : list_of p template ≡ front ++ (r.c ∷ back)
  pub done : (x : ℕ) → some (eqb x) front ≡ true → has (tasks_done r.b o.entries) x ≡ true

-- BEFORE refuses no such claim, after every accepted load and any requests.
abbrev pub BeforeRefusesNobody : Type 0
BeforeRefusesNobody =
    AfterEvery (λ policy requests. (claim : Bytes) → (decode claim).kind ≡ 50
    → NextOnList (fixed (load policy).tables) (told_after policy requests).orders (decode claim) → reply_after policy requests claim ≡ BEFORE → ⊥)
