-- What the functions mean that the six rules over entries and their places use: entry by entry, record by record, number by number. A statement that uses a
-- function says no more than the function does; this file says what the function does.
use Rattle.std.specs.Prelude.{ℕ, ◌<◌, ◌≡◌, true, ◌↔◌, List, length}
use Rattle.paper_lower.specs.Sets.{Set, size, overlap, meets}
use Rattle.paper_lower.specs.Lists.{many, keep, Every}
use Rattle.paper_lower.specs.Records.{Record}
use Rattle.paper_upper.specs.Orders.{Entry, of_task, tasks_by, tasks_done}
use Rattle.paper_upper.specs.Orders.Standing.{done}
use Rattle.theorems.specs.OverEntries.{EveryTwo, Any, tasks_in}
use Rattle.theorems.specs.Exactly.{In, Of}

-- P holds for more than n different numbers.
abbrev pub MoreThan : ℕ → (ℕ → Type 0) → Type 0
MoreThan n P = (rs : List ℕ) × EveryTwo (λ q r. q ≡ r → ⊥) rs × (n < length rs) × Every P rs

-- The meaning of each function.
pub record ReadAsMeant : Type 0 where
  -- "the tasks with an entry of u in the instance, held or done"
  pub mine : (i u : ℕ) (es : List Entry) (t : ℕ) → In (tasks_by i u es) t ↔ Any (λ e. (e.instance ≡ i) × (e.user ≡ u) × (e.task ≡ t)) es
  -- The tasks with "a done entry".
  pub finished : (i : ℕ) (es : List Entry) (t : ℕ) → In (tasks_done i es) t ↔ Any (λ e. (e.instance ≡ i) × (e.standing ≡ done) × (e.task ≡ t)) es
  -- The number of entries of a task.
  pub entries : (i t : ℕ) (es : List Entry) (n : ℕ) → (many (keep (of_task i t) es) ≡ n) ↔ Of (λ e. (e.instance ≡ i) × (e.task ≡ t)) es n
  -- The tasks that records put into a template.
  pub template : (rs : List Record) (j t : ℕ) → In (tasks_in rs j) t ↔ Any (λ q. (q.a ≡ t) × (q.b ≡ j)) rs
  -- "The size of a set's overlap with a user's roles is a count of bits": it counts the different members that both have.
  pub shared : (m d : Set) (n : ℕ) → (n < overlap m d) ↔ MoreThan n (λ t. In m t × In d t)
  -- "number of members"
  pub members : (m : Set) (n : ℕ) → (n < size m) ↔ MoreThan n (In m)
  -- Two sets meet if they have a member in common.
  pub met : (m d : Set) → (meets m d ≡ true) ↔ ((t : ℕ) × In m t × In d t)
