-- What every accepted load gives and every request keeps: rules and walls that are well made, and a sound ledger.
use Rattle.std.specs.Prelude.{ℕ, ◌<◌, ◌≤◌, ◌≡◌, true, false, ◌&&◌, List}
use Rattle.paper_lower.specs.Sets.{Set, empty, has, size, meets}
use Rattle.paper_lower.specs.Lists.{Maybe, there, many, keep, Every}
use Rattle.paper_lower.specs.Lists.Maybe.{just}
use Rattle.paper_lower.specs.Tables.{Limit, Block, Pair, Rules, Walled}
use Rattle.paper_upper.specs.Orders.{is_held, Orders, of_task}
use Rattle.theorems.specs.OverEntries.{EveryTwo}

-- ---- The rules of the policy, over the table of templates.

-- The set is well made: "1 <= n < number of members"
abbrev pub Limits : Limit → Type 0
Limits l = (1 ≤ l.n) × (l.n < size l.members)

-- Every task of m is of template j.
abbrev pub AllOf : (ℕ → Maybe ℕ) → ℕ → Set → Type 0
AllOf template j m = (t : ℕ) → has m t ≡ true → template t ≡ just j

-- The pair has two different tasks of one template.
abbrev pub Linked : (ℕ → Maybe ℕ) → Pair → Type 0
Linked template x = (x.a ≡ x.b → ⊥) × ((j : ℕ) × (template x.a ≡ just j) × (template x.b ≡ just j))

-- The blocks are well made.
pub record WellCut (template : ℕ → Maybe ℕ) (blocks : List Block) : Type 0 where
  -- "Partitionings 0 to 15."
  pub partitionings : Every (λ k. k.partitioning < 16) blocks
  -- No block is empty. RULE: "12 if empty"
  pub none-empty : Every (λ k. k.tasks ≡ empty → ⊥) blocks
  -- The blocks of a partitioning are of one template. RULE: "of another template than the partitioning's earlier blocks"
  pub one-template : (q : ℕ) → (j : ℕ) × Every (λ k. k.partitioning ≡ q → AllOf template j k.tasks) blocks
  -- They share no task. RULE: "or sharing a task with one"
  pub disjoint : EveryTwo (λ k l. k.partitioning ≡ l.partitioning → meets k.tasks l.tasks ≡ false) blocks

-- The rules are well made.
pub record WellMade (template most : ℕ → Maybe ℕ) (rules : Rules) : Type 0 where
  -- "Tasks 0 to 63."
  pub tasks : (t j : ℕ) → template t ≡ just j → t < 64
  -- Every count limit is 1 or more. RULE: "14 if n = 0"
  pub counts : (t n : ℕ) → most t ≡ just n → 1 ≤ n
  pub statics : Every Limits rules.statics
  pub dynamics : Every Limits rules.dynamics
  -- The tasks of a task set are of one template. RULE: "if the tasks are not all of one template"
  pub task_sets : Every (λ l. Limits l × ((j : ℕ) × AllOf template j l.members)) rules.task_sets
  pub blocks : WellCut template rules.blocks
  -- The tasks of a pair differ and are of one template. RULE: "15 and 16 if a = b or the templates differ"
  pub bindings : Every (Linked template) rules.bindings
  pub befores : Every (Linked template) rules.befores

-- ---- The walls (02, Ask 11) are well made.
pub record WellWalled (walls : List Walled) : Type 0 where
  -- "wall a (0 to 15), block b (0 to 15)"
  pub numbers : Every (λ x. (x.wall < 16) × (x.block < 16)) walls
  -- "an object stands in at most one block of a wall": no wall has an object twice.
  pub once : EveryTwo (λ x y. x.wall ≡ y.wall → x.object ≡ y.object → ⊥) walls
  -- "at most 256 records"
  pub room : many walls ≤ 256

-- ---- The ledger is sound.
pub record Ledger (o : Orders) : Type 0 where
  -- Every entry is of an open instance.
  pub open-orders : Every (λ e. there (o.opened e.instance) ≡ true) o.entries
  -- "A task of an order has at most one holder at a time."
  pub one-holder : (i t : ℕ) → many (keep (λ e. of_task i t e && is_held e.standing) o.entries) ≤ 1
  -- "Ledger: 2,048 entries."
  pub room : many o.entries ≤ 2048
