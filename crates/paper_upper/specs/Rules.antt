-- The claim rules, for a claim of task t by user u in instance i. BEFORE, SEPARATION, BLOCK and BOUND have a list of rules each; their definitions give the
-- place of the first rule broken, counted from 1 in policy order, or 0.
use Rattle.std.specs.Prelude.{ℕ, Bool, not, cond, ◌&&◌, ◌||◌, List, [], ◌∷◌, eqb, leb}
use Rattle.paper_lower.specs.Sets.{Set, has, minus, size, overlap, meets, within}
use Rattle.paper_lower.specs.Lists.{Maybe, holds, some, many, keep, place, first_of}
use Rattle.paper_lower.specs.Checks.{Check, BEFORE, SEPARATION, BLOCK, ALONE, BOUND, COUNT}
use Rattle.paper_lower.specs.Tables.{Tasks, Limit, Block, Pair, Rules}
use Rattle.paper_lower.specs.Policy.{tasks_of}
use Rattle.paper_upper.specs.Orders.{Entry, of_task, tasks_by, tasks_done, tasks_others}

-- "BEFORE: some task required before t has no done entry in the instance." Whether this prerequisite refuses t; `finished` are the tasks with a done entry.
unfoldable pub missing : Set → ℕ → Pair → Bool
missing finished t x = eqb x.b t && not (has finished x.a)

-- The place of the first prerequisite that refuses t.
unfoldable pub before : Rules → Set → ℕ → ℕ
before k finished t = place (missing finished t) k.befores

-- "SEPARATION: a task set with t in it has n or more members in D other than t." Whether this task set refuses t; d is D.
unfoldable pub crowded : Set → ℕ → Limit → Bool
crowded d t l = has l.members t && leb l.n (overlap l.members (minus d t))

-- The place of the first task set that refuses t.
unfoldable pub separation : Rules → Set → ℕ → ℕ
separation k d t = place (crowded d t) k.task_sets

-- "BLOCK: in a partitioning that has t in a block, D meets another block. The search ends at the first such block of the first such partitioning,
-- partitionings by number and blocks in policy order."
-- Whether the block is of partitioning q and has t.
unfoldable pub own : ℕ → ℕ → Block → Bool
own q t x = eqb x.partitioning q && has x.tasks t

-- Whether the block is of partitioning q, does not have t, and has a task of d.
unfoldable pub strange : ℕ → Set → ℕ → Block → Bool
strange q d t x = eqb x.partitioning q && not (has x.tasks t) && meets x.tasks d

-- The place, among all blocks, of the first block of partitioning q that refuses t.
unfoldable pub block_within : Rules → Set → ℕ → ℕ → ℕ
block_within k d t q = cond (some (own q t) k.blocks) (place (strange q d t) k.blocks) 0

-- The place of the block at which the search ends.
unfoldable pub block : Rules → Set → ℕ → ℕ
block k d t = first_of 0 16 (block_within k d t)

-- Whether the lone-worker ban refuses t. "ALONE: the template is banned for lone workers and every task of it other than t is in D." Amended by 02, Ask 10:
-- "the ban governs templates with two or more tasks; on one task it says nothing."
unfoldable pub alone : Tasks → Maybe ℕ → Set → ℕ → Bool
alone k template d t = holds (λ j. k.banned j && within (minus (tasks_of k j) t) d && leb 2 (size (tasks_of k j))) template

-- "BOUND: a task bound with t, on either side of the binding, has an entry of another user." Whether this binding refuses t; `others` are the tasks with an
-- entry of another user.
unfoldable pub tied : Set → ℕ → Pair → Bool
tied others t x = eqb x.a t && has others x.b || eqb x.b t && has others x.a

-- The place of the first binding that refuses t.
unfoldable pub bound : Rules → Set → ℕ → ℕ
bound k others t = place (tied others t) k.bindings

-- "COUNT: t has a limit and that many entries already, of anyone." `times` is the number of entries of t.
unfoldable pub spent : Tasks → ℕ → ℕ → Bool
spent k times t = holds (λ n. leb n times) (k.most t)

-- ---- "the claim rules, in this order"

-- Whether a place was found.
abbrev pub found : ℕ → Bool
found k = not (eqb k 0)

-- The checks of the claim rules. The arguments are what the rules need of the entries of the instance: the tasks of u (d), the tasks done, the tasks of other
-- users, and the number of entries of t.
unfoldable pub gathered_checks : Tasks → Rules → Maybe ℕ → Set → Set → Set → ℕ → ℕ → List Check
gathered_checks k rules template d finished others times t =
    (found (before rules finished t), BEFORE)
    ∷ (found (separation rules d t), SEPARATION)
    ∷ (found (block rules d t), BLOCK)
    ∷ (alone k template d t, ALONE)
    ∷ (found (bound rules others t), BOUND)
    ∷ (spent k times t, COUNT)
    ∷ []

-- The checks of the claim rules, from the entries.
unfoldable pub rule_checks : Tasks → Rules → Maybe ℕ → List Entry → ℕ → ℕ → ℕ → List Check
rule_checks k rules template es i u t =
    gathered_checks k rules template (tasks_by i u es) (tasks_done i es) (tasks_others i u es) (many (keep (of_task i t) es)) t

-- ---- The place that goes with a reply. 02, Ask 2: "The rule questions at the bottom now return the place, from 1 and among rules of their kind in policy
-- order, of the first rule broken, or 0. For BLOCK it is the block at which 01's search ends. Claims carry it up for BEFORE, SEPARATION, BLOCK and BOUND; all
-- other replies carry 0."
unfoldable pub rule_place : Rules → Set → Set → Set → ℕ → ℕ → ℕ
rule_place rules d finished others t reply =
    cond (eqb reply BEFORE) (before rules finished t)
    (cond (eqb reply SEPARATION) (separation rules d t)
    (cond (eqb reply BLOCK) (block rules d t)
    (cond (eqb reply BOUND) (bound rules others t) 0)))

-- Unfolds all definitions of this file at once, for proofs that compute a case.
unfoldable pub rules_open : Unit {0}
unfolding missing before crowded separation own strange block_within block alone tied bound spent gathered_checks rule_checks rule_place
rules_open = tt
