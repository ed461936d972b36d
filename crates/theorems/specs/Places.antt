-- 02, Ask 2: which rule refuses a claim, from the policy's records, the requests and their replies alone. The place of the reply to a claim counts the
-- policy's records of the rule's kind, from 1.
use Rattle.std.specs.Prelude.{ℕ, suc, ◌≤◌, ◌<◌, ◌≡◌, true, false, ◌&&◌, List, [], ◌∷◌, ◌++◌, eqb}
use Rattle.paper_lower.specs.Sets.{Set, has, meets}
use Rattle.paper_lower.specs.Lists.{some, many, Every}
use Rattle.paper_lower.specs.Checks.{BEFORE, SEPARATION, BLOCK, BOUND}
use Rattle.paper_lower.specs.Records.{Bytes, Record, decode}
use Rattle.paper_lower.specs.Load.{load, records_of}
use Rattle.paper_upper.specs.Orders.{Orders, Engine, tasks_by}
use Rattle.paper_upper.specs.Engine.{request, place_to, Placed, placed_run, engine_of}
use Rattle.theorems.specs.Outside.{Told, hear}
use Rattle.theorems.specs.OverEntries.{of_kind, OfUsers, Allows, OneUser, Ready}
use Rattle.theorems.specs.Theorems.{AfterEvery, tables_next, told_after, reply_after}

-- Element number k of a list, counted from 1, with the elements before it and after it.
pub record At (rs : List Record) (k : ℕ) : Type 0 where
  pub front : List Record
  pub it : Record
  pub back : List Record
  pub whole : rs ≡ front ++ (it ∷ back)
  pub counted : k ≡ suc (many front)

-- A place is that of one of the records.
abbrev pub PlacesExist : Type 0
PlacesExist = (rs : List Record) (k : ℕ) → At rs k → (1 ≤ k) × (k ≤ many rs)

-- ---- BEFORE, SEPARATION and BOUND: what one record requires of the orders.
abbrev pub Prerequisite : Orders → Record → Type 0
Prerequisite o r = Every (Ready o.entries r) o.entries

-- No user has entries in more tasks of the set than it allows.
abbrev pub TaskSet : Orders → Record → Type 0
TaskSet o r = OfUsers (λ template tasks. Allows r tasks) o

-- All entries of the two tasks, in one instance, are of one user.
abbrev pub Binding : Orders → Record → Type 0
Binding o r = Every (λ e. Every (OneUser r e) o.entries) o.entries

-- "the place, from 1 and among rules of their kind in policy order, of the first rule broken": the record at that place is broken, and none before it is.
pub record FirstAt (Kept : Record → Type 0) (rs : List Record) (k : ℕ) : Type 0 where
  pub at : At rs k
  pub broken : Kept at.it → ⊥
  pub earlier : Every Kept at.front

-- ---- BLOCK: "in a partitioning that has t in a block, D meets another block".

-- The record is such another block: it does not have t, a record of its partitioning has t, and D meets it.
abbrev pub Strange : List Record → Set → ℕ → Record → Type 0
Strange blocks d t r = (some (λ q. eqb q.a r.a && has q.m t) blocks ≡ true) × (has r.m t ≡ false) × (meets r.m d ≡ true)

-- "The search ends at the first such block of the first such partitioning, partitionings by number and blocks in policy order."
pub record SearchEndsAt (blocks : List Record) (d : Set) (t k : ℕ) : Type 0 where
  pub at : At blocks k
  pub strange : Strange blocks d t at.it
  pub front : Every (λ r. r.a ≤ at.it.a → Strange blocks d t r → ⊥) at.front
  pub back : Every (λ r. r.a < at.it.a → Strange blocks d t r → ⊥) at.back

-- ---- What the reply to the claim r and its place say about the policy's records. x is what an observer knew before the claim.
pub record RuleAt (policy : List Record) (x : Told) (r : Record) (reply place : ℕ) : Type 0 where
  pub befores : reply ≡ BEFORE → FirstAt (Prerequisite (hear x r).orders) (of_kind 16 policy) place
  pub sets : reply ≡ SEPARATION → FirstAt (TaskSet (hear x r).orders) (of_kind 11 policy) place
  pub blocks : reply ≡ BLOCK
      → SearchEndsAt (of_kind 12 policy) (tasks_by r.b (x.sessions.user r.a) x.orders.entries) r.c place
  pub bindings : reply ≡ BOUND → FirstAt (Binding (hear x r).orders) (of_kind 15 policy) place

-- The requests with their replies and places.
abbrev pub placed_after : Bytes → List Bytes → List Placed
placed_after policy requests = placed_run (engine_of (load policy).tables) requests

-- The place of one more request.
abbrev pub place_next : Bytes → List Bytes → Bytes → ℕ
place_next policy requests s = place_to (tables_next policy requests) s

-- The places of claims are right after every accepted load and any requests.
abbrev pub PlacesAreTrue : Type 0
PlacesAreTrue =
    AfterEvery (λ policy requests. (claim : Bytes) → (decode claim).kind ≡ 50
    → RuleAt (records_of policy) (told_after policy requests) (decode claim) (reply_after policy requests claim) (place_next policy requests claim))

-- "all other replies carry 0"
abbrev pub OthersCarryNone : Type 0
OthersCarryNone =
    (t : Engine) (s : Bytes) → Every (λ k. (request t s).reply ≡ k → ⊥) (BEFORE ∷ SEPARATION ∷ BLOCK ∷ BOUND ∷ []) → place_to t s ≡ 0
