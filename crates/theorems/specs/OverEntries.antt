-- The rules over an order's entries, "without any claim", and the limits on roles.
-- They are stated over the policy's records and what an observer knows (Outside).
use Rattle.std.specs.Prelude.{ℕ, ◌≤◌, ◌<◌, ◌≡◌, ◌⊎◌, Bool, true, cond, ◌&&◌, List, [], ◌∷◌, eqb, length}
use Rattle.paper_lower.specs.Sets.{Set, empty, has, plus, size, overlap, meets}
use Rattle.paper_lower.specs.Lists.{Maybe, some, many, keep, Every}
use Rattle.paper_lower.specs.Lists.Maybe.{just}
use Rattle.paper_lower.specs.Checks.{BEFORE, SEPARATION, BLOCK, ALONE, BOUND, COUNT}
use Rattle.paper_lower.specs.Records.{Record}
use Rattle.paper_upper.specs.Orders.{Entry, Orders, of_task, tasks_by, tasks_done}
use Rattle.theorems.specs.Outside.{Told}

-- The policy's records of kind k.
unfoldable pub of_kind : ℕ → List Record → List Record
of_kind k policy = keep (λ r. eqb r.kind k) policy

-- The statement that P holds for every two elements of a list, in their order.
abbrev pub EveryTwo : {A : Type 0} → (A → A → Type 0) → List A → Type 0
EveryTwo P [] = Unit {0}
EveryTwo P (x ∷ xs) = Every (P x) xs × EveryTwo P xs

-- The statement that P holds, for every order and user, of the order's template and the tasks in which the user has entries there.
abbrev pub OfUsers : (Maybe ℕ → Set → Type 0) → Orders → Type 0
OfUsers P o = (i u : ℕ) → P (o.opened i) (tasks_by i u o.entries)

-- The set of a record, at most n of m, allows these members.
abbrev pub Allows : Record → Set → Type 0
Allows r members = overlap r.m members ≤ r.n

-- ---- "They hold when:"

-- "no user has entries in more than n different tasks of a task set"
abbrev pub TaskSets : List Record → Orders → Type 0
TaskSets policy = OfUsers (λ template tasks. Every (λ r. Allows r tasks) (of_kind 11 policy))

-- "no user has entries in two blocks of one partitioning"
abbrev pub OneBlock : Set → Record → Record → Type 0
OneBlock tasks r q = r.a ≡ q.a → meets r.m tasks ≡ true → meets q.m tasks ≡ true → ⊥

-- This holds for every two blocks of the policy, for every order and user.
abbrev pub Blocks : List Record → Orders → Type 0
Blocks policy = OfUsers (λ template tasks. EveryTwo (OneBlock tasks) (of_kind 12 policy))

-- The tasks that records of kind 6 put into a template.
unfoldable pub tasks_in : List Record → ℕ → Set
tasks_in [] template = empty
tasks_in (r ∷ rs) template = cond (eqb r.b template) (plus (tasks_in rs template) r.a) (tasks_in rs template)

-- These tasks include every task of the template.
abbrev pub EveryTask : List Record → ℕ → Set → Type 0
EveryTask policy template tasks = Every (λ r. r.b ≡ template → has tasks r.a ≡ true) (of_kind 6 policy)

-- "in a banned template no user has entries in every task". Amended by 02, Ask 10: "the ban governs templates with two or more tasks"
abbrev pub LoneWorkers : List Record → Orders → Type 0
LoneWorkers policy =
    OfUsers (λ template tasks.
    Every (λ r. template ≡ just r.a → 2 ≤ size (tasks_in (of_kind 6 policy) r.a) → EveryTask policy r.a tasks → ⊥) (of_kind 13 policy))

-- "any entry of a task and any entry of a task bound to it are of one user"
abbrev pub OneUser : Record → Entry → Entry → Type 0
OneUser r e f = e.instance ≡ f.instance → e.task ≡ r.a → f.task ≡ r.b → e.user ≡ f.user

-- This holds for every binding of the policy and every two entries.
abbrev pub Bindings : List Record → Orders → Type 0
Bindings policy o = Every (λ r. Every (λ e. Every (OneUser r e) o.entries) o.entries) (of_kind 15 policy)

-- "a limited task has at most n entries"
abbrev pub AtMost : List Entry → ℕ → Record → Type 0
AtMost entries i r = many (keep (of_task i r.a) entries) ≤ r.n

-- This holds for every count limit of the policy, in every order.
abbrev pub CountLimits : List Record → Orders → Type 0
CountLimits policy o = (i : ℕ) → Every (AtMost o.entries i) (of_kind 14 policy)

-- "a task with an entry has a done entry for each task required before it"
abbrev pub Ready : List Entry → Record → Entry → Type 0
Ready entries r e = e.task ≡ r.b → has (tasks_done e.instance entries) r.a ≡ true

-- This holds for every prerequisite of the policy and every entry.
abbrev pub Prerequisites : List Record → Orders → Type 0
Prerequisites policy o = Every (λ r. Every (Ready o.entries r) o.entries) (of_kind 16 policy)

-- ---- The six rules as claim rules: each with the reply to a claim that would break it. "the claim rules, in this order"
pub record Rule : Type 1 where
  pub reply : ℕ
  pub Kept : List Record → Orders → Type 0

-- The rule with these parts.
abbrev pub rule : ℕ → (List Record → Orders → Type 0) → Rule
rule reply Kept = record { reply = reply; Kept = Kept }

-- The six rules.
abbrev pub claim_rules : List Rule
claim_rules =
    rule BEFORE Prerequisites
    ∷ rule SEPARATION TaskSets
    ∷ rule BLOCK Blocks
    ∷ rule ALONE LoneWorkers
    ∷ rule BOUND Bindings
    ∷ rule COUNT CountLimits
    ∷ []

-- ---- Roles. 02, Ask 7: "role a stands above role b", and "Roles count with all roles below them".

-- Whether some record puts role a above role b.
unfoldable pub puts : List Record → ℕ → ℕ → Bool
puts policy a b = some (λ r. eqb r.a a && eqb r.b b) (of_kind 17 policy)

-- The pairs lead from a, over the roles between, to b.
abbrev pub Leads : (ℕ → ℕ → Bool) → ℕ → List ℕ → ℕ → Type 0
Leads pairs a [] b = pairs a b ≡ true
Leads pairs a (c ∷ cs) b = (pairs a c ≡ true) × Leads pairs c cs b

-- Role a stands above role b: a chain of records leads from a to b.
abbrev pub Above : List Record → ℕ → ℕ → Type 0
Above policy a b = (between : List ℕ) × Leads (puts policy) a between b

-- Role q is role r, or stands above it.
abbrev pub AtOrAbove : List Record → ℕ → ℕ → Type 0
AtOrAbove policy q r = (q ≡ r) ⊎ Above policy q r

-- Role r counts if these roles do: it is one of them, or stands below one of them.
abbrev pub Reached : List Record → (ℕ → Type 0) → ℕ → Type 0
Reached policy Roles r = (q : ℕ) × Roles q × AtOrAbove policy q r

-- The statement that P holds for some element of a list.
abbrev pub Any : {A : Type 0} → (A → Type 0) → List A → Type 0
Any P [] = ⊥
Any P (x ∷ xs) = P x ⊎ Any P xs

-- More than n different roles of the set count, where "at most n of its roles" are allowed.
pub record Exceeded (Counts : ℕ → Type 0) (set : Record) : Type 0 where
  pub roles : List ℕ
  pub different : EveryTwo (λ q r. q ≡ r → ⊥) roles
  pub more : set.n < length roles
  pub among : Every (λ r. (has set.m r ≡ true) × Counts r) roles

-- These roles, with the roles below them, exceed some set of the kind.
abbrev pub Broken : List Record → ℕ → (ℕ → Type 0) → Type 0
Broken policy kind Roles = Any (Exceeded (Reached policy Roles)) (of_kind kind policy)

-- A live subject of user u has had role q active. 02, Ask 5: "Each subject's record keeps every role it has had active; a dynamic set counts the union over
-- the user's live subjects."
abbrev pub HasHad : Told → ℕ → ℕ → Type 0
HasHad x u q = (s : ℕ) × (x.sessions.live s ≡ true) × (x.sessions.user s ≡ u) × (has (x.sessions.had s) q ≡ true)

-- The limits on roles, from the policy's records and what an observer knows.
pub record RoleLimits (policy : List Record) (x : Told) : Type 0 where
  -- "A static set allows a user at most n of its roles among those assigned."
  pub statics : (u : ℕ) → Broken policy 9 (λ q. has (x.assigned u) q ≡ true) → ⊥
  -- "A dynamic set allows a user at most n of its roles active at a time, over all the user's subjects together." Amended by 02, Ask 5
  pub dynamics : (u : ℕ) → Broken policy 10 (HasHad x u) → ⊥
  -- "Active roles are always assigned ones." Amended by 02, Ask 7: "Activating a role below an assigned one is allowed"
  pub active : (s : ℕ) → x.sessions.live s ≡ true → (r : ℕ) → has (x.sessions.active s) r ≡ true
      → Reached policy (λ q. has (x.assigned (x.sessions.user s)) q ≡ true) r
