-- The theorems about the definitions of load and request: what holds after every accepted load and any requests.
use Rattle.std.specs.Prelude.{ℕ, ◌+◌, ◌≤◌, ◌<◌, ◌≡◌, ◌↔◌, List}
use Rattle.paper_lower.specs.Sets.{Set}
use Rattle.paper_lower.specs.Lists.{Maybe, many, Every}
use Rattle.paper_lower.specs.Checks.{GRANTED, BEFORE, FULL}
use Rattle.paper_lower.specs.Records.{Bytes, Record, decode}
use Rattle.paper_lower.specs.Kinds.{Said, run, after}
use Rattle.paper_lower.specs.Tables.{Seniority, Permission, Tasks, Rules, Walled, Policy, Lower}
use Rattle.paper_lower.specs.Load.{load, records_of}
use Rattle.paper_lower.specs.Sessions.{lower_request, lower_of}
use Rattle.paper_upper.specs.Orders.{Orders, Engine}
use Rattle.paper_upper.specs.Engine.{request, engine_of}
use Rattle.theorems.specs.Outside.{Told, hear, followed, outside}
use Rattle.theorems.specs.OverEntries.{Rule, claim_rules, RoleLimits}
use Rattle.theorems.specs.WellMade.{WellMade, WellWalled, Ledger}
use Rattle.theorems.specs.InUse.{no_tally, count, is_in_use}

-- ---- After a policy was loaded and requests were made:

-- The tables.
abbrev pub tables_next : Bytes → List Bytes → Engine
tables_next policy requests = after request (engine_of (load policy).tables) requests

-- The requests with their replies.
abbrev pub said_after : Bytes → List Bytes → List Said
said_after policy requests = run request (engine_of (load policy).tables) requests

-- What an observer knows from these (Outside).
abbrev pub told_after : Bytes → List Bytes → Told
told_after policy requests = outside policy (said_after policy requests)

-- The reply to one more request.
abbrev pub reply_after : Bytes → List Bytes → Bytes → ℕ
reply_after policy requests s = (request (tables_next policy requests) s).reply

-- The tables of the lower part alone.
abbrev pub lower_after : Bytes → List Bytes → Lower
lower_after policy requests = after lower_request (lower_of (load policy).tables) requests

-- What an observer of the lower part alone knows.
abbrev pub lower_told_after : Bytes → List Bytes → Told
lower_told_after policy requests = outside policy (run lower_request (lower_of (load policy).tables) requests)

-- The statement that P holds for every policy that loads, and any requests.
abbrev pub AfterEvery : (Bytes → List Bytes → Type 0) → Type 0
AfterEvery P = (policy : Bytes) → (load policy).reply ≡ GRANTED → (requests : List Bytes) → P policy requests

-- ---- An observer's knowledge equals the tables.

-- What the tables hold, in the form in which an observer knows it.
abbrev pub shown : Engine → Told
shown t =
    let p = t.lower.policy in
    record {
      users = p.people.users;
      assigned = p.people.assigned;
      holders = p.permissions.holders;
      walls = p.walls;
      sessions = t.lower.sessions;
      orders = t.orders;
    }

-- After every accepted load and any requests, what an observer knows is what the tables hold.
abbrev pub ToldIsTrue : Type 0
ToldIsTrue = AfterEvery (λ policy requests. told_after policy requests ≡ shown (tables_next policy requests))

-- ---- Demand 3: the entries, as an observer knows them, break none of the six rules, and the users' roles none of the limits.

-- The six rules over entries hold.
abbrev pub OrdersKeepTheRules : Type 0
OrdersKeepTheRules = AfterEvery (λ policy requests. Every (λ k. k.Kept (records_of policy) (told_after policy requests).orders) claim_rules)

-- The limits on roles hold.
abbrev pub ClerksKeepTheLimits : Type 0
ClerksKeepTheLimits = AfterEvery (λ policy requests. RoleLimits (records_of policy) (told_after policy requests))

-- The limits on roles hold in the lower part too: "dealers build the lower part alone".
abbrev pub DealersKeepTheLimits : Type 0
DealersKeepTheLimits = AfterEvery (λ policy requests. RoleLimits (records_of policy) (lower_told_after policy requests))

-- ---- The reply does not come from a check before number k. "Checks run in the order of their numbers; the first that applies is given"
abbrev pub Reaches : ℕ → ℕ → Type 0
Reaches k reply = reply < k → reply ≡ GRANTED

-- How a reply relates to the rules over some orders: it is that of the first rule broken.
pub record FirstBroken (rules : List Rule) (policy : List Record) (o : Orders) (reply : ℕ) : Type 0 where
  -- If it is the reply of a rule, that rule is broken and the rules before it are kept.
  pub refused :
      Every (λ k. reply ≡ k.reply → (k.Kept policy o → ⊥) × Every (λ j. j.reply < k.reply → j.Kept policy o) rules) rules
  -- If it is the reply of none of them, all are kept.
  pub others : Every (λ k. reply ≡ k.reply → ⊥) rules → Every (λ k. k.Kept policy o) rules

-- Demand 3, the second half. If a claim passes every check before BEFORE, it is refused for the first of the six rules, in their order, that its entry would
-- break. If its entry would break none, it is refused for none of them.
abbrev pub FirstRuleBroken : Type 0
FirstRuleBroken =
    AfterEvery (λ policy requests. (claim : Bytes) → (decode claim).kind ≡ 50 → Reaches BEFORE (reply_after policy requests claim)
    → FirstBroken claim_rules (records_of policy) (hear (told_after policy requests) (decode claim)).orders (reply_after policy requests claim))

-- ---- The entries in use, counted from the requests and their replies.
pub record Counted (policy : Bytes) (requests : List Bytes) : Type 0 where
  -- The claims equal the releases, plus what ended, plus the entries that an observer knows. So no subtraction in `is_in_use` is cut off at 0.
  pub balance :
      let x = followed count no_tally (said_after policy requests) in
      x.claims ≡ x.releases + x.ended + many (told_after policy requests).orders.entries
  -- The count is the number of entries.
  pub entries : is_in_use (said_after policy requests) ≡ many (told_after policy requests).orders.entries
  -- It is at most 2,048.
  pub room : is_in_use (said_after policy requests) ≤ 2048
  -- "FULL is given only at 2,048 in use". A claim that passes every check before FULL is always refused then.
  pub full : (claim : Bytes) → (decode claim).kind ≡ 50 → Reaches FULL (reply_after policy requests claim)
      → (reply_after policy requests claim ≡ FULL) ↔ (is_in_use (said_after policy requests) ≡ 2048)

-- The counts hold after every accepted load and any requests.
abbrev pub EntriesInUse : Type 0
EntriesInUse = AfterEvery Counted

-- ---- What a load gives and every request keeps.

-- The rules of the policy are well made.
abbrev pub RulesAreWellMade : Type 0
RulesAreWellMade =
    AfterEvery (λ policy requests.
    let p = (tables_next policy requests).lower.policy in
    WellMade p.tasks.template p.tasks.most p.rules)

-- The walls of the policy are well made.
abbrev pub WallsAreWellMade : Type 0
WallsAreWellMade = AfterEvery (λ policy requests. WellWalled (tables_next policy requests).lower.policy.walls)

-- The ledger is sound.
abbrev pub LedgerIsSound : Type 0
LedgerIsSound = AfterEvery (λ policy requests. Ledger (tables_next policy requests).orders)

-- "Deleting roles and changing rules after a load are not offered.": the tables that no request changes, namely the declared roles, which role stands above
-- which, the tasks, the permissions and which tasks carry them, the rules, and the walls.
pub record Fixed : Type 0 where
  pub roles : Set
  pub seniority : Seniority
  pub tasks : Tasks
  pub declared : ℕ → Maybe Permission
  pub carriers : ℕ → Set
  pub rules : Rules
  pub walls : List Walled

-- These tables of a policy.
abbrev pub fixed : Policy → Fixed
fixed p = record {
  roles = p.people.roles;
  seniority = p.seniority;
  tasks = p.tasks;
  declared = p.permissions.declared;
  carriers = p.permissions.carriers;
  rules = p.rules;
  walls = p.walls;
}

-- No request changes them.
abbrev pub RequestsChangeNoRule : Type 0
RequestsChangeNoRule = (t : Engine) (s : Bytes) → fixed (request t s).tables.lower.policy ≡ fixed t.lower.policy
