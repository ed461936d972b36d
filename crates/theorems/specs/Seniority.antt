-- 02, Ask 7: senior roles. Which roles are below a role follows from the policy's records. And "With no kind 17 record every reply is as before", where
-- "before" means the checks of 01 (and of Asks 1 and 5) word for word.
use Rattle.std.specs.Prelude.{ℕ, zero, suc, ◌/◌, ◌≡◌, ◌↔◌, true, not, cond, ◌&&◌, ◌||◌, List, [], ◌∷◌, ◌++◌, eqb, leb, length, take, drop}
use Rattle.paper_lower.specs.Sets.{Set, empty, has, plus, union, meets, within}
use Rattle.paper_lower.specs.Lists.{some_number_below, some, many, each}
use Rattle.paper_lower.specs.Checks.{Check, SHAPE, UNKNOWN, TAKEN, IN-USE, RULE, NOT-ASSIGNED, STATIC, DYNAMIC, NO-ROLE, DENIED, FULL, WALL, granted}
use Rattle.paper_lower.specs.Records.{Bytes, Record, decode}
use Rattle.paper_lower.specs.Forms.{policy_forms, lower_forms, request_forms}
use Rattle.paper_lower.specs.Kinds.{Kind, on, Answer, answer, run, after}
use Rattle.paper_lower.specs.Tables.{Seniority, Policy, Lower, no_policy, with_policy, with_sessions}
use Rattle.paper_lower.specs.Policy.{breaks, same_limit, ill_made, assign_next, static_next, policy_kinds}
use Rattle.paper_lower.specs.Load.{Loaded, accepted, refused, policy_answer, load, records_of}
use Rattle.paper_lower.specs.Roles.{active_of, counted_of, join_next, take_back_next}
use Rattle.paper_lower.specs.Sessions.{allowed, wall_between, create_next, activate_next, commit_next, lower_kinds, lower_request}
use Rattle.paper_upper.specs.Orders.{is_held, Engine, of_task}
use Rattle.paper_upper.specs.Rules.{rule_checks}
use Rattle.paper_upper.specs.Requests.{unknown, claim_next}
use Rattle.paper_upper.specs.Engine.{widened, request_kinds, request}
use Rattle.theorems.specs.OverEntries.{of_kind, puts, Above}
use Rattle.theorems.specs.Theorems.{AfterEvery, tables_next, lower_after}

-- ---- Which roles are below a role follows from the records.
pub record AsRecorded (policy : List Record) (s : Seniority) : Type 0 where
  -- By name: one record says it.
  pub by_name : (a b : ℕ) → has (s.juniors a) b ≡ puts policy a b
  -- "all roles below": a chain of records leads there.
  pub below : (a b : ℕ) → (has (s.below a) b ≡ true) ↔ Above policy a b
  -- LOOP prevents circles: no role is below itself.
  pub no-circle : (a : ℕ) → Above policy a a → ⊥

-- This holds after every accepted load and any requests, in the engine and in the lower part.
pub record SeniorityIsRecorded : Type 0 where
  pub engine : AfterEvery (λ policy requests. AsRecorded (records_of policy) (tables_next policy requests).lower.policy.seniority)
  pub dealers : AfterEvery (λ policy requests. AsRecorded (records_of policy) (lower_after policy requests).policy.seniority)

-- ---- The checks before Ask 7: those that count roles, without the roles below them. The commit of Ask 11 counts roles as the check does.

-- "4 user a has role b." "34 assign role b to user a."
unfoldable pub assign_before : Policy → ℕ → ℕ → List Check
assign_before p a b =
    (not (p.people.users a) || not (has p.people.roles b), UNKNOWN)
    ∷ (has (p.people.assigned a) b, TAKEN)
    ∷ (some (breaks (plus (p.people.assigned a) b)) p.rules.statics, STATIC)
    ∷ []

-- "9 static set, n, roles m."
unfoldable pub static_before : Policy → ℕ → Set → List Check
static_before p n m =
    (not (within m p.people.roles), UNKNOWN)
    ∷ (some (same_limit n m) p.rules.statics, TAKEN)
    ∷ (ill_made n m, RULE)
    ∷ (some_number_below 1024 (λ u. p.people.users u && breaks (p.people.assigned u) (record { n = n; members = m })), STATIC)
    ∷ (leb 32 (many p.rules.statics), FULL)
    ∷ []

-- "32 add user a.", with the roles of Ask 1
unfoldable pub join_before : Policy → ℕ → Set → List Check
join_before p a m =
    (not (within m p.people.roles), UNKNOWN)
    ∷ (p.people.users a, TAKEN)
    ∷ (some (breaks m) p.rules.statics, STATIC)
    ∷ []

-- "35 while the role is active in a subject of that user"
unfoldable pub take_back_before : Lower → ℕ → ℕ → List Check
take_back_before t a b =
    (not (t.policy.people.users a) || not (has t.policy.people.roles b) || not (has (t.policy.people.assigned a) b), UNKNOWN)
    ∷ (has (active_of t.sessions a) b, IN-USE)
    ∷ []

-- "40 create subject a for user b with active roles m." "a role to activate is not the user's (40, 42)"
unfoldable pub create_before : Lower → ℕ → ℕ → Set → List Check
create_before t a b m =
    (not (t.policy.people.users b) || not (within m t.policy.people.roles), UNKNOWN)
    ∷ (t.sessions.live a, TAKEN)
    ∷ (not (within m (t.policy.people.assigned b)), NOT-ASSIGNED)
    ∷ (some (breaks (union (counted_of t.sessions b) m)) t.policy.rules.dynamics, DYNAMIC)
    ∷ []

-- "42 activate role b in subject a."
unfoldable pub activate_before : Lower → ℕ → ℕ → List Check
activate_before t a b =
    (not (t.sessions.live a) || not (has t.policy.people.roles b), UNKNOWN)
    ∷ (has (t.sessions.active a) b, TAKEN)
    ∷ (not (has (t.policy.people.assigned (t.sessions.user a)) b), NOT-ASSIGNED)
    ∷ (some (breaks (plus (counted_of t.sessions (t.sessions.user a)) b)) t.policy.rules.dynamics, DYNAMIC)
    ∷ []

-- "56: no active role of the subject has the permission", and WALL of Ask 11.
unfoldable pub check_before : Lower → ℕ → ℕ → ℕ → List Check
check_before t a b c =
    (not (t.sessions.live a), UNKNOWN)
    ∷ (not (allowed t.policy.permissions (t.sessions.active a) b c), DENIED)
    ∷ (wall_between t (t.sessions.user a) c, WALL)
    ∷ []

-- "no active role of the subject opens the task (50)"
unfoldable pub claim_before : Engine → ℕ → ℕ → ℕ → List Check
claim_before t a b c =
    (unknown t a b c, UNKNOWN)
    ∷ (some (λ e. of_task b c e && is_held e.standing) t.orders.entries, TAKEN)
    ∷ (not (meets (t.lower.policy.tasks.open_to c) (t.lower.sessions.active a)), NO-ROLE)
    ∷ rule_checks t.lower.policy.tasks t.lower.policy.rules (t.orders.opened b) t.orders.entries b (t.lower.sessions.user a) c
    ++ ((leb 2048 (many t.orders.entries), FULL) ∷ [])

-- The kinds before Ask 7: these rows, and for every other number today's row. Of two rows with the same number the first counts.
unfoldable pub policy_rows_before : List (Kind Policy)
policy_rows_before =
    on 4 (λ p r. assign_before p r.a r.b) (λ p r. assign_next p r.a r.b)
    ∷ on 9 (λ p r. static_before p r.n r.m) (λ p r. static_next p r.n r.m)
    ∷ []

-- The same for the requests of the lower part.
unfoldable pub lower_rows_before : List (Kind Lower)
lower_rows_before =
    on 32 (λ t r. join_before t.policy r.a r.m) (λ t r. with_policy t (join_next t.policy r.a r.m))
    ∷ on 34 (λ t r. assign_before t.policy r.a r.b) (λ t r. with_policy t (assign_next t.policy r.a r.b))
    ∷ on 35 (λ t r. take_back_before t r.a r.b) (λ t r. with_policy t (take_back_next t.policy r.a r.b))
    ∷ on 40 (λ t r. create_before t r.a r.b r.m) (λ t r. with_sessions t (create_next t.sessions r.a r.b r.m))
    ∷ on 42 (λ t r. activate_before t r.a r.b) (λ t r. with_sessions t (activate_next t.sessions r.a r.b))
    ∷ on 56 (λ t r. check_before t r.a r.b r.c) (λ t r. t)
    ∷ on 59 (λ t r. check_before t r.a r.b r.c) (λ t r. with_sessions t (commit_next t r.a r.c))
    ∷ []

-- The same for the requests of the whole engine.
unfoldable pub rows_before : List (Kind Engine)
rows_before = on 50 (λ t r. claim_before t r.a r.b r.c) (λ t r. claim_next t r.a r.b r.c) ∷ each widened lower_rows_before

-- The answer to a policy record before Ask 7.
unfoldable pub policy_answer_before : Policy → Bytes → Answer Policy
policy_answer_before p s = answer policy_forms (policy_rows_before ++ policy_kinds) p s

-- The answer of the lower part to a request before Ask 7.
unfoldable pub lower_request_before : Lower → Bytes → Answer Lower
lower_request_before t s = answer lower_forms (lower_rows_before ++ lower_kinds) t s

-- The answer of the engine to a request before Ask 7.
unfoldable pub request_before : Engine → Bytes → Answer Engine
request_before t s = answer request_forms (rows_before ++ request_kinds) t s

-- The load before Ask 7, for n records of which the first has the given place.
unfoldable pub load_from_before : ℕ → ℕ → Bytes → Policy → Loaded
load_from_before zero place s p = cond (eqb (length s) 0) (accepted p) (refused SHAPE place)
load_from_before (suc n) place s p =
    granted (policy_answer_before p (take 16 s)).reply
    (load_from_before n (suc place) (drop 16 s) (policy_answer_before p (take 16 s)).tables)
    (refused (policy_answer_before p (take 16 s)).reply place)

-- The load before Ask 7.
unfoldable pub load_before : Bytes → Loaded
load_before s = load_from_before (length s / 16) 1 s no_policy

-- ---- "With no kind 17 record every reply is as before, and that is to be shown."

-- No role is below another.
abbrev pub NoneBelow : Policy → Type 0
NoneBelow p = (r : ℕ) → p.seniority.below r ≡ empty

-- Without records of kind 17 everything is as before Ask 7.
pub record AsBefore : Type 0 where
  -- A policy without such a record loads as before: reply, place and tables are the same. It puts no role below another.
  pub loads : (policy : Bytes) → of_kind 17 (records_of policy) ≡ [] → (load policy ≡ load_before policy) × NoneBelow (load policy).tables
  -- Each other record, on tables of any content in which no role is below another.
  pub records : (p : Policy) → NoneBelow p → (s : Bytes) → ((decode s).kind ≡ 17 → ⊥) → policy_answer p s ≡ policy_answer_before p s
  -- Each request, on tables of any content in which no role is below another; the tables stay so.
  pub requests : (t : Engine) → NoneBelow t.lower.policy → (s : Bytes)
      → (request t s ≡ request_before t s) × NoneBelow (request t s).tables.lower.policy
  pub lower_requests : (t : Lower) → NoneBelow t.policy → (s : Bytes)
      → (lower_request t s ≡ lower_request_before t s) × NoneBelow (lower_request t s).tables.policy
  -- So any sequence of requests.
  pub runs : (t : Engine) → NoneBelow t.lower.policy → (ss : List Bytes)
      → (run request t ss ≡ run request_before t ss) × (after request t ss ≡ after request_before t ss)
  pub lower_runs : (t : Lower) → NoneBelow t.policy → (ss : List Bytes)
      → (run lower_request t ss ≡ run lower_request_before t ss) × (after lower_request t ss ≡ after lower_request_before t ss)
