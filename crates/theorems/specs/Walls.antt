-- 02, Ask 11: walls, from the policy's records, the requests and their replies alone. A user's commits touch
-- at most one block of each wall, and WALL refuses exactly what would touch a second one. Deleting a user
-- removes the user's binding, objects outside walls are free, and without walls every reply is as before.
use Rattle.std.specs.Prelude.{ℕ, ◌≡◌, Bool, true, not, ◌&&◌, List, [], ◌∷◌, ◌++◌, ◌⊎◌, ◌↔◌, eqb, drop}
use Rattle.paper_lower.specs.Lists.{upd, Maybe, some, Every, each}
use Rattle.paper_lower.specs.Lists.Maybe.{none}
use Rattle.paper_lower.specs.Checks.{Check, GRANTED, UNKNOWN, DENIED, WALL}
use Rattle.paper_lower.specs.Records.{Bytes, Record, decode}
use Rattle.paper_lower.specs.Forms.{lower_forms, request_forms}
use Rattle.paper_lower.specs.Kinds.{Kind, on, chosen, Answer, answer, Said, run, after}
use Rattle.paper_lower.specs.Tables.{Lower, with_policy}
use Rattle.paper_lower.specs.Policy.{down, block_of}
use Rattle.paper_lower.specs.Load.{load, records_of}
use Rattle.paper_lower.specs.Roles.{delete_checks, delete_next}
use Rattle.paper_lower.specs.Sessions.{allowed, lower_kinds, lower_request, lower_of}
use Rattle.paper_upper.specs.Orders.{Engine, with_lower}
use Rattle.paper_upper.specs.Requests.{delete_above}
use Rattle.paper_upper.specs.Engine.{widened, request_kinds, request}
use Rattle.theorems.specs.Outside.{followed}
use Rattle.theorems.specs.OverEntries.{of_kind}
use Rattle.theorems.specs.Theorems.{AfterEvery, tables_next, said_after, reply_after, lower_after, Reaches}

-- ---- Commits, from the requests and their replies: the user of each subject, and
-- the objects of the commits granted to each user since the user was last added.
pub record Commits : Type 0 where
  pub user : ℕ → ℕ
  pub objects : ℕ → List ℕ

-- The commits after a load.
unfoldable pub no_commits : Commits
no_commits = record { user = λ _. 0; objects = λ _. [] }

-- A kind that changes the commits by f.
abbrev pub shows : ℕ → (Commits → Record → Commits) → Kind Commits
shows k f = on k (λ x r. []) f

-- The commits with other objects for user u.
abbrev pub with_objects : Commits → ℕ → List ℕ → Commits
with_objects x u objects = record { user = x.user; objects = upd x.objects u objects }

-- What each kind changes. "32 add user a." "40 create subject a for user b" "59, commit, has the fields of kind 56": subject a, object c.
unfoldable pub committing : List (Kind Commits)
committing =
    shows 32 (λ x r. with_objects x r.a [])
    ∷ shows 40 (λ x r. record { user = upd x.user r.a r.b; objects = x.objects })
    ∷ shows 59 (λ x r. with_objects x (x.user r.a) (r.c ∷ x.objects (x.user r.a)))
    ∷ []

-- The commits after a granted record.
unfoldable pub commit : Commits → Record → Commits
commit x r = (chosen committing r.kind).next x r

-- The commits after requests with these replies.
abbrev pub committed : List Said → Commits
committed ys = followed commit no_commits ys

-- The commits after a policy was loaded and requests were made.
abbrev pub commits_after : Bytes → List Bytes → Commits
commits_after policy requests = committed (said_after policy requests)

-- The same in the lower part alone.
abbrev pub lower_commits_after : Bytes → List Bytes → Commits
lower_commits_after policy requests = committed (run lower_request (lower_of (load policy).tables) requests)

-- ---- Demand 3: "since a user was last added, the commits granted to that user touch at most one block of each wall."

-- Whether some record puts object c into block b of wall w.
unfoldable pub stands : List Record → ℕ → ℕ → ℕ → Bool
stands policy w b c = some (λ r. eqb r.a w && eqb r.b b && eqb r.c c) (of_kind 18 policy)

-- For each wall there is one block that has all of these objects that are in the wall.
abbrev pub OneBlockOfEach : List Record → List ℕ → Type 0
OneBlockOfEach policy objects = (w : ℕ) → (b : ℕ) × Every (λ c. (k : ℕ) → stands policy w k c ≡ true → k ≡ b) objects

-- This holds for the commits of every user, in the engine and in the lower part.
pub record ClerksKeepToOneBlock : Type 0 where
  pub engine : AfterEvery (λ policy requests. (u : ℕ) → OneBlockOfEach (records_of policy) ((commits_after policy requests).objects u))
  pub dealers : AfterEvery (λ policy requests. (u : ℕ) → OneBlockOfEach (records_of policy) ((lower_commits_after policy requests).objects u))

-- ---- "WALL (24), after DENIED in kinds 56 and 59, when the user is bound in some wall to another block than the object's"

-- One of the objects is in a different block than c, of a wall that has both.
pub record Rival (policy : List Record) (objects : List ℕ) (c : ℕ) : Type 0 where
  pub object : ℕ
  pub among : some (eqb object) objects ≡ true
  pub wall : ℕ
  pub block : ℕ
  pub other : ℕ
  pub stands-in : stands policy wall block c ≡ true
  pub stands-there : stands policy wall other object ≡ true
  pub differ : block ≡ other → ⊥

-- The reply about object c, if the user has committed to these objects: it is WALL or GRANTED, and each exactly under its condition.
pub record Decided (policy : List Record) (objects : List ℕ) (c reply : ℕ) : Type 0 where
  pub either : (reply ≡ GRANTED) ⊎ (reply ≡ WALL)
  pub refused : (reply ≡ WALL) ↔ Rival policy objects c
  -- It is granted if committing leaves one block of each wall.
  pub free : (reply ≡ GRANTED) ↔ OneBlockOfEach policy (c ∷ objects)

-- The request is a check or a commit.
abbrev pub CheckOrCommit : Bytes → Type 0
CheckOrCommit s = ((decode s).kind ≡ 56) ⊎ ((decode s).kind ≡ 59)

-- The objects that the user of the record's subject has committed to.
abbrev pub committed_by : Commits → Record → List ℕ
committed_by x r = x.objects (x.user r.a)

-- This holds for every check and commit that no check before WALL refuses.
pub record WallExactlyWhen : Type 0 where
  pub engine : AfterEvery (λ policy requests. (s : Bytes) → CheckOrCommit s → Reaches WALL (reply_after policy requests s)
      → Decided (records_of policy) (committed_by (commits_after policy requests) (decode s)) (decode s).c (reply_after policy requests s))
  pub dealers : AfterEvery (λ policy requests. (s : Bytes) → CheckOrCommit s → Reaches WALL (lower_request (lower_after policy requests) s).reply
      → Decided (records_of policy) (committed_by (lower_commits_after policy requests) (decode s)) (decode s).c (lower_request (lower_after policy requests) s).reply)

-- "Request kind 59, commit, has the fields of kind 56 and is refused as the check is", for tables of any content.
pub record RefusedAsTheCheck : Type 0 where
  pub engine : (t : Engine) (s : Bytes) → (decode s).kind ≡ 59 → (request t s).reply ≡ (request t (56 ∷ drop 1 s)).reply
  pub dealers : (t : Lower) (s : Bytes) → (decode s).kind ≡ 59 → (lower_request t s).reply ≡ (lower_request t (56 ∷ drop 1 s)).reply

-- ---- "Deleting a user forgets the binding"

-- User u is bound in no wall.
abbrev pub BoundNowhere : (ℕ → ℕ → Maybe ℕ) → ℕ → Type 0
BoundNowhere bound_to u = (w : ℕ) → bound_to u w ≡ none

-- Deleted and added users are bound in no wall.
pub record DeletingForgets : Type 0 where
  -- Deleted users, for tables of any content.
  pub deleted : (t : Engine) (s : Bytes) → (decode s).kind ≡ 33 → (request t s).reply ≡ GRANTED
      → BoundNowhere (request t s).tables.lower.sessions.bound_to (decode s).a
  -- Added users.
  pub added : AfterEvery (λ policy requests. (s : Bytes) → (decode s).kind ≡ 32 → reply_after policy requests s ≡ GRANTED
      → BoundNowhere (request (tables_next policy requests) s).tables.lower.sessions.bound_to (decode s).a)

-- ---- "Objects outside a wall are free of it.": a request about an object that is
-- in no wall is never refused with WALL and binds nobody, for tables of any content.
pub record OutsideWallsAllIsFree : Type 0 where
  pub engine : (t : Engine) (s : Bytes) → CheckOrCommit s → ((w : ℕ) → block_of t.lower.policy.walls (decode s).c w ≡ none)
      → ((request t s).reply ≡ WALL → ⊥) × ((request t s).tables ≡ t)
  pub dealers : (t : Lower) (s : Bytes) → CheckOrCommit s → ((w : ℕ) → block_of t.policy.walls (decode s).c w ≡ none)
      → ((lower_request t s).reply ≡ WALL → ⊥) × ((lower_request t s).tables ≡ t)

-- ---- Without walls: the kinds that Ask 11 changed as they were before it, and the commit as a check.

-- The checks of 56 and 59.
unfoldable pub check_unwalled : Lower → ℕ → ℕ → ℕ → List Check
check_unwalled t a b c =
    (not (t.sessions.live a), UNKNOWN)
    ∷ (not (allowed t.policy.permissions (down t.policy.seniority (t.sessions.active a)) b c), DENIED)
    ∷ []

-- The kinds 56 and 59.
unfoldable pub checks_unwalled : List (Kind Lower)
checks_unwalled =
    on 56 (λ t r. check_unwalled t r.a r.b r.c) (λ t r. t)
    ∷ on 59 (λ t r. check_unwalled t r.a r.b r.c) (λ t r. t)
    ∷ []

-- The kinds of the lower part that Ask 11 changed.
unfoldable pub lower_unwalled : List (Kind Lower)
lower_unwalled = on 33 (λ t r. delete_checks t r.a) (λ t r. with_policy t (delete_next t.policy r.a)) ∷ checks_unwalled

-- The kinds of the engine that Ask 11 changed.
unfoldable pub unwalled : List (Kind Engine)
unwalled =
    on 33 (λ t r. delete_checks t.lower r.a ++ delete_above t r.a)
    (λ t r. with_lower t (with_policy t.lower (delete_next t.lower.policy r.a)))
    ∷ each widened checks_unwalled

-- The answer of the lower part without walls. Of two kinds with the same number the first counts.
unfoldable pub lower_request_unwalled : Lower → Bytes → Answer Lower
lower_request_unwalled t s = answer lower_forms (lower_unwalled ++ lower_kinds) t s

-- The answer of the engine without walls.
unfoldable pub request_unwalled : Engine → Bytes → Answer Engine
request_unwalled t s = answer request_forms (unwalled ++ request_kinds) t s

-- There are no walls, and nobody is bound.
pub record Unwalled (t : Lower) : Type 0 where
  pub walls : t.policy.walls ≡ []
  pub bound : t.sessions.bound_to ≡ (λ _ _. none)

-- Without records of kind 18 everything is as before Ask 11.
pub record AsBeforeWalls : Type 0 where
  -- A policy without such a record has no walls and binds nobody.
  pub loads : (policy : Bytes) → of_kind 18 (records_of policy) ≡ [] → Unwalled (lower_of (load policy).tables)
  -- The reply to each request, on tables of any content without walls.
  pub replies : (t : Engine) → t.lower.policy.walls ≡ [] → (s : Bytes) → (request t s).reply ≡ (request_unwalled t s).reply
  pub lower_replies : (t : Lower) → t.policy.walls ≡ [] → (s : Bytes) → (lower_request t s).reply ≡ (lower_request_unwalled t s).reply
  -- Reply and tables, if nobody is bound; nobody is bound afterwards.
  pub requests : (t : Engine) → Unwalled t.lower → (s : Bytes) → (request t s ≡ request_unwalled t s) × Unwalled (request t s).tables.lower
  pub lower_requests : (t : Lower) → Unwalled t → (s : Bytes) → (lower_request t s ≡ lower_request_unwalled t s) × Unwalled (lower_request t s).tables
  -- So any sequence of requests.
  pub runs : (t : Engine) → Unwalled t.lower → (ss : List Bytes)
      → (run request t ss ≡ run request_unwalled t ss) × (after request t ss ≡ after request_unwalled t ss)
  pub lower_runs : (t : Lower) → Unwalled t → (ss : List Bytes)
      → (run lower_request t ss ≡ run lower_request_unwalled t ss) × (after lower_request t ss ≡ after lower_request_unwalled t ss)
