-- The three demands on the engine, each statement after its sentence. They hold for any bytes, on buffers of any content and any lengths.
use Rattle.std.specs.Prelude.{ℕ, ◌+◌, ◌/◌, ◌%◌, ◌≤◌, ◌<◌, true, false, List, [], ◌∷◌, ◌≡◌, ◌↔◌, drop}
use Rattle.paper_lower.specs.Sets.{empty}
use Rattle.paper_lower.specs.Lists.{Every}
use Rattle.paper_lower.specs.Lists.Maybe.{none}
use Rattle.paper_lower.specs.Checks.{GRANTED, ROOM, BEFORE, FULL, WALL, first}
use Rattle.paper_lower.specs.Records.{Bytes, decode}
use Rattle.paper_lower.specs.Forms.{request_forms}
use Rattle.paper_lower.specs.Kinds.{run}
use Rattle.paper_lower.specs.Tables.{no_policy, with_policy}
use Rattle.paper_lower.specs.Policy.{user_checks, user_next, block_of}
use Rattle.paper_lower.specs.Words.{add_user, join}
use Rattle.paper_lower.specs.Load.{load, records_of}
use Rattle.paper_upper.specs.Orders.{SameTables, with_lower}
use Rattle.paper_upper.specs.Engine.{request_kinds, request, place_to, Placed, engine_of}
use Rattle.replies.specs.Replies.{Reply, number_of, Outcome, outcome_number, outcome_place}
use Rattle.lower.specs.Exports.{inside_one}
use Rattle.order_links.specs.Chains.{entries_in, sound_of}
use Rattle.engine.specs.Buffers.{Buffers, tables_of, fit, SameLengths}
use Rattle.engine.specs.Answers.{LoadDone, Zeros}
use Rattle.engine.specs.Exports.{LoadExported}
use Rattle.engine.specs.Settling.{SettledAs, SettledRequest, SettledExported}
use Rattle.theorems.specs.Replies.{in_table, FirstRefusal, checks_of, ChecksInOrder}
use Rattle.theorems.specs.Outside.{hear, outside}
use Rattle.theorems.specs.OverEntries.{of_kind, claim_rules, RoleLimits}
use Rattle.theorems.specs.Theorems.{tables_next, Reaches, FirstBroken, fixed}
use Rattle.theorems.specs.InUse.{is_in_use}
use Rattle.theorems.specs.Places.{placed_after, RuleAt}
use Rattle.theorems.specs.Entering.{entered_after}
use Rattle.theorems.specs.Meeting.{Apart}
use Rattle.theorems.specs.Joining.{gathered, EachOnce, EverySetIsListed, one_at_a_time, AllGranted}
use Rattle.theorems.specs.Stuck.{NoneStuck, NextOnList}
use Rattle.theorems.specs.Seniority.{AsRecorded, request_before, load_before, NoneBelow}
use Rattle.theorems.specs.Walls.{committed, OneBlockOfEach, Decided, CheckOrCommit, committed_by, request_unwalled, Unwalled}
use Rattle.theorems.specs.Exactly.{known, engine_kinds_asked, Answered}
use Rattle.demands.specs.Calls.{Request, Load, Together, Requests, all_of_said, fitting, asked}

-- ---- Demand 1

-- What a request that does not check the links leaves of any buffers.
pub record Unlooked (x y : Buffers) (reply place : ℕ) : Type 0 where
  pub answers : in_table reply ≡ true
  pub small : place ≤ 64
  pub lengths : SameLengths x y
  pub refused : (reply ≡ GRANTED → ⊥) → y ≡ x
  pub misfit : fit x ≡ false → (reply ≡ ROOM) × (place ≡ 0) × (y ≡ x)

-- Demand 1: every call answers, and refusals change nothing.
pub record DemandOne : Type 0 where
  -- "Every record and every state, of any length or content, gets an answer from the published table, and the engine always returns.": the calls have no
  -- `requires`, and a function that is proved returns.
  pub request-answers : {bytes : Bytes} {x y : Buffers} {reply place : ℕ} → Request bytes x y reply place → in_table reply ≡ true
  pub load-answers : {bytes : Bytes} {x y : Buffers} {reply : ℕ} → Load bytes x y reply → in_table reply ≡ true
  -- "A refused request changes no table.": it changes no word.
  pub refused-request : {bytes : Bytes} {x y : Buffers} {reply place : ℕ} → Request bytes x y reply place → (reply ≡ GRANTED → ⊥) → y ≡ x
  -- "A refused load leaves an empty engine.": every word is 0.
  pub refused-load : {bytes : Bytes} {x y : Buffers} {reply : ℕ} → fit x ≡ true → Load bytes x y reply → (reply ≡ GRANTED → ⊥)
      → (tables_of y ≡ engine_of no_policy) × Zeros y
  -- "Buffers of the wrong length are refused and not written."
  pub misfit-request : {bytes : Bytes} {x y : Buffers} {reply place : ℕ} → fit x ≡ false → Request bytes x y reply place
      → (reply ≡ ROOM) × (place ≡ 0) × (y ≡ x)
  pub misfit-load : {bytes : Bytes} {x y : Buffers} {reply : ℕ} → fit x ≡ false → Load bytes x y reply → (reply ≡ ROOM) × (y ≡ x)
  -- "place 0"
  pub misfit-place : {bytes : Bytes} {x y : Buffers} {r : Reply} {place : ℕ} → fit x ≡ false → LoadDone bytes x y r place → place ≡ 0
  pub misfit-number : {bytes : Bytes} {x y : Buffers} {number : ℕ} → fit x ≡ false → LoadExported bytes x y number → number ≡ inside_one ROOM 0
  -- The settled request on any content, whether its links are sound or not.
  pub settled-request : {bytes : Bytes} {x y : Buffers} {j : Outcome} → SettledRequest bytes x y j → Unlooked x y (outcome_number j) (outcome_place j)
  pub settled-number : {bytes : Bytes} {x y : Buffers} {n : ℕ} → SettledExported bytes x y n → Unlooked x y (n % 256) (n / 256)

-- ---- 02, Ask 9: "The links never cross, never loop and reach every entry once." Sound links have these properties, and each call that changes the state
-- leaves sound links.
pub record LinksStaySound : Type 0 where
  pub loads : {bytes : Bytes} {x y : Buffers} {reply : ℕ} → fit x ≡ true → Load bytes x y reply → sound_of y.orders ≡ true
  pub granted : {bytes : Bytes} {x y : Buffers} {reply place : ℕ} → Request bytes x y reply place → reply ≡ GRANTED → sound_of y.orders ≡ true
  pub settled : {bytes : Bytes} {x y : Buffers} {reply place : ℕ} → Request bytes x y reply place → sound_of x.orders ≡ true → sound_of y.orders ≡ true
  -- The same for any sequence of calls after a load.
  pub chains : {x z : Buffers} {said : List Placed} → Requests x said z → sound_of x.orders ≡ true → sound_of z.orders ≡ true

-- "Keep each open instance's entries linked in order of entry": after an accepted load and any requests, the entries on an instance's links, the oldest
-- first, are its granted claims less the released ones, in the order of the claims, as an observer knows them from the requests and replies.
pub record LinkedInOrder : Type 0 where
  pub upheld : {policy : Bytes} {x y z : Buffers} {reply : ℕ} {said : List Placed} → Load policy x y reply → reply ≡ GRANTED → Requests y said z
      → (i : ℕ) → i < 64 → entries_in z.orders i ≡ entered_after i policy (all_of_said said)

-- ---- Demand 2

-- "Each load and each request gives exactly the answer and the next tables that the condensed OPL rules give: granted when they grant, otherwise refused with
-- the first refusal in the fixed order." By 02, Ask 2, it also gives exactly the place.
pub record DemandTwo : Type 0 where
  pub requests : {bytes : Bytes} {x y : Buffers} {reply place : ℕ} → fit x ≡ true → Request bytes x y reply place
      → (reply ≡ (request (tables_of x) bytes).reply)
      × (place ≡ place_to (tables_of x) bytes)
      × SameTables (tables_of y) (request (tables_of x) bytes).tables
  pub loads : {bytes : Bytes} {x y : Buffers} {reply : ℕ} → fit x ≡ true → Load bytes x y reply
      → (reply ≡ (load bytes).reply) × (tables_of y ≡ engine_of (load bytes).tables)
  -- The place of a load. The exported number has room for places below 2 ^ 55.
  pub places : {bytes : Bytes} {x y : Buffers} {r : Reply} {place : ℕ} → fit x ≡ true → LoadDone bytes x y r place → place ≡ (load bytes).place
  pub numbers : {bytes : Bytes} {x y : Buffers} {number : ℕ} → fit x ≡ true → LoadExported bytes x y number
      → number ≡ inside_one (load bytes).reply (load bytes).place
  -- Any sequence of requests after a load into buffers of any content.
  pub runs : {policy : Bytes} {x y z : Buffers} {reply : ℕ} {said : List Placed} → fit x ≡ true → Load policy x y reply → Requests y said z
      → let fitted = fitting (λ a. a.said) said in
      (fitted ≡ placed_after policy (asked (λ a. a.said) fitted)) × SameTables (tables_of z) (tables_next policy (asked (λ a. a.said) fitted))
  -- A refusal is that of the first check that applies, in the order of the numbers, and a request is granted only if none applies.
  pub first-refusal : {bytes : Bytes} {x y : Buffers} {reply place : ℕ} → fit x ≡ true → Request bytes x y reply place
      → FirstRefusal (checks_of request_forms request_kinds (tables_of x) bytes) reply
  -- "Checks run in the order of their numbers", also those of a policy's records.
  pub order : ChecksInOrder

-- "A proof shows that no second answer fits": the answer depends only on the bytes and the tables that the buffers read as, not on the words or on which
-- function is called.
pub record OneAnswer : Type 0 where
  pub requests : {bytes : Bytes} {x x' y y' : Buffers} {q r i j : ℕ} → fit x ≡ fit x' → SameTables (tables_of x) (tables_of x')
      → Request bytes x y q i → Request bytes x' y' r j → (q ≡ r) × (i ≡ j) × SameTables (tables_of y) (tables_of y')
  pub loads : {bytes : Bytes} {x x' y y' : Buffers} {q r : ℕ} → fit x ≡ true → fit x' ≡ true
      → Load bytes x y q → Load bytes x' y' r → (q ≡ r) × (tables_of y ≡ tables_of y')
  pub places : {bytes : Bytes} {x x' y y' : Buffers} {q r : Reply} {i j : ℕ} → fit x ≡ true → fit x' ≡ true
      → LoadDone bytes x y q i → LoadDone bytes x' y' r j → i ≡ j
  pub numbers : {bytes : Bytes} {x x' y y' : Buffers} {m n : ℕ} → fit x ≡ true → fit x' ≡ true
      → LoadExported bytes x y m → LoadExported bytes x' y' n → m ≡ n
  -- No two replies have the same number.
  pub replies : (q r : Reply) → number_of q ≡ number_of r → q ≡ r

-- ---- Demand 3

-- What holds after a policy was loaded and requests were made.
pub record Upheld (policy : Bytes) (said : List Placed) (z : Buffers) : Type 0 where
  -- "read the entries of each open order from the requests and answers alone: they break no task set, partition, lone-worker, binding, count
  -- or prerequisite rule"
  pub orders : Every (λ k. k.Kept (records_of policy) (outside policy (all_of_said said)).orders) claim_rules
  -- "and role limits hold for every clerk."
  pub clerks : RoleLimits (records_of policy) (outside policy (all_of_said said))
  -- "A claim that passes the earlier checks is refused for the first of these six rules that entering it would break, and for none of them
  -- otherwise."
  pub claims : {claim : Bytes} {w : Buffers} {reply place : ℕ} → (decode claim).kind ≡ 50 → Request claim z w reply place → Reaches BEFORE reply
      → FirstBroken claim_rules (records_of policy) (hear (outside policy (all_of_said said)) (decode claim)).orders reply
  -- 02, Ask 2: the place is that of the first record of the rule's kind that the entry would break; for BLOCK, where 01's search ends.
  pub places : {claim : Bytes} {w : Buffers} {reply place : ℕ} → (decode claim).kind ≡ 50 → Request claim z w reply place
      → RuleAt (records_of policy) (outside policy (all_of_said said)) (decode claim) reply place
  -- 02, Ask 11: "since a user was last added, the commits granted to that user touch at most one block of each wall."
  pub walls : (u : ℕ) → OneBlockOfEach (records_of policy) ((committed (all_of_said said)).objects u)
  -- A check or a commit that passes the earlier checks is refused with WALL exactly if committing would touch a second block of a wall.
  pub checks : {check : Bytes} {w : Buffers} {reply place : ℕ} → CheckOrCommit check → Request check z w reply place → Reaches WALL reply
      → Decided (records_of policy) (committed_by (committed (all_of_said said)) (decode check)) (decode check).c reply
  -- Every reply to every kind of request is given exactly under the conditions of theorems/specs/Exactly.
  pub replies : {bytes : Bytes} {w : Buffers} {reply place : ℕ} → Request bytes z w reply place
      → Answered engine_kinds_asked (known policy (all_of_said said)) bytes reply

-- "After an accepted load and any further requests"
pub record DemandThree : Type 0 where
  pub upheld : {policy : Bytes} {x y z : Buffers} {reply : ℕ} {said : List Placed} → Load policy x y reply → reply ≡ GRANTED → Requests y said z
      → Upheld policy said z

-- ---- Calls that are not single requests can be part of a sequence too, so that "any further requests" covers everything that public calls can do with an
-- engine's buffers. For the pile this is stated in call_pile/specs/Promises.
pub record InChains : Type 0 where
  -- Settling changes no table.
  pub settling : {x y : Buffers} {reply : ℕ} → SettledAs x y reply → Together [] x y
  -- A call that only reads the state, a question or the writing of the policy, changes nothing.
  pub reading : (x : Buffers) → Together [] x x

-- ---- 02, Ask 1: "kind 32 now takes roles in m, and all of it happens or nothing."
pub record JoinedWithRoles : Type 0 where
  -- "the result equals adding, then assigning one role after another, whenever none of those would be refused": on buffers of any content and for every order
  -- of the roles; the join is granted exactly then.
  pub one_by_one : {x y z : Buffers} {reply place : ℕ} {said : List Placed} (a : ℕ) (roles : List ℕ) → fit x ≡ true → a < 1024 → EachOnce empty roles
      → Request (join a (gathered empty roles)) x y reply place → Requests x said z
      → let fitted = fitting (λ p. p.said) said in
      asked (λ p. p.said) fitted ≡ one_at_a_time a roles
      → ((reply ≡ GRANTED) ↔ AllGranted (all_of_said fitted)) × (reply ≡ GRANTED → SameTables (tables_of y) (tables_of z))
  -- Every set of roles is that of such a list.
  pub every_set : EverySetIsListed
  -- "m = 0 does what it did": it does what policy kind 1 does.
  pub without-roles : {x y : Buffers} {reply place : ℕ} (a : ℕ) → fit x ≡ true → a < 1024 → Request (add_user a) x y reply place
      → let t = tables_of x in
      (reply ≡ first (user_checks t.lower.policy a))
      × (reply ≡ GRANTED → SameTables (tables_of y) (with_lower t (with_policy t.lower (user_next t.lower.policy a))))

-- ---- 02, Ask 14: "Two desks claim in the same second .. It should not matter."

-- The claims c and d on the same buffers z, made in either order.
pub record EitherFirst (c d : Bytes) (z : Buffers) : Type 0 where
  pub same : {w v w' v' : Buffers} {q p i j q' p' i' j' : ℕ} → Request c z w q i → Request d w v p j → Request d z w' p' j' → Request c w' v' q' i'
      → ((q ≡ q') × (i ≡ i')) × ((p ≡ p') × (j ≡ j')) × SameTables (tables_of v) (tables_of v')

-- "after an accepted load and any requests: for two claims in different open instances, with at least two ledger entries free beforehand"
pub record ClaimsDoNotMeet : Type 0 where
  pub upheld : {policy : Bytes} {x y z : Buffers} {reply : ℕ} {said : List Placed} → Load policy x y reply → reply ≡ GRANTED → Requests y said z
      → (c d : Bytes) → Apart c d → is_in_use (all_of_said said) + 2 ≤ 2048 → EitherFirst c d z
  -- "With one entry free the order matters": if each of two claims is granted when it is made
  -- first, the one made second is FULL. The table of cases is theorems/specs/MeetingTable.
  pub one_free : {policy : Bytes} {x y z : Buffers} {reply : ℕ} {said : List Placed} → Load policy x y reply → reply ≡ GRANTED → Requests y said z
      → (c d : Bytes) → Apart c d → is_in_use (all_of_said said) + 1 ≡ 2048
      → {w v w' v' : Buffers} {q p i j q' p' i' j' : ℕ} → Request c z w q i → Request d w v p j → Request d z w' p' j' → Request c w' v' q' i'
      → q ≡ GRANTED → p' ≡ GRANTED → (p ≡ FULL) × (q' ≡ FULL)

-- ---- 02, Ask 7: senior roles.
pub record SeniorRoles : Type 0 where
  -- After an accepted load and any requests a role is below another exactly if a chain of the policy's records leads to it, and no role is below itself. That
  -- the role limits count the roles below is part of demand 3 (`clerks`).
  pub recorded : {policy : Bytes} {x y z : Buffers} {reply : ℕ} {said : List Placed} → Load policy x y reply → reply ≡ GRANTED → Requests y said z
      → AsRecorded (records_of policy) (tables_of z).lower.policy.seniority
  -- "With no kind 17 record every reply is as before, and that is to be shown." A request, on buffers of any content in which no role is below another.
  pub requests : {bytes : Bytes} {x y : Buffers} {reply place : ℕ} → fit x ≡ true → NoneBelow (tables_of x).lower.policy → Request bytes x y reply place
      → (reply ≡ (request_before (tables_of x) bytes).reply) × SameTables (tables_of y) (request_before (tables_of x) bytes).tables
  -- A load, and its place.
  pub loads : {policy : Bytes} {x y : Buffers} {reply : ℕ} → fit x ≡ true → of_kind 17 (records_of policy) ≡ [] → Load policy x y reply
      → (reply ≡ (load_before policy).reply) × (tables_of y ≡ engine_of (load_before policy).tables)
  pub places : {policy : Bytes} {x y : Buffers} {r : Reply} {place : ℕ} → fit x ≡ true → of_kind 17 (records_of policy) ≡ [] → LoadDone policy x y r place
      → place ≡ (load_before policy).place
  -- Any sequence of requests after a load.
  pub runs : {policy : Bytes} {x y z : Buffers} {reply : ℕ} {said : List Placed} → fit x ≡ true → of_kind 17 (records_of policy) ≡ [] → Load policy x y reply
      → Requests y said z
      → let fitted = fitting (λ a. a.said) said in
      all_of_said fitted ≡ run request_before (engine_of (load_before policy).tables) (asked (λ a. a.said) fitted)

-- ---- 02, Ask 11: commits.
pub record Commits : Type 0 where
  -- "Request kind 59, commit, has the fields of kind 56 and is refused as the check is", on buffers of any content and lengths.
  pub as-the-check : {bytes : Bytes} {x y w : Buffers} {q p i j : ℕ} → (decode bytes).kind ≡ 59
      → Request bytes x y q i → Request (56 ∷ drop 1 bytes) x w p j → q ≡ p
  -- "Objects outside a wall are free of it.": a request about an object that is in no wall is never refused with WALL and binds nobody.
  pub outside-walls : {bytes : Bytes} {x y : Buffers} {reply place : ℕ} → fit x ≡ true → CheckOrCommit bytes
      → ((w : ℕ) → block_of (tables_of x).lower.policy.walls (decode bytes).c w ≡ none) → Request bytes x y reply place
      → (reply ≡ WALL → ⊥) × SameTables (tables_of y) (tables_of x)

-- ---- 02, Ask 11: without a record of kind 18 every reply is as before Ask 11.
pub record WithoutWalls : Type 0 where
  -- A request, on buffers of any content without walls; if nobody is bound, the tables are as before too.
  pub requests : {bytes : Bytes} {x y : Buffers} {reply place : ℕ} → fit x ≡ true → (tables_of x).lower.policy.walls ≡ [] → Request bytes x y reply place
      → reply ≡ (request_unwalled (tables_of x) bytes).reply
  pub tables : {bytes : Bytes} {x y : Buffers} {reply place : ℕ} → fit x ≡ true → Unwalled (tables_of x).lower → Request bytes x y reply place
      → SameTables (tables_of y) (request_unwalled (tables_of x) bytes).tables
  -- Any sequence of requests after a load.
  pub runs : {policy : Bytes} {x y z : Buffers} {reply : ℕ} {said : List Placed} → fit x ≡ true → of_kind 18 (records_of policy) ≡ [] → Load policy x y reply
      → Requests y said z
      → let fitted = fitting (λ a. a.said) said in
      all_of_said fitted ≡ run request_unwalled (engine_of (load policy).tables) (asked (λ a. a.said) fitted)

-- ---- 02, Ask 13: "which of its tasks can never be claimed because of prerequisites"

-- What holds after a policy was loaded and requests were made.
pub record CanFinish (policy : Bytes) (said : List Placed) (z : Buffers) : Type 0 where
  -- No task with an entry in an open order is stuck, from the requests and replies alone.
  pub entries : NoneStuck (fixed (load policy).tables) (outside policy (all_of_said said)).orders
  -- BEFORE refuses no claim of a task on the list of free ones if those before it on the list are done.
  pub along : {claim : Bytes} {w : Buffers} {reply place : ℕ} → (decode claim).kind ≡ 50
      → NextOnList (fixed (load policy).tables) (outside policy (all_of_said said)).orders (decode claim)
      → Request claim z w reply place → reply ≡ BEFORE → ⊥

-- This holds after every accepted load and any requests.
pub record StuckAreNeverEntered : Type 0 where
  pub upheld : {policy : Bytes} {x y z : Buffers} {reply : ℕ} {said : List Placed} → Load policy x y reply → reply ≡ GRANTED → Requests y said z
      → CanFinish policy said z
