-- "dealers build the lower part alone": its calls have one answer each, by the functions of Rattle and by those that C and Rust link; and the role limits,
-- joining, senior roles and walls hold there too. Demands 1 and 2 on a call of the lower part are its contract itself (lower/specs/Answers).
use Rattle.std.specs.Prelude.{ℕ, ◌<◌, ◌%◌, Bool, true, List, [], ◌∷◌, ◌≡◌, ◌↔◌, drop}
use Rattle.paper_lower.specs.Sets.{empty}
use Rattle.paper_lower.specs.Lists.Maybe.{none}
use Rattle.paper_lower.specs.Checks.{GRANTED, WALL, first}
use Rattle.paper_lower.specs.Records.{Bytes, decode}
use Rattle.paper_lower.specs.Kinds.{Said, run, after}
use Rattle.paper_lower.specs.Load.{load, records_of}
use Rattle.paper_lower.specs.Sessions.{lower_request, lower_of}
use Rattle.paper_lower.specs.Tables.{Lower, with_policy}
use Rattle.paper_lower.specs.Policy.{user_checks, user_next, block_of}
use Rattle.paper_lower.specs.Words.{add_user, join}
use Rattle.replies.specs.Replies.{Reply, number_of}
use Rattle.sessions.specs.Lower.{lower_tables}
use Rattle.lower.specs.Answers as lower
use Rattle.lower.specs.Exports as exports
use Rattle.theorems.specs.Outside.{outside}
use Rattle.theorems.specs.OverEntries.{of_kind, RoleLimits}
use Rattle.theorems.specs.Theorems.{Reaches}
use Rattle.theorems.specs.Joining.{gathered, EachOnce, one_at_a_time, AllGranted}
use Rattle.theorems.specs.Seniority.{AsRecorded, lower_request_before, load_before, NoneBelow}
use Rattle.theorems.specs.Exactly.{known, lower_kinds_asked, Answered}
use Rattle.theorems.specs.Walls.{committed, OneBlockOfEach, Decided, CheckOrCommit, committed_by, lower_request_unwalled, Unwalled}
use Rattle.demands.specs.Calls.{Chain, asked, fitting}

-- The two buffers of the lower part.
pub record Buffers : Type 0 where
  pub policy : List ℕ
  pub sessions : List ℕ

-- The tables that they read as.
abbrev pub tables_of : Buffers → Lower
tables_of x = lower_tables x.policy x.sessions

-- Whether both have the right lengths.
abbrev pub fit : Buffers → Bool
fit x = lower.fit x.policy x.sessions

-- A request by either function.
pub data Request (bytes : Bytes) (x y : Buffers) : ℕ → Type 0 where
  within : {r : Reply} → lower.Requested bytes x.policy x.sessions y.policy y.sessions r → Request bytes x y (number_of r)
  exported : {n : ℕ} → exports.RequestExported bytes x.policy x.sessions y.policy y.sessions n → Request bytes x y n

-- One request, as an element of a sequence of calls.
abbrev pub Called : Said → Buffers → Buffers → Type 0
Called a x y = Request a.request x y a.reply

-- A call that answers several requests or none. Of the other calls of the lower part, `mishantral_lower_write` only reads the state: it answers no request,
-- and the tables stay the same.
pub record Together (now : List Said) (x y : Buffers) : Type 0 where
  pub answers : now ≡ run lower_request (tables_of x) (asked (λ a. a) now)
  pub tables : tables_of y ≡ after lower_request (tables_of x) (asked (λ a. a) now)
  pub lengths : fit y ≡ fit x

-- Any sequence of calls on the two buffers.
abbrev pub Requests : Buffers → List Said → Buffers → Type 0
Requests x said z = Chain Called Together fit x said z

-- A load by either function.
pub data Load (bytes : Bytes) (x y : Buffers) : ℕ → Type 0 where
  within : {r : Reply} {place : ℕ} → lower.Loads bytes x.policy x.sessions y.policy y.sessions r place → Load bytes x y (number_of r)
  exported : {n : ℕ} → exports.LoadExported bytes x.policy x.sessions y.policy y.sessions n → Load bytes x y (n % 256)

-- "A proof shows that no second answer fits"
pub record OneAnswer : Type 0 where
  pub requests : {bytes : Bytes} {x x' y y' : Buffers} {q r : ℕ} → fit x ≡ fit x' → tables_of x ≡ tables_of x'
      → Request bytes x y q → Request bytes x' y' r → (q ≡ r) × (tables_of y ≡ tables_of y')
  pub loads : {bytes : Bytes} {x x' y y' : Buffers} {q r : ℕ} → fit x ≡ true → fit x' ≡ true
      → Load bytes x y q → Load bytes x' y' r → (q ≡ r) × (tables_of y ≡ tables_of y')
  pub places : {bytes : Bytes} {p s p' s' k t k' t' : List ℕ} {q r : Reply} {i j : ℕ} → lower.fit p s ≡ true → lower.fit k t ≡ true
      → lower.Loads bytes p s p' s' q i → lower.Loads bytes k t k' t' r j → i ≡ j
  pub numbers : {bytes : Bytes} {p s p' s' k t k' t' : List ℕ} {m n : ℕ} → lower.fit p s ≡ true → lower.fit k t ≡ true
      → exports.LoadExported bytes p s p' s' m → exports.LoadExported bytes k t k' t' n → m ≡ n

-- After an accepted load and any further requests, "role limits hold": for the roles that an observer knows from requests and replies.
pub record LimitsHold : Type 0 where
  pub upheld : {policy : Bytes} {x y z : Buffers} {reply : ℕ} {said : List Said} → Load policy x y reply → reply ≡ GRANTED → Requests y said z
      → RoleLimits (records_of policy) (outside policy said)

-- Every reply to every kind of request is given exactly under the conditions of theorems/specs/Exactly.
pub record RepliesExactly : Type 0 where
  pub upheld : {policy : Bytes} {x y z : Buffers} {reply : ℕ} {said : List Said} → Load policy x y reply → reply ≡ GRANTED → Requests y said z
      → {bytes : Bytes} {w : Buffers} {q : ℕ} → Request bytes z w q → Answered lower_kinds_asked (known policy said) bytes q

-- ---- 02, Ask 1: joining with roles, in the lower part.
pub record JoinedWithRoles : Type 0 where
  -- "the result equals adding, then assigning one role after another, whenever none of those would be refused": the join is granted exactly then.
  pub one_by_one : {x y z : Buffers} {reply : ℕ} {said : List Said} (a : ℕ) (roles : List ℕ) → fit x ≡ true → a < 1024 → EachOnce empty roles
      → Request (join a (gathered empty roles)) x y reply → Requests x said z
      → let fitted = fitting (λ p. p) said in
      asked (λ p. p) fitted ≡ one_at_a_time a roles
      → ((reply ≡ GRANTED) ↔ AllGranted fitted) × (reply ≡ GRANTED → tables_of y ≡ tables_of z)
  -- "m = 0 does what it did": it does what policy kind 1 does.
  pub without-roles : {x y : Buffers} {reply : ℕ} (a : ℕ) → fit x ≡ true → a < 1024 → Request (add_user a) x y reply
      → let t = tables_of x in
      (reply ≡ first (user_checks t.policy a)) × (reply ≡ GRANTED → tables_of y ≡ with_policy t (user_next t.policy a))

-- ---- 02, Ask 7: senior roles, in the lower part.
pub record SeniorRoles : Type 0 where
  -- Which roles are below a role follows from the policy's records.
  pub recorded : {policy : Bytes} {x y z : Buffers} {reply : ℕ} {said : List Said} → Load policy x y reply → reply ≡ GRANTED → Requests y said z
      → AsRecorded (records_of policy) (tables_of z).policy.seniority
  -- "With no kind 17 record every reply is as before"
  pub requests : {bytes : Bytes} {x y : Buffers} {reply : ℕ} → fit x ≡ true → NoneBelow (tables_of x).policy → Request bytes x y reply
      → (reply ≡ (lower_request_before (tables_of x) bytes).reply) × (tables_of y ≡ (lower_request_before (tables_of x) bytes).tables)
  pub loads : {policy : Bytes} {x y : Buffers} {reply : ℕ} → fit x ≡ true → of_kind 17 (records_of policy) ≡ [] → Load policy x y reply
      → (reply ≡ (load_before policy).reply) × (tables_of y ≡ lower_of (load_before policy).tables)
  pub runs : {policy : Bytes} {x y z : Buffers} {reply : ℕ} {said : List Said} → fit x ≡ true → of_kind 17 (records_of policy) ≡ [] → Load policy x y reply
      → Requests y said z
      → let fitted = fitting (λ a. a) said in
      fitted ≡ run lower_request_before (lower_of (load_before policy).tables) (asked (λ a. a) fitted)

-- ---- 02, Ask 11: walls, in the lower part.
pub record WallsHold : Type 0 where
  -- "since a user was last added, the commits granted to that user touch at most one block of each wall."
  pub upheld : {policy : Bytes} {x y z : Buffers} {reply : ℕ} {said : List Said} → Load policy x y reply → reply ≡ GRANTED → Requests y said z
      → (u : ℕ) → OneBlockOfEach (records_of policy) ((committed said).objects u)
  -- A check or a commit that passes the earlier checks is refused with WALL exactly if committing would touch a second block of a wall.
  pub checks : {policy : Bytes} {x y z : Buffers} {reply : ℕ} {said : List Said} → Load policy x y reply → reply ≡ GRANTED → Requests y said z
      → {check : Bytes} {w : Buffers} {q : ℕ} → CheckOrCommit check → Request check z w q → Reaches WALL q
      → Decided (records_of policy) (committed_by (committed said) (decode check)) (decode check).c q
  -- "Request kind 59, commit, has the fields of kind 56 and is refused as the check is"
  pub as-the-check : {bytes : Bytes} {x y w : Buffers} {q p : ℕ} → (decode bytes).kind ≡ 59 → Request bytes x y q → Request (56 ∷ drop 1 bytes) x w p → q ≡ p
  -- "Objects outside a wall are free of it.": a request about an object that is in no wall is never refused with WALL and binds nobody.
  pub outside-walls : {bytes : Bytes} {x y : Buffers} {reply : ℕ} → fit x ≡ true → CheckOrCommit bytes
      → ((w : ℕ) → block_of (tables_of x).policy.walls (decode bytes).c w ≡ none) → Request bytes x y reply
      → (reply ≡ WALL → ⊥) × (tables_of y ≡ tables_of x)
  -- Without walls every reply is as before Ask 11.
  pub requests : {bytes : Bytes} {x y : Buffers} {reply : ℕ} → fit x ≡ true → (tables_of x).policy.walls ≡ [] → Request bytes x y reply
      → reply ≡ (lower_request_unwalled (tables_of x) bytes).reply
  -- If nobody is bound, the tables are as before too.
  pub tables : {bytes : Bytes} {x y : Buffers} {reply : ℕ} → fit x ≡ true → Unwalled (tables_of x) → Request bytes x y reply
      → tables_of y ≡ (lower_request_unwalled (tables_of x) bytes).tables
  -- The same for all requests after a load.
  pub runs : {policy : Bytes} {x y z : Buffers} {reply : ℕ} {said : List Said} → fit x ≡ true → of_kind 18 (records_of policy) ≡ [] → Load policy x y reply
      → Requests y said z
      → let fitted = fitting (λ a. a) said in
      fitted ≡ run lower_request_unwalled (lower_of (load policy).tables) (asked (λ a. a) fitted)
