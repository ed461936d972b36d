-- For every kind of request and every reply that it can get: exactly when it gets that reply. The conditions use the words of 01's table of replies and of
-- 02, and are stated over the policy's records, the requests and their replies, as relations and quantifiers. No table of the engine and no function that the
-- engine computes with decides anything here.
use Rattle.std.specs.Prelude.{ℕ, suc, ◌/◌, ◌%◌, ◌^◌, ◌≤◌, ◌<◌, ◌≡◌, true, ◌⊎◌, ◌↔◌, List, [], ◌∷◌, ◌++◌, length}
use Rattle.paper_lower.specs.Sets.{Set, has}
use Rattle.paper_lower.specs.Lists.{Every}
use Rattle.paper_lower.specs.Lists.Maybe.{just}
use Rattle.paper_lower.specs.Checks.{GRANTED, SHAPE, RANGE, UNKNOWN, TAKEN, IN-USE, NOT-ASSIGNED, STATIC, DYNAMIC, NO-ROLE, NOT-YOURS, DENIED, BEFORE, SEPARATION, BLOCK, ALONE, BOUND, COUNT, FULL, WALL}
use Rattle.paper_lower.specs.Records.{Bytes, Record, decode}
use Rattle.paper_lower.specs.Forms.{Field, Form, form}
use Rattle.paper_lower.specs.Forms.Field.{·, to, any, pair}
use Rattle.paper_lower.specs.Kinds.{Said, run}
use Rattle.paper_lower.specs.Load.{load, records_of}
use Rattle.paper_lower.specs.Sessions.{lower_request, lower_of}
use Rattle.paper_upper.specs.Orders.{Entry}
use Rattle.paper_upper.specs.Orders.Standing.{held, done}
use Rattle.theorems.specs.Outside.{Told, outside}
use Rattle.theorems.specs.OverEntries.{of_kind, EveryTwo, Reached, Any, Broken, HasHad}
use Rattle.theorems.specs.Theorems.{AfterEvery, said_after, reply_after, lower_after}
use Rattle.theorems.specs.Walls.{Commits, committed, committed_by, Rival}

-- The negation of a statement.
abbrev pub Not : Type 0 → Type 0
Not P = P → ⊥

-- ---- What an observer knows: the policy's records, and what follows from the requests and their replies.
pub record Known : Type 0 where
  pub policy : List Record
  pub told : Told
  pub commits : Commits

-- What an observer knows after this policy and these requests with their replies.
abbrev pub known : Bytes → List Said → Known
known policy said = record { policy = records_of policy; told = outside policy said; commits = committed said }

-- ---- A refusal: its number, and the condition under which it applies.
pub record Refusal : Type 1 where
  pub reply : ℕ
  pub When : Type 0

-- The refusal with these parts.
abbrev pub refusal : ℕ → Type 0 → Refusal
refusal reply When = record { reply = reply; When = When }

-- "Checks run in the order of their numbers; the first that applies is given, and none is given otherwise."
pub record GivenExactly (ks : List Refusal) (reply : ℕ) : Type 0 where
  -- The reply is GRANTED exactly if no refusal applies.
  pub granted : (reply ≡ GRANTED) ↔ Every (λ k. Not k.When) ks
  -- Each refusal is given exactly if it applies and none with a lower number does.
  pub refused : Every (λ k. (reply ≡ k.reply) ↔ (k.When × Every (λ j. j.reply < k.reply → Not j.When) ks)) ks
  -- No other reply is given.
  pub listed : (Every (λ k. Not (reply ≡ k.reply)) ks) → reply ≡ GRANTED

-- q is a member of the set m: "Bit i of m stands for role or task i."
abbrev pub In : Set → ℕ → Type 0
In m q = has m q ≡ true

-- P holds for exactly n elements of a list.
pub data Of {A : Type 0} (P : A → Type 0) : List A → ℕ → Type 0 where
  none : Of P [] 0
  one : {x : A} {xs : List A} {n : ℕ} → P x → Of P xs n → Of P (x ∷ xs) (suc n)
  other : {x : A} {xs : List A} {n : ℕ} → Not (P x) → Of P xs n → Of P (x ∷ xs) n

module _ (k : Known) where
  -- ---- What the policy's records say.

  -- P holds for some record of this kind.
  abbrev Says : ℕ → (Record → Type 0) → Type 0
  Says kind P = Any P (of_kind kind k.policy)

  -- "2 role a." "3 permission a = operation b on object c."
  abbrev pub IsRole : ℕ → Type 0
  IsRole a = Says 2 (λ q. q.a ≡ a)

  abbrev pub IsPermission : ℕ → Type 0
  IsPermission a = Says 3 (λ q. q.a ≡ a)

  abbrev pub PermissionFor : ℕ → ℕ → ℕ → Type 0
  PermissionFor a operation object = Says 3 (λ q. (q.a ≡ a) × (q.b ≡ operation) × (q.c ≡ object))

  -- "6 task a of template b." "7 task a open to role b." "8 task a carries permission b."
  abbrev pub TaskOf : ℕ → ℕ → Type 0
  TaskOf a b = Says 6 (λ q. (q.a ≡ a) × (q.b ≡ b))

  abbrev pub OpenTo : ℕ → ℕ → Type 0
  OpenTo a b = Says 7 (λ q. (q.a ≡ a) × (q.b ≡ b))

  abbrev pub Carries : ℕ → ℕ → Type 0
  Carries a b = Says 8 (λ q. (q.a ≡ a) × (q.b ≡ b))

  -- Template b has a task.
  abbrev pub HasTask : ℕ → Type 0
  HasTask b = Says 6 (λ q. q.b ≡ b)

  -- ---- What follows from the requests and their replies.

  -- u is a user.
  abbrev pub IsUser : ℕ → Type 0
  IsUser u = k.told.users u ≡ true

  -- User u has role r by name.
  abbrev pub Assigned : ℕ → ℕ → Type 0
  Assigned u r = In (k.told.assigned u) r

  -- Role r has permission p by name.
  abbrev pub Has : ℕ → ℕ → Type 0
  Has r p = In (k.told.holders p) r

  -- Subject s is live.
  abbrev pub Live : ℕ → Type 0
  Live s = k.told.sessions.live s ≡ true

  -- The user of subject s.
  abbrev pub user_of : ℕ → ℕ
  user_of s = k.told.sessions.user s

  -- Role r is active in subject s by name.
  abbrev pub Active : ℕ → ℕ → Type 0
  Active s r = In (k.told.sessions.active s) r

  -- Instance i is open and of template j.
  abbrev pub OpenOf : ℕ → ℕ → Type 0
  OpenOf i j = k.told.orders.opened i ≡ just j

  -- Instance i is open.
  abbrev pub Open : ℕ → Type 0
  Open i = (j : ℕ) × OpenOf i j

  -- P holds for some entry.
  abbrev pub AnEntry : (Entry → Type 0) → Type 0
  AnEntry P = Any P k.told.orders.entries

  -- The entry is held by some subject.
  abbrev pub Held : Entry → Type 0
  Held e = (s : ℕ) × (e.standing ≡ held s)

  -- ---- Each of the following lists the refusals of one kind of request, after SHAPE and RANGE.

  -- ---- "32 add user a." "kind 32 now takes roles in m"; "UNKNOWN for an undeclared role in m, STATIC for the whole set"

  -- Some role of m is not declared.
  abbrev pub Undeclared : Set → Type 0
  Undeclared m = (q : ℕ) × In m q × Not (IsRole q)

  -- The refusals of 32.
  abbrev pub joining : Record → List Refusal
  joining r =
      refusal UNKNOWN (Undeclared r.m)
      ∷ refusal TAKEN (IsUser r.a)
      ∷ refusal STATIC (Broken k.policy 9 (In r.m))
      ∷ []

  -- ---- "33 delete user a." IN USE: "while the user has a live subject or an entry in an open instance"
  abbrev pub deleting : Record → List Refusal
  deleting r =
      refusal UNKNOWN (Not (IsUser r.a))
      ∷ refusal IN-USE (((s : ℕ) × Live s × (user_of s ≡ r.a)) ⊎ AnEntry (λ e. (e.user ≡ r.a) × Open e.instance))
      ∷ []

  -- ---- "34 assign role b to user a."
  abbrev pub assigning : Record → List Refusal
  assigning r =
      refusal UNKNOWN (Not (IsUser r.a) ⊎ Not (IsRole r.b))
      ∷ refusal TAKEN (Assigned r.a r.b)
      ∷ refusal STATIC (Broken k.policy 9 (λ q. Assigned r.a q ⊎ (q ≡ r.b)))
      ∷ []

  -- ---- "35 take it back.": "a pair to take back is absent". 02, Ask 7: "kind 35 is
  -- IN USE when an active role would no longer stand at or below an assigned one"
  abbrev pub taking_back : Record → List Refusal
  taking_back r =
      refusal UNKNOWN (Not (IsUser r.a) ⊎ Not (IsRole r.b) ⊎ Not (Assigned r.a r.b))
      ∷ refusal IN-USE
      ((s q : ℕ) × Live s × (user_of s ≡ r.a) × Active s q × Not (Reached k.policy (λ p. Assigned r.a p × Not (p ≡ r.b)) q))
      ∷ []

  -- ---- "36 give role a permission b." "37 take it back."
  abbrev pub giving : Record → List Refusal
  giving r =
      refusal UNKNOWN (Not (IsRole r.a) ⊎ Not (IsPermission r.b))
      ∷ refusal TAKEN (Has r.a r.b)
      ∷ []

  -- The refusals of 37.
  abbrev pub withdrawing : Record → List Refusal
  withdrawing r = refusal UNKNOWN (Not (IsRole r.a) ⊎ Not (IsPermission r.b) ⊎ Not (Has r.a r.b)) ∷ []

  -- ---- "40 create subject a for user b with active roles m." NOT ASSIGNED: "a role to activate is not the user's"; 02, Ask 7: "Activating a role below an
  -- assigned one is allowed"
  abbrev pub creating : Record → List Refusal
  creating r =
      refusal UNKNOWN (Not (IsUser r.b) ⊎ Undeclared r.m)
      ∷ refusal TAKEN (Live r.a)
      ∷ refusal NOT-ASSIGNED ((q : ℕ) × In r.m q × Not (Reached k.policy (Assigned r.b) q))
      ∷ refusal DYNAMIC (Broken k.policy 10 (λ q. HasHad k.told r.b q ⊎ In r.m q))
      ∷ []

  -- ---- "41 destroy subject a." IN USE: "while the subject holds a task"
  abbrev pub destroying : Record → List Refusal
  destroying r =
      refusal UNKNOWN (Not (Live r.a))
      ∷ refusal IN-USE (AnEntry (λ e. e.standing ≡ held r.a))
      ∷ []

  -- ---- "42 activate role b in subject a." "43 deactivate it.": "a role to deactivate is not active"
  abbrev pub activating : Record → List Refusal
  activating r =
      refusal UNKNOWN (Not (Live r.a) ⊎ Not (IsRole r.b))
      ∷ refusal TAKEN (Active r.a r.b)
      ∷ refusal NOT-ASSIGNED (Not (Reached k.policy (Assigned (user_of r.a)) r.b))
      ∷ refusal DYNAMIC (Broken k.policy 10 (λ q. HasHad k.told (user_of r.a) q ⊎ (q ≡ r.b)))
      ∷ []

  -- The refusals of 43.
  abbrev pub deactivating : Record → List Refusal
  deactivating r = refusal UNKNOWN (Not (Live r.a) ⊎ Not (IsRole r.b) ⊎ Not (Active r.a r.b)) ∷ []

  -- ---- "48 open instance a of template b.": "a template has no task". "49 end instance a.": IN USE "while a task of the instance is held"
  abbrev pub opening : Record → List Refusal
  opening r = refusal UNKNOWN (Not (HasTask r.b)) ∷ refusal TAKEN (Open r.a) ∷ []

  -- The refusals of 49.
  abbrev pub ending : Record → List Refusal
  ending r =
      refusal UNKNOWN (Not (Open r.a))
      ∷ refusal IN-USE (AnEntry (λ e. (e.instance ≡ r.a) × Held e))
      ∷ []

  -- ---- "50 claim, 51 release, 52 done: subject a, instance b, task c."

  -- The subject is not live, or the task is not of an open instance's template.
  abbrev pub UnknownTask : Record → Type 0
  UnknownTask r = Not (Live r.a) ⊎ Not ((j : ℕ) × OpenOf r.b j × TaskOf r.c j)

  -- Role q is active in subject s, by name or below a role that is.
  abbrev pub Acts : ℕ → ℕ → Type 0
  Acts s q = Reached k.policy (Active s) q

  module _ (r : Record) where
    -- The user who claims.
    abbrev u : ℕ
    u = user_of r.a

    -- P holds for some entry of the instance.
    abbrev Here : (Entry → Type 0) → Type 0
    Here P = AnEntry (λ e. (e.instance ≡ r.b) × P e)

    -- "let D be the tasks with an entry of u in the instance, held or done"
    abbrev pub InD : ℕ → Type 0
    InD t = Here (λ e. (e.user ≡ u) × (e.task ≡ t))

    -- "BEFORE: some task required before t has no done entry in the instance."
    abbrev pub NotReady : Type 0
    NotReady = Says 16 (λ q. (q.b ≡ r.c) × Not (Here (λ e. (e.standing ≡ done) × (e.task ≡ q.a))))

    -- "SEPARATION: a task set with t in it has n or more members in D other than t."
    abbrev pub TooMany : Type 0
    TooMany =
        Says 11 (λ q.
        In q.m r.c
        × ((ts : List ℕ) × EveryTwo (λ a b. Not (a ≡ b)) ts × (q.n ≤ length ts) × Every (λ t. In q.m t × Not (t ≡ r.c) × InD t) ts))

    -- "BLOCK: in a partitioning that has t in a block, D meets another block."
    abbrev pub OtherBlock : Type 0
    OtherBlock =
        Says 12 (λ q. In q.m r.c × Says 12 (λ p. (p.a ≡ q.a) × Not (In p.m r.c) × ((t : ℕ) × In p.m t × InD t)))

    -- "ALONE: the template is banned for lone workers and every task of it other than
    -- t is in D." 02, Ask 10: "the ban governs templates with two or more tasks"
    abbrev pub AllButOne : Type 0
    AllButOne =
        (j : ℕ) × OpenOf r.b j × Says 13 (λ q. q.a ≡ j)
        × ((t : ℕ) → TaskOf t j → Not (t ≡ r.c) → InD t)
        × ((t p : ℕ) × TaskOf t j × TaskOf p j × Not (t ≡ p))

    -- "BOUND: a task bound with t, on either side of the binding, has an entry of another user." Another user has an entry of task t.
    abbrev pub Others : ℕ → Type 0
    Others t = Here (λ e. Not (e.user ≡ u) × (e.task ≡ t))

    -- The condition of BOUND.
    abbrev pub BoundToOthers : Type 0
    BoundToOthers = Says 15 (λ q. ((q.a ≡ r.c) × Others q.b) ⊎ ((q.b ≡ r.c) × Others q.a))

    -- "COUNT: t has a limit and that many entries already, of anyone."
    abbrev pub Spent : Type 0
    Spent = Says 14 (λ q. (q.a ≡ r.c) × ((n : ℕ) × Of (λ e. (e.instance ≡ r.b) × (e.task ≡ r.c)) k.told.orders.entries n × (q.n ≤ n)))

  -- The refusals of 50. TAKEN: "a task now held by someone". NO ROLE: "no active role of the subject opens the task". FULL: "no ledger entry free", of 2,048.
  abbrev pub claiming : Record → List Refusal
  claiming r =
      refusal UNKNOWN (UnknownTask r)
      ∷ refusal TAKEN (AnEntry (λ e. (e.instance ≡ r.b) × (e.task ≡ r.c) × Held e))
      ∷ refusal NO-ROLE (Not ((q : ℕ) × Acts r.a q × OpenTo r.c q))
      ∷ refusal BEFORE (NotReady r)
      ∷ refusal SEPARATION (TooMany r)
      ∷ refusal BLOCK (OtherBlock r)
      ∷ refusal ALONE (AllButOne r)
      ∷ refusal BOUND (BoundToOthers r)
      ∷ refusal COUNT (Spent r)
      ∷ refusal FULL (length k.told.orders.entries ≡ 2048)
      ∷ []

  -- NOT YOURS: "the subject does not hold the task"
  abbrev pub NotHeldBy : Record → Type 0
  NotHeldBy r = Not (AnEntry (λ e. (e.instance ≡ r.b) × (e.task ≡ r.c) × (e.standing ≡ held r.a)))

  -- The refusals of 51 and 52.
  abbrev pub leaving : Record → List Refusal
  leaving r = refusal UNKNOWN (UnknownTask r) ∷ refusal NOT-YOURS (NotHeldBy r) ∷ []

  -- ---- "56 check: subject a, operation b, object c." "Request kind 59, commit, has the fields of kind 56 and is refused as the check is".

  -- DENIED: "no active role of the subject has the permission"; "an undeclared pair is denied". WALL: "when the user is bound in some wall to another block
  -- than the object's", which here means that one of the user's commits is in another block.
  abbrev pub checking : Record → List Refusal
  checking r =
      refusal UNKNOWN (Not (Live r.a))
      ∷ refusal DENIED (Not ((p q : ℕ) × PermissionFor p r.b r.c × Acts r.a q × Has q p))
      ∷ refusal WALL (Rival k.policy (committed_by k.commits r) r.c)
      ∷ []

  -- ---- "57 task check: subject a, instance b, task c, m = operation + 65,536 x object". DENIED: "the task does not carry it"
  abbrev pub task_checking : Record → List Refusal
  task_checking r =
      refusal UNKNOWN (UnknownTask r)
      ∷ refusal NOT-YOURS (NotHeldBy r)
      ∷ refusal DENIED (Not ((p : ℕ) × PermissionFor p (r.m % 65536) (r.m / 65536) × Carries r.c p))
      ∷ []

  -- ---- 02, Ask 9: "kind 58 with instance a: SHAPE, RANGE, UNKNOWN". Ask 13: "kind 60, a question about template a .. SHAPE, RANGE, UNKNOWN"
  abbrev pub figures : Record → List Refusal
  figures r = refusal UNKNOWN (Not (Open r.a)) ∷ []

  -- The refusals of 60.
  abbrev pub stuck : Record → List Refusal
  stuck r = refusal UNKNOWN (Not (HasTask r.a)) ∷ []

-- ---- SHAPE: "not 16 bytes, kind not of this call, unused field not zero, m of kind 57 too large". RANGE: "a number above its limit".

-- The field has the right shape.
abbrev pub Fits : Field → ℕ → Type 0
Fits · x = x ≡ 0
Fits (to limit) x = Unit {0}
Fits any x = Unit {0}
Fits pair x = x < 2 ^ 32

-- The field is within its limit.
abbrev pub WithinLimit : Field → ℕ → Type 0
WithinLimit · x = Unit {0}
WithinLimit (to limit) x = x ≤ limit
WithinLimit any x = Unit {0}
WithinLimit pair x = Unit {0}

-- P holds for every field of the record.
abbrev pub OfFields : (Field → ℕ → Type 0) → Form → Record → Type 0
OfFields P f r = P f.n r.n × P f.a r.a × P f.b r.b × P f.c r.c × P f.m r.m

-- ---- The table: each kind of request with its fields n, a, b, c, m and its refusals after SHAPE and RANGE.
pub record Asked : Type 1 where
  pub fields : Form
  pub refusals : Known → Record → List Refusal

-- The row with these parts.
abbrev pub asked : Form → (Known → Record → List Refusal) → Asked
asked f refusals = record { fields = f; refusals = refusals }

-- All refusals of a kind for these bytes, SHAPE and RANGE first.
abbrev pub refusals_of : Asked → Known → Bytes → List Refusal
refusals_of a k s =
    refusal SHAPE (Not ((length s ≡ 16) × OfFields Fits a.fields (decode s)))
    ∷ refusal RANGE (Not (OfFields WithinLimit a.fields (decode s)))
    ∷ a.refusals k (decode s)

-- The kinds of the lower part.
abbrev pub lower_kinds_asked : List Asked
lower_kinds_asked =
    asked (form 32 · (to 1023) · · any) joining
    ∷ asked (form 33 · (to 1023) · · ·) deleting
    ∷ asked (form 34 · (to 1023) (to 63) · ·) assigning
    ∷ asked (form 35 · (to 1023) (to 63) · ·) taking_back
    ∷ asked (form 36 · (to 63) (to 255) · ·) giving
    ∷ asked (form 37 · (to 63) (to 255) · ·) withdrawing
    ∷ asked (form 40 · (to 127) (to 1023) · any) creating
    ∷ asked (form 41 · (to 127) · · ·) destroying
    ∷ asked (form 42 · (to 127) (to 63) · ·) activating
    ∷ asked (form 43 · (to 127) (to 63) · ·) deactivating
    ∷ asked (form 56 · (to 127) any any ·) checking
    ∷ asked (form 59 · (to 127) any any ·) checking
    ∷ []

-- The kinds of the upper part.
abbrev pub upper_kinds_asked : List Asked
upper_kinds_asked =
    asked (form 48 · (to 63) (to 15) · ·) opening
    ∷ asked (form 49 · (to 63) · · ·) ending
    ∷ asked (form 50 · (to 127) (to 63) (to 63) ·) claiming
    ∷ asked (form 51 · (to 127) (to 63) (to 63) ·) leaving
    ∷ asked (form 52 · (to 127) (to 63) (to 63) ·) leaving
    ∷ asked (form 57 · (to 127) (to 63) (to 63) pair) task_checking
    ∷ asked (form 58 · (to 63) · · ·) figures
    ∷ asked (form 60 · (to 15) · · ·) stuck
    ∷ []

-- The kinds of the whole engine.
abbrev pub engine_kinds_asked : List Asked
engine_kinds_asked = lower_kinds_asked ++ upper_kinds_asked

-- ---- The reply to any bytes: if the kind is in the table, as the table says; otherwise SHAPE.
pub record Answered (table : List Asked) (k : Known) (s : Bytes) (reply : ℕ) : Type 0 where
  pub kinds : Every (λ a. (decode s).kind ≡ a.fields.kind → GivenExactly (refusals_of a k s) reply) table
  pub others : Every (λ a. Not ((decode s).kind ≡ a.fields.kind)) table → reply ≡ SHAPE

-- Every reply is given exactly so, after every accepted load and any requests. "kind not of this call": the lower part alone takes only its own kinds.
pub record EveryReply : Type 0 where
  pub engine : AfterEvery (λ policy requests. (s : Bytes)
      → Answered engine_kinds_asked (known policy (said_after policy requests)) s (reply_after policy requests s))
  pub dealers : AfterEvery (λ policy requests. (s : Bytes)
      → Answered lower_kinds_asked (known policy (run lower_request (lower_of (load policy).tables) requests)) s
      (lower_request (lower_after policy requests) s).reply)
