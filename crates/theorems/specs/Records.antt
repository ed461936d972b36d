-- For every kind of policy record and every reply that it can get: exactly when it gets that reply, stated over
-- the records accepted before it. Also where a load stops. The conditions use the words of 01's table of replies
-- and of 02. No table of the engine and no function that the engine computes with decides anything here.
use Rattle.std.specs.Prelude.{ℕ, suc, ◌*◌, ◌≤◌, ◌<◌, ◌≡◌, ◌⊎◌, ◌↔◌, List, [], ◌∷◌, ◌++◌, length, take, drop}
use Rattle.paper_lower.specs.Sets.{Set}
use Rattle.paper_lower.specs.Lists.{Every}
use Rattle.paper_lower.specs.Checks.{GRANTED, SHAPE, RANGE, UNKNOWN, TAKEN, RULE, STATIC, FULL, LOOP}
use Rattle.paper_lower.specs.Records.{Bytes, Record, decode}
use Rattle.paper_lower.specs.Forms.{Form, form}
use Rattle.paper_lower.specs.Forms.Field.{·, to, any}
use Rattle.paper_lower.specs.Load.{load, records_from, records_of, policy_answer}
use Rattle.theorems.specs.Replies.{rank}
use Rattle.theorems.specs.OverEntries.{of_kind, Above, Reached, Any, Exceeded, Broken}
use Rattle.theorems.specs.Exactly.{Not, Refusal, refusal, In, Fits, WithinLimit, OfFields}

-- "Checks run in the order of their numbers; the first that applies is given, and none is given otherwise." (02, Ask 7: "LOOP (23) after RULE")
pub record JudgedExactly (ks : List Refusal) (reply : ℕ) : Type 0 where
  -- A record is accepted exactly if no refusal applies.
  pub granted : (reply ≡ GRANTED) ↔ Every (λ k. Not k.When) ks
  -- Each refusal is given exactly if it applies and none before it does.
  pub refused : Every (λ k. (reply ≡ k.reply) ↔ (k.When × Every (λ j. rank j.reply < rank k.reply → Not j.When) ks)) ks
  -- No other reply is given.
  pub listed : Every (λ k. Not (reply ≡ k.reply)) ks → reply ≡ GRANTED

-- ---- What earlier records say. "Records of a policy may use only what earlier records declared."
module _ (earlier : List Record) where
  -- P holds for some earlier record of this kind.
  abbrev Said : ℕ → (Record → Type 0) → Type 0
  Said kind P = Any P (of_kind kind earlier)

  -- "1 user a." "2 role a." "3 permission a = operation b on object c." "6 task a of template b."
  abbrev pub AUser : ℕ → Type 0
  AUser a = Said 1 (λ q. q.a ≡ a)

  abbrev pub ARole : ℕ → Type 0
  ARole a = Said 2 (λ q. q.a ≡ a)

  abbrev pub APermission : ℕ → Type 0
  APermission a = Said 3 (λ q. q.a ≡ a)

  abbrev pub ATask : ℕ → Type 0
  ATask a = Said 6 (λ q. q.a ≡ a)

  -- Task a is of template j.
  abbrev pub OfTemplate : ℕ → ℕ → Type 0
  OfTemplate j a = Said 6 (λ q. (q.a ≡ a) × (q.b ≡ j))

  -- "4 user a has role b."
  abbrev pub HasRole : ℕ → ℕ → Type 0
  HasRole a b = Said 4 (λ q. (q.a ≡ a) × (q.b ≡ b))

  -- Some member of m does not satisfy Is.
  abbrev Without : (ℕ → Type 0) → Set → Type 0
  Without Is m = (i : ℕ) × In m i × Not (Is i)

  -- "a repeated policy record": the records have the same pair.
  abbrev SamePair : Record → Record → Type 0
  SamePair r q = (q.a ≡ r.a) × (q.b ≡ r.b)

  -- The records have the same set and the same n.
  abbrev SameSet : Record → Record → Type 0
  SameSet r q = (q.n ≡ r.n) × (q.m ≡ r.m)

  -- There are at least `count` records of the kind.
  abbrev Stand : ℕ → ℕ → Type 0
  Stand count kind = count ≤ length (of_kind kind earlier)

  -- "1 <= n < number of members": the set has more than n different members.
  abbrev WellMade : Record → Type 0
  WellMade r = (1 ≤ r.n) × Exceeded (λ _. Unit {0}) r

  -- The tasks m are all of template j.
  abbrev AllOf : ℕ → Set → Type 0
  AllOf j m = (t : ℕ) → In m t → OfTemplate j t

  -- ---- Each of the following lists the refusals of one kind of record, after SHAPE and RANGE.

  -- ---- TAKEN: "kinds 1, 2, 6 the number; 3 the number or the pair of operation and object"
  abbrev pub users : Record → List Refusal
  users r = refusal TAKEN (AUser r.a) ∷ []

  abbrev pub roles : Record → List Refusal
  roles r = refusal TAKEN (ARole r.a) ∷ []

  abbrev pub permissions : Record → List Refusal
  permissions r = refusal TAKEN (APermission r.a ⊎ Said 3 (λ q. (q.b ≡ r.b) × (q.c ≡ r.c))) ∷ []

  abbrev pub tasks : Record → List Refusal
  tasks r = refusal TAKEN (ATask r.a) ∷ []

  -- ---- UNKNOWN: "something named is not declared". STATIC: "a static set would be
  -- broken", by the roles that the user has, this role, and all roles below them.
  abbrev pub assignments : Record → List Refusal
  assignments r =
      refusal UNKNOWN (Not (AUser r.a) ⊎ Not (ARole r.b))
      ∷ refusal TAKEN (HasRole r.a r.b)
      ∷ refusal STATIC (Broken earlier 9 (λ q. HasRole r.a q ⊎ (q ≡ r.b)))
      ∷ []

  -- The refusals of kind 5.
  abbrev pub roles_have : Record → List Refusal
  roles_have r =
      refusal UNKNOWN (Not (ARole r.a) ⊎ Not (APermission r.b))
      ∷ refusal TAKEN (Said 5 (SamePair r))
      ∷ []

  -- The refusals of kind 7.
  abbrev pub openings : Record → List Refusal
  openings r =
      refusal UNKNOWN (Not (ATask r.a) ⊎ Not (ARole r.b))
      ∷ refusal TAKEN (Said 7 (SamePair r))
      ∷ []

  -- The refusals of kind 8.
  abbrev pub carryings : Record → List Refusal
  carryings r =
      refusal UNKNOWN (Not (ATask r.a) ⊎ Not (APermission r.b))
      ∷ refusal TAKEN (Said 8 (SamePair r))
      ∷ []

  -- ---- "9 static set, n, roles m." STATIC: some user has more than n of them, counting the roles below those assigned.
  abbrev pub statics : Record → List Refusal
  statics r =
      refusal UNKNOWN (Without ARole r.m)
      ∷ refusal TAKEN (Said 9 (SameSet r))
      ∷ refusal RULE (Not (WellMade r))
      ∷ refusal STATIC ((u : ℕ) × Exceeded (Reached earlier (HasRole u)) r)
      ∷ refusal FULL (Stand 32 9)
      ∷ []

  -- ---- "10 dynamic set, n, roles m."
  abbrev pub dynamics : Record → List Refusal
  dynamics r =
      refusal UNKNOWN (Without ARole r.m)
      ∷ refusal TAKEN (Said 10 (SameSet r))
      ∷ refusal RULE (Not (WellMade r))
      ∷ refusal FULL (Stand 32 10)
      ∷ []

  -- ---- "11 task set, n, tasks m." RULE also "if the tasks are not all of one template"
  abbrev pub task_sets : Record → List Refusal
  task_sets r =
      refusal UNKNOWN (Without ATask r.m)
      ∷ refusal TAKEN (Said 11 (SameSet r))
      ∷ refusal RULE (Not (WellMade r) ⊎ Not ((j : ℕ) × AllOf j r.m))
      ∷ refusal FULL (Stand 32 11)
      ∷ []

  -- ---- "12 block of partitioning a, tasks m." RULE: "if empty"; if the tasks are not all of one template, or "of another template than the partitioning's
  -- earlier blocks"; "or sharing a task with one"
  abbrev pub blocks : Record → List Refusal
  blocks r =
      refusal UNKNOWN (Without ATask r.m)
      ∷ refusal TAKEN (Said 12 (λ q. (q.a ≡ r.a) × (q.m ≡ r.m)))
      ∷ refusal RULE
      (Not ((t : ℕ) × In r.m t)
      ⊎ (Not ((j : ℕ) × AllOf j r.m × Every (λ q. q.a ≡ r.a → AllOf j q.m) (of_kind 12 earlier))
      ⊎ Said 12 (λ q. (q.a ≡ r.a) × ((t : ℕ) × In r.m t × In q.m t))))
      ∷ refusal FULL (Stand 64 12)
      ∷ []

  -- ---- "13 lone-worker ban on template a.": "a template has no task"
  abbrev pub bans : Record → List Refusal
  bans r =
      refusal UNKNOWN (Not (Said 6 (λ q. q.b ≡ r.a)))
      ∷ refusal TAKEN (Said 13 (λ q. q.a ≡ r.a))
      ∷ []

  -- ---- "14 task a at most n times.": "14 if n = 0"
  abbrev pub counts : Record → List Refusal
  counts r =
      refusal UNKNOWN (Not (ATask r.a))
      ∷ refusal TAKEN (Said 14 (λ q. q.a ≡ r.a))
      ∷ refusal RULE (r.n ≡ 0)
      ∷ []

  -- ---- "15 and 16 if a = b or the templates differ"
  abbrev IllPaired : Record → Type 0
  IllPaired r = (r.a ≡ r.b) ⊎ Not ((j : ℕ) × OfTemplate j r.a × OfTemplate j r.b)

  -- "15 task a bound to task b." TAKEN: "the pair in either order"
  abbrev pub bindings : Record → List Refusal
  bindings r =
      refusal UNKNOWN (Not (ATask r.a) ⊎ Not (ATask r.b))
      ∷ refusal TAKEN (Said 15 (SamePair r) ⊎ Said 15 (λ q. (q.a ≡ r.b) × (q.b ≡ r.a)))
      ∷ refusal RULE (IllPaired r)
      ∷ refusal FULL (Stand 64 15)
      ∷ []

  -- "16 task a before task b."
  abbrev pub befores : Record → List Refusal
  befores r =
      refusal UNKNOWN (Not (ATask r.a) ⊎ Not (ATask r.b))
      ∷ refusal TAKEN (Said 16 (SamePair r))
      ∷ refusal RULE (IllPaired r)
      ∷ refusal FULL (Stand 64 16)
      ∷ []

  -- ---- 02, Ask 7: "role a stands above role b". "RULE for a = b, LOOP (23) after RULE if b already stands above a, STATIC if a user's set would break,
  -- FULL." STATIC: with this record some user has more than n roles of a static set, counting the roles below those assigned.
  abbrev pub seniors : Record → List Refusal
  seniors r =
      refusal UNKNOWN (Not (ARole r.a) ⊎ Not (ARole r.b))
      ∷ refusal TAKEN (Said 17 (SamePair r))
      ∷ refusal RULE (r.a ≡ r.b)
      ∷ refusal LOOP (Above earlier r.b r.a)
      ∷ refusal STATIC ((u : ℕ) × Broken (earlier ++ (r ∷ [])) 9 (HasRole u))
      ∷ refusal FULL (Stand 64 17)
      ∷ []

  -- ---- 02, Ask 11: "wall a (0 to 15), block b (0 to 15), object c". "RULE for an object twice in a wall"; "at most 256 records"
  abbrev pub walls : Record → List Refusal
  walls r =
      refusal TAKEN (Said 18 (λ q. (q.a ≡ r.a) × (q.b ≡ r.b) × (q.c ≡ r.c)))
      ∷ refusal RULE (Said 18 (λ q. (q.a ≡ r.a) × (q.c ≡ r.c)))
      ∷ refusal FULL (Stand 256 18)
      ∷ []

-- ---- The table: each kind with its fields n, a, b, c, m and its refusals after SHAPE and RANGE.
pub record Ruled : Type 1 where
  pub fields : Form
  pub refusals : List Record → Record → List Refusal

-- The row with these parts.
abbrev pub ruled : Form → (List Record → Record → List Refusal) → Ruled
ruled f refusals = record { fields = f; refusals = refusals }

-- All kinds of policy records.
abbrev pub policy_kinds_ruled : List Ruled
policy_kinds_ruled =
    ruled (form 1 · (to 1023) · · ·) users
    ∷ ruled (form 2 · (to 63) · · ·) roles
    ∷ ruled (form 3 · (to 255) any any ·) permissions
    ∷ ruled (form 4 · (to 1023) (to 63) · ·) assignments
    ∷ ruled (form 5 · (to 63) (to 255) · ·) roles_have
    ∷ ruled (form 6 · (to 63) (to 15) · ·) tasks
    ∷ ruled (form 7 · (to 63) (to 63) · ·) openings
    ∷ ruled (form 8 · (to 63) (to 255) · ·) carryings
    ∷ ruled (form 9 any · · · any) statics
    ∷ ruled (form 10 any · · · any) dynamics
    ∷ ruled (form 11 any · · · any) task_sets
    ∷ ruled (form 12 · (to 15) · · any) blocks
    ∷ ruled (form 13 · (to 15) · · ·) bans
    ∷ ruled (form 14 any (to 63) · · ·) counts
    ∷ ruled (form 15 · (to 63) (to 63) · ·) bindings
    ∷ ruled (form 16 · (to 63) (to 63) · ·) befores
    ∷ ruled (form 17 · (to 63) (to 63) · ·) seniors
    ∷ ruled (form 18 · (to 15) (to 15) any ·) walls
    ∷ []

-- All refusals of a kind for these bytes. SHAPE: "not 16 bytes, kind not of this call, unused field not zero". RANGE: "a number above its limit".
abbrev pub refusals_of : Ruled → List Record → Bytes → List Refusal
refusals_of a earlier s =
    refusal SHAPE (Not ((length s ≡ 16) × OfFields Fits a.fields (decode s)))
    ∷ refusal RANGE (Not (OfFields WithinLimit a.fields (decode s)))
    ∷ a.refusals earlier (decode s)

-- The reply to the bytes of a record after earlier ones: if the kind is in the table, as the table says; otherwise SHAPE.
pub record Judged (earlier : List Record) (s : Bytes) (reply : ℕ) : Type 0 where
  pub kinds : Every (λ a. (decode s).kind ≡ a.fields.kind → JudgedExactly (refusals_of a earlier s) reply) policy_kinds_ruled
  pub others : Every (λ a. Not ((decode s).kind ≡ a.fields.kind)) policy_kinds_ruled → reply ≡ SHAPE

-- ---- One more record after any policy that loads gets exactly the reply of the table.
abbrev pub EveryRecord : Type 0
EveryRecord = (policy : Bytes) → (load policy).reply ≡ GRANTED → (s : Bytes) → Judged (records_of policy) s (policy_answer (load policy).tables s).reply

-- ---- The load. Record number k of a policy, counted from 0, is sixteen bytes, or what is
-- left of them: "A length that is no multiple of 16 is SHAPE at the incomplete record".
abbrev pub record_at : Bytes → ℕ → Bytes
record_at s k = take 16 (drop (16 * k) s)

-- The reply to record k after those before it.
abbrev pub JudgedAt : Bytes → ℕ → ℕ → Type 0
JudgedAt s k reply = Judged (records_from k s) (record_at s k) reply

-- The reply and place of a load, from the replies to its records.
pub record LoadedExactly (s : Bytes) (reply place : ℕ) : Type 0 where
  -- "accepted loads give place 0": every record is accepted after those before it.
  pub accepted : reply ≡ GRANTED → (place ≡ 0) × ((k : ℕ) → 16 * k < length s → JudgedAt s k GRANTED)
  -- "gives the record's place, counted from 1": it is the first record that is not accepted, and the reply is its refusal.
  pub refused : Not (reply ≡ GRANTED)
      → (k : ℕ) × (place ≡ suc k) × (16 * k < length s) × ((j : ℕ) → j < k → JudgedAt s j GRANTED) × JudgedAt s k reply

-- Every load is answered exactly so.
abbrev pub EveryLoad : Type 0
EveryLoad = (s : Bytes) → LoadedExactly s (load s).reply (load s).place
