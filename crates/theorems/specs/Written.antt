-- 02, Ask 8: the bytes written for a running engine's policy tables load again, and they determine the tables.
use Rattle.std.specs.Prelude.{ℕ, ◌≤◌, ◌<◌, ◌≡◌, ◌⊎◌, ◌↔◌, List}
use Rattle.paper_lower.specs.Lists.{many, each, Every}
use Rattle.paper_lower.specs.Checks.{GRANTED}
use Rattle.paper_lower.specs.Records.{Bytes, Record}
use Rattle.paper_lower.specs.Tables.{Policy}
use Rattle.paper_lower.specs.Load.{accepted, load, records_of}
use Rattle.paper_lower.specs.Written.{records_written, written}
use Rattle.theorems.specs.OverEntries.{of_kind, EveryTwo}
use Rattle.theorems.specs.Theorems.{tables_next, lower_after}

-- "Starting from an accepted load and any requests": the engine is given by the
-- policy that was loaded, whose elements are bytes, and the requests made since.
pub record Running : Type 0 where
  pub policy : Bytes
  pub bytes : Every (λ x. x < 256) policy
  pub loads : (load policy).reply ≡ GRANTED
  pub requests : List Bytes

-- The policy tables of the engine.
abbrev pub policy_of : Running → Policy
policy_of x = (tables_next x.policy x.requests).lower.policy

-- The policy tables of the lower part alone.
abbrev pub lower_policy_of : Running → Policy
lower_policy_of x = (lower_after x.policy x.requests).policy

-- "loading what was written is accepted and gives the same policy tables, without sessions, instances or entries"
abbrev pub LoadsAgain : Type 0
LoadsAgain = (x : Running) → load (written (policy_of x)) ≡ accepted (policy_of x)

-- "Two such engines have equal policy tables, the orders held included, exactly when the written bytes are equal."
abbrev pub BytesTell : Type 0
BytesTell = (x y : Running) → (policy_of x ≡ policy_of y) ↔ (written (policy_of x) ≡ written (policy_of y))

-- Both statements for the lower part alone: "dealers build the lower part alone".
pub record DealersWrite : Type 0 where
  pub again : (x : Running) → load (written (lower_policy_of x)) ≡ accepted (lower_policy_of x)
  pub tell : (x y : Running) → (lower_policy_of x ≡ lower_policy_of y) ↔ (written (lower_policy_of x) ≡ written (lower_policy_of y))

-- ---- "kinds rising, within kinds 1 to 8, 13, 14 and 17 rising by a and then b, rules of the other kinds in the order held". This is stated about the
-- records in the written bytes.

-- The records of this kind rise by a and then b.
abbrev pub ByNumbers : ℕ → Type 0
ByNumbers kind = (kind ≤ 8) ⊎ ((kind ≡ 13) ⊎ ((kind ≡ 14) ⊎ (kind ≡ 17)))

-- Record q may be written before record r.
abbrev pub ComesBefore : Record → Record → Type 0
ComesBefore q r =
    (q.kind < r.kind)
    ⊎ ((q.kind ≡ r.kind) × (ByNumbers q.kind → (q.a < r.a) ⊎ ((q.a ≡ r.a) × (q.b < r.b))))

-- The records rs are in the order of Ask 8 for the policy p.
pub record InOrder (p : Policy) (rs : List Record) : Type 0 where
  pub rising : EveryTwo ComesBefore rs
  pub statics : p.rules.statics ≡ each (λ r. record { n = r.n; members = r.m }) (of_kind 9 rs)
  pub dynamics : p.rules.dynamics ≡ each (λ r. record { n = r.n; members = r.m }) (of_kind 10 rs)
  pub task_sets : p.rules.task_sets ≡ each (λ r. record { n = r.n; members = r.m }) (of_kind 11 rs)
  pub blocks : p.rules.blocks ≡ each (λ r. record { partitioning = r.a; tasks = r.m }) (of_kind 12 rs)
  pub bindings : p.rules.bindings ≡ each (λ r. record { a = r.a; b = r.b }) (of_kind 15 rs)
  pub befores : p.rules.befores ≡ each (λ r. record { a = r.a; b = r.b }) (of_kind 16 rs)
  -- Ask 11: "Ask 8 writes kind 18 in the order held"
  pub walls : p.walls ≡ each (λ r. record { wall = r.a; block = r.b; object = r.c }) (of_kind 18 rs)

-- The records written are in this order.
abbrev pub WrittenInOrder : Type 0
WrittenInOrder = (x : Running) → InOrder (policy_of x) (records_of (written (policy_of x)))

-- ---- The most records that are ever written. An output with room for that many is always long enough.
abbrev pub most_written : ℕ
most_written = 108528

-- No more are written, after every accepted load and any requests.
abbrev pub NeverMoreWritten : Type 0
NeverMoreWritten = (x : Running) → many (records_written (policy_of x)) ≤ most_written
