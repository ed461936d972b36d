-- 02, Ask 8, for the engine's calls: what is written of an engine in use loads again, and determines the tables.
use Rattle.std.specs.Prelude.{ℕ, ◌*◌, ◌≤◌, ◌<◌, true, List, ◌↔◌, ◌≡◌, length, take}
use Rattle.paper_lower.specs.Lists.{Every}
use Rattle.paper_lower.specs.Checks.{GRANTED}
use Rattle.paper_lower.specs.Records.{Bytes}
use Rattle.paper_lower.specs.Load.{records_of}
use Rattle.paper_upper.specs.Engine.{Placed, engine_of}
use Rattle.engine.specs.Buffers.{Buffers, tables_of, fit}
use Rattle.theorems.specs.Written.{InOrder, most_written}
use Rattle.demands.specs.Calls.{Load, Requests}
use Rattle.call_write.specs.Promises.{policy_in, WrittenBy}

-- "Starting from an accepted load and any requests": the buffers z can be reached in this way, by any of the engine's functions
pub record Reached (z : Buffers) : Type 0 where
  pub policy : Bytes
  pub bytes : Every (λ b. b < 256) policy
  pub x : Buffers
  pub y : Buffers
  pub reply : ℕ
  pub loaded : Load policy x y reply
  pub granted : reply ≡ GRANTED
  pub said : List Placed
  pub requests : Requests y said z

-- The policy of z was written by either function as these bytes, at the front of the output.
pub record Out (z : Buffers) (bytes : Bytes) : Type 0 where
  pub output : Bytes
  pub after : Bytes
  pub reply : ℕ
  pub records : ℕ
  pub wrote : WrittenBy z output after reply records
  pub granted : reply ≡ GRANTED
  pub front : bytes ≡ take (16 * records) after

-- What Ask 8 requires of the engine.
pub record WrittenOut : Type 0 where
  -- "loading what was written is accepted and gives the same policy tables, without sessions, instances or entries"
  pub again : {z u v : Buffers} {bytes : Bytes} {reply : ℕ} → Reached z → Out z bytes → fit u ≡ true → Load bytes u v reply
      → (reply ≡ GRANTED) × (tables_of v ≡ engine_of (policy_in z))
  -- "kinds rising, within kinds 1 to 8, 13, 14 and 17 rising by a and then b, rules of the other kinds in the order held"
  pub ordered : {z : Buffers} {bytes : Bytes} → Reached z → Out z bytes → InOrder (policy_in z) (records_of bytes)
  -- An output with space for 108,528 records is always long enough.
  pub enough : {z : Buffers} {output after : Bytes} {reply records : ℕ} → Reached z → fit z ≡ true → WrittenBy z output after reply records
      → 16 * most_written ≤ length output → reply ≡ GRANTED
  -- "Two such engines have equal policy tables, the orders held included, exactly when the written bytes are equal."
  pub tell : {z u : Buffers} {a b : Bytes} → Reached z → Reached u → Out z a → Out u b → (policy_in z ≡ policy_in u) ↔ (a ≡ b)
