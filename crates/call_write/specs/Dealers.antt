-- 02, Ask 8, for the lower part alone and the function that C and Rust link: what mishantral_lower_write writes loads again, and determines the tables.
use Rattle.std.specs.Prelude.{ℕ, ◌*◌, ◌/◌, ◌%◌, ◌<◌, true, List, ◌↔◌, ◌≡◌, take}
use Rattle.paper_lower.specs.Lists.{Every}
use Rattle.paper_lower.specs.Checks.{GRANTED}
use Rattle.paper_lower.specs.Records.{Bytes}
use Rattle.paper_lower.specs.Kinds.{Said}
use Rattle.paper_lower.specs.Sessions.{lower_of}
use Rattle.policy_writing.specs.Answers as writing
use Rattle.demands.specs.Dealers.{Buffers, tables_of, fit, Load, Requests}

-- "Starting from an accepted load and any requests": the buffers z can be reached in this way
pub record Reached (z : Buffers) : Type 0 where
  pub policy : Bytes
  pub bytes : Every (λ b. b < 256) policy
  pub x : Buffers
  pub y : Buffers
  pub reply : ℕ
  pub loaded : Load policy x y reply
  pub granted : reply ≡ GRANTED
  pub said : List Said
  pub requests : Requests y said z

-- The policy of z was written as these bytes: the number is the reply + 256 times the number of records, and the bytes are the front of the output.
pub record Out (z : Buffers) (bytes : Bytes) : Type 0 where
  pub output : Bytes
  pub after : Bytes
  pub number : ℕ
  pub wrote : writing.Exported (writing.fit z.policy z.sessions) (tables_of z).policy output after number
  pub granted : number % 256 ≡ GRANTED
  pub front : bytes ≡ take (16 * (number / 256)) after

-- What Ask 8 requires of the lower part.
pub record WrittenOut : Type 0 where
  -- "loading what was written is accepted and gives the same policy tables"
  pub again : {z u v : Buffers} {bytes : Bytes} {reply : ℕ} → Reached z → Out z bytes → fit u ≡ true → Load bytes u v reply
      → (reply ≡ GRANTED) × (tables_of v ≡ lower_of (tables_of z).policy)
  -- "Two such engines have equal policy tables, the orders held included, exactly when the written bytes are equal."
  pub tell : {z u : Buffers} {a b : Bytes} → Reached z → Reached u → Out z a → Out u b → ((tables_of z).policy ≡ (tables_of u).policy) ↔ (a ≡ b)
