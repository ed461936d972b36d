-- The contracts for callers who own their buffers: the links are made sound once, and requests are then made without checking them again.
use Rattle.std.specs.Prelude.{ℕ, ◌+◌, ◌*◌, ◌≤◌, true, false, cond, ◌≡◌, length, Option, Some, None}
use Rattle.paper_lower.specs.Checks.{ROOM}
use Rattle.paper_lower.specs.Records.{Bytes}
use Rattle.replies.specs.Replies.{Reply, number_of, Outcome, outcome_number, outcome_place, plain}
use Rattle.policy.specs.Layout.{policy_words}
use Rattle.sessions.specs.Reading.{sessions_words}
use Rattle.order_links.specs.Chains.{sound_of}
use Rattle.order_entries.specs.Acts.{Ready}
use Rattle.engine.specs.Buffers.{Buffers, tables_of, fit, SameLengths}
use Rattle.engine.specs.Answers.{Requested}

-- Each buffer has its fixed length, and the links are sound.
abbrev pub Settling : Buffers → Type 0
Settling x = (length x.policy ≡ policy_words) × ((length x.sessions ≡ sessions_words) × Ready x.orders)

-- The contract of `mishantral_settle`: the tables stay the same and the links are sound afterwards. Nothing changes if they are sound already, or if a length
-- is wrong.
pub record SettledAs (x x' : Buffers) (reply : ℕ) : Type 0 where
  pub replies : reply ≡ cond (fit x) 0 ROOM
  pub tables : tables_of x' ≡ tables_of x
  pub lengths : SameLengths x x'
  pub settles : fit x ≡ true → Settling x'
  pub kept : sound_of x.orders ≡ true → x' ≡ x
  pub room : fit x ≡ false → x' ≡ x

-- The contract of `settle`, which returns a `Reply` in place of a number.
abbrev pub Settled : Buffers → Buffers → Reply → Type 0
Settled x x' r = SettledAs x x' (number_of r)

-- ---- A request that does not check the links, on any content. If a length is wrong: ROOM, and nothing is written. A place is at most 64, and a refusal
-- changes no word. On sound links it promises all that a request promises, and leaves sound links.
pub record SettledRequest (bytes : Bytes) (x x' : Buffers) (j : Outcome) : Type 0 where
  pub lengths : SameLengths x x'
  pub room : fit x ≡ false → (outcome_number j ≡ ROOM) × (((outcome_place j) ≡ 0) × (x' ≡ x))
  pub small : outcome_place j ≤ 64
  pub kept : (outcome_number j ≡ 0 → ⊥) → x' ≡ x
  pub sound : sound_of x.orders ≡ true → Requested bytes x x' j × (sound_of x'.orders ≡ true)

-- The contract of `quick`: a reply is that of a request that changes nothing. Without a reply it promises nothing.
abbrev pub QuickRequest : Bytes → Buffers → Option Reply → Type 0
QuickRequest bytes x (Some r) = SettledRequest bytes x x (plain r)
QuickRequest bytes x None = Unit {0}

-- The contract of the settled request for C and Rust: the result as one number, the reply + 256 times the place.
abbrev pub SettledExported : Bytes → Buffers → Buffers → ℕ → Type 0
SettledExported bytes x x' number = (j : Outcome) × (number ≡ outcome_number j + 256 * outcome_place j) × SettledRequest bytes x x' j
