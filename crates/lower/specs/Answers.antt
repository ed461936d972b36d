-- The contracts of the lower part's two calls, for every content of the buffers and every byte string.
use Rattle.std.specs.Prelude.{ℕ, Bool, true, false, cond, ◌&&◌, List, ◌≡◌, eqb, length, get_or}
use Rattle.paper_lower.specs.Checks.{ROOM}
use Rattle.paper_lower.specs.Records.{Bytes}
use Rattle.paper_lower.specs.Kinds.{Answer}
use Rattle.paper_lower.specs.Tables.{Lower}
use Rattle.paper_lower.specs.Load.{load}
use Rattle.paper_lower.specs.Sessions.{lower_request, lower_of}
use Rattle.replies.specs.Replies.{Reply, number_of}
use Rattle.policy.specs.Layout.{policy_words}
use Rattle.sessions.specs.Reading.{sessions_words}
use Rattle.sessions.specs.Lower.{lower_tables}

-- Whether both buffers have the right lengths.
abbrev pub fit : List ℕ → List ℕ → Bool
fit p s = eqb (length p) policy_words && eqb (length s) sessions_words

-- A call does not change the lengths of the buffers.
abbrev pub SameLengths : List ℕ → List ℕ → List ℕ → List ℕ → Type 0
SameLengths p s p' s' = (length p' ≡ length p) × (length s' ≡ length s)

-- The answer to a request. "ROOM: a lent state buffer has not its fixed length; nothing is written"
abbrev pub request_answer : Bytes → List ℕ → List ℕ → Answer Lower
request_answer bytes p s = cond (fit p s) (lower_request (lower_tables p s) bytes) (record { reply = ROOM; tables = lower_tables p s })

-- The contract of a request: its reply, the tables afterwards, and what stays the same.
pub record Requested (bytes : Bytes) (p s p' s' : List ℕ) (r : Reply) : Type 0 where
  pub replies : number_of r ≡ (request_answer bytes p s).reply
  pub tables : lower_tables p' s' ≡ (request_answer bytes p s).tables
  pub lengths : SameLengths p s p' s'
  -- "Refused requests change no byte of the state."
  pub kept : (number_of r ≡ 0 → ⊥) → (p' ≡ p) × (s' ≡ s)

-- ---- The load.

-- The answer to a load: reply, place and tables afterwards.
pub record LoadAnswer : Type 0 where
  pub reply : ℕ
  pub place : ℕ
  pub tables : Lower

-- The answer to a load. "A load empties the engine first; a refused one leaves it empty (ROOM apart)"
abbrev pub load_answer : Bytes → List ℕ → List ℕ → LoadAnswer
load_answer bytes p s =
    cond (fit p s)
    (record { reply = (load bytes).reply; place = (load bytes).place; tables = lower_of (load bytes).tables })
    (record { reply = ROOM; place = 0; tables = lower_tables p s })

-- The contract of a load: its reply and place, the tables afterwards, and what stays the same.
pub record Loads (bytes : Bytes) (p s p' s' : List ℕ) (r : Reply) (place : ℕ) : Type 0 where
  pub replies : number_of r ≡ (load_answer bytes p s).reply
  pub places : place ≡ (load_answer bytes p s).place
  pub tables : lower_tables p' s' ≡ (load_answer bytes p s).tables
  pub lengths : SameLengths p s p' s'
  pub room : fit p s ≡ false → (p' ≡ p) × (s' ≡ s)
  -- After a refused load every word is 0.
  pub zeros : fit p s ≡ true → (number_of r ≡ 0 → ⊥) → (i : ℕ) → (get_or p' i 0 ≡ 0) × (get_or s' i 0 ≡ 0)
