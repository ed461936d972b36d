-- The contracts of the engine's two calls, load and request, for every content of the buffers and every byte string. Demands 1 and 2 follow from them.
use Rattle.std.specs.Prelude.{ℕ, false, true, cond, ◌≡◌, get_or}
use Rattle.paper_lower.specs.Checks.{ROOM}
use Rattle.paper_lower.specs.Records.{Bytes}
use Rattle.paper_lower.specs.Load.{load}
use Rattle.paper_upper.specs.Orders.{Engine, SameTables}
use Rattle.paper_upper.specs.Engine.{request, place_to, engine_of}
use Rattle.replies.specs.Replies.{Reply, number_of, Outcome, outcome_number, outcome_place}
use Rattle.order_links.specs.Chains.{sound_of}
use Rattle.engine.specs.Buffers.{Buffers, tables_of, fit, SameLengths}

-- The answer of a call: its reply, its place and the tables afterwards.
pub record CallAnswer : Type 0 where
  pub reply : ℕ
  pub place : ℕ
  pub tables : Engine

-- ---- A request.

-- The answer to a request. "ROOM: a lent state buffer has not its fixed length; nothing is written". Otherwise it is the answer that the rules define on the
-- tables that the buffers read as.
unfoldable pub request_answer : Bytes → Buffers → CallAnswer
request_answer bytes x =
    cond (fit x)
    (record { reply = (request (tables_of x) bytes).reply; place = place_to (tables_of x) bytes; tables = (request (tables_of x) bytes).tables })
    (record { reply = ROOM; place = 0; tables = tables_of x })

-- The contract of `request`: bytes, the buffers before and after, and the result.
pub record Requested (bytes : Bytes) (x x' : Buffers) (j : Outcome) : Type 0 where
  pub replies : outcome_number j ≡ (request_answer bytes x).reply
  pub places : outcome_place j ≡ (request_answer bytes x).place
  pub tables : SameTables (tables_of x') (request_answer bytes x).tables
  pub lengths : SameLengths x x'
  -- "Refused requests change no byte of the state."
  pub kept : (outcome_number j ≡ 0 → ⊥) → x' ≡ x
  -- A granted request leaves sound links, whatever the links were before.
  pub settles : outcome_number j ≡ 0 → sound_of x'.orders ≡ true

-- ---- The load.

-- The answer to a load. "A load empties the engine first; a refused one leaves it empty (ROOM apart)": for a refused load, the definition `load` gives the
-- tables of an empty policy.
unfoldable pub load_answer : Bytes → Buffers → CallAnswer
load_answer bytes x =
    cond (fit x)
    (record { reply = (load bytes).reply; place = (load bytes).place; tables = engine_of (load bytes).tables })
    (record { reply = ROOM; place = 0; tables = tables_of x })

-- Every word of the three buffers is 0: the empty engine as it is stored.
pub record Zeros (x : Buffers) : Type 0 where
  pub policy : (i : ℕ) → get_or x.policy i 0 ≡ 0
  pub sessions : (i : ℕ) → get_or x.sessions i 0 ≡ 0
  pub orders : (i : ℕ) → get_or x.orders i 0 ≡ 0

-- The contract of `load`: bytes, the buffers before and after, the reply and the place.
pub record LoadDone (bytes : Bytes) (x x' : Buffers) (r : Reply) (place : ℕ) : Type 0 where
  pub replies : number_of r ≡ (load_answer bytes x).reply
  pub places : place ≡ (load_answer bytes x).place
  pub tables : tables_of x' ≡ (load_answer bytes x).tables
  pub lengths : SameLengths x x'
  pub room : fit x ≡ false → x' ≡ x
  pub zeros : fit x ≡ true → (number_of r ≡ 0 → ⊥) → Zeros x'
  -- The links are sound afterwards, whether the load was accepted or refused.
  pub settles : fit x ≡ true → sound_of x'.orders ≡ true
