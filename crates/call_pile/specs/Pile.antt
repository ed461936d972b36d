-- The morning pile (document 02, Ask 3): many records in one call, with a one-byte reply for each in the answer buffer.
use Rattle.std.specs.Prelude.{ℕ, zero, suc, ◌+◌, ◌/◌, ◌%◌, Bool, not, List, [], ◌∷◌, ◌++◌, eqb, ltb, length, take, drop}
use Rattle.paper_lower.specs.Lists.{each}
use Rattle.paper_lower.specs.Checks.{Check, first, granted, GRANTED, ROOM, SHAPE}
use Rattle.paper_lower.specs.Records.{Bytes}
use Rattle.paper_lower.specs.Kinds.{after}
use Rattle.paper_upper.specs.Orders.{Engine}
use Rattle.paper_upper.specs.Engine.{request, Placed, placed_run}
use Rattle.engine.specs.Buffers.{Buffers, tables_of, fit}

-- The number of whole records in a byte string.
abbrev pub count : Bytes → ℕ
count s = length s / 16

-- The first n records of a byte string, in order.
unfoldable pub whole_from : ℕ → Bytes → List Bytes
whole_from zero s = []
whole_from (suc n) s = take 16 s ∷ whole_from n (drop 16 s)

-- All whole records of a byte string, in order.
abbrev pub whole : Bytes → List Bytes
whole s = whole_from (count s) s

-- The greatest number of records: "up to 4,096 records in one call"
abbrev pub MOST : ℕ
MOST = 4096

-- The checks of the whole call. "Refusals, before any request is done: ROOM if a state buffer has not its length, the named place lies past the answer
-- buffer's end, the buffer lacks one byte for each whole record from there on, or there are more than 4,096 whole records; then SHAPE if the length is no
-- multiple of 16."
unfoldable pub pile_checks : Bool → Bytes → Bytes → ℕ → List Check
pile_checks fits s answers at =
    (not fits, ROOM)
    ∷ (ltb (length answers) at, ROOM)
    ∷ (ltb (length answers) (at + count s), ROOM)
    ∷ (ltb MOST (count s), ROOM)
    ∷ (not (eqb (length s % 16) 0), SHAPE)
    ∷ []

-- The replies alone.
abbrev pub replies_of : List Placed → Bytes
replies_of said = each (λ a. a.said.reply) said

-- The answer buffer with the replies in it: "replies of one byte each written from a place in the middle of the answer buffer that the caller names; other
-- bytes stay"
abbrev pub written_at : ℕ → Bytes → Bytes → Bytes
written_at at answers replies = take at answers ++ (replies ++ drop (at + length replies) answers)

-- The answer of the call: its reply, the tables and the answer buffer afterwards.
pub record Piled : Type 0 where
  pub reply : ℕ
  pub tables : Engine
  pub answers : Bytes

-- The answer of the call on tables t. "The call goes on after a refused request. Replies and tables equal those of the requests made one by one. Zero records
-- are accepted."
unfoldable pub pile_of : Bool → Engine → Bytes → Bytes → ℕ → Piled
pile_of fits t s answers at =
    granted (first (pile_checks fits s answers at))
    (record { reply = GRANTED; tables = after request t (whole s); answers = written_at at answers (replies_of (placed_run t (whole s))) })
    (record { reply = first (pile_checks fits s answers at); tables = t; answers = answers })

-- The same on the caller's buffers.
abbrev pub pile_answer : Bytes → Bytes → ℕ → Buffers → Piled
pile_answer s answers at x = pile_of (fit x) (tables_of x) s answers at
