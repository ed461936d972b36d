-- The number of each reply, in 01's table and in 02's additions to it.
use Rattle.std.specs.Prelude.{ℕ, Result, Ok, Err}
use Rattle.paper_lower.specs.Checks.{GRANTED, ROOM, SHAPE, RANGE, UNKNOWN, TAKEN, IN-USE, RULE, NOT-ASSIGNED, STATIC, DYNAMIC, NO-ROLE, NOT-YOURS, DENIED, BEFORE, SEPARATION, BLOCK, ALONE, BOUND, COUNT, FULL, LOOP, WALL}
use Rattle.replies.specs.declared.Refusal.{Refusal}
use Rattle.replies.specs.declared.Refused.{Refused}
use Rattle.replies.specs.declared.Refusal.TheVariants.{Room, Shape, Range, Unknown, Taken, InUse, Rule, NotAssigned, Static, Dynamic, NoRole, NotYours, Denied, Before, Separation, Block, Alone, Bound, Count, Full, Loop, Wall}

-- A reply: granted, or a refusal.
abbrev pub Reply : Type 0
Reply = Result (Unit {0}) Refusal

-- The number of a refusal.
abbrev pub refusal_number : Refusal → ℕ
refusal_number Room = ROOM
refusal_number Shape = SHAPE
refusal_number Range = RANGE
refusal_number Unknown = UNKNOWN
refusal_number Taken = TAKEN
refusal_number InUse = IN-USE
refusal_number Rule = RULE
refusal_number NotAssigned = NOT-ASSIGNED
refusal_number Static = STATIC
refusal_number Dynamic = DYNAMIC
refusal_number NoRole = NO-ROLE
refusal_number NotYours = NOT-YOURS
refusal_number Denied = DENIED
refusal_number Before = BEFORE
refusal_number Separation = SEPARATION
refusal_number Block = BLOCK
refusal_number Alone = ALONE
refusal_number Bound = BOUND
refusal_number Count = COUNT
refusal_number Full = FULL
refusal_number Loop = LOOP
refusal_number Wall = WALL

-- The number of a reply.
abbrev pub number_of : Reply → ℕ
number_of (Ok _) = GRANTED
number_of (Err e) = refusal_number e

-- An outcome: a reply with the place of its refusal.
abbrev pub Outcome : Type 0
Outcome = Result (Unit {0}) Refused

-- A refusal without a place.
abbrev pub placeless : Refusal → Refused
placeless e = record { refusal = e; place = 0 }

-- The reply of an outcome, without its place.
abbrev pub outcome_reply : Outcome → Reply
outcome_reply (Ok u) = Ok u
outcome_reply (Err e) = Err e.refusal

-- The number of an outcome's reply.
abbrev pub outcome_number : Outcome → ℕ
outcome_number o = number_of (outcome_reply o)

-- The place of an outcome: 0 if it is granted.
abbrev pub outcome_place : Outcome → ℕ
outcome_place (Ok _) = 0
outcome_place (Err e) = e.place

-- A reply as an outcome without a place.
abbrev pub plain : Reply → Outcome
plain (Ok u) = Ok u
plain (Err e) = Err (placeless e)
