-- Examples checked by computation: 02's sentences of Ask 3, and both sides of each limit.
use Rattle.std.specs.Prelude.{ℕ, true, false, List, [], ◌∷◌, ◌++◌, ◌≡◌, refl, replicate}
use Rattle.paper_lower.specs.Checks.{first, GRANTED, ROOM, SHAPE, UNKNOWN, BEFORE}
use Rattle.paper_lower.specs.Records.{Bytes}
use Rattle.paper_lower.specs.Tables.{no_policy}
use Rattle.paper_lower.specs.Load.{load, load_open}
use Rattle.paper_lower.specs.Words.{user, role, user_has, task, open_to, is_before, create, opened_order, claim, words_open}
use Rattle.paper_upper.specs.Orders.{Engine}
use Rattle.paper_upper.specs.Engine.{engine_of, engine_open}
use Rattle.call_pile.specs.Pile.{whole_from, pile_checks, pile_of}

-- Several records as one byte string.
unfoldable joined : List Bytes → Bytes
joined [] = []
joined (r ∷ rs) = r ++ joined rs

-- An engine with one user, one role, and two tasks of which the first comes before the second.
unfoldable desk : Engine
desk = engine_of (load (joined (user 300 ∷ role 0 ∷ user_has 300 0 ∷ task 0 0 ∷ task 1 0 ∷ open_to 0 0 ∷ open_to 1 0 ∷ is_before 0 1 ∷ []))).tables

-- Four requests: the second names an undeclared user, the fourth claims a task whose prerequisite is not done.
unfoldable morning : Bytes
morning = joined (create 5 300 1 ∷ create 6 301 1 ∷ opened_order 0 0 ∷ claim 5 0 1 ∷ [])

-- n zero bytes.
unfoldable zeros : ℕ → Bytes
zeros n = replicate n 0

-- Opens the definitions, so that the examples below compute.
unfoldable sample_open : Unit {0}
unfolding engine_open load_open words_open joined desk morning zeros whole_from pile_checks pile_of
sample_open = tt

-- "The call goes on after a refused request"; "other bytes stay"
middle : (pile_of true desk morning (9 ∷ 9 ∷ 9 ∷ 9 ∷ 9 ∷ 9 ∷ []) 1).answers ≡ 9 ∷ GRANTED ∷ UNKNOWN ∷ GRANTED ∷ BEFORE ∷ 9 ∷ []
unfolding sample_open
middle = refl

-- The last index at which the replies fit, and the first at which they do not.
last-place : (pile_of true (engine_of no_policy) (create 5 300 1) (9 ∷ 9 ∷ []) 1).answers ≡ 9 ∷ UNKNOWN ∷ []
unfolding sample_open
last-place = refl

past_room : (t : Engine) → pile_of true t (zeros 64) (9 ∷ 9 ∷ 9 ∷ 9 ∷ 9 ∷ []) 2 ≡ record { reply = ROOM; tables = t; answers = 9 ∷ 9 ∷ 9 ∷ 9 ∷ 9 ∷ [] }
unfolding sample_open
past_room t = refl

-- "Zero records are accepted.", also at the end of the buffer, but not past it
no-records : (t : Engine) → pile_of true t [] (7 ∷ []) 1 ≡ record { reply = GRANTED; tables = t; answers = 7 ∷ [] }
unfolding sample_open
no-records t = refl

past_the_end : (t : Engine) → (pile_of true t [] (7 ∷ []) 2).reply ≡ ROOM
unfolding sample_open
past_the_end t = refl

-- An incomplete record is SHAPE before any request is performed, and needs no byte in the answer buffer.
cut : (t : Engine) → pile_of true t (zeros 63) (9 ∷ 9 ∷ 9 ∷ []) 0 ≡ record { reply = SHAPE; tables = t; answers = 9 ∷ 9 ∷ 9 ∷ [] }
unfolding sample_open
cut t = refl

-- ROOM is checked before SHAPE.
room-and-cut : (t : Engine) → (pile_of true t (zeros 63) (9 ∷ 9 ∷ []) 0).reply ≡ ROOM
unfolding sample_open
room-and-cut t = refl

another-length : (t : Engine) → pile_of false t (zeros 63) (9 ∷ 9 ∷ 9 ∷ []) 0 ≡ record { reply = ROOM; tables = t; answers = 9 ∷ 9 ∷ 9 ∷ [] }
unfolding sample_open
another-length t = refl

-- 4,096 records are accepted, one more is ROOM.
most : first (pile_checks true (replicate 65536 0) (replicate 4096 0) 0) ≡ GRANTED
unfolding sample_open
most = refl

one_more : first (pile_checks true (replicate 65552 0) (replicate 4097 0) 0) ≡ ROOM
unfolding sample_open
one_more = refl
