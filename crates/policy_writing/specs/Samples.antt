-- Test cases for writing: an output of exactly the length, one that is longer, one that is a byte too short, and a state of the wrong length.
use Rattle.std.specs.Prelude.{ℕ, true, false, [], ◌∷◌, ◌++◌, ◌≡◌, refl, replicate}
use Rattle.paper_lower.specs.Lists.{many, each}
use Rattle.paper_lower.specs.Checks.{GRANTED, ROOM}
use Rattle.paper_lower.specs.Records.{Bytes, records_open}
use Rattle.paper_lower.specs.Tables.{Policy}
use Rattle.paper_lower.specs.Load.{load}
use Rattle.paper_lower.specs.Sessions.{lower_open}
use Rattle.paper_lower.specs.Words.{joined, words_open, user, role, user_has}
use Rattle.paper_lower.specs.Written.{row, records_written, written, written_open}
use Rattle.policy_writing.specs.Answers.{answer, write_of}

-- A policy of three records, not in the order in which they are written.
unfoldable small : Policy
small = (load (joined (role 0 ∷ user 300 ∷ user_has 300 0 ∷ []))).tables

-- Its records as they are written.
three : records_written small ≡ row 1 0 300 0 0 0 ∷ row 2 0 0 0 0 0 ∷ row 4 0 300 0 0 0 ∷ []
unfolding lower_open words_open written_open small
three = refl

-- Their bytes.
unfoldable are_in_order : Bytes
are_in_order = joined (user 300 ∷ role 0 ∷ user_has 300 0 ∷ [])

-- An output of n bytes with the value 9.
unfoldable nines : ℕ → Bytes
nines n = replicate n 9

-- An output of exactly the length.
just_enough : write_of true small (nines 48) ≡ answer GRANTED 3 are_in_order
unfolding write_of written many each joined records_open words_open are_in_order nines
just_enough = rw three

-- The bytes after the last record are unchanged.
longer : write_of true small (nines 50) ≡ answer GRANTED 3 (are_in_order ++ 9 ∷ 9 ∷ [])
unfolding write_of written many each joined records_open words_open are_in_order nines
longer = rw three

-- If the output is a byte too short, the reply is ROOM and nothing is written.
a-byte-short : write_of true small (nines 47) ≡ answer ROOM 0 (nines 47)
unfolding write_of many nines
a-byte-short = rw three

-- If the state has the wrong length, the reply is ROOM and nothing is written.
no-state : (p : Policy) (output : Bytes) → write_of false p output ≡ answer ROOM 0 output
unfolding write_of
no-state p output = refl
