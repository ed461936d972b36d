-- The contract of writing a policy. 02, Ask 8: "ROOM when the output is too short, nothing written." The same is given if a state buffer has the wrong
-- length. Otherwise the output starts with the records, and the bytes after them are unchanged.
use Rattle.std.specs.Prelude.{ℕ, ◌+◌, ◌*◌, ◌≤◌, Bool, cond, ◌&&◌, List, ◌++◌, ◌≡◌, eqb, leb, length, drop, Result, Ok, Err}
use Rattle.paper_lower.specs.Lists.{many}
use Rattle.paper_lower.specs.Checks.{GRANTED, ROOM}
use Rattle.paper_lower.specs.Records.{Bytes}
use Rattle.paper_lower.specs.Tables.{Policy}
use Rattle.paper_lower.specs.Written.{records_written, written}
use Rattle.replies.specs.Replies.{refusal_number}
use Rattle.replies.specs.declared.Refusal.{Refusal}
use Rattle.policy.specs.Layout.{policy_words}
use Rattle.policy.specs.Reading.{policy_of}
use Rattle.sessions.specs.Reading.{sessions_words}
use Rattle.policy_writing.specs.Laying.{far}

-- The answer: the reply, the number of records, and the output afterwards.
pub record Answer : Type 0 where
  pub reply : ℕ
  pub records : ℕ
  pub output : Bytes

-- The answer with these parts.
abbrev pub answer : ℕ → ℕ → Bytes → Answer
answer reply records output = record { reply = reply; records = records; output = output }

-- The number of records of a policy.
abbrev pub records_of : Policy → ℕ
records_of p = many (records_written p)

-- The answer for policy tables p and an output. `fits` says that the state buffers have the right lengths.
unfoldable pub write_of : Bool → Policy → Bytes → Answer
write_of fits p output =
    cond (fits && leb (16 * records_of p) (length output))
    (answer GRANTED (records_of p) (written p ++ drop (16 * records_of p) output))
    (answer ROOM 0 output)

-- ---- What a function that writes returns: the number of records, or the refusal.
abbrev pub Written : Type 0
Written = Result ℕ Refusal

abbrev pub written_number : Written → ℕ
written_number (Ok _) = GRANTED
written_number (Err e) = refusal_number e

abbrev pub written_records : Written → ℕ
written_records (Ok n) = n
written_records (Err _) = 0

-- ---- For a policy buffer alone. The bound on the number of records is for callers that multiply it.
pub record Wrote (l : List ℕ) (output output' : Bytes) (x : Written) : Type 0 where
  pub answers : answer (written_number x) (written_records x) output' ≡ write_of (eqb (length l) policy_words) (policy_of l) output
  pub few : written_records x ≤ far

-- ---- For C and Rust, on the two buffers of the lower part: one number, the reply plus 256 times the number of records.

-- Whether both buffers have the right lengths.
abbrev pub fit : List ℕ → List ℕ → Bool
fit p s = eqb (length p) policy_words && eqb (length s) sessions_words

-- The contract of an exported function that writes the policy.
pub record Exported (fits : Bool) (p : Policy) (output output' : Bytes) (number : ℕ) : Type 0 where
  pub answers : number ≡ (write_of fits p output).reply + 256 * (write_of fits p output).records
  pub bytes : output' ≡ (write_of fits p output).output
