-- The contract of writing the policy, for every output and every content of the state, which is only read (document 02, Ask 8); and what follows from it.
use Rattle.std.specs.Prelude.{ℕ, ◌*◌, ◌/◌, ◌%◌, ◌≤◌, true, ◌++◌, ◌≡◌, length, drop}
use Rattle.paper_lower.specs.Checks.{GRANTED, ROOM}
use Rattle.paper_lower.specs.Records.{Bytes}
use Rattle.paper_lower.specs.Tables.{Policy}
use Rattle.paper_lower.specs.Written.{written}
use Rattle.paper_upper.specs.Orders.{SameTables}
use Rattle.policy_writing.specs.Laying.{far}
use Rattle.policy_writing.specs.Answers.{Written, written_number, written_records, answer, records_of, write_of, Exported}
use Rattle.engine.specs.Buffers.{Buffers, tables_of, fit}

-- The policy tables that the buffers read as.
abbrev pub policy_in : Buffers → Policy
policy_in x = (tables_of x).lower.policy

-- The contract of `write`: reply, number of records and output are those of `write_of`; the number of records is small enough for the exported number.
pub record WroteOut (x : Buffers) (output output' : Bytes) (w : Written) : Type 0 where
  pub answers : answer (written_number w) (written_records w) output' ≡ write_of (fit x) (policy_in x) output
  pub few : written_records w ≤ far

-- The contract of `mishantral_write`.
abbrev pub WriteExported : Buffers → Bytes → Bytes → ℕ → Type 0
WriteExported x output output' number = Exported (fit x) (policy_in x) output output' number

-- The policy of x was written by either function, with this reply and this number of records. The exported number is the reply + 256 times the records.
pub data WrittenBy (x : Buffers) (output output' : Bytes) : ℕ → ℕ → Type 0 where
  within : {w : Written} → WroteOut x output output' w → WrittenBy x output output' (written_number w) (written_records w)
  exported : {n : ℕ} → WriteExported x output output' n → WrittenBy x output output' (n % 256) (n / 256)

-- ---- What follows.

-- If the reply is 0, the output begins with the bytes of the records, and the bytes after them stay.
abbrev pub WritesAsDefined : Type 0
WritesAsDefined =
    (x : Buffers) (output output' : Bytes) (reply records : ℕ) → WrittenBy x output output' reply records → reply ≡ GRANTED
    → (records ≡ records_of (policy_in x)) × (output' ≡ written (policy_in x) ++ drop (16 * records) output)

-- The reply is ROOM if a state buffer does not have its fixed length or the output is too short, and in no other case.
abbrev pub RefusedForRoom : Type 0
RefusedForRoom =
    (x : Buffers) (output output' : Bytes) (reply records : ℕ) → WrittenBy x output output' reply records
    → (fit x ≡ true → 16 * records_of (policy_in x) ≤ length output → reply ≡ GRANTED)
    × ((fit x ≡ true → 16 * records_of (policy_in x) ≤ length output → ⊥) → (reply ≡ ROOM) × (output' ≡ output))

-- "A proof shows that no second answer fits": number and all bytes are the same
abbrev pub OneAnswer : Type 0
OneAnswer =
    (x y : Buffers) (output a b : Bytes) (m n : ℕ) → fit x ≡ fit y → SameTables (tables_of x) (tables_of y)
    → WriteExported x output a m → WriteExported y output b n → (m ≡ n) × (a ≡ b)
