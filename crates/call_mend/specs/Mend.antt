-- Mending a damaged policy file in the caller's engine state (document 02, Ask 12): the answer of the call, its output, its report and the tables.
use Rattle.std.specs.Prelude.{ℕ, ◌+◌, ◌/◌, Bool, not, List, [], ◌∷◌, ◌++◌, ltb, length, drop}
use Rattle.paper_lower.specs.Checks.{Check, first, granted, GRANTED, ROOM}
use Rattle.paper_lower.specs.Records.{Bytes}
use Rattle.paper_lower.specs.Mend.{mend}
use Rattle.paper_upper.specs.Orders.{Engine}
use Rattle.paper_upper.specs.Engine.{engine_of}
use Rattle.policy_mending.specs.declared.Dropped.{Dropped}
use Rattle.policy_mending.specs.Rest.{entries}
use Rattle.engine.specs.Buffers.{Buffers, tables_of, fit}

-- The checks of the call: "ROOM if a state buffer has not its length, the output is shorter than the input, or the report has fewer entries than the input's
-- length divided by 16, rounded down, plus one"
unfoldable pub mend_checks : Bool → Bytes → Bytes → ℕ → List Check
mend_checks fits s out room =
    (not fits, ROOM)
    ∷ (ltb (length out) (length s), ROOM)
    ∷ (ltb room (length s / 16 + 1), ROOM)
    ∷ []

-- A buffer with new content at its front: "output bytes and report entries past the last one written stay"
abbrev pub front : {A : Type 0} → List A → List A → List A
front new old = new ++ drop (length new) old

-- The answer of the call: its reply, the number of records kept, and the output, report and tables afterwards.
pub record Called : Type 0 where
  pub reply : ℕ
  pub kept : ℕ
  pub output : Bytes
  pub report : List Dropped
  pub tables : Engine

-- The answer of the call on tables t. "The work is done in a lent engine state, which holds the kept policy afterwards"; if it is refused, "nothing written"
unfoldable pub mend_of : Bool → Engine → Bytes → Bytes → List Dropped → Called
mend_of fits t s out report =
    granted (first (mend_checks fits s out (length report)))
    (record {
      reply = GRANTED;
      kept = length (mend s).written / 16;
      output = front (mend s).written out;
      report = front (entries (mend s).report) report;
      tables = engine_of (mend s).tables;
    })
    (record { reply = first (mend_checks fits s out (length report)); kept = 0; output = out; report = report; tables = t })

-- The same on the caller's buffers.
abbrev pub mend_answer : Bytes → Bytes → List Dropped → Buffers → Called
mend_answer s out report x = mend_of (fit x) (tables_of x) s out report
