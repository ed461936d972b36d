-- The contract of the call, for every file, output, report and content of the state; the contract of one step of it; and what follows.
use Rattle.std.specs.Prelude.{ℕ, suc, ◌+◌, ◌*◌, ◌/◌, ◌≤◌, ◌<◌, true, cond, List, [], ◌∷◌, ◌≡◌, eqb, length, take, Result, Ok, Err}
use Rattle.paper_lower.specs.Checks.{GRANTED, first, granted}
use Rattle.paper_lower.specs.Records.{Bytes}
use Rattle.paper_lower.specs.Tables.{Policy, no_policy}
use Rattle.paper_lower.specs.Load.{load}
use Rattle.paper_lower.specs.Mend.{mend}
use Rattle.paper_upper.specs.Engine.{engine_of}
use Rattle.replies.specs.Replies.{refusal_number}
use Rattle.replies.specs.declared.Refusal.{Refusal}
use Rattle.policy.specs.Reading.{policy_of}
use Rattle.order_links.specs.Chains.{sound_of}
use Rattle.lower.specs.Exports.{inside_one}
use Rattle.policy_mending.specs.declared.Dropped.{Dropped}
use Rattle.policy_mending.specs.Rest.{entries, Rest, rest_from}
use Rattle.engine.specs.Buffers.{Buffers, buffers, tables_of, fit, SameLengths}
use Rattle.theorems.specs.Mending.{unreported}
use Rattle.call_mend.specs.Mend.{mend_checks, front, mend_answer}

-- The contract of `mishantral_mend`: the file s, then output, report and buffers before the call, the same three after it, and the number returned.
pub record MendDone (s out : Bytes) (report : List Dropped) (x : Buffers) (out' : Bytes) (report' : List Dropped) (x' : Buffers) (number : ℕ) : Type 0 where
  pub answers : number ≡ inside_one (mend_answer s out report x).reply (mend_answer s out report x).kept
  pub written : out' ≡ (mend_answer s out report x).output
  pub reported : report' ≡ (mend_answer s out report x).report
  pub tables : tables_of x' ≡ (mend_answer s out report x).tables
  pub lengths : SameLengths x x'
  -- "nothing written", to the state as well
  pub room : ((mend_answer s out report x).reply ≡ 0 → ⊥) → x' ≡ x
  -- The links are sound afterwards, whatever they were before.
  pub settles : (mend_answer s out report x).reply ≡ 0 → sound_of x'.orders ≡ true

-- ---- One step: from one refused record to the next.

-- The reply of the checks that come first.
abbrev pub checked : Bytes → Bytes → ℕ → Buffers → ℕ
checked s out room x = first (mend_checks (fit x) s out room)

-- If d ends the call, its place becomes the number of the call.
abbrev pub numbered : Dropped → Dropped
numbered d = granted d.reply (record { place = inside_one 0 d.place; reply = 0 }) d

-- What a step answers: the dropped record, or the refusal of the call, which ends it.
abbrev pub dropped_or : Result Dropped Refusal → Dropped
dropped_or (Ok d) = d
dropped_or (Err e) = record { place = refusal_number e; reply = 0 }

-- What is left to do for the rest of a file, with the number of the call at the end.
pub record Ending : Type 0 where
  pub number : ℕ
  pub output : Bytes
  pub report : List Dropped
  pub tables : Policy

-- Makes an `Ending` of a `Rest`, which has the number of records kept in place of the number of the call.
abbrev pub ending : Rest → Ending
ending x = record { number = inside_one 0 x.kept; output = x.output; report = x.report; tables = x.tables }

-- An `Ending` with one more dropped record at the front of its report.
abbrev pub ahead : Dropped → Ending → Ending
ahead d x = record { number = x.number; output = x.output; report = d ∷ x.report; tables = x.tables }

-- What a step that answered d leaves to do: nothing if d ends the call; otherwise d is reported and the rest is mended.
unfoldable pub told_of : ℕ → Bytes → Bytes → Policy → Dropped → Ending
told_of dropped s out t d =
    granted d.reply
    (record { number = d.place; output = out; report = []; tables = t })
    (ahead d (ending (rest_from d.place (suc dropped) s out t)))

-- The tables on which the next record is judged. While no record has been dropped yet, the state is emptied first.
abbrev pub tables_at : ℕ → List ℕ → Policy
tables_at dropped p = cond (eqb dropped 0) no_policy (policy_of p)

-- Whatever the policy buffer holds, the state reads as that policy alone, and its links are sound.
pub record Alone (x : Buffers) : Type 0 where
  pub tables : (p : List ℕ) → tables_of (buffers p x.sessions x.orders) ≡ engine_of (policy_of p)
  pub sound : sound_of x.orders ≡ true

-- The contract of `step`.
pub record Turned (room place dropped : ℕ) (s out : Bytes) (x : Buffers) (out' : Bytes) (x' : Buffers) (d : Dropped) : Type 0 where
  pub refused : (checked s out room x ≡ 0 → ⊥) → (d ≡ record { place = checked s out room x; reply = 0 }) × ((out' ≡ out) × (x' ≡ x))
  pub told : checked s out room x ≡ 0 → told_of dropped s out' (policy_of x'.policy) d ≡ ending (rest_from place dropped s out (tables_at dropped x.policy))
  pub further : checked s out room x ≡ 0 → (d.reply ≡ 0 → ⊥) → (dropped < d.place) × (d.place ≤ length s / 16 + 1)
  pub alone : checked s out room x ≡ 0 → (0 < dropped → Alone x) → Alone x'

-- ---- 02's sentences about the call.

-- The call is accepted, and returns the number n.
abbrev pub Mends : Bytes → Bytes → List Dropped → Buffers → Bytes → List Dropped → Buffers → ℕ → Type 0
Mends s out report x out' report' x' n = MendDone s out report x out' report' x' n × ((mend_answer s out report x).reply ≡ GRANTED)

-- What Ask 12 requires.
pub record Sentences : Type 0 where
  -- "What is written always loads", to the tables that the state holds
  pub loads : {s out out' : Bytes} {report report' : List Dropped} {x x' : Buffers} {n : ℕ} → Mends s out report x out' report' x' n
      → ((load (take (16 * (mend_answer s out report x).kept) out')).reply ≡ GRANTED) × (tables_of x' ≡ engine_of (load (take (16 * (mend_answer s out report x).kept) out')).tables)
  -- "A file that loads comes out the same with an empty report."
  pub comes-out : {s out out' : Bytes} {report report' : List Dropped} {x x' : Buffers} {n : ℕ} → Mends s out report x out' report' x' n → (load s).reply ≡ GRANTED
      → (take (length s) out' ≡ s) × ((report' ≡ report) × (tables_of x' ≡ engine_of (load s).tables))
  -- The output has the records of all places that are not reported, in the order of the file.
  pub together : {s out out' : Bytes} {report report' : List Dropped} {x x' : Buffers} {n : ℕ} → Mends s out report x out' report' x' n
      → (take (16 * (mend_answer s out report x).kept) out' ≡ unreported (length s / 16) 1 s (mend s).report) × (report' ≡ front (entries (mend s).report) report)

-- "A proof shows that no second answer fits": number, output, report and tables are the same
pub record OneAnswer : Type 0 where
  pub mends : {s out a b : Bytes} {report c d : List Dropped} {x x' y y' : Buffers} {m n : ℕ} → fit x ≡ fit x' → tables_of x ≡ tables_of x'
      → MendDone s out report x a c y m → MendDone s out report x' b d y' n → (m ≡ n) × ((a ≡ b) × ((c ≡ d) × (tables_of y ≡ tables_of y')))
