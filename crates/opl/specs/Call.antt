-- The contracts of the two calls, Ask 4's (`all` is false) and the wider one, over two texts, an output and a scratch buffer.
use Rattle.std.specs.Prelude.{ℕ, ◌+◌, ◌*◌, ◌%◌, ◌≡◌, Bool, true, false, cond, eqb, length, Result, Ok, Err}
use Rattle.paper_lower.specs.Checks.{GRANTED, ROOM}
use Rattle.paper_lower.specs.Records.{Bytes}
use Rattle.paper_opl.specs.Reading.{Text}
use Rattle.paper_opl.specs.Tree.{if-found, document_in}
use Rattle.paper_opl.specs.Naming.{task_lines, records_of, TEXT, NAMES, Answer as Translated, refused, writes, judged, translate_in}
use Rattle.opl_spaces.specs.Spaces.{scratch_words}
use Rattle.opl_line_names.specs.Names.{accepted}
use Rattle.opl.specs.declared.Refused.{Refused}
use Rattle.opl.specs.declared.Refused.TheVariants.{Policy, Lines, Names, Room}

-- The answer. "Refusals, nothing written: TEXT (21) with the byte place, the policy text judged first ..; then NAMES (22) ..; then ROOM ..". Names are
-- looked up in the scratch buffer, so a scratch buffer of another length is answered with ROOM before them.
unfoldable pub answer : Bool → ℕ → Text → Text → Bytes → Translated
answer all words s t out =
    judged 1 s (document_in all s) out (λ es. judged 2 t (task_lines t) out (λ ls.
    cond (eqb words scratch_words) (if-found (records_of es ls) (refused NAMES 0 0 out) (λ rs. writes rs out)) (refused ROOM 0 0 out)))

-- The code's answer: the number of records, or why none are written.
abbrev pub Answer : Type 0
Answer = Result ℕ Refused

-- What it means, together with the output after the call.
abbrev pub answered : Answer → Bytes → Translated
answered (Ok count) out = record { reply = GRANTED; place = 0; which = 0; count = count; output = out }
answered (Err (Policy place)) out = refused TEXT place 1 out
answered (Err (Lines place)) out = refused TEXT place 2 out
answered (Err Names) out = refused NAMES 0 0 out
answered (Err Room) out = refused ROOM 0 0 out

-- The code's answer is the defined one, and the output keeps its length.
pub record Answers (all : Bool) (s t : Text) (words : ℕ) (out out' : Bytes) (r : Answer) : Type 0 where
  pub answer-is : answered r out' ≡ answer all words s t out
  pub room : length out' ≡ length out

-- ---- The answer as one number: the reply + 256 times (which text + 4 times the place of the byte or the number of records). A place or a number of 2 ^ 54
-- or more does not fit; no memory holds that many bytes.

-- The reply, the text and the place or number as one number.
abbrev pub numbered : ℕ → ℕ → ℕ → ℕ
numbered reply which n = reply + 256 * (which + 4 * (n % 18014398509481984))

-- The place with TEXT, and the number of records otherwise.
abbrev pub shown_of : ℕ → ℕ → ℕ → ℕ
shown_of reply place count = cond (eqb reply TEXT) place count

-- The answer as one number.
abbrev pub inside_one : Translated → ℕ
inside_one a = numbered a.reply a.which (shown_of a.reply a.place a.count)

-- The contract of `mishantral_opl` and `mishantral_opl_all`.
pub record Exported (all : Bool) (s t : Text) (words : ℕ) (out out' : Bytes) (number : ℕ) : Type 0 where
  pub number_is : number ≡ inside_one (answer all words s t out)
  pub output-is : out' ≡ (answer all words s t out).output

-- ---- What follows.

-- With a scratch buffer of the fixed length, the call answers as defined.
abbrev pub AnswersAsDefined : Type 0
AnswersAsDefined = (all : Bool) (s t : Text) (out : Bytes) → answer all scratch_words s t out ≡ translate_in all s t out

-- Only one answer meets the contract.
abbrev pub OneAnswer : Type 0
OneAnswer =
    (all : Bool) (s t : Text) (words : ℕ) (out out₁ out₂ : Bytes) (r₁ r₂ : Answer) → Answers all s t words out out₁ r₁ → Answers all s t words out out₂ r₂ →
    (r₁ ≡ r₂) × (out₁ ≡ out₂)

-- A policy text that Ask 4's call accepts gets the same answer from the wider one.
abbrev pub CallsAlike : Type 0
CallsAlike = (words : ℕ) (s t : Text) (out : Bytes) → accepted (document_in false s) ≡ true → answer true words s t out ≡ answer false words s t out

-- A refusal leaves the output as it was: "Refusals, nothing written"
abbrev pub RefusalsKeep : Type 0
RefusalsKeep =
    (all : Bool) (s t : Text) (words : ℕ) (out out' : Bytes) (r : Answer) → Answers all s t words out out' r → ((answered r out').reply ≡ GRANTED → ⊥) → out' ≡ out
