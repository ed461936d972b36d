-- The contract of the question, for every byte string, answer buffer and content of the state, which is only read; and what follows from it.
use Rattle.std.specs.Prelude.{ℕ, true, List, ◌≡◌, length}
use Rattle.paper_lower.specs.Checks.{first, granted}
use Rattle.paper_lower.specs.Records.{Bytes, decode}
use Rattle.paper_lower.specs.Kinds.{chosen}
use Rattle.paper_upper.specs.Orders.{SameTables}
use Rattle.paper_upper.specs.Stuck.{stuck_of}
use Rattle.paper_upper.specs.Requests.{figures_checks, stuck_checks}
use Rattle.paper_upper.specs.Questions.{figures_of, figure_words, answer_words, padded, asks, answer_to}
use Rattle.paper_upper.specs.Engine.{request_kinds}
use Rattle.replies.specs.Replies.{Reply, number_of, Outcome, outcome_number}
use Rattle.records.specs.Reading.{paper_of}
use Rattle.records.specs.declared.Record.{Record}
use Rattle.policy.specs.Reading.{policy_of}
use Rattle.order_entries.specs.Reading.{orders_of}
use Rattle.order_requests.specs.Tables.{engine_tables}
use Rattle.engine.specs.Buffers.{Buffers, tables_of, fit}
use Rattle.engine.specs.Answers.{Requested}
use Rattle.call_question.specs.Question.{question_answer}

-- The contract of `question` and `mishantral_question`: the reply and the answer buffer afterwards.
pub record Questioned (bytes : Bytes) (answer answer' : List ℕ) (x : Buffers) (number : ℕ) : Type 0 where
  pub replies : number ≡ (question_answer bytes answer x).reply
  pub written : answer' ≡ (question_answer bytes answer x).answer

-- Kind 58 after SHAPE and RANGE, whatever the policy and sessions buffers hold: its reply, and its answer if granted.
pub record FiguresAnswered (o : List ℕ) (a : ℕ) (answer answer' : List ℕ) (reply : Reply) : Type 0 where
  pub replies : (p s : List ℕ) → number_of reply ≡ first (figures_checks (engine_tables p s o) a)
  pub written : answer' ≡ granted (number_of reply) (padded (figure_words (figures_of a (orders_of o).entries))) answer

-- Kind 60 after SHAPE and RANGE, whatever the sessions and orders buffers hold.
pub record StuckAnswered (p : List ℕ) (a : ℕ) (answer answer' : List ℕ) (reply : Reply) : Type 0 where
  pub replies : number_of reply ≡ first (stuck_checks (policy_of p).tasks a)
  pub written : answer' ≡ granted (number_of reply) (padded (stuck_of (policy_of p).tasks (policy_of p).rules a)) answer

-- Either question by its kind, whatever the sessions buffer holds.
pub record Answered (p o : List ℕ) (r : Record) (answer answer' : List ℕ) (reply : Reply) : Type 0 where
  pub replies : (s : List ℕ) → number_of reply ≡ first ((chosen request_kinds r.kind).checks (engine_tables p s o) (paper_of r))
  pub written : (s : List ℕ) → answer' ≡ granted (number_of reply) (answer_to (engine_tables p s o) (paper_of r)) answer

-- ---- What follows.

-- The reply is the one that the request gives to the same record.
abbrev pub AsRequested : Type 0
AsRequested =
    (bytes : Bytes) (answer answer' : List ℕ) (x x' : Buffers) (number : ℕ) (j : Outcome) → asks (decode bytes).kind ≡ true → length answer ≡ answer_words
    → Questioned bytes answer answer' x number → Requested bytes x x' j → number ≡ outcome_number j

-- If granted, every word of the answer is the defined one.
abbrev pub AnswersAsDefined : Type 0
AnswersAsDefined =
    (bytes : Bytes) (answer answer' : List ℕ) (x : Buffers) → Questioned bytes answer answer' x 0 → answer' ≡ answer_to (tables_of x) (decode bytes)

-- The answer to kind 58. Ask 9: "answered from the kept figures and equal to a walk of the whole ledger"
abbrev pub FiguresOfTheLedger : Type 0
FiguresOfTheLedger =
    (bytes : Bytes) (answer answer' : List ℕ) (x : Buffers) → (decode bytes).kind ≡ 58 → Questioned bytes answer answer' x 0
    → answer' ≡ padded (figure_words (figures_of (decode bytes).a (tables_of x).orders.entries))

-- The answer to kind 60. Ask 13: "The reply gives the stuck ones as a set and such a list of all free ones"
abbrev pub StuckOfTheTemplate : Type 0
StuckOfTheTemplate =
    (bytes : Bytes) (answer answer' : List ℕ) (x : Buffers) → (decode bytes).kind ≡ 60 → Questioned bytes answer answer' x 0
    → answer' ≡ padded (stuck_of (tables_of x).lower.policy.tasks (tables_of x).lower.policy.rules (decode bytes).a)

-- A refusal leaves the answer buffer as it was.
abbrev pub RefusalsKeep : Type 0
RefusalsKeep =
    (bytes : Bytes) (answer answer' : List ℕ) (x : Buffers) (number : ℕ) → Questioned bytes answer answer' x number → (number ≡ 0 → ⊥) → answer' ≡ answer

-- "A proof shows that no second answer fits": reply and all words are the same, whichever ledger slots the entries are in
abbrev pub OneAnswer : Type 0
OneAnswer =
    (bytes : Bytes) (answer a b : List ℕ) (x y : Buffers) (q r : ℕ) → fit x ≡ fit y → SameTables (tables_of x) (tables_of y)
    → Questioned bytes answer a x q → Questioned bytes answer b y r → (q ≡ r) × (a ≡ b)
