-- Questions whose answer is more than a reply (document 02, Asks 9 and 13): the reply that `request` gives and, if it is 0, the words of the answer.
use Rattle.std.specs.Prelude.{ℕ, Bool, not, List, [], ◌∷◌, eqb, length}
use Rattle.paper_lower.specs.Checks.{Check, first, granted, ROOM, SHAPE}
use Rattle.paper_lower.specs.Records.{Bytes, decode}
use Rattle.paper_upper.specs.Orders.{Engine}
use Rattle.paper_upper.specs.Engine.{request}
use Rattle.paper_upper.specs.Questions.{answer_words, asks, answer_to}
use Rattle.engine.specs.Buffers.{Buffers, tables_of, fit}

-- The checks that come before those of a request. ROOM: a state buffer or the answer buffer has a wrong length. SHAPE: "kind not of this call".
unfoldable pub question_checks : Bool → List ℕ → Bytes → List Check
question_checks fits answer s =
    (not fits, ROOM)
    ∷ (not (eqb (length answer) answer_words), ROOM)
    ∷ (not (asks (decode s).kind), SHAPE)
    ∷ []

-- The reply: first these checks, then "Refusals of the new question, kind 58 with instance a: SHAPE, RANGE, UNKNOWN", as in a request
unfoldable pub question_reply : Bool → Engine → Bytes → List ℕ → ℕ
question_reply fits t s answer = granted (first (question_checks fits answer s)) (request t s).reply (first (question_checks fits answer s))

-- The answer of the call: its reply and the answer buffer afterwards.
pub record Asked : Type 0 where
  pub reply : ℕ
  pub answer : List ℕ

-- If the reply is 0, every word of the answer is written; otherwise every word stays.
unfoldable pub question_of : Bool → Engine → Bytes → List ℕ → Asked
question_of fits t s answer =
    record {
      reply = question_reply fits t s answer;
      answer = granted (question_reply fits t s answer) (answer_to t (decode s)) answer;
    }

-- The same on the caller's buffers.
abbrev pub question_answer : Bytes → List ℕ → Buffers → Asked
question_answer s answer x = question_of (fit x) (tables_of x) s answer
