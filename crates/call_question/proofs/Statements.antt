-- What follows from the contract of the question: each statement in specs/Promises.antt.
use Prim.Native.Nat.{ℕ}
use mathlib.Core.Bool.{Bool, true, false, not, cond}
use mathlib.Core.Path.{◌≡◌, refl, sym, ap, ◌∙◌}
use borrow.Author.Tests.{eq-eqb}
use Rattle.paper_lower.specs.Checks.{granted, ROOM}
use Rattle.paper_lower.specs.Records.{Record, decode}
use Rattle.paper_upper.specs.Orders.{Engine, SameTables, tasks_done}
use Rattle.paper_upper.specs.Questions.{figures_of, answered, answer_to}
use Rattle.paper_upper.specs.Engine.{request, place_to}
use Rattle.replies.proofs.DoneLaws.{granted-old}
use Rattle.paper_upper.proofs.OrderedLaws.{tables-bag}
use Rattle.order_links.proofs.SameLaws.{tasks-same}
use Rattle.engine.specs.Buffers.{tables_of, fit}
use Rattle.engine.specs.Answers.{CallAnswer, request_answer}
use Rattle.engine.proofs.RespectLaws.{respects}
use Rattle.call_question.specs.Question.{question_checks, question_reply, question_of}
use Rattle.call_question.specs.Promises.{AsRequested, AnswersAsDefined, FiguresOfTheLedger, StuckOfTheTemplate, RefusalsKeep, OneAnswer}

pub as-requested : AsRequested
unfolding question_of question_reply question_checks request_answer
as-requested bytes answer answer' x x' number j k l q r = q.replies ∙ rw (eq-eqb _ _ l, k) (go (fit x)) ∙ sym r.replies
  where
    go : (b : Bool) → granted (cond (not b) ROOM 0) (request (tables_of x) bytes).reply (cond (not b) ROOM 0)
        ≡ (cond {A = CallAnswer} b
        (record { reply = (request (tables_of x) bytes).reply; place = place_to (tables_of x) bytes; tables = (request (tables_of x) bytes).tables })
        (record { reply = ROOM; place = 0; tables = tables_of x })).reply
    go true = refl
    go false = refl

pub answers-as-defined : AnswersAsDefined
unfolding question_of
answers-as-defined bytes answer answer' x q = q.written ∙ ap (λ (k : ℕ). granted k (answer_to (tables_of x) (decode bytes)) answer) (sym q.replies)

pub figures-of-the-ledger : FiguresOfTheLedger
unfolding answer_to answered
figures-of-the-ledger bytes answer answer' x k q = answers-as-defined bytes answer answer' x q ∙ rw (eq-eqb _ _ k)

pub stuck-of-the-template : StuckOfTheTemplate
unfolding answer_to answered
stuck-of-the-template bytes answer answer' x k q = answers-as-defined bytes answer answer' x q ∙ rw k

pub refusals-keep : RefusalsKeep
unfolding question_of
refusals-keep bytes answer answer' x number q n = q.written ∙ sym (granted-old _ answer _ (λ z. n (q.replies ∙ z)))

-- ---- No second answer fits.

-- The words of an answer do not depend on the relative order of entries of different orders.
answered-same : (t t' : Engine) → SameTables t t' → (r : Record) → answer_to t r ≡ answer_to t' r
unfolding answer_to answered figures_of tasks_done
answered-same t t' h r = rw (h.entries _, tasks-same _ (tables-bag h), h.lower)

pub one_answer : OneAnswer
unfolding question_of question_reply
one_answer bytes answer a b x y q r f t d e =
    let s = (respects (tables_of x) (tables_of y) t bytes).0 in
    let w = answered-same (tables_of x) (tables_of y) t (decode bytes) in
    (d.replies ∙ (rw (f, s)) ∙ sym e.replies, d.written ∙ (rw (f, s, w)) ∙ sym e.written)
