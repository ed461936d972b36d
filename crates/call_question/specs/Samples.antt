-- Examples checked by computation: an answer with all its words, and each refusal next to its neighbours in the order of checks.
use Rattle.std.specs.Prelude.{ℕ, true, false, List, [], ◌∷◌, ◌≡◌, refl, replicate}
use Rattle.paper_lower.specs.Checks.{GRANTED, ROOM, SHAPE, RANGE, UNKNOWN}
use Rattle.paper_lower.specs.Records.{Bytes}
use Rattle.paper_lower.specs.Kinds.{after}
use Rattle.paper_lower.specs.Load.{load, load_open}
use Rattle.paper_lower.specs.Words.{joined, record_of, user, role, user_has, task, open_to, is_before, create, opened_order, claim, done, figures, stuck_tasks, words_open}
use Rattle.paper_upper.specs.Orders.{Engine}
use Rattle.paper_upper.specs.Questions.{questions_open}
use Rattle.paper_upper.specs.Engine.{request, engine_of, engine_open}
use Rattle.call_question.specs.Question.{question_checks, question_reply, question_of}

-- Order 5: task 3 is done and held again, task 0 is held. Order 6 has no entry.
unfoldable desk : Engine
desk =
    after request
    (engine_of (load (joined (user 300 ∷ role 0 ∷ user_has 300 0 ∷ task 0 0 ∷ task 3 0 ∷ open_to 0 0 ∷ open_to 3 0 ∷ []))).tables)
    (create 5 300 1 ∷ opened_order 5 0 ∷ opened_order 6 0 ∷ claim 5 5 3 ∷ done 5 5 3 ∷ claim 5 5 0 ∷ claim 5 5 3 ∷ [])

-- An answer buffer of n words, all 9.
unfoldable nines : ℕ → List ℕ
nines n = replicate n 9

-- Opens the definitions, so that the examples below compute.
unfoldable sample_open : Unit {0}
unfolding engine_open questions_open load_open words_open desk nines question_checks question_reply question_of
sample_open = tt

-- "how many entries, which tasks done"; the words that the answer does not use are 0
answered : question_of true desk (figures 5) (nines 66) ≡ record { reply = GRANTED; answer = 3 ∷ 8 ∷ replicate 64 0 }
unfolding sample_open
answered = refl

no-entry : question_of true desk (figures 6) (nines 66) ≡ record { reply = GRANTED; answer = replicate 66 0 }
unfolding sample_open
no-entry = refl

-- "Planning wrote task 4 before 5, 5 before 6, 6 before 4": these are stuck, and task 7 of the same template is free
unfoldable circle : Engine
circle = engine_of (load (joined (task 4 0 ∷ task 5 0 ∷ task 6 0 ∷ task 7 0 ∷ is_before 4 5 ∷ is_before 5 6 ∷ is_before 6 4 ∷ []))).tables

stuck : question_of true circle (stuck_tasks 0) (nines 66) ≡ record { reply = GRANTED; answer = 112 ∷ 1 ∷ 7 ∷ replicate 63 0 }
unfolding sample_open circle
stuck = refl

no-task : question_of true circle (stuck_tasks 1) (nines 66) ≡ record { reply = UNKNOWN; answer = nines 66 }
unfolding sample_open circle
no-task = refl

no-template : question_of true circle (stuck_tasks 16) (nines 66) ≡ record { reply = RANGE; answer = nines 66 }
unfolding sample_open circle
no-template = refl

-- UNKNOWN, RANGE and SHAPE, each before those that follow it; the words of the answer buffer stay.
not-open : question_of true desk (figures 7) (nines 66) ≡ record { reply = UNKNOWN; answer = nines 66 }
unfolding sample_open
not-open = refl

above : question_of true desk (figures 64) (nines 66) ≡ record { reply = RANGE; answer = nines 66 }
unfolding sample_open
above = refl

another-field : question_of true desk (record_of 58 0 64 1 0 0) (nines 66) ≡ record { reply = SHAPE; answer = nines 66 }
unfolding sample_open
another-field = refl

-- SHAPE: a request that is no question, granted or out of range as a request; and a question that is cut short.
no-question : question_of true desk (opened_order 7 0) (nines 66) ≡ record { reply = SHAPE; answer = nines 66 }
unfolding sample_open
no-question = refl

no-question-above : question_of true desk (opened_order 64 0) (nines 66) ≡ record { reply = SHAPE; answer = nines 66 }
unfolding sample_open
no-question-above = refl

cut : question_of true desk (58 ∷ 0 ∷ 5 ∷ []) (nines 66) ≡ record { reply = SHAPE; answer = nines 66 }
unfolding sample_open
cut = refl

-- ROOM is checked first: a word too few, a word too many, a state buffer of another length.
short : question_of true desk (opened_order 64 0) (nines 65) ≡ record { reply = ROOM; answer = nines 65 }
unfolding sample_open
short = refl

long : question_of true desk (figures 5) (nines 67) ≡ record { reply = ROOM; answer = nines 67 }
unfolding sample_open
long = refl

no-state : (t : Engine) (s : Bytes) → question_of false t s (nines 66) ≡ record { reply = ROOM; answer = nines 66 }
unfolding sample_open
no-state t s = refl
