-- Questions: the requests that return figures besides the reply, and the words that each returns if it is granted.
use Rattle.std.specs.Prelude.{ℕ, ◌-◌, Bool, cond, List, [], ◌∷◌, ◌++◌, eqb, length, replicate}
use Rattle.paper_lower.specs.Sets.{Set}
use Rattle.paper_lower.specs.Lists.{some, many, keep}
use Rattle.paper_lower.specs.Records.{Record}
use Rattle.paper_upper.specs.Orders.{Entry, Engine, are_in_order, tasks_done}
use Rattle.paper_upper.specs.Stuck.{stuck_of, stuck_open}

-- ---- 02, Ask 9: "the question "how many entries, which tasks done" for an instance, .. equal to a walk of the whole ledger"

-- The figures: the number of entries, and the tasks with a done entry.
pub record Figures : Type 0 where
  pub entries : ℕ
  pub done : Set

-- The figures of instance i.
unfoldable pub figures_of : ℕ → List Entry → Figures
figures_of i es = record { entries = many (keep (are_in_order i) es); done = tasks_done i es }

-- The figures as words of the answer.
abbrev pub figure_words : Figures → List ℕ
figure_words f = f.entries ∷ f.done ∷ []

-- ---- The answer. It has the same number of words for every question; words that a question does not use are 0.

-- The number of words of an answer.
abbrev pub answer_words : ℕ
answer_words = 66

-- The words, filled up with zeros.
unfoldable pub padded : List ℕ → List ℕ
padded ws = ws ++ replicate (answer_words - length ws) 0

-- The kinds that are questions.
abbrev pub question_numbers : List ℕ
question_numbers = 58 ∷ 60 ∷ []

-- Whether kind k is a question.
unfoldable pub asks : ℕ → Bool
asks k = some (eqb k) question_numbers

-- The words that a question uses.
unfoldable pub answered : Engine → Record → List ℕ
answered t r =
    cond (eqb r.kind 58) (figure_words (figures_of r.a t.orders.entries))
    (cond (eqb r.kind 60) (stuck_of t.lower.policy.tasks t.lower.policy.rules r.a) [])

-- The whole answer to a question.
unfoldable pub answer_to : Engine → Record → List ℕ
answer_to t r = padded (answered t r)

-- Unfolds all definitions of this file and of Stuck at once, for proofs that compute a case.
unfoldable pub questions_open : Unit {0}
unfolding stuck_open figures_of padded asks answered answer_to
questions_open = tt
