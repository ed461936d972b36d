-- `is_question` meets its contract: one test for each kind that is a question.
use mathlib.Core.Bool.{Bool, ◌||◌, or-false}
use mathlib.Core.Path.{sym, ap}
use lib.Dec.{eqb}
use Rattle.paper_lower.specs.Lists.{some}
use Rattle.paper_upper.specs.Questions.{asks}
use Rattle.call_question.proofs.is_question.Goals as goal

pub returns : goal.returns
unfolding asks some
returns c = ap (λ (b : Bool). eqb c.args.kind 58 || b) (sym (or-false _))
