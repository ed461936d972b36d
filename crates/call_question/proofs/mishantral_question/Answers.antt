-- `mishantral_question` meets its contract: it is `question`, and returns the reply's number.
use Rattle.call_question.proofs.Ways.{as_number}
use Rattle.call_question.proofs.mishantral_question.Goals as goal

pub returns : goal.returns
returns c = as_number c.question-r.ensures c.number.ensures
