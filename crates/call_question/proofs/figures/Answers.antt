-- `figures` meets its contract: all words are set to 0 and the two figures are written.
use Rattle.call_question.proofs.Words.{two-words}
use Rattle.call_question.proofs.Ways.{figured}
use Rattle.call_question.proofs.figures.Goals as goal

pub returns : goal.returns
returns c =
    let pre = c.requires in
    figured c.in_ok-figures_reply.ensures _ (rw (c.clear.ensures, c.figures_of-f.ensures pre.0.1) (two-words _ _))
