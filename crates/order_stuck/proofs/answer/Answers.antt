-- `answer` meets its contract: `list` writes the free tasks and their number, and the stuck tasks are the others.
use Rattle.order_stuck.proofs.Words.{written, of-template}
use Rattle.order_stuck.proofs.answer.Goals as goal

pub returns : goal.returns
returns c = of-template _ _ _ c.tasks_of-m.ensures (written _ _ _ _ _ _ c.requires.1 c.list-had.ensures c.others.ensures)
