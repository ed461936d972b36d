-- `element` meets its contract: one guess and one comparison.
use Rattle.opl_turns.specs.Meaning.{element_of}
use Rattle.opl_turns.proofs.element.Goals as goal

pub returns-then-is_name : goal.returns-then-is_name
unfolding element_of
returns-then-is_name c = rw (← c.guess-g.ensures, ← c.is_name.ensures, c.if-is_name.true)

pub returns : goal.returns
unfolding element_of
returns c = rw (← c.guess-g.ensures, ← c.is_name.ensures, c.if-is_name.false)
