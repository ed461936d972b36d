-- `cardinality` meets its contract: it reads the value of the attribute as a number.
use Rattle.paper_lower.specs.Lists.{each}
use Rattle.opl_table.specs.Numbers.{names, name_of}
use Rattle.paper_opl.specs.Elements.{elements}
use Rattle.opl_said.proofs.cardinality.Goals as goal

pub decimal-requires : goal.decimal-requires
unfolding name_of names elements each
decimal-requires c = rw c.value_of.ensures c.requires.1

pub returns : goal.returns
unfolding name_of names elements each
returns c = rw c.value_of.ensures at c.decimal.ensures
