-- `is_name` meets its contract: the table in the code has the names of the definition.
use Rattle.paper_lower.specs.Lists.{each}
use Rattle.paper_opl.specs.Elements.{elements}
use Rattle.paper_opl.specs.Reading.{text}
use Rattle.opl_table.specs.Numbers.{names, name_of}
use Rattle.opl_table.proofs.is_name.Goals as goal

pub returns : goal.returns
unfolding name_of names each elements text
returns c = c.is_entry.ensures
