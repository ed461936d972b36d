-- `name_end` meets its contract: the test is that of a name's bytes.
use Rattle.std.proofs.Common.{rules}
use Rattle.paper_opl.specs.Naming.{in_line}
use Rattle.opl_lines.proofs.name_end.Goals as goal

pub returns : goal.returns
returns c = c.first_not.ensures in_line (λ b r h e. search rules)
