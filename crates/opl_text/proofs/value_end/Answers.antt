-- `value_end` meets its contract: the two tests of bytes are those of a value between these quotes.
use Rattle.paper_opl.specs.Reading.{in_value}
use Rattle.std.proofs.Common.{rules}
use Rattle.opl_text.proofs.value_end.Goals as goal

pub returns : goal.returns
returns c = c.first_not_by_eights.ensures (in_value c.args.q) (λ b r h e. search rules) (λ b r h e. search rules)
