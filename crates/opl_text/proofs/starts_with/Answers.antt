-- `starts_with` meets its contract: the text begins with the literal if and only if `expect` reads it.
use mathlib.Core.Path.{◌∙◌}
use Rattle.opl_text.proofs.Literals.{starts-ok}
use Rattle.opl_text.proofs.starts_with.Goals as goal

pub returns : goal.returns
returns c = c.is_ok.ensures.value ∙ starts-ok c.args.s.now c.args.w.now c.args.at c.expect.result c.expect.ensures.read_is
