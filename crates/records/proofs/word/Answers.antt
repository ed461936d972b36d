-- `word` meets its contract: std's number of eight bytes is that of the definition.
use mathlib.Core.Path.{sym, ◌∙◌}
use Rattle.records.proofs.Words.{eight}
use Rattle.records.proofs.word.Goals as goal

pub returns : goal.returns
returns c = c.from_le_bytes.ensures ∙ sym (eight c.args.s.now c.args.at)
