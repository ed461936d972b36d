-- `holds_any` meets its contract: a search through all words up to the mark.
use mathlib.Core.Path.{◌∙◌}
use Rattle.order_links.proofs.SoundLaws.{sound}
use Rattle.order_entries.proofs.SearchLaws.{any_held}
use Rattle.order_entries.proofs.holds_any.Goals as goal

pub returns : goal.returns
returns c =
    let args = c.args in
    λ s. c.any.ensures s ∙ any_held args.o.now (sound args.o.now s) args.a c.requires
