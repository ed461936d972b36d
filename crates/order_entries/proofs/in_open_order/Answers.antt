-- `in_open_order` meets its contract: a search through all words up to the mark. An instance that has entries is open.
use mathlib.Core.Path.{◌∙◌}
use Rattle.order_links.proofs.SoundLaws.{sound}
use Rattle.order_entries.proofs.SearchLaws.{any_open}
use Rattle.order_entries.proofs.in_open_order.Goals as goal

pub returns : goal.returns
returns c =
    let args = c.args in
    λ s. c.any.ensures s ∙ any_open args.o.now (sound args.o.now s) args.u c.requires
