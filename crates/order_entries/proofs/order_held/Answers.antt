-- `order_held` meets its contract: a search along the chain of the instance.
use mathlib.Core.Path.{◌∙◌}
use Rattle.order_links.proofs.ActLaws.{whole}
use Rattle.order_entries.proofs.SearchLaws.{one-held}
use Rattle.order_entries.proofs.order_held.Goals as goal

pub returns : goal.returns
returns c =
    let args = c.args in
    λ s. c.any_in.ensures s ∙ one-held args.o.now (whole args.o.now s).woven args.i c.requires
