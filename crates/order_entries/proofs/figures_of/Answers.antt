-- `figures_of` meets its contract: the kept figures are those computed from all entries.
use mathlib.Core.Path.{ap, ◌∙◌}
use Rattle.order_links.specs.Chains.{count_of}
use Rattle.order_links.proofs.ActLaws.{whole}
use Rattle.order_entries.specs.Gathering.{set_of}
use Rattle.order_entries.proofs.FigureLaws.{kept-figures}
use Rattle.order_entries.proofs.figures_of.Goals as goal

pub returns : goal.returns
returns c =
    let args = c.args in
    λ s.
    (λ y. record { entries = (c.count-entries.ensures ∙ ap count_of c.chain.ensures) y; done = set_of (c.done-done.ensures y) })
    ∙ kept-figures args.o.now (whole args.o.now s) args.i c.requires
