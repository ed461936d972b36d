-- `holds_task` meets its contract: a search along the chain of the instance.
use mathlib.Core.Path.{ap, ◌∙◌}
use Rattle.order_links.proofs.ActLaws.{whole}
use Rattle.order_entries.specs.Reading.{any_in}
use Rattle.order_entries.proofs.SearchLaws.{task-held}
use Rattle.order_entries.proofs.holds_task.Goals as goal

pub returns : goal.returns
returns c =
    let args = c.args in
    let pre = c.requires in
    λ s.
    let z = args in
    let l = z.o.now in
    c.any_in.ensures s ∙ ap (any_in l z.i 1048575) c.key_of-key.ensures ∙
    task-held l (whole l s).woven z.i z.t z.a pre.0 pre.1.0
