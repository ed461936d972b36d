-- `drop_one` meets its contract: it takes the newest entry of the instance and puts it on the free chain.
use mathlib.Core.Path.{ap, ◌∙◌}
use Rattle.order_links.specs.Stacks.{payload_of}
use Rattle.order_links.proofs.TotalLaws.{any-dropped}
use Rattle.order_links.proofs.drop_one.Goals as goal

pub returns : goal.returns
returns c =
    let args = c.args in
    let pre = c.requires in
    let pop = c.pop-k in
    let payload = c.payload-p in
    any-dropped args.o.now _ _ args.i pop.result payload.result pre pop.ensures (payload.ensures.0 ∙ ap payload_of c.word.ensures) c.push.ensures
