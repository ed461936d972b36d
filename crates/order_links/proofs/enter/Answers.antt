-- `enter` meets its contract: it takes a free entry and puts it on the chain of the instance.
use mathlib.Core.Path.{◌∙◌}
use Rattle.order_links.proofs.ReadLaws.{read_same, read-open}
use Rattle.order_links.proofs.ActLaws.{whole, entered}
use Rattle.order_links.proofs.enter.Goals as goal

pub returns : goal.returns
returns c =
    let pre = c.requires in
    let take-free = c.take_free-k in
    let push = c.push in
    let z = c.args in
    let l = z.o.now in (
      push.ensures.0.room ∙ take-free.ensures.0.room,
      λ s opens fits.
          let w = whole l s in
          let taken = take-free.ensures.1 w.woven fits in
          entered l _ _ take-free.result z.i z.u z.t z.a c.told-o w pre.0 pre.1.0 pre.1.1.0 pre.1.1.1 taken
          (push.ensures.1 taken.loose (read_same l _ z.i taken.beside.opens ∙ read-open l z.i opens)),
    )
