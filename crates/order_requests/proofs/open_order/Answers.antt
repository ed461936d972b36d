-- `open_order` meets its contract: if `open_reply` refuses, nothing is stored, and otherwise the instance is opened.
use mathlib.Core.Path.{refl}
use Rattle.paper_upper.specs.Requests.{open_next}
use Rattle.replies.proofs.DoneLaws.{done}
use Rattle.order_requests.proofs.Layers.{closed-before}
use Rattle.order_requests.proofs.open_order.Goals as goal

pub returns : goal.returns
unfolding open_next
returns c =
    let z = c.args in
    record {
      kept = λ n. absurd (n refl);
      sound = λ w.
          let e = c.set_opened.ensures.1 w (closed-before z.p.now z.o.now z.a z.b c.in_ok-open_reply.ensures) in
          (λ s. done (c.in_ok-open_reply.ensures s) (rw e.tables), e.sound);
    }
