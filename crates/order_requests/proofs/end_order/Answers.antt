-- `end_order` meets its contract: if `end_reply` refuses, nothing is stored, and otherwise the instance and its entries are removed.
use mathlib.Core.Path.{refl}
use Rattle.paper_upper.specs.Requests.{end_next}
use Rattle.replies.proofs.DoneLaws.{done}
use Rattle.order_requests.proofs.end_order.Goals as goal

pub returns : goal.returns
unfolding end_next
returns c =
    record {
      kept = λ n. absurd (n refl);
      sound = λ w.
          let e = c.end_order.ensures.1 w in
          (λ p s. done (c.in_ok-end_reply.ensures w p s) (rw e.tables), e.sound);
    }
