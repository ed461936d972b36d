-- `finish` meets its contract: only entries of the instance are marked as done.
use mathlib.Core.Bool.{true}
use mathlib.Core.Path.{◌∙◌}
use Rattle.order_links.proofs.ActLaws.{whole}
use Rattle.order_entries.proofs.SearchLaws.{held-own}
use Rattle.order_entries.proofs.ActLaws.{opened-there, finishes}
use Rattle.order_entries.proofs.finish.Goals as goal

pub returns : goal.returns
returns c =
    let pre = c.requires in
    let z = c.args in
    let l = z.o.now in
    let e = c.finish.ensures in
    record {
      room = e.room;
      kept = e.kept;
      sound = λ s live.
          let w = (whole l s).woven in
          let did = e.sound s (opened-there l z.i true pre.0 live) in
          (did.0 ∙ held-own l w z.i z.t z.a pre.0, finishes z.i pre.0 l _ w z.t z.a did.1);
    }
