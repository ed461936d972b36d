-- `release` meets its contract: the entries that fit are made free. They are held, so that the kept set of done tasks stays right.
use mathlib.Core.Path.{◌∙◌}
use Rattle.order_links.proofs.ActLaws.{whole, released}
use Rattle.order_links.proofs.TurnLaws.{held_fits}
use Rattle.order_links.proofs.release.Goals as goal

pub returns : goal.returns
returns c =
    let z = c.args in
    let l = z.o.now in
    let hi = c.requires.0 in
    let ht = c.requires.1.0 in
    let ha = c.requires.1.1 in
    let e = c.sift.ensures in
    record {
      room = e.room;
      kept = e.kept;
      sound = λ s opens.
          let w = whole l s in
          let out = e.sound w.woven in (
            out.1 ∙ held_fits l w.woven z.i z.t z.a hi ht ha,
            released l _ z.i z.t z.a c.told-o w hi ht ha opens out.0,
          );
    }
