-- `all_eight` meets its contract: eight tests, one after the other.
use Prim.Native.Nat.{◌+◌}
use Rattle.opl_text.proofs.Eights.{run-eight}
use Rattle.opl_text.proofs.all_eight.Goals as goal

pub returns : goal.returns
returns g c = λ p d e.
    let i = c.args.i in
    let fits = c.type_inv.s in
    run-eight p c.args.s.now i c.requires.inside _ _ _ _ _ _ _ _
    (d _ _ (fits i).fits c.passes.ensures) (d _ _ (fits (i + 1)).fits c.passes-2.ensures)
    (d _ _ (fits (i + 2)).fits c.passes-3.ensures) (d _ _ (fits (i + 3)).fits c.passes-4.ensures)
    (d _ _ (fits (i + 4)).fits c.passes-5.ensures) (d _ _ (fits (i + 5)).fits c.passes-6.ensures)
    (d _ _ (fits (i + 6)).fits c.passes-7.ensures) (d _ _ (fits (i + 7)).fits c.passes-8.ensures) e
