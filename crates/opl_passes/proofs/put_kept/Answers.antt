-- `put_kept` meets its contract: it writes the record's two words and adds 1 to the next place of its kind.
use native.Mathlib.Omega.{arith}
use Rattle.opl_passes.proofs.TagLaws.{puts-kept}
use Rattle.opl_passes.proofs.put_kept.Goals as goal

pub returns : goal.returns
returns c =
    let args = c.args in
    puts-kept args.w.now args.j args.next.now args.out.now c.put_words.new.out (omega (arith, c.requires.1.1.0, c.told-next)) c.put_words.ensures
    c.put_words.auto.out
