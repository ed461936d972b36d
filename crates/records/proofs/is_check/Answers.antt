-- `is_check` meets its contract: bytes of another length are no check, and sixteen bytes are one by their decoded fields.
use mathlib.Core.Path.{ap}
use borrow.Author.Tests.{ne_eqb}
use Rattle.records.specs.Check.{checks, is_check}
use Rattle.records.proofs.is_check.Goals as goal

pub returns-then-s-ne16 : goal.returns-then-s-ne16
unfolding is_check
returns-then-s-ne16 c = rw (ne_eqb _ _ c.if-s-ne16.true)

pub returns : goal.returns
unfolding is_check
returns c =
    let if1 = c.if-s-ne16 in
    let decode = c.decode-r in
    rw if1.false (ap checks decode.ensures.reads)
