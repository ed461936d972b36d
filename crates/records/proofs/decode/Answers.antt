-- `decode` meets its contract: the fields are parts of the first word.
use native.Mathlib.Omega.{arith}
use Rattle.records.proofs.Words.{fields}
use Rattle.records.proofs.decode.Goals as goal

pub returns : goal.returns
returns c =
    let args = c.args in
    fields args.s.now (λ i. omega (arith, c.shared_slice_known-1.given i)) c.word-first.ensures c.word-m.ensures
