-- `mishantral_write` meets its contract: it is `write`, with the reply and the number of records in one number.
use Prim.Native.Nat.{◌+◌, ◌*◌}
use mathlib.Core.Path.{ap, ◌∙◌}
use Rattle.policy_writing.specs.Answers.{Answer}
use Rattle.call_write.proofs.mishantral_write.Goals as goal

pub packed-requires : goal.packed-requires
packed-requires c = c.write.ensures.few

pub returns : goal.returns
returns c =
    let e = c.write.ensures.answers in
    record { answers = c.packed.ensures ∙ ap (λ (x : Answer). x.reply + 256 * x.records) e; bytes = ap (λ (x : Answer). x.output) e }
