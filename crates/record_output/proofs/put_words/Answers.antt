-- `put_words` meets its contract, by that of `write_word` for each of the two words.
use mathlib.Core.Path.{ap, ◌∙◌}
use Prim.Native.Nat.{◌+◌, ◌*◌}
use Rattle.paper_lower.specs.Records.{Bytes}
use Rattle.record_output.specs.Output.{laid}
use Rattle.record_output.proofs.Words.{two-laid}
use Rattle.record_output.proofs.put_words.Goals as goal

pub returns : goal.returns
returns c =
    let args = c.args in
    let pre = c.requires in
    let write_word = c.write_word in
    c.write_word-2.ensures ∙ ap (λ (s : Bytes). laid s (16 * args.place + 8) 8 args.high) write_word.ensures ∙
    two-laid args.out.now args.place args.low args.high pre
