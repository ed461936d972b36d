-- `put` meets its contract: the two words have the bytes of the record.
use mathlib.Core.Path.{ap, ◌∙◌}
use Prim.Native.Nat.{ℕ}
use Rattle.record_output.specs.Output.{two_words}
use Rattle.record_output.proofs.Words.{put_is}
use Rattle.record_output.proofs.put.Goals as goal

pub low_word-low-requires : goal.low_word-low-requires
low_word-low-requires c = (c.requires.kind_fits, (c.requires.n-fits, (c.requires.a-fits, (c.requires.b-fits, c.requires.c-fits))))

pub put_words-requires : goal.put_words-requires
put_words-requires c = c.requires.room

pub returns : goal.returns
returns c =
    let args = c.args in
    let pre = c.requires in
    let low_word = c.low_word-low in
    c.put_words.ensures ∙ ap (λ (x : ℕ). two_words args.out.now args.place x args.m) low_word.ensures ∙
    put_is args.out.now args.place args.kind args.n args.a args.b args.c args.m pre
