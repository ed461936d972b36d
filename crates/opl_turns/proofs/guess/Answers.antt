-- `guess` meets its contract: it takes the number at the index that is computed from the length, the last byte and the first byte.
use Rattle.opl_turns.proofs.MeaningLaws.{guesses-held, no_name}
use Rattle.opl_turns.specs.Meaning.{guess_of}
use Rattle.opl_turns.proofs.guess.Goals as goal

pub returns-then-n-eq0 : goal.returns-then-n-eq0
returns-then-n-eq0 c = no_name c.args.v.now c.if-n-eq0.true

pub returns : goal.returns
unfolding guess_of
returns c = rw (c.number_at.ensures, ← guesses-held, c.from-2.ensures, c.from.ensures)
