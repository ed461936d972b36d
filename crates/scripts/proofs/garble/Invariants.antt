use Rattle.std.proofs.Common.{ℕ, ◌+◌, ◌<◌, ◌≡◌, get_or}
use Rattle.scripts.specs.Lines.{drawn, garbled}
use Rattle.scripts.proofs.garble.Given as goal

-- after some turns as many words are those drawn from the seed
abbrev pub invariant-loop-word : goal.invariant-loop-word
invariant-loop-word l = record {
  last : l.x ≡ drawn l.seed l.word-index;
  filled : (k : ℕ) → k < l.word-index → get_or l.words k 0 ≡ garbled (drawn l.seed (k + 1));
}
