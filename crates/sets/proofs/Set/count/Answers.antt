-- `count` meets its contract: the number of ones in the word is the size of the set. At most 64 ones fit a word.
use mathlib.Core.Path.{sym}
use native.Mathlib.Omega.{arith}
use lib.Count.{ones-le}
use Rattle.sets.proofs.SetLaws.{size-ones}
use borrow.Author.Rules.{rules}
use Rattle.sets.proofs.Set.count.Goals as goal

pub overflow_cast-result : goal.overflow_cast-result
overflow_cast-result c = omega (arith, ones-le 64 c.args.self.bits (search rules))

pub returns : goal.returns
returns c = sym (size-ones c.args.self.bits)
