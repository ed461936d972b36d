-- `lowest` meets its contract: the number of trailing zeros of the word of a set that is not empty is its lowest member.
use mathlib.Core.Path.{sym, ◌∙◌}
use native.Mathlib.Omega.{arith}
use borrow.Author.Tests.{eqb-true, eqb-false}
use Rattle.order_stuck.proofs.LowestLaws.{no-member, first-member}
use Rattle.order_stuck.proofs.lowest.Goals as goal

pub returns-then-is_empty : goal.returns-then-is_empty
returns-then-is_empty c = no-member _ (eqb-true _ _ (sym c.is_empty.ensures ∙ c.if-is_empty.true))

pub returns : goal.returns
returns c = rw c.from.ensures (first-member _ (omega arith) (eqb-false _ _ (sym c.is_empty.ensures ∙ c.if-is_empty.false)))
