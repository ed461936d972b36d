-- `kind_by` meets its contract, by cases: a set of roles, or the number in the table.
use Rattle.opl_turns.proofs.MeaningLaws.{kinds-held}
use Rattle.opl_turns.specs.Meaning.{kind_by}
use borrow.Author.Tests.{eq-eqb, ne_eqb}
use Rattle.opl_turns.proofs.kind_by.Goals as goal

pub returns-then-id-eq-CRITICAL_ROLE_SET : goal.returns-then-id-eq-CRITICAL_ROLE_SET
unfolding kind_by
returns-then-id-eq-CRITICAL_ROLE_SET c = simp (eq-eqb _ _ c.if-id-eq-CRITICAL_ROLE_SET.true)

pub returns : goal.returns
unfolding kind_by
returns c = rw (ne_eqb _ 23 c.if-id-eq-CRITICAL_ROLE_SET.false, c.number_at.ensures, ← kinds-held)
