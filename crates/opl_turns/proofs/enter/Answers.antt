-- `enter` meets its contract, by cases: the list is full, the text is too long, or two words are stored.
use borrow.Author.Tests.{le-leb, lt-leb}
use Rattle.opl_turns.specs.Listing.{entered}
use Rattle.opl_turns.proofs.enter.Goals as goal

pub returns-then-n-ge-LISTED : goal.returns-then-n-ge-LISTED
unfolding entered
returns-then-n-ge-LISTED c = rw (le-leb _ _ c.if-n-ge-LISTED.true)

pub returns-then-s-ge-LONGEST : goal.returns-then-s-ge-LONGEST
unfolding entered
returns-then-s-ge-LONGEST c = rw (lt-leb _ _ c.if-n-ge-LISTED.false, le-leb _ _ c.if-s-ge-LONGEST.true)

pub returns : goal.returns
unfolding entered
returns c = rw (lt-leb _ _ c.if-n-ge-LISTED.false, lt-leb _ _ c.if-s-ge-LONGEST.false)
