-- `keep` meets its contract: it stores two words if there is room.
use borrow.Author.Tests.{le-leb, lt-leb}
use Rattle.opl_passes.specs.Kept.{kept_with}
use Rattle.opl_passes.proofs.keep.Goals as goal

pub returns-then-j-ge-KEPT : goal.returns-then-j-ge-KEPT
unfolding kept_with
returns-then-j-ge-KEPT c = rw (le-leb 131072 c.args.j c.if-j-ge-KEPT.true)

pub returns : goal.returns
unfolding kept_with
returns c = rw (lt-leb 131072 c.args.j c.if-j-ge-KEPT.false)
