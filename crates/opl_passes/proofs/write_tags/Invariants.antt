-- `write_tags` meets its contract: the loop invariant is `WriteLeft` (TagLaws.antt).
use Rattle.opl_passes.proofs.TagLaws.{WriteLeft}
use Rattle.opl_tags.specs.Tags.{walk_at}
use Rattle.opl_said.specs.Said.{all_names}
use Rattle.opl_spaces.specs.Spaces.{list_of}
use Prim.Native.Nat.{◌-◌}
use lib.ListN.{length}
use Rattle.opl_passes.proofs.write_tags.Given as goal

abbrev pub invariant-loop-n : goal.invariant-loop-n
invariant-loop-n l = WriteLeft (all_names l.texts.policy.now l.texts.lines.now) l.texts.policy.now (list_of l.texts.scratch.now) (walk_at l.texts.policy.now l.fn.from) l.initial.next l.initial.out l.c l.next l.out

abbrev pub decreases-loop-n : goal.decreases-loop-n
decreases-loop-n l = length l.texts.policy.now - l.c.at
