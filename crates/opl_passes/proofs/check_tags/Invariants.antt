-- `check_tags` meets its contract: the loop invariant is `CheckKept` (TagLaws.antt).
use lib.ListN.{length}
use Prim.Native.Nat.{◌-◌}
use Rattle.opl_said.specs.Said.{all_names}
use Rattle.opl_tags.specs.Tags.{walk_at}
use Rattle.opl_passes.proofs.TagLaws.{CheckKept}
use Rattle.opl_passes.proofs.check_tags.Given as goal

abbrev pub invariant-loop-c : goal.invariant-loop-c
invariant-loop-c l = CheckKept (all_names l.s l.t) l.s l.t (walk_at l.s l.from) l.initial.counts l.initial.w l.c l.j l.counts l.w

abbrev pub decreases-loop-c : goal.decreases-loop-c
decreases-loop-c l = length l.s - l.c.at
