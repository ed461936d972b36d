-- `members` meets its contract: the set of the numbers so far, together with those of the elements that are left, is the set of all.
use Prim.Native.Nat.{◌-◌, ◌≤◌}
use mathlib.Core.Path.{◌≡◌}
use lib.ListN.{length}
use Rattle.opl_said.specs.Said.{all_names}
use Rattle.opl_said.specs.Forms.{inside_at, number_by, set_by}
use Rattle.paper_lower.specs.Lists.{each}
use Rattle.paper_opl.specs.Filling.{set_from}
use Rattle.opl_spaces.specs.Spaces.{list_of}
use Rattle.opl_turns.specs.Listing.{Leads}
use Rattle.opl_said.proofs.members.Given as goal

abbrev pub invariant-loop-next : goal.invariant-loop-next
invariant-loop-next l = record {
  inside : l.last.end ≤ length l.texts.policy.now;
  leads : Leads l.texts.policy.now (list_of l.texts.scratch.now) l.last.entry l.last.end;
  members : set_from l.m (each (number_by (all_names l.texts.policy.now l.texts.lines.now) l.id l.i) (inside_at l.texts.policy.now l.e l.last.end))
      ≡ set_by (all_names l.texts.policy.now l.texts.lines.now) l.id l.i (inside_at l.texts.policy.now l.e l.fn.tag.end);
}

abbrev pub decreases-loop-next : goal.decreases-loop-next
decreases-loop-next l = length l.texts.policy.now - l.last.end
