-- `next_member` meets its contract: skipping tags of other elements does not change which elements e are left.
use Prim.Native.Nat.{◌-◌, ◌≤◌}
use mathlib.Core.Path.{◌≡◌}
use lib.ListN.{length}
use Rattle.opl_spaces.specs.Spaces.{list_of}
use Rattle.opl_turns.specs.Listing.{Leads}
use Rattle.opl_said.specs.Forms.{inside_at}
use Rattle.opl_said.proofs.next_member.Given as goal

abbrev pub invariant-loop-found : goal.invariant-loop-found
invariant-loop-found l = record {
  inside : l.at ≤ length l.texts.policy.now;
  order : l.fn.tag.end ≤ l.at;
  rest : inside_at l.texts.policy.now l.e l.fn.tag.end ≡ inside_at l.texts.policy.now l.e l.at;
  leads : Leads l.texts.policy.now (list_of l.texts.scratch.now) l.k l.at;
}

abbrev pub decreases-loop-found : goal.decreases-loop-found
decreases-loop-found l = length l.texts.policy.now - l.at
