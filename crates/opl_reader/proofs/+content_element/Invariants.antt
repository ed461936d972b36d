-- The measure of the recursion is the depth that is still allowed plus the length of the text that is left: an element calls the reader of its content with
-- less text, and that calls the reader of an element with less of both. The measure of the loop over the content is the text alone.
use mathlib.Core.Path.{◌≡◌}
use Prim.Native.Nat.{◌+◌, ◌-◌, ◌≤◌}
use lib.ListN.{length, drop}
use Rattle.opl_reader.specs.Grammar.{content_read}
use Rattle.opl_reader.proofs.+content_element.Given as goal

abbrev pub decreases-content : goal.decreases-content
decreases-content l = l.d + (length l.s.now - l.at)

abbrev pub decreases-element : goal.decreases-element
decreases-element l = l.d + (length l.s.now - l.at)

abbrev pub invariant-content-loop-i : goal.invariant-content-loop-i
invariant-content-loop-i l =
    (l.at ≤ l.i) × (l.i ≤ length l.s) × (content_read l.d l.id l.left (drop l.at l.s) ≡ content_read l.d l.id l.l (drop l.i l.s))

abbrev pub decreases-content-loop-i : goal.decreases-content-loop-i
decreases-content-loop-i l = length l.s - l.i
