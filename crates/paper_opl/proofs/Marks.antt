-- A byte order mark at the front of a text, as it is written and as it is read.
use mathlib.Core.Path.{◌≡◌, refl}
use mathlib.Core.Bool.{Bool, true, false, not, ◌&&◌}
use Rattle.paper_opl.specs.Reading.{Text, starts}
use Rattle.paper_opl.specs.Tree.{byte_order_mark, behind_mark}
use Rattle.paper_opl.specs.Layout.{mark_text}
use Rattle.paper_opl.proofs.Inversion.{on_test}
use Rattle.paper_opl.proofs.BytesLaid.{starts-laid}

-- Reading skips a mark that was written, and nothing else.
pub mark-back : (m : Bool) (s : Text) → not m && starts byte_order_mark s ≡ false → behind_mark (mark_text m s) ≡ s
unfolding behind_mark mark_text starts
mark-back true s n = refl
mark-back false s n = rw n

pub mark-laid : (s : Text) → (m : Bool) × (s ≡ mark_text m (behind_mark s)) × (not m && starts byte_order_mark (behind_mark s) ≡ false)
unfolding behind_mark mark_text
mark-laid s = on_test (starts byte_order_mark s) (λ c. (true, rw c (starts-laid byte_order_mark s c), refl)) (λ c. (false, rw c, rw (c, c)))
