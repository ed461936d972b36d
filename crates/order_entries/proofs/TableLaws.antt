-- Laws of the tables and of what is gathered, for crates above, which do not unfold the reading of the buffer.
use Prim.Native.Nat.{ℕ}
use mathlib.Core.Bool.{Bool, true, false, ◌&&◌}
use mathlib.Core.List.{List}
use mathlib.Core.Path.{◌≡◌, refl, ap, ◌∙◌}
use lib.Dec.{eqb}
use Rattle.paper_lower.specs.Lists.{Maybe, holds, there, some, many, keep}
use Rattle.paper_upper.specs.Orders.{Entry, is_held, of_task, tasks_by, tasks_done, tasks_others}
use Rattle.order_entries.specs.declared.Gathered.{Gathered}
use Rattle.std.specs.Prelude.{Option, None, Some, is_some}
use Rattle.order_entries.specs.Reading.{opened_of}
use Rattle.order_entries.specs.Gathering.{digit, gathered_of}

-- ---- Instances.
-- The answer about an instance says whether it is open.
pub open-there : (x : Option ℕ) {y : Maybe ℕ} → opened_of x ≡ y → there y ≡ is_some x
unfolding holds
open-there None e = rw (← e) refl
open-there (Some j) e = rw (← e) refl

-- ---- The parts of what `gather` collects.
module _ (i u t : ℕ) (es : List Entry) {g : Gathered} (h : g ≡ gathered_of i u t es) where
  pub gathered-mine : g.mine.bits ≡ tasks_by i u es
  unfolding gathered_of
  gathered-mine = ap (λ (x : Gathered). x.mine.bits) h

  pub gathered-done : g.done.bits ≡ tasks_done i es
  unfolding gathered_of
  gathered-done = ap (λ (x : Gathered). x.done.bits) h

  pub gathered-others : g.others.bits ≡ tasks_others i u es
  unfolding gathered_of
  gathered-others = ap (λ (x : Gathered). x.others.bits) h

  pub gathered-times : g.times ≡ many (keep (of_task i t) es)
  unfolding gathered_of
  gathered-times = ap (λ (x : Gathered). x.times) h

  pub gathered-held : eqb g.held 1 ≡ some (λ e. of_task i t e && is_held e.standing) es
  unfolding gathered_of
  gathered-held = ap (λ (x : Gathered). eqb x.held 1) h ∙ digit-is (some (λ e. of_task i t e && is_held e.standing) es)
    where
      digit-is : (b : Bool) → eqb (digit b) 1 ≡ b
      digit-is true = refl
      digit-is false = refl
