use Prim.Native.Nat.{ℕ, ◌+◌, ◌≤◌}
use mathlib.Core.Bool.{Bool, true, false, ◌||◌}
use mathlib.Core.Path.{◌≡◌, refl, sym, ap, ap₂, ◌∙◌}
use native.Mathlib.Numerals.{add-one}
use native.Mathlib.Omega.{arith}
use borrow.Author.Tests.{lt-ltb}
use lib.Dec.{ltb}
use mir.Val.{bool_byte}
use Rattle.paper_lower.specs.Lists.{some_number_below}
use Rattle.paper_lower.specs.Roles.{subject_of}
use Rattle.sessions.specs.Reading.{sessions_of}
use Rattle.sessions.proofs.has_among.Goals as goal

below_up : (f : ℕ → Bool) (k : ℕ) → some_number_below (k + 1) f ≡ f k || some_number_below k f
unfolding some_number_below
below_up f k = rw add-one

more-some : (hit : Bool) (n : ℕ) → ltb 0 (n + bool_byte hit) ≡ hit || ltb 0 n
more-some true n = lt-ltb 0 (n + 1) (omega arith)
more-some false n = let e : n + 0 ≡ n = omega arith in ap (ltb 0) e

more-le : (hit : Bool) (n k : ℕ) → n ≤ k → n + bool_byte hit ≤ k + 1
more-le true n k h = omega arith
more-le false n k h = omega arith

pub loop-a-init : goal.loop-a-init
unfolding some_number_below
loop-a-init c = (omega arith, refl)

pub loop-a-preserved : goal.loop-a-preserved
loop-a-preserved c =
    let args = c.args in
    let loop = c.loop-a in
    let f = λ (k : ℕ). subject_of (sessions_of args.s.now) args.u (args.from + k) in (
      rw c.from-hits.ensures (more-le c.quarter_of.result loop.hits loop.a loop.invariant.0),
      rw c.from-hits.ensures
          (more-some c.quarter_of.result loop.hits ∙ ap₂ ◌||◌ c.quarter_of.ensures loop.invariant.1 ∙ sym (below_up f loop.a)),
    )

pub returns : goal.returns
returns c = let e : 64 ≡ c.loop-a.a = omega arith in rw e c.loop-a.invariant.1
