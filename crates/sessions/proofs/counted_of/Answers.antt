use mathlib.Core.Path.{◌≡◌, refl, sym, ap₂, ◌∙◌}
use native.Mathlib.Omega.{arith}
use Rattle.paper_lower.specs.Roles.{of_subjects, counted_of}
use Rattle.paper_lower.specs.Sets.{union, union_below}
use Rattle.replies.proofs.SearchLaws.{union_more}
use Rattle.sessions.proofs.counted_of.Goals as goal

pub loop-a-init : goal.loop-a-init
unfolding union_below
loop-a-init c = refl

pub loop-a-preserved : goal.loop-a-preserved
loop-a-preserved c =
    let loop = c.loop-a in
    c.union-all.ensures ∙ ap₂ union loop.invariant c.had_in.ensures ∙ sym (union_more _ _)

pub returns : goal.returns
unfolding counted_of of_subjects
returns c = let e : 128 ≡ c.loop-a.a = omega arith in rw e c.loop-a.invariant
