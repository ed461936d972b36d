-- `check_at` meets its contract: there is no further tag, the tag yields no record, its record is counted and kept, or its record cannot be made.
use mathlib.Core.Path.{refl, ap, ◌∙◌}
use Prim.Native.Nat.{ℕ}
use Rattle.std.specs.Prelude.{Some}
use Rattle.opl_said.specs.Said.{all_names}
use Rattle.opl_spaces.specs.Spaces.{list_of}
use Rattle.opl_turns.specs.Turning.{Turns}
use Rattle.opl_turns.specs.declared.Turned.TheVariants.{Says}
use Rattle.opl_passes.specs.Kept.{kept_with}
use Rattle.opl_passes.proofs.KeptLaws.{kept_on}
use Rattle.opl_passes.proofs.TagLaws.{told_none, counted}
use Rattle.opl_passes.proofs.check_at.Goals as goal

pub returns-in_default-said : goal.returns-in_default-said
returns-in_default-said c =
    let args = c.args in
    let x = c.in-Says in
    let b : Turns args.s.now (list_of args.w.now) args.c (Some (Says x.kind x.number x.end x.next)) = rw x.is at c.in-Some.ensures in
    told_none (all_names args.s.now args.t.now) args.s.now args.c x.kind x.number x.end x.next b.0 _ c.in_default-said.ensures refl

pub returns-in-Some-said : goal.returns-in-Some-said
returns-in-Some-said c =
    let args = c.args in
    let pre = c.requires in
    let x = c.in-Says in
    let says = c.in-Some-said.ensures in
    let f = c.in-Some-said.f in
    let b : Turns args.s.now (list_of args.w.now) args.c (Some (Says x.kind x.number x.end x.next)) = rw x.is at c.in-Some.ensures in (
      counted (all_names args.s.now args.t.now) args.s.now args.c x.kind x.number x.end x.next b.0 _ says f.n f.a f.b f.c f.m refl args.counts.now
          c.told-counts pre.1.1,
      kept_on (all_names args.s.now args.t.now) args.s.now args.t.now args.c args.j args.w.now pre.0 pre.1.0.1 x.kind x.number x.end x.next b.0 _ says
          f.n f.a f.b f.c f.m refl c.keep.new.w (c.keep.ensures ∙ ap (λ (y : ℕ). kept_with args.w.now args.j y f.m) c.low_word-low.ensures) b.1,
    )
