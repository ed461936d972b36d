-- `write_at` meets its contract: the record goes to the next place of its kind.
use native.Mathlib.Omega.{arith}
use mathlib.Core.Path.{refl}
use Rattle.std.specs.Prelude.{Some}
use Rattle.opl_said.specs.Said.{all_names}
use Rattle.opl_spaces.specs.Spaces.{list_of}
use Rattle.opl_turns.specs.Turning.{Turns}
use Rattle.opl_turns.specs.declared.Turned.TheVariants.{Says}
use Rattle.opl_passes.proofs.TagLaws.{all_said, tag_fits, tag-more, tag-written}
use Rattle.opl_passes.proofs.write_at.Goals as goal

pub returns-in_err-f-in-Says : goal.returns-in_err-f-in-Says
returns-in_err-f-in-Says c =
    let args = c.args in
    let s = args.texts in
    let x = c.in-Says in
    let b : Turns s.policy.now (list_of s.scratch.now) args.c (Some (Says x.kind x.number x.end x.behind)) = rw x.is at c.in_ok-x.ensures in
    all_said (all_names s.policy.now s.lines.now) s.policy.now args.c x.kind x.number x.end x.behind b.0 _ c.in_err-f-in-Says.ensures refl c.requires.1.0

pub put-requires : goal.put-requires
put-requires c =
    let args = c.args in
    let s = args.texts in
    let pre = c.requires in
    let x = c.in-Says in
    let said = c.in_ok-f-in-Says in
    let f = said.f in
    let b : Turns s.policy.now (list_of s.scratch.now) args.c (Some (Says x.kind x.number x.end x.behind)) = rw x.is at c.in_ok-x.ensures in
    tag_fits (all_names s.policy.now s.lines.now) s.policy.now args.c x.kind x.number x.end x.behind b.0 _ said.ensures f.n f.a f.b f.c f.m refl
    args.next.now c.told-next args.out.now pre.1.1

pub overflow_add-next : goal.overflow_add-next
overflow_add-next c =
    let args = c.args in
    let s = args.texts in
    let x = c.in-Says in
    let said = c.in_ok-f-in-Says in
    let f = said.f in
    let b : Turns s.policy.now (list_of s.scratch.now) args.c (Some (Says x.kind x.number x.end x.behind)) = rw x.is at c.in_ok-x.ensures in
    let more =
    tag-more (all_names s.policy.now s.lines.now) s.policy.now args.c x.kind x.number x.end x.behind b.0 _ said.ensures f.n f.a f.b f.c f.m refl
    args.next.now c.told-next args.out.now c.requires.1.1 in
    record { fits = omega (arith, more, c.well_formed.1.1.0.0) }

pub returns-in_ok-f-in-Says : goal.returns-in_ok-f-in-Says
returns-in_ok-f-in-Says c =
    let args = c.args in
    let s = args.texts in
    let pre = c.requires in
    let x = c.in-Says in
    let said = c.in_ok-f-in-Says in
    let f = said.f in
    let b : Turns s.policy.now (list_of s.scratch.now) args.c (Some (Says x.kind x.number x.end x.behind)) = rw x.is at c.in_ok-x.ensures in (
      tag-written (all_names s.policy.now s.lines.now) s.policy.now args.c x.kind x.number x.end x.behind b.0 _ said.ensures f.n f.a f.b f.c f.m refl
          args.next.now c.told-next args.out.now pre.1.1 c.put.new.out pre.1.0 c.put.ensures c.put.auto.out,
      b.1,
    )
