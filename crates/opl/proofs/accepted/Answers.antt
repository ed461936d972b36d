-- `accepted` meets its contract, by cases: the scratch buffer has a wrong length, a name is too long, or the records are written.
use Rattle.std.specs.Prelude.{Err}
use Rattle.opl.specs.declared.Refused.TheVariants.{Names}
use Rattle.opl.proofs.CallLaws.{no-scratch, never-begun, begins-inside, begins-there, with-scratch, too_long, ready}
use lib.ListN.{length}
use Rattle.std.proofs.lemmas.Result.{err_from_is_err_and}
use Rattle.opl.proofs.accepted.Goals as goal

pub returns-then-w-ne-WORDS : goal.returns-then-w-ne-WORDS
returns-then-w-ne-WORDS c =
    let args = c.args in
    no-scratch args.s.now args.t.now (length args.w.now) args.out.now c.if-w-ne-WORDS.true

pub returns-in_default : goal.returns-in_default
returns-in_default c = never-begun c.args.s.now c.args.t.now c.requires c.in_default.field-0 c.in_default.ensures

pub name_all-requires : goal.name_all-requires
name_all-requires c =
    let args = c.args in
    let pre = c.requires in
    let p = c.in-Ok in (
      c.if-w-ne-WORDS.false,
      (
        begins-inside args.s.now args.t.now pre p.from p.ensures,
        (begins-there args.s.now args.t.now pre p.from p.ensures, pre.task-lines),
      ),
    )

pub returns-in_err-name_all : goal.returns-in_err-name_all
returns-in_err-name_all c =
    let args = c.args in
    let p = err_from_is_err_and c.from_residual.result c.from_residual.ensures.1 in
    rw (p.1, p.2)
    (with-scratch args.s.now args.t.now (length args.w.now) args.out.now args.out.now (Err Names) c.if-w-ne-WORDS.false
    (too_long args.s.now args.t.now args.out.now c.requires c.in_err-name_all.ensures))

pub records-requires : goal.records-requires
records-requires c =
    let args = c.args in
    ready args.s.now args.t.now c.requires c.in-Ok.from c.in-Ok.ensures c.name_all.new.w c.in_ok-name_all.ensures

pub returns : goal.returns
returns c =
    let args = c.args in
    with-scratch args.s.now args.t.now (length args.w.now) args.out.now c.records.new.out c.records.result c.if-w-ne-WORDS.false c.records.ensures
