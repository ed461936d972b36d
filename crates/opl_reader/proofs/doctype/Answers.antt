-- `doctype` meets its contract: it is a sequence of readers (Prologue.antt).
use Rattle.std.proofs.Common.{sym, ◌∙◌, drop}
use Rattle.paper_opl.specs.Reading.{text}
use Rattle.opl_reader.proofs.Chain.{handed_on}
use Rattle.opl_reader.proofs.Prologue.{doctype_is}
use Rattle.opl_reader.proofs.doctype.Goals as goal

pub returns-in_err-root : goal.returns-in_err-root
unfolding text
returns-in_err-root c =
    let q = c.in_err-root.ensures in
    handed_on c.args.s.now _ _ _ c.from_residual.ensures.1 q.inside (doctype_is (drop c.args.at c.args.s.now) ∙ rw (sym q.read_is))

pub returns-in_err-system : goal.returns-in_err-system
unfolding text
returns-in_err-system c =
    let q = c.in_err-system.ensures in
    handed_on c.args.s.now _ _ _ c.from_residual-in_err-system.ensures.1 q.inside
    (doctype_is (drop c.args.at c.args.s.now) ∙ rw (sym c.in_ok-root.ensures.read_is, sym q.read_is))

pub returns-in_err-u : goal.returns-in_err-u
unfolding text
returns-in_err-u c =
    let q = c.in_err-u.ensures in
    handed_on c.args.s.now _ _ _ c.from_residual-in_err-u.ensures.1 q.inside
    (doctype_is (drop c.args.at c.args.s.now) ∙ rw (sym c.in_ok-root.ensures.read_is, sym c.in_ok-system.ensures.read_is, sym q.read_is))

pub returns-in_err-end : goal.returns-in_err-end
unfolding text
returns-in_err-end c =
    let q = c.in_err-end.ensures in
    handed_on c.args.s.now _ _ _ c.from_residual-in_err-end.ensures.1 q.inside
    (doctype_is (drop c.args.at c.args.s.now) ∙
    rw (sym c.in_ok-root.ensures.read_is, sym c.in_ok-system.ensures.read_is, sym c.in_ok-u.ensures.read_is, sym q.read_is))

pub returns : goal.returns
unfolding text
returns c =
    let q = c.expect.ensures in
    record {
      read_is =
          q.read_is ∙
          sym (doctype_is (drop c.args.at c.args.s.now) ∙
          rw (
            sym c.in_ok-root.ensures.read_is,
            sym c.in_ok-system.ensures.read_is,
            sym c.in_ok-u.ensures.read_is,
            sym c.in_ok-end.ensures.read_is,
            sym c.skip_space-k.ensures.rest,
          ));
      inside = q.inside;
    }
