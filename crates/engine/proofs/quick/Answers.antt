-- `quick` meets its contract: without an answer it promises nothing; the lower part's reply to a check is the request's.
use mathlib.Core.Path.{sym, ap, ◌∙◌}
use borrow.Author.Tests.{eqb-true, not-false}
use Rattle.paper_lower.specs.Records.{Record as PaperRecord}
use Rattle.paper_lower.proofs.ListLaws.{or-none}
use Rattle.records.proofs.Checking.{check-length, check-fields}
use Rattle.engine.proofs.Ways.{fits}
use Rattle.engine.proofs.QuickLaws.{quick-any}
use Rattle.engine.proofs.quick.Goals as goal

pub decode-r-requires : goal.decode-r-requires
decode-r-requires c =
    let e = or-none _ _ c.if-orders-is_check.false in
    check-length c.args.bytes.now (sym c.is_check.ensures ∙ not-false _ e.1)

pub quick_reply-requires : goal.quick_reply-requires
quick_reply-requires c =
    let e = or-none _ _ c.if-orders-is_check.false in
    let f = check-fields c.args.bytes.now (sym c.is_check.ensures ∙ not-false _ e.1) in
    let d = c.decode-r.ensures in
    (rw (ap (λ (y : PaperRecord). y.a) d.reads) f.1.0, (d.small.b, d.small.c))

pub returns : goal.returns
returns c =
    let p = c.in_ok-p.ensures.cases in
    let s = c.in_ok-s.ensures.cases in
    let e = or-none _ _ c.if-orders-is_check.false in
    let o = eqb-true _ _ (not-false _ e.0) in
    let judged = rw (p.same, s.same) at c.quick_reply.ensures in
    quick-any c.args.bytes.now _ c.decode-r.result _ (fits _ _ _ p.long s.long o) (sym c.is_check.ensures ∙ not-false _ e.1)
    c.decode-r.ensures judged
