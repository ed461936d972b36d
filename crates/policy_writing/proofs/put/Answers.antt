-- `put` meets its contract at its three returns: the record is absent, the output has no room for it, or it is written.
use native.Mathlib.Omega.{arith}
use Rattle.paper_lower.specs.Written.{row}
use Rattle.policy_writing.proofs.Laws.{absent, no_room, present}
use Rattle.policy_writing.proofs.put.Goals as goal

pub returns-then-not-there : goal.returns-then-not-there
returns-then-not-there c =
    let args = c.args in
    absent (row args.kind args.n args.a args.b args.c args.m) args.output.now args.place args.there c.if-not-there.true

pub returns-then-output-next : goal.returns-then-output-next
returns-then-output-next c =
    let args = c.args in
    no_room (row args.kind args.n args.a args.b args.c args.m) args.output.now args.place args.there
    c.if-not-there.false (omega arith)

pub returns : goal.returns
returns c =
    let args = c.args in
    let if1 = c.if-not-there in
    present (row args.kind args.n args.a args.b args.c args.m) args.output.now args.place args.there _ (if1.false)
    (omega arith) c.put.ensures
