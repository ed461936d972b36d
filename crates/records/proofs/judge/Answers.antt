-- `judge` meets its contract: each return is one law of Judging.
use mathlib.Core.Path.{sym, ◌∙◌}
use Rattle.records.proofs.Judging.{cut, misshaped, outranged, fine}
use Rattle.records.proofs.judge.Goals as goal

pub returns-then-s-ne16 : goal.returns-then-s-ne16
returns-then-s-ne16 c = cut _ c.args.s.now c.if-s-ne16.true

pub returns-then-misshapen : goal.returns-then-misshapen
returns-then-misshapen c =
    let args = c.args in
    let if1 = c.if-s-ne16 in
    let decode = c.decode-r in
    let word = c.word-head in
    misshaped args.call if1.false decode.ensures c.form_of-f.ensures word.ensures
    (sym c.misshapen.ensures ∙ c.if-misshapen.true)

pub returns-then-out_of_range : goal.returns-then-out_of_range
returns-then-out_of_range c =
    let args = c.args in
    let if1 = c.if-s-ne16 in
    let decode = c.decode-r in
    let word = c.word-head in
    let form_of = c.form_of-f in
    let misshapen = c.misshapen in
    outranged args.call if1.false decode.ensures form_of.ensures word.ensures (sym misshapen.ensures ∙ c.if-misshapen.false)
    (sym c.out_of_range.ensures ∙ c.if-out_of_range.true)

pub returns : goal.returns
returns c =
    let args = c.args in
    let if1 = c.if-s-ne16 in
    let decode = c.decode-r in
    let word = c.word-head in
    let form_of = c.form_of-f in
    let misshapen = c.misshapen in
    fine args.call if1.false decode.ensures form_of.ensures word.ensures (sym misshapen.ensures ∙ c.if-misshapen.false)
    (sym c.out_of_range.ensures ∙ c.if-out_of_range.false)
