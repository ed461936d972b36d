-- What an accepted call yields (`Yield`), and that a refused one writes nothing.
use mathlib.Core.Path.{◌≡◌, refl, sym, ◌∙◌, subst}
use mathlib.Core.List.{List, [], ◌∷◌}
use mathlib.Core.Bool.{Bool, true, false}
use Prim.Native.Nat.{ℕ, zero, suc, ◌*◌}
use native.Mathlib.Omega.{arith}
use lib.Dec.{leb}
use lib.ListN.{length, length-append}
use Rattle.paper_lower.specs.Lists.{Maybe, many, each, Every}
use Rattle.paper_lower.specs.Lists.Maybe.{just}
use Rattle.paper_lower.specs.Checks.{GRANTED}
use Rattle.paper_lower.specs.Records.{Bytes, Record, encode}
use Rattle.paper_opl.specs.Reading.{Text, same, expect, word, misc}
use Rattle.paper_opl.specs.Reading.Read.{got}
use Rattle.paper_opl.specs.Elements.{elements_of}
use Rattle.paper_opl.specs.Tree.{Elements, opening, element, behind_mark, prolog, DEPTH, document_in}
use Rattle.paper_opl.specs.Naming.{Line, in_line, line_end, lines, task_lines, few_of, records_of, written, translate_in}
use Rattle.paper_opl.specs.Promises.{WellShaped, RisingFrom, Yield}
use Rattle.paper_opl.proofs.Inversion.{on, on_test, on-found, bad≢got, got-rest, none≢just}
use Rattle.paper_opl.proofs.Conforms.{root}
use Rattle.paper_opl.proofs.Tags.{same_end}
use Rattle.paper_opl.proofs.Judging.{all_are}
use Rattle.paper_opl.proofs.Cardinalities.{AllSmall, document-small}
use Rattle.paper_opl.proofs.WellFormed.{Rise, all-rise}
use Rattle.paper_opl.proofs.DocumentLaid.{read_alike}

-- ---- An accepted text is read to its end.

pub document-end : (all : Bool) (s : Text) (es : Elements) (r : Text) → document_in all s ≡ got es r → r ≡ []
unfolding document_in
document-end all s es r e =
    on (prolog s) (λ _ u p. on (opening root u) (λ c z o. on (element (elements_of all) DEPTH c.name z) (λ i y h. on (misc (length y) y) (λ _ x m. on_test
    (same x [])
    (λ f. sym (got-rest (rw (p, o, h, m, f) at e)) ∙ same_end x f)
    (λ f. absurd (bad≢got (rw (p, o, h, m, f) at e)))) (λ x m. absurd (bad≢got (rw (p, o, h, m) at e)))) (λ y h. absurd (bad≢got (rw (p, o, h) at e))))
    (λ z o. absurd (bad≢got (rw (p, o) at e)))) (λ u p. absurd (bad≢got (rw p at e)))

pub lines_end : (n : ℕ) (s : Text) (ls : List Line) (r : Text) → lines n s ≡ got ls r → r ≡ []
unfolding lines
lines_end zero s ls r e = on_test (same s []) (λ q. sym (got-rest (rw q at e)) ∙ same_end s q) (λ q. absurd (bad≢got (rw q at e)))
lines_end (suc n) s ls r e =
    on_test (same s []) (λ q. sym (got-rest (rw q at e)) ∙ same_end s q)
    (λ q. on (word in_line s) (λ v u a. on (expect (32 ∷ []) u) (λ _ z b. on (word in_line z) (λ w y c. on (line_end y) (λ _ x d. on (lines n x)
    (λ ms i f. sym (got-rest (rw (q, a, b, c, d, f) at e)) ∙ lines_end n x ms i f)
    (λ i f. absurd (bad≢got (rw (q, a, b, c, d, f) at e)))) (λ x d. absurd (bad≢got (rw (q, a, b, c, d) at e))))
    (λ y c. absurd (bad≢got (rw (q, a, b, c) at e))))
    (λ z b. absurd (bad≢got (rw (q, a, b) at e)))) (λ u a. absurd (bad≢got (rw (q, a) at e))))

task-lines-end : (t : Text) (ls : List Line) (r : Text) → task_lines t ≡ got ls r → r ≡ []
unfolding task_lines
task-lines-end t ls r e = lines_end (length (behind_mark t)) (behind_mark t) ls r e

-- ---- The records are well shaped and have rising kinds.

risen : (k : ℕ) (rs : List Record) → Rise k (each just rs) → Every WellShaped rs × RisingFrom k rs
unfolding Rise RisingFrom each
risen k [] h = (tt, tt)
risen k (r ∷ rs) h = let q = risen r.kind rs h.2 in ((h.1, q.0), (h.0, q.1))

records-rise : (es : Elements) (ls : List Line) (rs : List Record) → AllSmall es → records_of es ls ≡ just rs → Every WellShaped rs × RisingFrom 1 rs
unfolding records_of
records-rise es ls rs h e =
    on_test (few_of es)
    (λ q. risen 1 rs (subst (λ (x : List (Maybe Record)). Rise 1 x) (all_are _ rs (rw q at e)) (all-rise es h ls)))
    (λ q. absurd (none≢just (rw q at e)))

written-length : (rs : List Record) → Every WellShaped rs → length (written rs) ≡ 16 * many rs
unfolding written many
written-length [] h = refl
written-length (r ∷ rs) h = let a = h.0.sixteen in let b = written-length rs h.1 in length-append (encode r) (written rs) ∙ rw (a, b) (omega arith)

-- ---- "Accepted text always yields a policy of well-shaped records that says what the elements say".

pub accepted : (all : Bool) (s t : Text) (out : Bytes) → (translate_in all s t out).reply ≡ GRANTED → Yield all s t out
unfolding translate_in
accepted all s t out e =
    on (document_in all s) (λ es r d. on (task_lines t) (λ ls u l. on-found (records_of es ls)
    (λ rs q. on_test (leb (length (written rs)) (length out))
    (λ f.
    let w = records-rise es ls rs (document-small all s es r d) q in
    record {
      elements = es;
      line_list = ls;
      records = rs;
      text-is = rw (sym (document-end all s es r d)) d;
      lines_are = rw (sym (task-lines-end t ls u l)) l;
      says = q;
      well-shaped = w.0;
      kinds-rise = w.1;
      sixteen-each = written-length rs w.0;
      answer-is = rw (d, l, q, f);
    })
    (λ f. absurd (one≢zero (rw (d, l, q, f) at e)))) (λ q. absurd (names≢zero (rw (d, l, q) at e)))) (λ u l. absurd (text≢zero (rw (d, l) at e))))
    (λ r d. absurd (text≢zero (rw d at e)))
  where
    one≢zero : ◌≡◌ {A = ℕ} 1 0 → ⊥
    one≢zero q = omega arith

    names≢zero : ◌≡◌ {A = ℕ} 22 0 → ⊥
    names≢zero q = omega arith

    text≢zero : ◌≡◌ {A = ℕ} 21 0 → ⊥
    text≢zero q = omega arith

-- "Refusals, nothing written": the output stays as it was.
pub refusal-writes-nothing : (all : Bool) (s t : Text) (out : Bytes) → ((translate_in all s t out).reply ≡ GRANTED → ⊥) → (translate_in all s t out).output ≡ out
unfolding translate_in
refusal-writes-nothing all s t out n =
    on (document_in all s) (λ es r d. on (task_lines t) (λ ls u l. on-found (records_of es ls)
    (λ rs q. on_test (leb (length (written rs)) (length out)) (λ f. absurd (n (rw (d, l, q, f)))) (λ f. rw (d, l, q, f))) (λ q. rw (d, l, q)))
    (λ u l. rw (d, l))) (λ r d. rw d)

-- Texts that Ask 4's call accepts get the same answer from the wider call.
pub answered-alike : (s t : Text) (out : Bytes) → (translate_in false s t out).reply ≡ GRANTED → translate_in true s t out ≡ translate_in false s t out
unfolding translate_in
answered-alike s t out e =
    let y = accepted false s t out e in
    rw (y.text-is, read_alike s y.elements y.text-is)
