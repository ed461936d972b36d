-- For the proof of `judge`: the results of its tests are the definitions' checks SHAPE and RANGE.
use mathlib.Core.Path.{◌≡◌, refl, ◌∙◌, ap}
use mathlib.Core.Bool.{true, false, or-false, true≢false}
use mathlib.Core.List.{List}
use Prim.Native.Nat.{ℕ, ◌+◌, ◌*◌}
use native.Mathlib.Omega.{arith}
use lib.Bits.{bit_and}
use lib.Dec.{T, eqb}
use lib.ListN.{length}
use borrow.Author.Tests.{eq-eqb, ne_eqb}
use Rattle.paper_lower.specs.Lists.{Maybe}
use Rattle.paper_lower.specs.Lists.Maybe.{none, just}
use Rattle.paper_lower.specs.Checks.{first, GRANTED, SHAPE, RANGE}
use Rattle.paper_lower.specs.Records.{Bytes, Record as PaperRecord, number, decode}
use Rattle.paper_lower.specs.Forms.{Field, Form as PaperForm, form_of, misplaced, above, misshapen, out_of_range, form_checks}
use Rattle.paper_lower.specs.Forms.Field.{·, to, any, pair}
use Rattle.records.specs.Reading.{paper_of, of_paper, Small, Decoded}
use Rattle.records.specs.Table.{bit_of, table_at, misshapes, outranges}
use Rattle.records.specs.Calls.{forms_of}
use Rattle.records.specs.declared.Record.{Record}
use Rattle.records.specs.declared.Form.{Form}
use Rattle.records.specs.declared.Call.{Call}
use Rattle.records.proofs.Span.{holds-true}
use Rattle.records.proofs.Lines.{free, stands, taken, line-is, n-free, m-free, table-stands}
use Rattle.records.proofs.Fields.{none_of, first-bits, m-limit, above-limit}

-- ---- The tests of a record against its row of the table are the definitions' tests against the form.

above-free : (f : Field) (x : ℕ) → T (free f) → above f x ≡ false
unfolding above
above-free · x t = refl
above-free (to k) x t = absurd t
above-free any x t = refl
above-free pair x t = refl

module _ (call : Call) (p : PaperRecord) (h : Small (of_paper p)) (l : Form) where
  shape_is : {x : ℕ} → x ≡ p.kind + 256 * p.n + 65536 * p.a + 4294967296 * p.b + 281474976710656 * p.c
      → (f : Maybe PaperForm) → T (stands call f l) → misshapen f p ≡ misshapes (bit_of call) l x p.m
  unfolding misshapen
  shape_is e none t = rw (holds-true (eqb (bit_and l.0 (bit_of call)) 0) t)
  shape_is e (just f) t =
      rw (
        first-bits p h f e,
        m-limit h.m f.m (m-free call f l t),
        taken call f l t,
        ap (λ k. k.1) (line-is call f l t),
        ap (λ k. k.2) (line-is call f l t),
      )

  range-is : (f : Maybe PaperForm) → T (stands call f l) → misshapen f p ≡ false → out_of_range f p ≡ outranges l (of_paper p)
  unfolding misshapen out_of_range
  range-is none t e = absurd (true≢false e)
  range-is (just f) t e =
      let placed =
      none_of (misplaced f.n p.n) (misplaced f.a p.a) (misplaced f.b p.b) (misplaced f.c p.c) (misplaced f.m p.m) e in
      rw (
        above-free f.n p.n (n-free call f l t),
        above-free f.m p.m (m-free call f l t),
        above-limit h.a f.a placed.1,
        above-limit h.b f.b placed.2,
        above-limit h.c f.c placed.3,
        or-false,
        ap (λ k. k.3) (line-is call f l t),
        ap (λ k. k.4) (line-is call f l t),
        ap (λ k. k.5) (line-is call f l t),
      )

-- ---- The reply at each return of `judge`.

pub cut : (fs : List PaperForm) (s : Bytes) → (length s ≡ 16 → ⊥) → SHAPE ≡ first (form_checks fs s)
unfolding form_checks
cut fs s h = simp (ne_eqb (length s) 16 h)

module _ (call : Call) {s : Bytes} {r : Record} {l : Form} {x : ℕ} (len : length s ≡ 16) (d : Decoded s r)
    (el : l ≡ table_at r.kind) (ex : x ≡ number 0 8 s) where
  word-is : x ≡ r.kind + 256 * r.n + 65536 * r.a + 4294967296 * r.b + 281474976710656 * r.c
  unfolding number decode
  word-is =
      omega (
        arith,
        ap (λ p. p.kind) d.reads,
        ap (λ p. p.n) d.reads,
        ap (λ p. p.a) d.reads,
        ap (λ p. p.b) d.reads,
        ap (λ p. p.c) d.reads,
      )

  stood : T (stands call (form_of (forms_of call) r.kind) l)
  stood = rw el (table-stands call r.kind d.small.kind)

  shape : misshapen (form_of (forms_of call) (decode s).kind) (decode s) ≡ misshapes (bit_of call) l x r.m
  shape = rw (← d.reads) (shape_is call (paper_of r) d.small l word-is (form_of (forms_of call) r.kind) stood)

  range : misshapes (bit_of call) l x r.m ≡ false → out_of_range (form_of (forms_of call) (decode s).kind) (decode s) ≡ outranges l r
  range e = rw (← d.reads) (range-is call (paper_of r) d.small l (form_of (forms_of call) r.kind) stood (rw (← d.reads) at (shape ∙ e)))

  pub misshaped : misshapes (bit_of call) l x r.m ≡ true → SHAPE ≡ first (form_checks (forms_of call) s)
  unfolding form_checks
  misshaped e = simp (eq-eqb (length s) 16 len, shape ∙ e)

  pub outranged : misshapes (bit_of call) l x r.m ≡ false → outranges l r ≡ true → RANGE ≡ first (form_checks (forms_of call) s)
  unfolding form_checks
  outranged e f = simp (eq-eqb (length s) 16 len, shape ∙ e, range e ∙ f)

  pub fine : misshapes (bit_of call) l x r.m ≡ false → outranges l r ≡ false → GRANTED ≡ first (form_checks (forms_of call) s)
  unfolding form_checks
  fine e f = simp (eq-eqb (length s) 16 len, shape ∙ e, range e ∙ f)
