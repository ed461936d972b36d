-- The rows of the table over kinds: a test for their equality, and the law that the row of each kind stands for the form that each call takes of it.
use mathlib.Core.Path.{◌≡◌}
use mathlib.Core.Bool.{Bool, true, false, not}
use Prim.Native.Nat.{ℕ, ◌<◌}
use lib.Bits.{bit_and}
use lib.Dec.{T, eqb, eqb→eq}
use borrow.Author.Tests.{not-true}
use Rattle.paper_lower.specs.Lists.{Maybe}
use Rattle.paper_lower.specs.Lists.Maybe.{none, just}
use Rattle.paper_lower.specs.Forms.{Field, Form as PaperForm, form_of}
use Rattle.paper_lower.specs.Forms.Field.{·, to, any, pair}
use Rattle.records.specs.Table.{bit_of, line_of, table_at, table_open}
use Rattle.records.specs.Calls.{forms_of}
use Rattle.records.specs.declared.Form.{Form}
use Rattle.records.specs.declared.Call.{Call}
use Rattle.records.specs.declared.Call.TheVariants.{Load, Lower, Request}
use Rattle.records.proofs.Span.{both, both_left, both_right, holds-true, at}

-- Whether two rows have the same numbers.
abbrev pub same : Form → Form → Bool
same x y =
    both (eqb x.0 y.0)
    (both (eqb x.1 y.1) (both (eqb x.2 y.2) (both (eqb x.3 y.3) (both (eqb x.4 y.4) (eqb x.5 y.5)))))

pub same-sound : (x y : Form) → T (same x y) → x ≡ y
same-sound x y t =
    let t₁ = both_right (eqb x.0 y.0) _ t in
    let t₂ = both_right (eqb x.1 y.1) _ t₁ in
    let t₃ = both_right (eqb x.2 y.2) _ t₂ in
    let t₄ = both_right (eqb x.3 y.3) _ t₃ in
    λ i.
    record {
      0 = eqb→eq x.0 y.0 (both_left (eqb x.0 y.0) _ t) i;
      1 = eqb→eq x.1 y.1 (both_left (eqb x.1 y.1) _ t₁) i;
      2 = eqb→eq x.2 y.2 (both_left (eqb x.2 y.2) _ t₂) i;
      3 = eqb→eq x.3 y.3 (both_left (eqb x.3 y.3) _ t₃) i;
      4 = eqb→eq x.4 y.4 (both_left (eqb x.4 y.4) _ t₄) i;
      5 = eqb→eq x.5 y.5 (both_right (eqb x.4 y.4) _ t₄) i;
    }

-- A field without a limit for RANGE. The code tests n and m for SHAPE only.
abbrev pub free : Field → Bool
free · = true
free (to k) = false
free any = true
free pair = true

-- Whether row l says that the call takes the form, and has all numbers of the form; if the call has no form, whether l says that it does not take the kind.
abbrev pub stands : Call → Maybe PaperForm → Form → Bool
stands call none l = eqb (bit_and l.0 (bit_of call)) 0
stands call (just f) l =
    both (not (eqb (bit_and l.0 (bit_of call)) 0)) (both (same l (line_of l.0 (just f))) (both (free f.n) (free f.m)))

-- What follows from `stands` for a form that the call takes.
module _ (call : Call) (f : PaperForm) (l : Form) (t : T (stands call (just f) l)) where
  behind : T (both (same l (line_of l.0 (just f))) (both (free f.n) (free f.m)))
  behind = both_right (not (eqb (bit_and l.0 (bit_of call)) 0)) _ t

  pub taken : eqb (bit_and l.0 (bit_of call)) 0 ≡ false
  taken = not-true _ (holds-true _ (both_left (not (eqb (bit_and l.0 (bit_of call)) 0)) _ t))

  pub line-is : l ≡ line_of l.0 (just f)
  line-is = same-sound l _ (both_left (same l (line_of l.0 (just f))) _ behind)

  pub n-free : T (free f.n)
  n-free = both_left (free f.n) (free f.m) (both_right (same l (line_of l.0 (just f))) _ behind)

  pub m-free : T (free f.m)
  m-free = both_right (free f.n) (free f.m) (both_right (same l (line_of l.0 (just f))) _ behind)

pub table-stands : (call : Call) (k : ℕ) → k < 256 → T (stands call (form_of (forms_of call) k) (table_at k))
unfolding table_open
table-stands Load k h = at (λ k. stands Load (form_of (forms_of Load) k) (table_at k)) 256 tt k h
table-stands Lower k h = at (λ k. stands Lower (form_of (forms_of Lower) k) (table_at k)) 256 tt k h
table-stands Request k h = at (λ k. stands Request (form_of (forms_of Request) k) (table_at k)) 256 tt k h
