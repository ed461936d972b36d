-- The forms of paper_lower as rows of the code's table over kinds (`form_of` in src).
use Rattle.std.specs.Prelude.{ℕ, ◌+◌, ◌-◌, ◌*◌, ◌^◌, Bool, not, cond, ◌||◌, ◌++◌, eqb, ltb}
use Rattle.std.specs.Int.Bits.{bit_and}
use Rattle.paper_lower.specs.Lists.{Maybe, holds, there}
use Rattle.paper_lower.specs.Lists.Maybe.{none, just}
use Rattle.paper_lower.specs.Forms.{Field, Form as PaperForm, policy_forms, lower_forms, request_forms, form_of, forms_open}
use Rattle.paper_lower.specs.Forms.Field.{·, to, any, pair}
use Rattle.records.specs.declared.Form.{Form}
use Rattle.records.specs.declared.Record.{Record}
use Rattle.records.specs.declared.Call.{Call}
use Rattle.records.specs.declared.Call.TheVariants.{Load, Lower, Request}

-- The bit of a call in a row.
abbrev pub bit_of : Call → ℕ
bit_of Load = 1
bit_of Lower = 2
bit_of Request = 4

-- The bits of a field of the first word that must be zero; `ones` has all bits of the field.
abbrev pub barred : ℕ → Field → ℕ
barred ones · = ones
barred ones (to k) = 0
barred ones any = 0
barred ones pair = 0

-- The bits of the first word that must be zero.
abbrev pub barred_first : PaperForm → ℕ
barred_first f =
    2 ^ 8 * barred 255 f.n + 2 ^ 16 * barred 65535 f.a + 2 ^ 32 * barred 65535 f.b + 2 ^ 48 * barred 65535 f.c

-- The largest number that a field may have; `ones` if any may.
abbrev pub limit : ℕ → Field → ℕ
limit ones · = 0
limit ones (to k) = k
limit ones any = ones
limit ones pair = 2 ^ 32 - 1

-- A form as a row of the table. For a number that is no kind, the row says that no call takes it.
abbrev pub line_of : ℕ → Maybe PaperForm → Form
line_of calls none = record { 0 = 0; 1 = 0; 2 = 0; 3 = 0; 4 = 0; 5 = 0 }
line_of calls (just f) =
    record {
      0 = calls;
      1 = barred_first f;
      2 = limit (2 ^ 64 - 1) f.m;
      3 = limit 65535 f.a;
      4 = limit 65535 f.b;
      5 = limit 65535 f.c;
    }

-- The calls that take kind k.
unfoldable pub calls_of : ℕ → ℕ
calls_of k =
    cond (there (form_of policy_forms k)) 1 0 + cond (there (form_of lower_forms k)) 2 0 + cond (there (form_of request_forms k)) 4 0

-- The row of kind k.
unfoldable pub table_at : ℕ → Form
table_at k = line_of (calls_of k) (form_of (policy_forms ++ request_forms) k)

-- Whether a record gets SHAPE by its row: the call does not take the kind, a bit that must be zero is set, or m is above its limit.
abbrev pub misshapes : ℕ → Form → ℕ → ℕ → Bool
misshapes call f word m = (eqb (bit_and f.0 call) 0 || not (eqb (bit_and word f.1) 0)) || ltb f.2 m

-- Whether a record gets RANGE by its row: a, b or c is above its limit.
abbrev pub outranges : Form → Record → Bool
outranges f r = (ltb f.3 r.a || ltb f.4 r.b) || ltb f.5 r.c

-- Unfolds the definitions that the rows are computed from, for proofs about one kind.
unfoldable pub table_open : Unit {0}
unfolding forms_open holds calls_of table_at
table_open = tt
