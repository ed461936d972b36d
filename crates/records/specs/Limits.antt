-- The bounds of a record that passes SHAPE and RANGE. The functions that choose by kind require them of their record.
use Rattle.std.specs.Prelude.{ℕ, ◌-◌, ◌^◌, ◌≤◌, List, T}
use Rattle.paper_lower.specs.Lists.{Maybe, holds, there}
use Rattle.paper_lower.specs.Lists.Maybe.{none, just}
use Rattle.paper_lower.specs.Forms.{Field, Form, form_of, forms_open}
use Rattle.records.specs.Reading.{Small}
use Rattle.records.specs.Table.{limit}
use Rattle.records.specs.declared.Record.{Record}

-- The largest number that a field of a form may have. `ones` is the largest that the field can hold.
unfoldable pub most : ℕ → (Form → Field) → Maybe Form → ℕ
most ones field none = 0
most ones field (just f) = limit ones (field f)

-- ---- The largest number that each field of a kind may have.
unfoldable pub limit_n : List Form → ℕ → ℕ
limit_n fs k = most 255 (λ f. f.n) (form_of fs k)

unfoldable pub limit_a : List Form → ℕ → ℕ
limit_a fs k = most 65535 (λ f. f.a) (form_of fs k)

unfoldable pub limit_b : List Form → ℕ → ℕ
limit_b fs k = most 65535 (λ f. f.b) (form_of fs k)

unfoldable pub limit_c : List Form → ℕ → ℕ
limit_c fs k = most 65535 (λ f. f.c) (form_of fs k)

unfoldable pub limit_m : List Form → ℕ → ℕ
limit_m fs k = most (2 ^ 64 - 1) (λ f. f.m) (form_of fs k)

-- The bounds of a record: its kind is one that the call takes, and no field is above its limit.
pub record Limits (fs : List Form) (r : Record) : Type 0 where
  pub small : Small r
  pub known : T (there (form_of fs r.kind))
  pub n : r.n ≤ limit_n fs r.kind
  pub a : r.a ≤ limit_a fs r.kind
  pub b : r.b ≤ limit_b fs r.kind
  pub c : r.c ≤ limit_c fs r.kind
  pub m : r.m ≤ limit_m fs r.kind

-- Unfolds the definitions that a limit is computed from, for proofs about one kind.
unfoldable pub limits_open : Unit {0}
unfolding forms_open holds most limit_n limit_a limit_b limit_c limit_m
limits_open = tt
