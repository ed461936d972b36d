-- Laws of the records of a policy buffer: the rows of all kinds in their order are the records
-- of the definition; what the getters say of one row; and the empty policy has no records.
use Prim.Native.Nat.{ℕ, zero, suc, ◌+◌, ◌%◌, ◌<◌}
use mathlib.Core.Bool.{Bool, true, false, cond}
use mathlib.Core.List.{List, [], ◌∷◌, ◌++◌, append_assoc, append-nil}
use mathlib.Core.Path.{◌≡◌, refl, sym, ap, ◌∙◌, fun_ext}
use native.Mathlib.Nat.{zero-add}
use native.Mathlib.Omega.{arith}
use borrow.Author.Tests.{eqb-true}
use lib.Dec.{eqb, ltb}
use Rattle.paper_lower.specs.Sets.{Set, empty, has}
use Rattle.paper_lower.specs.Lists.{Maybe, holds, there, each}
use Rattle.paper_lower.specs.Lists.Maybe.{none, just}
use Rattle.paper_lower.specs.Records.{Record}
use Rattle.paper_lower.specs.Tables.{Permission, no_policy}
use Rattle.paper_lower.specs.Written.{in_turn, when, of_there, row, people_rows, task_rows, rule_rows, behind, records_written}
use Rattle.sets.proofs.SetLaws.{has-empty}
use Rattle.replies.specs.Cells.{column, rows_from, rows}
use Rattle.policy.specs.Layout.{same, limit_count, limit_at, block_count, block_at, pair_count, pair_at, wall_count, walled_at}
use Rattle.policy.specs.Reading.{rules_in, policy_of, value_of}
use Rattle.policy_writing.specs.Lines.{spread, limit_row, block_row, row_of_pair, wall_row, lines_in, line_of, kind_in, side_in}

-- ---- The records of the rows from k on, with those of the first row split off; and the same as lists of rows.
in-none : (f : ℕ → List Record) → in_turn 0 f ≡ []
unfolding in_turn
in-none f = refl

in-front : (f : ℕ → List Record) (k n : ℕ) → in_turn (suc n) (λ i. f (k + i)) ≡ f k ++ in_turn n (λ i. f (suc k + i))
unfolding in_turn
in-front f k zero = let e : k + 0 ≡ k = omega arith in rw e (sym (append-nil (f k)))
in-front f k (suc n) =
    let e : k + suc n ≡ suc k + n = omega arith in
    rw (in-front f k n, e) (append_assoc (f k) (in_turn n (λ i. f (suc k + i))) (f (suc k + n)))

in-behind-from : (f : ℕ → List Record) (k n : ℕ) → in_turn n (λ i. f (k + i)) ≡ behind (rows_from f k n)
unfolding behind rows_from
in-behind-from f k zero = in-none (λ i. f (k + i))
in-behind-from f k (suc n) = in-front f k n ∙ ap (λ (rs : List Record). f k ++ rs) (in-behind-from f (suc k) n)

-- Rows counted from 0.
from_zero : (f : ℕ → List Record) → (λ (i : ℕ). f (0 + i)) ≡ f
from_zero f = fun_ext (λ i. ap f (zero-add i))

each_from : {A : Type 0} (g : A → Record) (h : ℕ → A) (k n : ℕ) → each g (rows_from h k n) ≡ in_turn n (λ i. g (h (k + i)) ∷ [])
unfolding each rows_from
each_from g h k zero = sym (in-none (λ i. g (h (k + i)) ∷ []))
each_from g h k (suc n) = ap (λ (rs : List Record). g (h k) ∷ rs) (each_from g h (suc k) n) ∙ sym (in-front (λ i. g (h i) ∷ []) k n)

each_rows : {A : Type 0} (g : A → Record) (h : ℕ → A) (n : ℕ) → each g (rows h n) ≡ in_turn n (λ i. g (h i) ∷ [])
each_rows g h n = each_from g h 0 n ∙ ap (in_turn n) (from_zero (λ i. g (h i) ∷ []))

-- Unfolds what the rows of a kind are computed from, for `height` and `line`.
unfoldable pub lines_open : Unit {0}
unfolding line_of lines_in side_in limit_count block_count pair_count wall_count
lines_open = tt

-- ---- All kinds: their records are those of the definition.
laid-lines : (l : List ℕ) → behind (rows_from (kind_in l) 0 19) ≡ records_written (policy_of l)
unfolding rows_from behind kind_in line_of lines_in records_written people_rows task_rows rule_rows policy_of rules_in
laid-lines l =
    rw (
      in-none (λ _. []),
      ← each_rows (limit_row 9) (limit_at 0 l) (limit_count 0 l),
      ← each_rows (limit_row 10) (limit_at 1 l) (limit_count 1 l),
      ← each_rows (limit_row 11) (limit_at 2 l) (limit_count 2 l),
      ← each_rows block_row (block_at l) (block_count l),
      ← each_rows (row_of_pair 15) (pair_at 0 l) (pair_count 0 l),
      ← each_rows (row_of_pair 16) (pair_at 1 l) (pair_count 1 l),
      ← each_rows wall_row (walled_at l) (wall_count l),
    )

pub all_lines : (l : List ℕ) → in_turn 19 (kind_in l) ≡ records_written (policy_of l)
all_lines l = sym (ap (in_turn 19) (from_zero (kind_in l))) ∙ in-behind-from (kind_in l) 0 19 ∙ laid-lines l

-- ---- The values that the getters of the policy buffer return for a row.
pub of_number : (f : ℕ → Record) (x : Maybe ℕ) {t : Bool} {n : ℕ} → t ≡ there x → n ≡ value_of same x → when t (f n) ≡ of_there f x
unfolding holds value_of when of_there
of_number f none e d = rw e
of_number f (just x) e d = rw (e, d)

pub of-permission : (f : ℕ → ℕ → Record) (x : Maybe Permission) {t : Bool} {b c : ℕ} → t ≡ there x → b ≡ value_of (λ y. y.operation) x →
    c ≡ value_of (λ y. y.object) x
    → when t (f b c) ≡ of_there (λ y. f y.operation y.object) x
unfolding holds value_of when of_there
of-permission f none e d g = rw e
of-permission f (just x) e d g = rw (e, d, g)

pub block-small : (l : List ℕ) (k : ℕ) → (block_at l k).partitioning < 16
unfolding block_at column
block-small l k = at (ltb k 64) _
  where
    at : (t : Bool) (w : ℕ) → cond t (w % 16) 0 < 16
    at true w = omega arith
    at false w = omega arith

-- ---- A set without members has no records.
in-nothing : (n : ℕ) (f : ℕ → List Record) → ((i : ℕ) → f i ≡ []) → in_turn n f ≡ []
unfolding in_turn
in-nothing zero f h = refl
in-nothing (suc n) f h = rw (in-nothing n f h, h n)

pub no-members : (kind a : ℕ) (m : Set) → eqb m empty ≡ true → [] ≡ spread kind a m
unfolding when
no-members kind a m e = sym (in-nothing 64 (λ b. when (has m b) (row kind 0 a b 0 0)) (λ b. rw (ap (λ (k : Set). has k b) (eqb-true m empty e) ∙ has-empty b)))

-- ---- The empty policy has no records.
flat : (n : ℕ) → in_turn n (λ _. []) ≡ []
flat n = in-nothing n (λ _. []) (λ _. refl)

bare : (n : ℕ) (r : ℕ → Record) → in_turn n (λ b. when (has empty b) (r b)) ≡ []
unfolding when
bare n r = in-nothing n (λ b. when (has empty b) (r b)) (λ b. rw (has-empty b))

bare_rows : (n m : ℕ) (r : ℕ → ℕ → Record) → in_turn n (λ a. in_turn m (λ b. when (has empty b) (r a b))) ≡ []
bare_rows n m r = in-nothing n (λ a. in_turn m (λ b. when (has empty b) (r a b))) (λ a. bare m (r a))

bare-across : (n m : ℕ) (r : ℕ → ℕ → Record) → in_turn n (λ a. in_turn m (λ b. when (has empty a) (r a b))) ≡ []
unfolding when
bare-across n m r = in-nothing n (λ a. in_turn m (λ b. when (has empty a) (r a b))) (λ a. in-nothing m (λ b. when (has empty a) (r a b)) (λ b. rw (has-empty a)))

pub nothing_written : records_written no_policy ≡ []
unfolding records_written behind people_rows task_rows rule_rows no_policy when of_there each
nothing_written =
    rw (
      flat 1024,
      bare 64 (λ a. row 2 0 a 0 0 0),
      flat 256,
      bare_rows 1024 64 (λ a b. row 4 0 a b 0 0),
      bare-across 64 256 (λ a b. row 5 0 a b 0 0),
      flat 64,
      bare_rows 64 64 (λ a b. row 7 0 a b 0 0),
      bare-across 64 256 (λ a b. row 8 0 a b 0 0),
      flat 16,
      bare_rows 64 64 (λ a b. row 17 0 a b 0 0),
    )
