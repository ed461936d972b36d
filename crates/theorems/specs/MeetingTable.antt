-- 02, Ask 14: "With one entry free the order matters, and the table of cases shows it." The table has two claims in different orders, made in either
-- sequence; one statement proves all rows.
use Rattle.std.specs.Prelude.{ℕ, ◌≡◌, refl, Bool, true, ◌&&◌, List, [], ◌∷◌, eqb, replicate}
use Rattle.paper_lower.specs.Lists.{every}
use Rattle.paper_lower.specs.Checks.{GRANTED, FULL}
use Rattle.paper_lower.specs.Records.{Bytes}
use Rattle.paper_lower.specs.Kinds.{after}
use Rattle.paper_lower.specs.Load.{load}
use Rattle.paper_lower.specs.Words.{joined, words_open, user, role, user_has, task, open_to, create, opened_order, claim}
use Rattle.paper_upper.specs.Orders.{entry, Engine, with_entries}
use Rattle.paper_upper.specs.Orders.Standing.{done}
use Rattle.paper_upper.specs.Engine.{request, engine_of, engine_open}

-- Users 300 and 301 have subjects 5 and 6; orders 0, 1 and 2 of one template are open.
unfoldable pub desk : Engine
desk =
    after request
    (engine_of (load (joined (user 300 ∷ user 301 ∷ role 0 ∷ user_has 300 0 ∷ user_has 301 0 ∷ task 0 0 ∷ open_to 0 0 ∷ []))).tables)
    (create 5 300 1 ∷ create 6 301 1 ∷ opened_order 0 0 ∷ opened_order 1 0 ∷ opened_order 2 0 ∷ [])

-- The same with n entries in use, all of order 2, where one task was claimed and done n times.
unfoldable pub used : ℕ → Engine
used n = with_entries desk (replicate n (entry 2 300 0 done))

-- The two claims: subject 5 in order 0, subject 6 in order 1.
abbrev pub one : Bytes
one = claim 5 0 0

abbrev pub other : Bytes
other = claim 6 1 0

-- A row: the number of entries in use; the replies to `one` and `other` if `one` is made first; and the same if `other` is made first.
pub record Row : Type 0 where
  pub entries : ℕ
  pub one-first : ℕ × ℕ
  pub other-first : ℕ × ℕ

-- The row with these parts.
abbrev row : ℕ → ℕ × ℕ → ℕ × ℕ → Row
row entries one-first other-first = record { entries = entries; one-first = one-first; other-first = other-first }

-- The table.
unfoldable pub table : List Row
table =
    row 2045 (GRANTED, GRANTED) (GRANTED, GRANTED)
    -- Two entries are free: the order does not matter.
    ∷ row 2046 (GRANTED, GRANTED) (GRANTED, GRANTED)
    -- One entry is free: the order matters.
    ∷ row 2047 (GRANTED, FULL) (FULL, GRANTED)
    ∷ row 2048 (FULL, FULL) (FULL, FULL)
    ∷ []

-- Whether a row holds.
unfoldable pub comes_out : Row → Bool
comes_out r =
    let t = used r.entries in
    eqb (request t one).reply r.one-first.0
    && eqb (request (request t one).tables other).reply r.one-first.1
    && eqb (request (request t other).tables one).reply r.other-first.0
    && eqb (request t other).reply r.other-first.1

-- Every row holds.
pub all-come-out : every comes_out table ≡ true
unfolding engine_open words_open desk used table comes_out
all-come-out = refl
