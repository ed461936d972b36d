-- How a state buffer reads as tables: a table as a function from the row number, or as a list of its rows in policy order.
use Rattle.std.specs.Prelude.{ℕ, zero, suc, ◌+◌, cond, List, [], ◌∷◌, ltb, get_or}

-- Row i of the table in the n words from index b on, each word read by g. Rows past the last read as d.
unfoldable pub column : {A : Type 0} → (ℕ → A) → A → ℕ → ℕ → List ℕ → ℕ → A
column g d b n l i = cond (ltb i n) (g (get_or l (b + i) 0)) d

-- The n rows from row k on.
unfoldable pub rows_from : {A : Type 0} → (ℕ → A) → ℕ → ℕ → List A
rows_from f k zero = []
rows_from f k (suc n) = f k ∷ rows_from f (suc k) n

-- The first n rows.
abbrev pub rows : {A : Type 0} → (ℕ → A) → ℕ → List A
rows f n = rows_from f 0 n
