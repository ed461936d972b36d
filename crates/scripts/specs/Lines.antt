-- A line of a script: where it ends, its numbers, its record; the bytes of a record, and where they are put; and meaningless words.
use Rattle.std.specs.Prelude.{ℕ, zero, suc, ◌+◌, ◌-◌, ◌*◌, ◌/◌, ◌%◌, ◌≤◌, ◌<◌, not, cond, List, [], ◌∷◌, ◌≡◌, eqb, ltb, get_or, length}
use Rattle.scripts.specs.declared.Fields.{Fields}

-- The line that begins at `at` ends at the first newline from there on, or with the text.
pub record LineEnd (text : List ℕ) (at end : ℕ) : Type 0 where
  pub begins : at ≤ end
  pub within : end ≤ length text
  pub inside : (k : ℕ) → at ≤ k → k < end → get_or text k 0 ≡ 10 → ⊥
  pub newline : end < length text → get_or text end 0 ≡ 10

-- A number with one more digit, if the byte is a digit and there is room for it.
unfoldable pub digit_more : ℕ → ℕ → ℕ
digit_more x b = cond (ltb b 48) x (cond (ltb 57 b) x (cond (ltb 1844674407370955160 x) x (x * 10 + (b - 48))))

-- The number of spaces after one more byte, up to about a thousand.
unfoldable pub space_more : ℕ → ℕ → ℕ
space_more n b = cond (not (eqb b 32)) n (cond (ltb 1000 n) n (n + 1))

-- The number of spaces in the first i bytes.
unfoldable pub spaces_in : List ℕ → ℕ → ℕ
spaces_in line zero = 0
spaces_in line (suc i) = space_more (spaces_in line i) (get_or line i 0)

-- The number after the k-th space, as far as the first i bytes have it.
unfoldable pub number_in : ℕ → List ℕ → ℕ → ℕ
number_in k line zero = 0
number_in k line (suc i) = cond (eqb (spaces_in line (suc i)) k) (digit_more (number_in k line i) (get_or line i 0)) (number_in k line i)

-- The number after the k-th space of a line.
abbrev pub number_of : List ℕ → ℕ → ℕ
number_of line k = number_in k line (length line)

-- The record whose six numbers come after the k-th space and the next five.
abbrev pub a_record_of : List ℕ → ℕ → Fields
a_record_of line k =
    record {
      kind = number_of line k % 256;
      n = number_of line (k + 1) % 256;
      a = number_of line (k + 2);
      b = number_of line (k + 3);
      c = number_of line (k + 4);
      m = number_of line (k + 5);
    }

-- The sixteen bytes of a record; of a, b and c only the low sixteen bits.
abbrev pub bytes_of : Fields → List ℕ
bytes_of r =
    r.kind
    ∷ r.n
    ∷ r.a % 256
    ∷ r.a / 256 % 256
    ∷ r.b % 256
    ∷ r.b / 256 % 256
    ∷ r.c % 256
    ∷ r.c / 256 % 256
    ∷ r.m % 256
    ∷ r.m / 256 % 256
    ∷ r.m / 65536 % 256
    ∷ r.m / 16777216 % 256
    ∷ r.m / 4294967296 % 256
    ∷ r.m / 1099511627776 % 256
    ∷ r.m / 281474976710656 % 256
    ∷ r.m / 72057594037927936 % 256
    ∷ []

-- Where the next record goes after one at `at`, in a buffer of this many bytes.
abbrev pub behind : ℕ → ℕ → ℕ
behind at bytes = cond (ltb 65520 at) at (cond (ltb bytes (at + 16)) at (at + 16))

-- The contract of `put`: from `at` to `end` lie the bytes of the record, and all other bytes stay.
pub record Put (at : ℕ) (r : Fields) (l l' : List ℕ) (end : ℕ) : Type 0 where
  pub ends : end ≡ behind at (length l)
  pub written : (k : ℕ) → at + k < end → get_or l' (at + k) 0 ≡ get_or (bytes_of r) k 0
  pub others : (k : ℕ) → (at ≤ k → k < end → ⊥) → get_or l' k 0 ≡ get_or l k 0

-- The i-th number drawn from a seed.
unfoldable pub drawn : ℕ → ℕ → ℕ
drawn seed zero = seed
drawn seed (suc i) = (drawn seed i % 2147483648 * 1103515245 + 12345) % 2147483648

-- The word that is made of a number drawn.
abbrev pub garbled : ℕ → ℕ
garbled x = x % 2147483648 * 8589934591

-- The contract of `garble_by`: the words are drawn from the seed; a seed of 0 leaves them as they were.
pub record Garbled (seed : ℕ) (l l' : List ℕ) : Type 0 where
  pub kept : seed ≡ 0 → l' ≡ l
  pub words : (seed ≡ 0 → ⊥) → (i : ℕ) → i < length l → get_or l' i 0 ≡ garbled (drawn seed (i + 1))

-- The first byte of a line; for an empty one a newline, with which no line begins.
unfoldable pub letter_of : List ℕ → ℕ
letter_of [] = 10
letter_of (b ∷ s) = b
