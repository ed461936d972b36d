-- A hash table of names in words: the number of names kept, and then three words for each k below its capacity n. They are the newest number in bucket k plus
-- one; the place of name k in the text; and a word that packs the rest of name k. No word needs clearing: names from the kept number on are not read, and the
-- word of a bucket counts only if it is a kept number of that bucket.
use Rattle.std.specs.Prelude.{ℕ, zero, suc, ◌+◌, ◌*◌, ◌-◌, ◌/◌, ◌%◌, ◌≤◌, ◌<◌, Bool, cond, List, [], ◌∷◌, ◌≡◌, eqb, ltb, length, get_or, set, take, drop, Option, Some, None}
use Rattle.paper_lower.specs.Lists.{Maybe, add, some}
use Rattle.paper_lower.specs.Lists.Maybe.{none, just}
use Rattle.replies.specs.Cells.{rows}
use Rattle.paper_opl.specs.Reading.{Text, same}
use Rattle.paper_opl.specs.Tree.{if-found}
use Rattle.paper_opl.specs.Naming.{place_of}

-- ---- The mark of a name is a hash of 40 bits, computed from four bytes at a time and then the rest. Its bucket among n is taken from the high bits, which
-- depend on all bytes.

-- One round of the hash.
unfoldable pub turned : ℕ → ℕ → ℕ
turned h x = (h + x) * 10368889 % 1099511627776

-- Four bytes from i on, as one number.
unfoldable pub quad_at : Text → ℕ → ℕ
quad_at s i = 16777216 * get_or s i 0 + 65536 * get_or s (i + 1) 0 + 256 * get_or s (i + 2) 0 + get_or s (i + 3) 0

-- The hash of the first 4 * k bytes.
unfoldable pub mark_to : Text → ℕ → ℕ
mark_to s zero = 0
mark_to s (suc k) = turned (mark_to s k) (quad_at s (4 * k))

-- The remaining bytes as one number, after those that gave x.
unfoldable pub rest_from : ℕ → Text → ℕ
rest_from x [] = x
rest_from x (b ∷ s) = rest_from ((256 * x + b) % 4294967296) s

-- The mark of a name.
unfoldable pub mark_of : Text → ℕ
mark_of s = turned (mark_to s (length s / 4)) (rest_from 0 (drop (4 * (length s / 4)) s))

-- The bucket of a mark, of n buckets.
unfoldable pub bucket_of : ℕ → ℕ → ℕ
bucket_of n m = m / 16777216 % n

-- ---- The words.

-- The number of names kept.
abbrev pub kept : List ℕ → ℕ
kept l = get_or l 0 0

-- The first word of a row: for bucket h.
abbrev pub head_word : List ℕ → ℕ → ℕ
head_word l h = get_or l (1 + 3 * h) 0

-- The second word of a row: the place of name k in the text.
abbrev pub place_at : List ℕ → ℕ → ℕ
place_at l k = get_or l (2 + 3 * k) 0

-- The third word of a row: the packed rest of name k.
abbrev pub word_at : List ℕ → ℕ → ℕ
word_at l k = get_or l (3 + 3 * k) 0

-- The length of a name: bits 0 to 6 of its packed word.
abbrev pub size_within : ℕ → ℕ
size_within w = w % 128

-- The next older number in the same bucket plus one, or 0: bits 7 to 23.
abbrev pub link_in : ℕ → ℕ
link_in w = w / 128 % 131072

-- The mark: bits 24 to 63.
abbrev pub mark_in : ℕ → ℕ
mark_in w = w / 16777216

-- The packed word of these three.
abbrev pub packed : ℕ → ℕ → ℕ → ℕ
packed size link mark = size + 128 * link + 16777216 * mark

-- ---- The names, in the order of their numbers.

-- Name k.
unfoldable pub name_at : Text → List ℕ → ℕ → Text
name_at s l k = take (size_within (word_at l k)) (drop (place_at l k) s)

-- All names kept.
unfoldable pub names_in : Text → List ℕ → List Text
names_in s l = rows (name_at s l) (kept l)

-- ---- The buckets.

-- The bucket of name k.
abbrev pub bucket_at : ℕ → List ℕ → ℕ → ℕ
bucket_at n l k = bucket_of n (mark_in (word_at l k))

-- Whether name k is in bucket h.
abbrev pub in_bucket : ℕ → List ℕ → ℕ → ℕ → Bool
in_bucket n l h k = eqb (bucket_at n l k) h

-- The last number below k with the property, plus one; 0 if there is none.
unfoldable pub last_below : (ℕ → Bool) → ℕ → ℕ
last_below p zero = 0
last_below p (suc k) = cond (p k) (suc k) (last_below p k)

-- The newest number in bucket h plus one, or 0. A word that is no kept number of this bucket counts as 0.
unfoldable pub start_of : ℕ → List ℕ → ℕ → ℕ
start_of n l h =
    cond (eqb (head_word l h) 0) 0
    (cond (ltb (kept l) (head_word l h)) 0
    (cond (in_bucket n l h (head_word l h - 1)) (head_word l h) 0))

-- ---- A consistent table: each kept number is that of its name, each bucket begins with its newest number, and each number leads to the next older one of its
-- bucket.
pub record Sound (s : Text) (n : ℕ) (l : List ℕ) : Type 0 where
  pub some : 0 < n
  pub few : n ≤ 65536
  pub room : length l ≡ 1 + 3 * n
  pub within : kept l ≤ n
  pub inside : (k : ℕ) → k < kept l → place_at l k + size_within (word_at l k) ≤ length s
  pub marks : (k : ℕ) → k < kept l → mark_in (word_at l k) ≡ mark_of (name_at s l k)
  pub firsts : (k : ℕ) → k < kept l → place_of 0 (name_at s l k) (names_in s l) ≡ just k
  pub starts : (h : ℕ) → h < n → start_of n l h ≡ last_below (in_bucket n l h) (kept l)
  pub links : (k : ℕ) → k < kept l → link_in (word_at l k) ≡ last_below (in_bucket n l (bucket_at n l k)) k

-- ---- Results.

-- The result of a lookup.
abbrev pub found_of : Option ℕ → Maybe ℕ
found_of (Some k) = just k
found_of None = none

-- The names, with this one at their end if it is not among them.
unfoldable pub added : Text → List Text → List Text
added w ws = cond (some (same w) ws) ws (add ws w)

-- A number, if it is below n.
abbrev pub below : ℕ → Maybe ℕ → Maybe ℕ
below n x = if-found x none (λ k. cond (ltb k n) (just k) none)

-- The contract of `empty`: no names, for any text.
pub record Emptied (n : ℕ) (l : List ℕ) : Type 0 where
  pub sound : (s : Text) → Sound s n l
  pub empty : (s : Text) → names_in s l ≡ []

-- The contract of `declare`: the name's number, if the table has room for it, and the names afterwards.
pub record Declares (s : Text) (n : ℕ) (w : Text) (l l' : List ℕ) (r : Option ℕ) : Type 0 where
  pub sound : Sound s n l'
  pub number : found_of r ≡ below n (place_of 0 w (added w (names_in s l)))
  pub names : names_in s l' ≡ if-found (found_of r) (names_in s l) (λ _. added w (names_in s l))

-- The words after adding a name as the next number, in bucket h.
abbrev pub with_name : List ℕ → ℕ → ℕ → ℕ → List ℕ
with_name l h at w =
    set (set (set (set l (2 + 3 * kept l) at) (3 + 3 * kept l) w) (1 + 3 * h) (kept l + 1)) 0 (kept l + 1)
