-- An output with some bytes replaced, and the condition that a record fits.
use Rattle.std.specs.Prelude.{ℕ, ◌+◌, ◌*◌, ◌<◌, ◌≤◌, ◌++◌, length, take, drop}
use Rattle.paper_lower.specs.Records.{Bytes, Record, bytes}

-- The output with the k bytes from index `at` on replaced by those of x, the lowest first.
unfoldable pub laid : Bytes → ℕ → ℕ → ℕ → Bytes
laid out at k x = take at out ++ (bytes k x ++ drop (at + k) out)

-- The output with the sixteen bytes of the record at index `place` replaced by two words.
unfoldable pub two_words : Bytes → ℕ → ℕ → ℕ → Bytes
two_words out place low high = take (16 * place) out ++ ((bytes 8 low ++ bytes 8 high) ++ drop (16 * place + 16) out)

-- The first word of a record. The second word is m.
abbrev pub low_word : ℕ → ℕ → ℕ → ℕ → ℕ → ℕ
low_word kind n a b c = kind + 256 * n + 65536 * a + 4294967296 * b + 281474976710656 * c

-- The record with these fields.
abbrev pub a_record_of : ℕ → ℕ → ℕ → ℕ → ℕ → ℕ → Record
a_record_of kind n a b c m = record { kind = kind; n = n; a = a; b = b; c = c; m = m }

-- The output has room for the record at index `place`, and every field fits its width.
pub record Fits (out : Bytes) (place kind n a b c : ℕ) : Type 0 where
  pub room : 16 * place + 16 ≤ length out
  pub kind_fits : kind < 256
  pub n-fits : n < 256
  pub a-fits : a < 65536
  pub b-fits : b < 65536
  pub c-fits : c < 65536
