-- Writing records to an output one after the other. Records for which the output has no room are left out.
use Rattle.std.specs.Prelude.{ℕ, suc, ◌+◌, ◌*◌, ◌<◌, ◌≤◌, cond, List, [], ◌∷◌, ◌≡◌, leb, length}
use Rattle.paper_lower.specs.Lists.{many}
use Rattle.paper_lower.specs.Records.{Bytes, Record, put_at}

-- The output with the record r at index `place`, if there is room for it.
unfoldable pub laid_at : Bytes → ℕ → Record → Bytes
laid_at out place r = cond (leb (16 * suc place) (length out)) (put_at out place r) out

-- The output with the records from index `place` on.
unfoldable pub laid_from : Bytes → ℕ → List Record → Bytes
laid_from out place [] = out
laid_from out place (r ∷ rs) = laid_from (laid_at out place r) (suc place) rs

-- These records, at most `most` of them, were written from index `place` on, and the next index is `next`.
pub record Laid (rs : List Record) (most : ℕ) (out out' : Bytes) (place next : ℕ) : Type 0 where
  pub places : next ≡ place + many rs
  pub few : next ≤ place + most
  pub bytes : out' ≡ laid_from out place rs

-- Every field of the record fits its width.
pub record Whole (kind n a b c : ℕ) : Type 0 where
  pub kind_fits : kind < 256
  pub n-fits : n < 256
  pub a-fits : a < 65536
  pub b-fits : b < 65536
  pub c-fits : c < 65536

-- A bound on indices that keeps all sums and products of the code far below 2^64.
abbrev pub far : ℕ
far = 4294967296
