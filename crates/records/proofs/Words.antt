-- Numbers in little-endian bytes, and the fields of a record as parts of its first word.
use mathlib.Core.Path.{◌≡◌}
use Prim.Native.Nat.{ℕ, ◌+◌, ◌*◌, ◌/◌, ◌%◌, ◌<◌, ◌^◌}
use native.Mathlib.Numerals.{towards_suc}
use native.Mathlib.Omega.{arith}
use lib.ListN.{get_or}
use Rattle.paper_lower.specs.Records.{Bytes, number, decode}
use Rattle.records.specs.Reading.{Decoded}

-- A number of eight bytes, written out as std's `from_le_bytes` gives it.
pub eight : (s : Bytes) (at : ℕ) → number at 8 s ≡ get_or s at 0 + get_or s (at + 1) 0 * 256 + get_or s (at + 2) 0 * 65536 + get_or s (at + 3) 0 * 16777216 + get_or s (at + 4) 0 * 4294967296 + get_or s (at + 5) 0 * 1099511627776 + get_or s (at + 6) 0 * 281474976710656 + get_or s (at + 7) 0 * 72057594037927936
unfolding number
eight s at = simp towards_suc (omega arith)

-- For bytes that are all below 256: the numbers fit their words, and `fields` is the contract of `decode`.
module _ (s : Bytes) (byte : (i : ℕ) → get_or s i 0 < 256) where
  pub eight-small : (at : ℕ) → number at 8 s < 2 ^ 64
  eight-small at = omega (arith, eight s at, byte at, byte (at + 1), byte (at + 2), byte (at + 3), byte (at + 4), byte (at + 5), byte (at + 6), byte (at + 7))

  pub fields : {x m : ℕ} → x ≡ number 0 8 s → m ≡ number 8 8 s
      → Decoded s (record { kind = x % 256; n = x / 256 % 256; a = x / 65536 % 65536; b = x / 4294967296 % 65536; c = x / 281474976710656; m = m })
  unfolding number decode
  fields {x} {m} e f =
      record {
        reads = rw (e, f) (λ i. record { kind = kind i; n = n i; a = a i; b = b i; c = c i; m = number 8 8 s });
        small =
            record
            { kind = omega arith; n = omega arith; a = omega arith; b = omega arith; c = omega (arith, eight-small 0); m = omega (arith, eight-small 8) };
      }
    where
      kind : number 0 8 s % 256 ≡ (decode s).kind
      kind = omega (arith, byte 0, byte 1, byte 2, byte 3, byte 4, byte 5, byte 6, byte 7)

      n : number 0 8 s / 256 % 256 ≡ (decode s).n
      n = omega (arith, byte 0, byte 1, byte 2, byte 3, byte 4, byte 5, byte 6, byte 7)

      a : number 0 8 s / 65536 % 65536 ≡ (decode s).a
      a = omega (arith, byte 0, byte 1, byte 2, byte 3, byte 4, byte 5, byte 6, byte 7)

      b : number 0 8 s / 4294967296 % 65536 ≡ (decode s).b
      b = omega (arith, byte 0, byte 1, byte 2, byte 3, byte 4, byte 5, byte 6, byte 7)

      c : number 0 8 s / 281474976710656 ≡ (decode s).c
      c = omega (arith, byte 0, byte 1, byte 2, byte 3, byte 4, byte 5, byte 6, byte 7)
