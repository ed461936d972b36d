-- `encode` gives sixteen bytes, and `decode` reads the same record back from them if each field fits its bytes.
use Prim.Native.Nat.{ℕ, ◌+◌, ◌*◌, ◌/◌, ◌%◌, ◌<◌}
use mathlib.Core.Path.{◌≡◌, refl}
use mathlib.Core.List.{◌∷◌}
use native.Mathlib.Omega.{arith}
use lib.ListN.{length}
use Rattle.paper_lower.specs.Records.{Record, number, decode, bytes, encode}

pub sixteen : (r : Record) → length (encode r) ≡ 16
unfolding encode bytes
sixteen r = refl

two : (a : ℕ) → a < 65536 → a % 256 + 256 * (a / 256 % 256 + 256 * 0) ≡ a
two a h = omega arith

eight : (m : ℕ) → m < 18446744073709551616 → number 8 8 (0 ∷ 0 ∷ 0 ∷ 0 ∷ 0 ∷ 0 ∷ 0 ∷ 0 ∷ bytes 8 m) ≡ m
unfolding number bytes
eight m h = omega arith

pub read_back : (r : Record) → r.a < 65536 → r.b < 65536 → r.c < 65536 → r.m < 18446744073709551616 → decode (encode r) ≡ r
unfolding decode encode bytes number
read_back r ha hb hc hm = λ i. record { kind = r.kind; n = r.n; a = two r.a ha i; b = two r.b hb i; c = two r.c hc i; m = eight r.m hm i }
