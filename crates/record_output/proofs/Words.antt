-- Laws of bytes written to an output: a word byte by byte, a record as two words.
use mathlib.Core.Path.{◌≡◌, refl, sym, ap, ◌∙◌}
use mathlib.Core.List.{[], ◌∷◌, ◌++◌, append_assoc}
use Prim.Native.Nat.{ℕ, zero, suc, ◌+◌, ◌-◌, ◌*◌, ◌/◌, ◌%◌, ◌<◌, ◌≤◌}
use native.Mathlib.Omega.{arith}
use lib.ListN.{length, take, drop, set, length-append, take-append-drop}
use lib.Seq.{take-suc-set, drop-set-lt, take_at, drop_at, drop-drop, length-take-le}
use Rattle.paper_lower.specs.Records.{Bytes, bytes, encode, put_at}
use Rattle.record_output.specs.Output.{laid, two_words, low_word, a_record_of, Fits}

-- The eight bytes of a word, written out as std's `to_le_bytes` gives them.
pub word-bytes : (x : ℕ) → bytes 8 x ≡ x % 256 ∷ x / 256 % 256 ∷ x / 65536 % 256 ∷ x / 16777216 % 256 ∷ x / 4294967296 % 256 ∷ x / 1099511627776 % 256 ∷ x / 281474976710656 % 256 ∷ x / 72057594037927936 % 256 ∷ []
unfolding bytes
word-bytes x =
    let b : x / 256 / 256 ≡ x / 65536 = omega arith in
    let c : x / 65536 / 256 ≡ x / 16777216 = omega arith in
    let d : x / 16777216 / 256 ≡ x / 4294967296 = omega arith in
    let e : x / 4294967296 / 256 ≡ x / 1099511627776 = omega arith in
    let f : x / 1099511627776 / 256 ≡ x / 281474976710656 = omega arith in
    let g : x / 281474976710656 / 256 ≡ x / 72057594037927936 = omega arith in
    rw (b, c, d, e, f, g) refl

bytes-length : (k x : ℕ) → length (bytes k x) ≡ k
unfolding bytes
bytes-length zero x = refl
bytes-length (suc k) x = ap suc (bytes-length k (x / 256))

laid-twice : (out : Bytes) (p x y : ℕ) → p + 16 ≤ length out → laid (laid out p 8 x) (p + 8) 8 y ≡ take p out ++ ((bytes 8 x ++ bytes 8 y) ++ drop (p + 16) out)
unfolding laid
laid-twice out p x y h =
    let w = append_assoc (take p out) (bytes 8 x) (drop (p + 8) out) in
    let a = length-append (take p out) (bytes 8 x) in
    let b = bytes-length 8 x in
    let c = length-take-le p out (omega arith) in
    let l : length (take p out ++ bytes 8 x) ≡ p + 8 = omega arith in
    let t : take (p + 8) (take p out ++ (bytes 8 x ++ drop (p + 8) out)) ≡ take p out ++ bytes 8 x =
    ap (take (p + 8)) (sym w) ∙ take_at (take p out ++ bytes 8 x) (drop (p + 8) out) (p + 8) l in
    let u : drop (p + 8) (take p out ++ (bytes 8 x ++ drop (p + 8) out)) ≡ drop (p + 8) out =
    ap (drop (p + 8)) (sym w) ∙ drop_at (take p out ++ bytes 8 x) (drop (p + 8) out) (p + 8) l in
    let z : p + 8 + 8 ≡ p + 16 = omega arith in
    let v : drop (p + 8 + 8) (take p out ++ (bytes 8 x ++ drop (p + 8) out)) ≡ drop (p + 16) out =
    sym (drop-drop 8 (p + 8) (take p out ++ (bytes 8 x ++ drop (p + 8) out))) ∙ ap (drop 8) u ∙ drop-drop 8 (p + 8) out ∙ ap (λ (n : ℕ). drop n out) z in
    rw (t, v) (append_assoc (take p out) (bytes 8 x) (bytes 8 y ++ drop (p + 16) out) ∙
    ap (λ (s : Bytes). take p out ++ s) (sym (append_assoc (bytes 8 x) (bytes 8 y) (drop (p + 16) out))))

-- The bytes of a number whose lowest byte is lo, and of one whose lowest two bytes are lo.
low_byte : (k lo hi : ℕ) → lo < 256 → bytes (suc k) (lo + 256 * hi) ≡ lo ∷ bytes k hi
unfolding bytes
low_byte k lo hi h =
    let a : (lo + 256 * hi) % 256 ≡ lo = omega arith in
    let b : (lo + 256 * hi) / 256 ≡ hi = omega arith in
    rw (a, b)

low_field : (k lo hi : ℕ) → lo < 65536 → bytes (suc (suc k)) (lo + 65536 * hi) ≡ bytes 2 lo ++ bytes k hi
unfolding bytes
low_field k lo hi h =
    let a : (lo + 65536 * hi) % 256 ≡ lo % 256 = omega arith in
    let q : (lo + 65536 * hi) / 256 ≡ lo / 256 + 256 * hi = omega arith in
    rw (a, q) (second (lo / 256) (omega arith))
  where
    second : (y : ℕ) → y < 256 → lo % 256 ∷ (y + 256 * hi) % 256 ∷ bytes k ((y + 256 * hi) / 256) ≡ lo % 256 ∷ y % 256 ∷ bytes k hi
    second y l =
        let b : (y + 256 * hi) % 256 ≡ y % 256 = omega arith in
        let c : (y + 256 * hi) / 256 ≡ hi = omega arith in
        rw (b, c)

fields : (kind n a b c : ℕ) → kind < 256 → n < 256 → a < 65536 → b < 65536 → c < 65536
    → bytes 8 (kind + 256 * n + 65536 * a + 4294967296 * b + 281474976710656 * c) ≡ kind ∷ n ∷ bytes 2 a ++ bytes 2 b ++ bytes 2 c
fields kind n a b c h i j k l =
    let x : kind + 256 * n + 65536 * a + 4294967296 * b + 281474976710656 * c ≡ kind + 256 * (n + 256 * (a + 65536 * (b + 65536 * c))) = omega arith in
    ap (bytes 8) x ∙ low_byte 7 kind (n + 256 * (a + 65536 * (b + 65536 * c))) h
    ∙ ap (λ (s : Bytes). kind ∷ s) (low_byte 6 n (a + 65536 * (b + 65536 * c)) i)
    ∙ ap (λ (s : Bytes). kind ∷ n ∷ s)
    (low_field 4 a (b + 65536 * c) j ∙ ap (λ (s : Bytes). bytes 2 a ++ s) (low_field 2 b c k) ∙ sym (append_assoc (bytes 2 a) (bytes 2 b) (bytes 2 c)))

-- Two words written one after the other are the record's sixteen bytes.
pub two-laid : (out : Bytes) (place low high : ℕ) → 16 * place + 16 ≤ length out →
    laid (laid out (16 * place) 8 low) (16 * place + 8) 8 high ≡ two_words out place low high
unfolding two_words
two-laid out place low high h = laid-twice out (16 * place) low high h

pub words-put : (out : Bytes) (place kind n a b c m : ℕ) → kind < 256 → n < 256 → a < 65536 → b < 65536 → c < 65536
    → two_words out place (low_word kind n a b c) m ≡ put_at out place (a_record_of kind n a b c m)
unfolding put_at encode two_words
words-put out place kind n a b c m h i j k l =
    ap (λ (s : Bytes). take (16 * place) out ++ ((s ++ bytes 8 m) ++ drop (16 * place + 16) out)) (fields kind n a b c h i j k l)

pub put_is : (out : Bytes) (place kind n a b c m : ℕ) → Fits out place kind n a b c →
    two_words out place (low_word kind n a b c) m ≡ put_at out place (a_record_of kind n a b c m)
put_is out place kind n a b c m f = words-put out place kind n a b c m f.kind_fits f.n-fits f.a-fits f.b-fits f.c-fits

-- ---- The loop of `write_word`: a turn keeps its invariant, which holds at the start and gives the result at the end.
