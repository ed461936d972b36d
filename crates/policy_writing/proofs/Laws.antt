-- Laws of `Laid`, records written one after the other: no record, one record, two lists of records, a loop over rows, and the bytes of all records.
use Prim.Native.Nat.{ℕ, suc, ◌+◌, ◌*◌, ◌/◌, ◌%◌, ◌≤◌, ◌<◌}
use mathlib.Core.Bool.{Bool, true, false, cond}
use mathlib.Core.List.{List, [], ◌∷◌, ◌++◌, append_assoc}
use mathlib.Core.Path.{◌≡◌, refl, sym, ap, ◌∙◌, subst}
use native.Mathlib.Nat.{add-zero}
use native.Mathlib.Numerals.{add-one}
use native.Mathlib.Omega.{arith}
use borrow.Author.Tests.{le-leb, lt-leb}
use lib.Dec.{leb}
use lib.ListN.{length, take, drop, length-append, length-drop, take-append-drop}
use lib.Seq.{take_at, drop_at, drop-drop, length-take-le}
use Rattle.paper_lower.specs.Lists.{many, each}
use Rattle.paper_lower.specs.Records.{Bytes, Record, bytes, encode, put_at}
use Rattle.paper_lower.specs.Words.{joined}
use Rattle.paper_lower.specs.Written.{in_turn, when, row}
use Rattle.paper_lower.proofs.ReadBack.{sixteen}
use Rattle.policy_writing.specs.Laying.{laid_at, laid_from, Laid}

-- ---- One record if t holds: it is absent, or the output has no room for it, or it is written.
module _ (r : Record) (out : Bytes) (place : ℕ) where
  pub absent : (t : Bool) → t ≡ false → Laid (when t r) 1 out out place place
  unfolding when many laid_from
  absent t e = rw e (record { places = sym (add-zero place); few = omega arith; bytes = refl })

  pub no_room : (t : Bool) → t ≡ true → length out < 16 * (place + 1) → Laid (when t r) 1 out out place (place + 1)
  unfolding when many laid_from laid_at
  no_room t e h = rw e (record { places = refl; few = omega arith; bytes = rw (lt-leb (16 * suc place) (length out) (omega arith)) })

  pub present : (t : Bool) (out' : Bytes) → t ≡ true → 16 * (place + 1) ≤ length out → out' ≡ put_at out place r → Laid (when t r) 1 out out' place (place + 1)
  unfolding when many laid_from laid_at
  present t out' e h q = rw e (record { places = refl; few = omega arith; bytes = rw (le-leb (16 * suc place) (length out) (omega arith)) q })

pub nothing : (out : Bytes) (place : ℕ) → Laid [] 0 out out place place
unfolding many laid_from
nothing out place = record { places = sym (add-zero place); few = omega arith; bytes = refl }

-- ---- Two lists of records, one after the other.
many-append : (rs ss : List Record) → many (rs ++ ss) ≡ many rs + many ss
unfolding many
many-append [] ss = omega arith
many-append (r ∷ rs) ss = let e = many-append rs ss in omega arith

laid-append : (rs ss : List Record) (out : Bytes) (place : ℕ) → laid_from out place (rs ++ ss) ≡ laid_from (laid_from out place rs) (place + many rs) ss
unfolding laid_from many
laid-append [] ss out place = rw (add-zero place)
laid-append (r ∷ rs) ss out place =
    let e : suc place + many rs ≡ place + suc (many rs) = omega arith in
    laid-append rs ss (laid_at out place r) (suc place) ∙ rw e

pub weaker : {rs : List Record} {k most : ℕ} {out out' : Bytes} {place next : ℕ} → Laid rs k out out' place next → k ≤ most → Laid rs most out out' place next
weaker l h = record { places = l.places; few = omega (arith, l.few); bytes = l.bytes }

pub as_row : {rs ss : List Record} {k : ℕ} (most : ℕ) {out out' : Bytes} {place next : ℕ} → Laid ss k out out' place next → ss ≡ rs → k ≤ most →
    Laid rs most out out' place next
as_row {rs} {ss} {k} most {out} {out'} {place} {next} l e h = weaker (subst (λ (xs : List Record). Laid xs k out out' place next) e l) h

-- ---- Records with the same bytes. The field c has two bytes, so that only its remainder by 65536 is written.
pub same_bytes : {r q : Record} {k : ℕ} {out out' : Bytes} {place next : ℕ} → Laid (r ∷ []) k out out' place next → encode r ≡ encode q →
    Laid (q ∷ []) k out out' place next
unfolding many laid_from laid_at put_at
same_bytes {r} {q} {k} {out} {out'} {place} l e =
    record {
      places = l.places;
      few = l.few;
      bytes = l.bytes ∙ ap (λ (s : Bytes). cond (leb (16 * suc place) (length out)) (take (16 * place) out ++ (s ++ drop (16 * place + 16) out)) out) e;
    }

pub cut-third : (kind n a b c m : ℕ) → encode (row kind n a b (c % 65536) m) ≡ encode (row kind n a b c m)
unfolding encode bytes
cut-third kind n a b c m =
    let low : c % 65536 % 256 ≡ c % 256 = omega arith in
    let split : c / 256 ≡ c % 65536 / 256 + 256 * (c / 65536) = omega arith in
    let high : (c % 65536 / 256 + 256 * (c / 65536)) % 256 ≡ c % 65536 / 256 % 256 = omega arith in
    rw (low, split, high)

-- ---- A loop over rows: its start and one turn.
pub begins : (f : ℕ → List Record) (out : Bytes) (place : ℕ) → Laid (in_turn 0 f) 0 out out place place
unfolding in_turn
begins f out place = nothing out place

pub turns : (f : ℕ → List Record) (i : ℕ) {k w most : ℕ} {out₀ out out' : Bytes} {place₀ place next : ℕ}
    → Laid (in_turn i f) k out₀ out place₀ place → Laid (f i) w out out' place next → k + w ≤ most → Laid (in_turn (i + 1) f) most out₀ out' place₀ next
unfolding in_turn
turns f i {k} {w} {most} {out₀} {out} {out'} {place₀} {place} {next} a b h =
    rw (add-one i)
    (record {
      places =
          b.places ∙
          rw (a.places, many-append (in_turn i f) (f i))
          (let e : place₀ + many (in_turn i f) + many (f i) ≡ place₀ + (many (in_turn i f) + many (f i)) = omega arith in e);
      few = omega (arith, a.few, b.few);
      bytes = b.bytes ∙ rw (a.places, a.bytes) (sym (laid-append (in_turn i f) (f i) out₀ place₀));
    })

-- ---- All records, if there is room: the output has their bytes, and after them what it had before.
pub joined_length : (rs : List Record) → length (joined (each encode rs)) ≡ 16 * many rs
unfolding joined each many
joined_length [] = refl
joined_length (r ∷ rs) = omega (arith, length-append (encode r) (joined (each encode rs)), sixteen r, joined_length rs)

module _ (out : Bytes) (p : ℕ) (r : Record) (h : 16 * suc p ≤ length out) where
  front : length (take (16 * p) out ++ encode r) ≡ 16 * suc p
  front =
      let a = length-append (take (16 * p) out) (encode r) in
      let b = length-take-le (16 * p) out (omega arith) in
      let c = sixteen r in
      omega arith

  apart : put_at out p r ≡ (take (16 * p) out ++ encode r) ++ drop (16 * suc p) out
  unfolding put_at
  apart = let e : 16 * p + 16 ≡ 16 * suc p = omega arith in rw e (sym (append_assoc (take (16 * p) out) (encode r) (drop (16 * suc p) out)))

  put_front : take (16 * suc p) (put_at out p r) ≡ take (16 * p) out ++ encode r
  put_front = ap (take (16 * suc p)) apart ∙ take_at (take (16 * p) out ++ encode r) (drop (16 * suc p) out) (16 * suc p) front

  put-behind : drop (16 * suc p) (put_at out p r) ≡ drop (16 * suc p) out
  put-behind = ap (drop (16 * suc p)) apart ∙ drop_at (take (16 * p) out ++ encode r) (drop (16 * suc p) out) (16 * suc p) front

  put-further : (n : ℕ) → drop (16 * (suc p + n)) (put_at out p r) ≡ drop (16 * (suc p + n)) out
  put-further n =
      let e : 16 * (suc p + n) ≡ 16 * suc p + 16 * n = omega arith in
      rw e (sym (drop-drop (16 * n) (16 * suc p) (put_at out p r)) ∙ ap (drop (16 * n)) put-behind ∙ drop-drop (16 * n) (16 * suc p) out)

  put-length : length (put_at out p r) ≡ length out
  put-length =
      let a = length-append (take (16 * p) out ++ encode r) (drop (16 * suc p) out) in
      let b = length-drop (16 * suc p) out in
      let c = front in
      let d = ap length apart in
      omega arith

laid-all : (rs : List Record) (out : Bytes) (p : ℕ) → 16 * (p + many rs) ≤ length out →
    laid_from out p rs ≡ take (16 * p) out ++ (joined (each encode rs) ++ drop (16 * (p + many rs)) out)
unfolding laid_from laid_at many joined each
laid-all [] out p h = rw (add-zero p) (sym (take-append-drop (16 * p) out))
laid-all (r ∷ rs) out p h =
    let room : 16 * suc p ≤ length out = omega arith in
    let s : suc p + many rs ≡ p + suc (many rs) = omega arith in
    let left = put-length out p r room in
    ap (λ t. laid_from (cond t (put_at out p r) out) (suc p) rs) (le-leb (16 * suc p) (length out) room)
    ∙ laid-all rs (put_at out p r) (suc p) (omega arith)
    ∙ rw (put_front out p r room, put-further out p r room (many rs), s)
    (append_assoc (take (16 * p) out) (encode r) (joined (each encode rs) ++ drop (16 * (p + suc (many rs))) out)
    ∙ ap (λ (x : Bytes). take (16 * p) out ++ x) (sym (append_assoc (encode r) (joined (each encode rs)) (drop (16 * (p + suc (many rs))) out))))

pub filled : (rs : List Record) (out : Bytes) → 16 * many rs ≤ length out → laid_from out 0 rs ≡ joined (each encode rs) ++ drop (16 * many rs) out
filled rs out h = let e : 0 + many rs ≡ many rs = omega arith in laid-all rs out 0 (omega arith) ∙ rw e
