-- The fields of a record, from the numbers that were found for its names. If one was not found, there is no record.
use Prim.Native.Nat.{ℕ, ◌/◌, ◌%◌, ◌≤◌, ◌<◌}
use mathlib.Core.Path.{◌≡◌, refl, sym, ap}
use native.Mathlib.Omega.{arith}
use Rattle.std.specs.Prelude.{Option, Some, None}
use borrow.Author.Tests.{lt-ltb, le-ltb}
use Rattle.paper_lower.specs.Lists.{Maybe, lists_open}
use Rattle.paper_lower.specs.Lists.Maybe.{none, just}
use Rattle.opl_names.specs.Table.{found_of}
use Rattle.opl_spaces.specs.Spaces.{limit_of}
use Rattle.opl_spaces.proofs.SpaceLaws.{bounds}
use Rattle.opl_turns.specs.Meaning.{inner_of}
use Rattle.opl_said.specs.Said.{NumberIs}
use Rattle.opl_said.specs.Forms.{Inner, numbers, one_said, two_said, three_said, set_said, partitioning_of, wall_of, FieldsAre}
use Rattle.opl_said.specs.declared.Fields.{Fields}

-- ---- A number that was found, or not found.
module _ {n : ℕ} {x : Maybe ℕ} where
  pub number-none : NumberIs n x None → x ≡ none
  number-none h = sym h.number_is

  pub number-some : {k : ℕ} → NumberIs n x (Some k) → x ≡ just k
  number-some h = sym h.number_is

-- A number that was found fits in a field of a record.
pub number_fits : (i : ℕ) → i < 7 → {x : Maybe ℕ} {k : ℕ} → NumberIs (limit_of i) x (Some k) → k < 65536
number_fits i h number = omega (arith, number.small, (bounds i h).few)

-- ---- The fields.
pub unnamed-are : (want : Option Fields) → want ≡ None → FieldsAre want None
unnamed-are want e = record { fields-are = sym e; fits = tt }

pub one-is : (n a : ℕ) (x : Maybe ℕ) → x ≡ just a → n < 256 → a < 65536 → FieldsAre (one_said n x) (numbers n a 0 0 0)
one-is n a x e h k = record { fields-are = rw e; fits = record { n-fits = h; a-fits = k; b-fits = omega arith; c-fits = omega arith } }

-- More fields for a record with one name, if there is such a record.
pub one-none : (x : Maybe ℕ) → FieldsAre (one_said 0 x) None → x ≡ none
one-none none h = refl
one-none (just a) h = let z = h.fields-are in cc

pub two-of : (x y : Maybe ℕ) (f : Fields) (b : ℕ) → FieldsAre (one_said 0 x) (Some f) → y ≡ just b → b < 65536 →
    FieldsAre (two_said x y) (numbers f.n f.a b f.c f.m)
two-of none y f b h q l = let z = h.fields-are in cc
two-of (just a) y f b h q l =
    let z = h.fields-are in
    let e : f ≡ record { n = 0; a = a; b = 0; c = 0; m = 0 } = cc in
    record {
      fields-are = rw q (ap (λ (g : Fields). numbers g.n g.a b g.c g.m) e);
      fits = record { n-fits = h.fits.n-fits; a-fits = h.fits.a-fits; b-fits = l; c-fits = h.fits.c-fits };
    }

pub counted-of : (n : ℕ) (x : Maybe ℕ) (f : Fields) → n < 256 → FieldsAre (one_said 0 x) (Some f) → FieldsAre (one_said n x) (numbers n f.a f.b f.c f.m)
counted-of n none f l h = let z = h.fields-are in cc
counted-of n (just a) f l h =
    let z = h.fields-are in
    let e : f ≡ record { n = 0; a = a; b = 0; c = 0; m = 0 } = cc in
    record {
      fields-are = ap (λ (g : Fields). numbers n g.a g.b g.c g.m) e;
      fits = record { n-fits = l; a-fits = h.fits.a-fits; b-fits = h.fits.b-fits; c-fits = h.fits.c-fits };
    }

pub three-are : (a b c : ℕ) (x y z : Maybe ℕ) → x ≡ just a → y ≡ just b → z ≡ just c → a < 65536 → b < 65536 → c < 65536 →
    FieldsAre (three_said x y z) (numbers 0 a b c 0)
three-are a b c x y z e f g h k l = record { fields-are = rw (e, f, g); fits = record { n-fits = omega arith; a-fits = h; b-fits = k; c-fits = l } }

module _ (n a : ℕ) (x : Maybe ℕ) where
  pub set-none : found_of None ≡ x → FieldsAre (set_said n (just a) x) None
  set-none is = record { fields-are = rw (← is); fits = tt }

  pub set_is : (m : ℕ) → found_of (Some m) ≡ x → n < 256 → a < 65536 → FieldsAre (set_said n (just a) x) (numbers n a 0 0 m)
  set_is m is h k = record { fields-are = rw (← is); fits = record { n-fits = h; a-fits = k; b-fits = omega arith; c-fits = omega arith } }

module _ (n : ℕ) (x : Maybe ℕ) where
  pub partition-none : 16 ≤ n → FieldsAre (set_said 0 (partitioning_of n) x) None
  partition-none h = record { fields-are = rw (le-ltb n 16 h); fits = tt }

  pub partition-is : n < 16 → (r : Option Fields) → FieldsAre (set_said 0 (just n) x) r → FieldsAre (set_said 0 (partitioning_of n) x) r
  partition-is h r k = rw (lt-ltb n 16 h) k

module _ (n : ℕ) (x : Maybe ℕ) where
  pub wall-none : 256 ≤ n → FieldsAre (three_said (wall_of n) (just (n % 16)) x) None
  wall-none h = record { fields-are = rw (le-ltb n 256 h); fits = tt }

  pub wall-unnamed : n < 256 → x ≡ none → FieldsAre (three_said (wall_of n) (just (n % 16)) x) None
  wall-unnamed h e = record { fields-are = rw (lt-ltb n 256 h, e); fits = tt }

  pub wall-is : (c : ℕ) → n < 256 → x ≡ just c → c < 65536 → FieldsAre (three_said (wall_of n) (just (n % 16)) x) (numbers 0 (n / 16) (n % 16) c 0)
  wall-is c h e k = record {
    fields-are = rw (lt-ltb n 256 h, e);
    fits = record { n-fits = omega arith; a-fits = omega arith; b-fits = omega arith; c-fits = k };
  }

-- ---- The elements that are looked for inside others, and the spaces whose numbers make a set.
pub operation-inner : Inner 15
unfolding lists_open inner_of
operation-inner = refl

pub object-inner : Inner 16
unfolding lists_open inner_of
object-inner = refl

pub role-inner : Inner 25
unfolding lists_open inner_of
role-inner = refl

pub task-inner : Inner 36
unfolding lists_open inner_of
task-inner = refl

pub partition-inner : Inner 40
unfolding lists_open inner_of
partition-inner = refl

pub few-roles : limit_of 1 ≤ 64
unfolding limit_of
few-roles = omega arith

pub few-tasks : limit_of 5 ≤ 64
unfolding limit_of
few-tasks = omega arith
