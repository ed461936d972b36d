-- Case analysis: on what was read, on a test, on an optional value. Each law hands the equation of the case to what follows, which uses it by `rw`.
use mathlib.Core.Path.{◌≡◌, refl, ap}
use mathlib.Core.Bool.{Bool, true, false, false≢true}
use Rattle.paper_lower.specs.Lists.{Maybe}
use Rattle.paper_lower.specs.Lists.Maybe.{none, just}
use Rattle.paper_opl.specs.Reading.{Text, Read}
use Rattle.paper_opl.specs.Reading.Read.{got, bad}

pub on : {A R : Type 0} (x : Read A) → ((v : A) (r : Text) → x ≡ got v r → R) → ((r : Text) → x ≡ bad r → R) → R
on (got v r) f g = f v r refl
on (bad r) f g = g r refl

pub on_test : {R : Type 0} (c : Bool) → (c ≡ true → R) → (c ≡ false → R) → R
on_test true f g = f refl
on_test false f g = g refl

pub on-found : {A R : Type 0} (x : Maybe A) → ((v : A) → x ≡ just v → R) → (x ≡ none → R) → R
on-found (just v) f g = f v refl
on-found none f g = g refl

is_got : {A : Type 0} → Read A → Bool
is_got (got x s) = true
is_got (bad s) = false

pub rest : {A : Type 0} → Read A → Text
rest (got x s) = s
rest (bad s) = s

pub bad≢got : {A : Type 0} {x : A} {s r : Text} → bad s ≡ got x r → ⊥
unfolding is_got
bad≢got e = false≢true (ap is_got e)

-- If two results are equal, the rests of the text and the values are equal.
pub got-rest : {A : Type 0} {x y : A} {s r : Text} → got x s ≡ got y r → s ≡ r
unfolding rest
got-rest e = ap rest e

pub got-value : {A : Type 0} {x y : A} {s r : Text} → got x s ≡ got y r → x ≡ y
got-value {x} {y} e = ap (value x) e
  where
    value : {A : Type 0} → A → Read A → A
    value z (got v r) = v
    value z (bad r) = z

pub none≢just : {A : Type 0} {x : A} → none ≡ just x → ⊥
none≢just e = false≢true (ap there e)
  where
    there : {A : Type 0} → Maybe A → Bool
    there none = false
    there (just x) = true

pub just-value : {A : Type 0} {x y : A} → just x ≡ just y → x ≡ y
just-value {x} e = ap (value x) e
  where
    value : {A : Type 0} → A → Maybe A → A
    value z none = z
    value z (just v) = v
