-- The classes of values. A number is read digit by digit, and with each further digit it only grows, so the loop may stop when it is above 255.
use mathlib.Core.Path.{◌≡◌, refl, sym}
use mathlib.Core.List.{[], ◌∷◌}
use mathlib.Core.Bool.{Bool, true, false, ◌&&◌}
use Prim.Native.Nat.{ℕ, zero, suc, ◌+◌, ◌*◌, ◌-◌, ◌<◌, ◌≤◌}
use native.Mathlib.Omega.{arith}
use lib.Dec.{eqb, leb, eqb-suc-zero}
use lib.ListN.{length, get_or, drop, drop_of_length-le}
use borrow.Author.Tests.{le-leb, lt-leb, ne_eqb}
use Rattle.paper_lower.specs.Lists.{every}
use Rattle.paper_lower.proofs.ListLaws.{and-false}
use Rattle.paper_opl.specs.Reading.{Text, same}
use Rattle.paper_opl.specs.Elements.Class.{number}
use Rattle.paper_opl.specs.Tree.{digit, decimal, fits}
use Rattle.paper_opl.proofs.Cardinalities.{decimal-grows}
use Rattle.opl_text.proofs.Laws.{drop_here}
use Rattle.opl_table.specs.Numbers.{class_of}

pub empty_is : (v : Text) → same v [] ≡ eqb (length v) 0
unfolding same
empty_is [] = refl
empty_is (b ∷ v) = sym (eqb-suc-zero (length v))

-- The digits t, after others whose value is n, make a number up to 255.
unfoldable pub counts : ℕ → Text → Bool
counts n t = every digit t && leb (decimal n t) 255

pub number_empty : (v : Text) → length v ≡ 0 → fits number v ≡ false
number_empty v e = rw (empty_is v, e)

pub number_some : (v : Text) → (length v ≡ 0 → ⊥) → fits number v ≡ counts 0 v
unfolding counts
number_some v n = rw (empty_is v, ne_eqb (length v) 0 n)

pub count_over : (n : ℕ) (t : Text) → 255 < n → counts n t ≡ false
unfolding counts
count_over n t h =
    let g = decimal-grows n t in
    let l : 255 < decimal n t = omega arith in
    rw (lt-leb (decimal n t) 255 l) (and-false (every digit t))

module _ (v : Text) (n i : ℕ) where
  pub count_end : length v ≤ i → n ≤ 255 → counts n (drop i v) ≡ true
  unfolding counts every decimal
  count_end h l = let e : drop i v ≡ [] = drop_of_length-le v h in rw (e, le-leb n 255 l)

  pub count_not : i < length v → digit (get_or v i 0) ≡ false → counts n (drop i v) ≡ false
  unfolding counts every decimal
  count_not h e = rw (drop_here v i h, e)

  pub count_more : i < length v → digit (get_or v i 0) ≡ true → counts n (drop i v) ≡ counts (10 * n + (get_or v i 0 - 48)) (drop (i + 1) v)
  unfolding counts every decimal
  count_more h e = rw (drop_here v i h, e)

-- The other classes allow any value.
pub fits_any : (k : ℕ) (v : Text) → 2 ≤ k → fits (class_of k) v ≡ true
fits_any zero v h = absurd (omega arith)
fits_any (suc zero) v h = absurd (omega arith)
fits_any (suc (suc zero)) v h = refl
fits_any (suc (suc (suc k))) v h = refl

-- What `is_number` needs.
pub ruleset number_steps = (number_empty, number_some, count_over, count_end, count_not, count_more)
