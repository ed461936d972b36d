-- The number of a name is below the limit of its space; and a cardinality is read digit by digit.
use Prim.Native.Nat.{ℕ, ◌+◌, ◌*◌, ◌-◌, ◌≤◌, ◌<◌}
use mathlib.Core.Path.{◌≡◌, sym, ap, ◌∙◌}
use mathlib.Core.Bool.{Bool, true, false, cond}
use mathlib.Core.List.{List, []}
use native.Mathlib.Omega.{arith}
use Rattle.std.specs.Prelude.{Option, Some, None}
use lib.Dec.{leb}
use lib.ListN.{length, get_or, drop, drop_of_length-le}
use Rattle.paper_lower.specs.Lists.{Maybe, many}
use Rattle.paper_lower.specs.Lists.Maybe.{none}
use Rattle.replies.proofs.RowLaws.{many-rows}
use Rattle.paper_opl.specs.Reading.{Text}
use Rattle.paper_opl.specs.Tree.{decimal}
use Rattle.paper_opl.specs.Naming.{place_of}
use Rattle.paper_opl.proofs.Inversion.{none≢just}
use Rattle.paper_opl.proofs.Cardinalities.{decimal-grows}
use Rattle.opl_text.proofs.Laws.{drop_here}
use Rattle.opl_names.specs.Table.{kept, name_at, names_in, Sound, found_of}
use Rattle.opl_names.proofs.NameLaws.{place-small}
use Rattle.opl_spaces.specs.Spaces.{limit_of, table_of, numbered}
use Rattle.opl_said.specs.Said.{Below, NumberIs}

-- ---- The number of a name.
kept-many : (s : Text) (l : List ℕ) → many (names_in s l) ≡ kept l
unfolding names_in
kept-many s l = many-rows (name_at s l) 0 (kept l)

pub number_in : (s : Text) (i : ℕ) (l : List ℕ) (w : Text) (x : Maybe ℕ) (r : Option ℕ) → Sound s (limit_of i) (table_of i l) → numbered s i l w ≡ x →
    found_of r ≡ numbered s i l w → NumberIs (limit_of i) x r
number_in s i l w x r sound e f = record { number_is = f ∙ e; small = go r (leb (length w) 64) f }
  where
    go : (r : Option ℕ) (b : Bool) → found_of r ≡ cond b (place_of 0 w (names_in s (table_of i l))) none → Below (limit_of i) r
    go (Some k) true q = let h = place-small w 0 k (names_in s (table_of i l)) (sym q) in omega (arith, h, kept-many s (table_of i l), sound.within)
    go (Some k) false q = absurd (none≢just (sym q))
    go None b q = tt

-- ---- Digits.
module _ (v : Text) (n i : ℕ) (left : decimal n (drop i v) ≡ decimal 0 v) where
  pub digits-end : length v ≤ i → n ≡ decimal 0 v
  unfolding decimal
  digits-end h = let e : drop i v ≡ [] = drop_of_length-le v h in sym (ap (decimal n) e) ∙ left

  module _ (h : i < length v) where
    pub digits_more : decimal (10 * n + (get_or v i 0 - 48)) (drop (i + 1) v) ≡ decimal 0 v
    unfolding decimal
    digits_more = sym (ap (decimal n) (drop_here v i h)) ∙ left

    pub digits-small : decimal 0 v ≤ 255 → 10 * n + (get_or v i 0 - 48) ≤ 255
    digits-small l = omega (arith, decimal-grows (10 * n + (get_or v i 0 - 48)) (drop (i + 1) v), digits_more)
