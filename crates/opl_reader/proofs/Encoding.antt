-- A value is the encoding if its five characters, as capitals, are "UTF-8".
use mathlib.Core.Path.{◌≡◌, refl, sym, ap, ◌∙◌}
use mathlib.Core.List.{[], ◌∷◌}
use mathlib.Core.Bool.{Bool, true, false, ◌&&◌}
use Prim.Native.Nat.{suc}
use native.Mathlib.Omega.{arith}
use lib.Dec.{eqb}
use lib.ListN.{length, get_or}
use Rattle.paper_lower.specs.Lists.{each}
use Rattle.paper_opl.specs.Reading.{Text, text, same}
use Rattle.paper_opl.specs.Tree.{capital, is_encoding}
use Rattle.opl_text.proofs.Same.{other_length}

as_many : (v : Text) → length (each capital v) ≡ length v
unfolding each
as_many [] = refl
as_many (b ∷ v) = ap suc (as_many v)

pub encoding_not : (v : Text) → (length v ≡ 5 → ⊥) → is_encoding v ≡ false
unfolding text
encoding_not v n = sym (other_length (each capital v) (text "UTF-8") (λ (z : length (each capital v) ≡ 5). let h = as_many v in n (omega arith)))

regroup : (a b c d e : Bool) → (((a && b) && c) && d) && e ≡ a && (b && (c && (d && (e && true))))
regroup false b c d e = refl
regroup true false c d e = refl
regroup true true false d e = refl
regroup true true true false e = refl
regroup true true true true false = refl
regroup true true true true true = refl

five : (v : Text) → length v ≡ 5
    → eqb (capital (get_or v 0 0)) 85 &&
    (eqb (capital (get_or v 1 0)) 84 && (eqb (capital (get_or v 2 0)) 70 && (eqb (capital (get_or v 3 0)) 45 && (eqb (capital (get_or v 4 0)) 56 && true)))) ≡
    is_encoding v
unfolding each same text
five [] h = absurd (omega arith)
five (a ∷ []) h = absurd (omega arith)
five (a ∷ b ∷ []) h = absurd (omega arith)
five (a ∷ b ∷ c ∷ []) h = absurd (omega arith)
five (a ∷ b ∷ c ∷ d ∷ []) h = absurd (omega arith)
five (a ∷ b ∷ c ∷ d ∷ e ∷ []) h = refl
five (a ∷ b ∷ c ∷ d ∷ e ∷ f ∷ v) h = absurd (omega arith)

pub encoding_is : (v : Text) → length v ≡ 5 → is_encoding v
    ≡ (((eqb (capital (get_or v 0 0)) 85 && eqb (capital (get_or v 1 0)) 84) && eqb (capital (get_or v 2 0)) 70) && eqb (capital (get_or v 3 0)) 45)
    && eqb (capital (get_or v 4 0)) 56
encoding_is v h =
    sym (regroup (eqb (capital (get_or v 0 0)) 85) (eqb (capital (get_or v 1 0)) 84) (eqb (capital (get_or v 2 0)) 70) (eqb (capital (get_or v 3 0)) 45)
    (eqb (capital (get_or v 4 0)) 56) ∙ five v h)
