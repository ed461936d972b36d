-- Two texts are compared byte by byte: what `same` says from index i on, in terms of the two bytes there and of index i + 1.
use mathlib.Core.Path.{◌≡◌, refl, sym, ap, ◌∙◌}
use mathlib.Core.List.{[], ◌∷◌}
use mathlib.Core.Bool.{Bool, true, false, ◌&&◌}
use Prim.Native.Nat.{ℕ, suc, ◌+◌, ◌<◌, ◌≤◌}
use lib.Dec.{eqb}
use lib.ListN.{length, get_or, drop, drop_of_length-le}
use borrow.Author.Tests.{eq-eqb, ne_eqb, eqb-true, eqb-false}
use Rattle.paper_opl.specs.Reading.{Text, same}
use Rattle.paper_lower.proofs.ListLaws.{and-false}
use Rattle.opl_text.proofs.Laws.{drop_here}

pub other_length : (v w : Text) → (length v ≡ length w → ⊥) → false ≡ same v w
unfolding same
other_length [] [] n = absurd (n refl)
other_length [] (b ∷ w) n = refl
other_length (c ∷ v) [] n = refl
other_length (c ∷ v) (b ∷ w) n = sym (ap (λ x. eqb c b && x) (sym (other_length v w (λ z. n (ap suc z)))) ∙ and-false (eqb c b))

module _ (v w : Text) (i : ℕ) (h : i < length v) (l : i < length w) where
  pub same_more : get_or v i 0 ≡ get_or w i 0 → same (drop i v) (drop i w) ≡ same (drop (i + 1) v) (drop (i + 1) w)
  unfolding same
  same_more e = rw (drop_here v i h, drop_here w i l, eq-eqb (get_or v i 0) (get_or w i 0) e)

  pub same_not : (get_or v i 0 ≡ get_or w i 0 → ⊥) → false ≡ same (drop i v) (drop i w)
  unfolding same
  same_not n = rw (drop_here v i h, drop_here w i l, ne_eqb (get_or v i 0) (get_or w i 0) n)

pub same_end : (v w : Text) (i : ℕ) → length v ≤ i → length w ≤ i → true ≡ same (drop i v) (drop i w)
unfolding same
same_end v w i h l = let e : drop i v ≡ [] = drop_of_length-le v h in let f : drop i w ≡ [] = drop_of_length-le w l in rw (e, f)

pub same-swap : (v w : Text) → same v w ≡ same w v
unfolding same
same-swap [] [] = refl
same-swap [] (b ∷ w) = refl
same-swap (c ∷ v) [] = refl
same-swap (c ∷ v) (b ∷ w) = go (eqb c b) refl (same-swap v w)
  where
    go : (d : Bool) → eqb c b ≡ d → same v w ≡ same w v → d && same v w ≡ eqb b c && same w v
    go true q h = rw (eq-eqb b c (sym (eqb-true c b q))) h
    go false q h = rw (ne_eqb b c (λ (z : b ≡ c). eqb-false c b q (sym z)))
