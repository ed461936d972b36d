-- Laws about equal texts, and about the number of a name in a list of names.
use Prim.Native.Nat.{ℕ, zero, suc, ◌+◌, ◌≤◌, ◌<◌}
use mathlib.Core.Path.{◌≡◌, refl, ap, ◌∙◌}
use mathlib.Core.Bool.{Bool, true, false, cond, ◌||◌}
use mathlib.Core.List.{List, [], ◌∷◌}
use native.Mathlib.Nat.{add-zero}
use native.Mathlib.Omega.{arith}
use Rattle.paper_lower.specs.Lists.{there, holds, some, many, add}
use Rattle.paper_lower.specs.Lists.Maybe.{none, just}
use Rattle.replies.specs.Cells.{rows_from}
use Rattle.paper_opl.specs.Reading.{Text, same}
use Rattle.paper_opl.specs.Naming.{place_of}
use Rattle.paper_opl.proofs.Conforms.{same_true}
use Rattle.paper_opl.proofs.TreeBack.{same_self}
use Rattle.opl_text.proofs.Same.{same-swap}
use Rattle.opl_names.specs.Table.{added}

-- ---- Different texts are not `same`.
pub same_not : (v w : Text) → (v ≡ w → ⊥) → same v w ≡ false
same_not v w h = go (same v w) refl
  where
    go : (b : Bool) → same v w ≡ b → same v w ≡ false
    go true e = absurd (h (same_true v w e))
    go false e = e

-- ---- The number of a name.
pub place_none : (f : ℕ → Text) (w : Text) (i k n : ℕ) → ((j : ℕ) → k ≤ j → j < k + n → same (f j) w ≡ false) → place_of i w (rows_from f k n) ≡ none
unfolding place_of rows_from
place_none f w i k zero h = refl
place_none f w i k (suc n) h = rw (h k (omega arith) (omega arith)) (place_none f w (suc i) (suc k) n (λ j a b. h j (omega arith) (omega arith)))

-- A name keeps its number when another name is added.
pub place_kept : (w v : Text) (i j : ℕ) (ws : List Text) → place_of i w ws ≡ just j → place_of i w (add ws v) ≡ just j
unfolding place_of add
place_kept w v i j [] h = let z : ◌≡◌ {A = ℕ} 0 1 = cc in absurd (omega arith)
place_kept w v i j (u ∷ ws) h = go (same u w) h (place_kept w v (suc i) j ws)
  where
    go : (b : Bool) → cond b (just i) (place_of (suc i) w ws) ≡ just j → (place_of (suc i) w ws ≡ just j → place_of (suc i) w (add ws v) ≡ just j) →
        cond b (just i) (place_of (suc i) w (add ws v)) ≡ just j
    go true h rest = h
    go false h rest = rest h

-- A new name gets the next number.
pub place-new : (w : Text) (i : ℕ) (ws : List Text) → place_of i w ws ≡ none → place_of i w (add ws w) ≡ just (i + many ws)
unfolding place_of add many
place-new w i [] h = rw (same_self w, add-zero i)
place-new w i (u ∷ ws) h = go (same u w) h (place-new w (suc i) ws)
  where
    go : (b : Bool) → cond b (just i) (place_of (suc i) w ws) ≡ none → (place_of (suc i) w ws ≡ none → place_of (suc i) w (add ws w) ≡ just (suc i + many ws)) →
        cond b (just i) (place_of (suc i) w (add ws w)) ≡ just (i + suc (many ws))
    go true h rest = let z : ◌≡◌ {A = ℕ} 0 1 = cc in absurd (omega arith)
    go false h rest = let q : suc i + many ws ≡ i + suc (many ws) = omega arith in rest h ∙ ap just q

-- The number of a name is below the number of names.
pub place-small : (w : Text) (i k : ℕ) (ws : List Text) → place_of i w ws ≡ just k → k < i + many ws
unfolding place_of many
place-small w i k [] h = let z : ◌≡◌ {A = ℕ} 0 1 = cc in absurd (omega arith)
place-small w i k (u ∷ ws) h = go (same u w) h (place-small w (suc i) k ws)
  where
    go : (b : Bool) → cond b (just i) (place_of (suc i) w ws) ≡ just k → (place_of (suc i) w ws ≡ just k → k < suc i + many ws) → k < i + suc (many ws)
    go true h rest = let e : i ≡ k = cc in omega arith
    go false h rest = let l = rest h in omega arith

-- A name has a number if and only if it is among the names.
pub place-some : (w : Text) (i : ℕ) (ws : List Text) → some (same w) ws ≡ there (place_of i w ws)
unfolding some place_of holds
place-some w i [] = refl
place-some w i (u ∷ ws) = go (same u w) (same-swap w u) (place-some w (suc i) ws)
  where
    go : (b : Bool) → same w u ≡ b → some (same w) ws ≡ there (place_of (suc i) w ws) →
        same w u || some (same w) ws ≡ there (cond b (just i) (place_of (suc i) w ws))
    go true e rest = rw e
    go false e rest = rw e rest

pub added-there : (w : Text) (ws : List Text) {k : ℕ} → place_of 0 w ws ≡ just k → added w ws ≡ ws
unfolding added holds
added-there w ws h = rw (place-some w 0 ws, h)

pub added_new : (w : Text) (ws : List Text) → place_of 0 w ws ≡ none → added w ws ≡ add ws w
unfolding added holds
added_new w ws h = rw (place-some w 0 ws, h)
