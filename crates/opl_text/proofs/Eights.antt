-- Reading and comparing eight bytes at a time: if a test holds for eight bytes, the definitions `behind` and `same` may go on after them.
use Prim.Native.Nat.{ℕ, ◌+◌, ◌≤◌, ◌<◌}
use mathlib.Core.Path.{◌≡◌, refl, sym, ap, ◌∙◌}
use mathlib.Core.Bool.{Bool, true, ◌&&◌}
use native.Mathlib.Omega.{arith}
use lib.Dec.{eqb}
use lib.ListN.{length, get_or, drop}
use borrow.Author.Tests.{eqb-true}
use Rattle.paper_lower.proofs.ListLaws.{both}
use Rattle.paper_opl.specs.Reading.{Text, behind, same}
use Rattle.opl_text.proofs.Laws.{behind_more}
use Rattle.opl_text.proofs.Same.{same_more}

record Each (a b c d e f g h : Bool) : Type 0 where
  is0 : a ≡ true
  is1 : b ≡ true
  is2 : c ≡ true
  is3 : d ≡ true
  is4 : e ≡ true
  is5 : f ≡ true
  is6 : g ≡ true
  is7 : h ≡ true

each : (a b c d e f g h : Bool) → a && b && c && d && e && f && g && h ≡ true → Each a b c d e f g h
each a b c d e f g h q =
    let u = both (a && b && c && d && e && f && g) h q in
    let v = both (a && b && c && d && e && f) g u.0 in
    let w = both (a && b && c && d && e) f v.0 in
    let x = both (a && b && c && d) e w.0 in
    let y = both (a && b && c) d x.0 in
    let z = both (a && b) c y.0 in
    let o = both a b z.0 in
    record { is0 = o.0; is1 = o.1; is2 = z.1; is3 = y.1; is4 = x.1; is5 = w.1; is6 = v.1; is7 = u.1 }

module _ (p : ℕ → Bool) (s : Text) where
  step : (k l : ℕ) → k < length s → k + 1 ≡ l → p (get_or s k 0) ≡ true → behind p (drop k s) ≡ behind p (drop l s)
  step k l h e t = behind_more p s k h true (sym t) refl ∙ ap (λ (n : ℕ). behind p (drop n s)) e

  pub run-eight : (i : ℕ) → i + 8 ≤ length s → (a b c d e f g h : Bool) → (a ≡ true → p (get_or s i 0) ≡ true) → (b ≡ true → p (get_or s (i + 1) 0) ≡ true) →
      (c ≡ true → p (get_or s (i + 2) 0) ≡ true)
      → (d ≡ true → p (get_or s (i + 3) 0) ≡ true) → (e ≡ true → p (get_or s (i + 4) 0) ≡ true) → (f ≡ true → p (get_or s (i + 5) 0) ≡ true) →
      (g ≡ true → p (get_or s (i + 6) 0) ≡ true)
      → (h ≡ true → p (get_or s (i + 7) 0) ≡ true) → a && b && c && d && e && f && g && h ≡ true → behind p (drop i s) ≡ behind p (drop (i + 8) s)
  run-eight i r a b c d e f g h pa pb pc pd pe pf pg ph q =
      let x = each a b c d e f g h q in
      step i (i + 1) (omega arith) refl (pa x.is0) ∙ step (i + 1) (i + 2) (omega arith) (omega arith) (pb x.is1) ∙
      step (i + 2) (i + 3) (omega arith) (omega arith) (pc x.is2)
      ∙ step (i + 3) (i + 4) (omega arith) (omega arith) (pd x.is3) ∙ step (i + 4) (i + 5) (omega arith) (omega arith) (pe x.is4) ∙
      step (i + 5) (i + 6) (omega arith) (omega arith) (pf x.is5)
      ∙ step (i + 6) (i + 7) (omega arith) (omega arith) (pg x.is6) ∙ step (i + 7) (i + 8) (omega arith) (omega arith) (ph x.is7)

module _ (v w : Text) where
  same_step : (k l : ℕ) → k < length v → k < length w → k + 1 ≡ l → eqb (get_or v k 0) (get_or w k 0) ≡ true →
      same (drop k v) (drop k w) ≡ same (drop l v) (drop l w)
  same_step k l h i e t = same_more v w k h i (eqb-true (get_or v k 0) (get_or w k 0) t) ∙ ap (λ (n : ℕ). same (drop n v) (drop n w)) e

  abbrev at : ℕ → Bool
  at k = eqb (get_or v k 0) (get_or w k 0)

  pub same-eight : (i : ℕ) → i + 8 ≤ length v → i + 8 ≤ length w →
      at i && at (i + 1) && at (i + 2) && at (i + 3) && at (i + 4) && at (i + 5) && at (i + 6) && at (i + 7) ≡ true
      → same (drop i v) (drop i w) ≡ same (drop (i + 8) v) (drop (i + 8) w)
  same-eight i r l q =
      let x = each (at i) (at (i + 1)) (at (i + 2)) (at (i + 3)) (at (i + 4)) (at (i + 5)) (at (i + 6)) (at (i + 7)) q in
      same_step i (i + 1) (omega arith) (omega arith) refl x.is0 ∙ same_step (i + 1) (i + 2) (omega arith) (omega arith) (omega arith) x.is1
      ∙ same_step (i + 2) (i + 3) (omega arith) (omega arith) (omega arith) x.is2 ∙
      same_step (i + 3) (i + 4) (omega arith) (omega arith) (omega arith) x.is3
      ∙ same_step (i + 4) (i + 5) (omega arith) (omega arith) (omega arith) x.is4 ∙
      same_step (i + 5) (i + 6) (omega arith) (omega arith) (omega arith) x.is5
      ∙ same_step (i + 6) (i + 7) (omega arith) (omega arith) (omega arith) x.is6 ∙
      same_step (i + 7) (i + 8) (omega arith) (omega arith) (omega arith) x.is7
