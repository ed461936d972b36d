-- A literal is read byte by byte; what a read value says about the indices of its quotes; and "=" with white space around it.
use mathlib.Core.Path.{◌≡◌, refl, sym, ◌∙◌, subst}
use mathlib.Core.List.{[], ◌∷◌}
use mathlib.Core.Bool.{Bool, true, false, not, cond, ◌&&◌, ◌||◌}
use Prim.Native.Nat.{ℕ, suc, ◌+◌, ◌-◌, ◌<◌, ◌≤◌}
use native.Mathlib.Omega.{arith}
use lib.Dec.{eqb}
use lib.ListN.{length, get_or, take, drop, length-drop, length-take, drop_of_length-le}
use lib.Seq.{drop-drop}
use borrow.Author.Tests.{not-true, not-false}
use Rattle.paper_opl.specs.Reading.{Text, text, Read, after, starts, expect, white, in_value, run, behind, up_to, value, equals}
use Rattle.paper_opl.specs.Reading.Read.{got, bad}
use Rattle.std.specs.Prelude.{Ok, Err, is_ok}
use Rattle.opl_text.specs.Steps.{Step, step_of, value_of, Reads}
use Rattle.opl_text.proofs.Laws.{drop_here, one-not, one-yes}

-- To read a literal is to read its first byte and then the others.
first_then : (c : ℕ) (w t : Text) → expect (c ∷ w) t ≡ after (expect (c ∷ []) t) (λ _ r. expect w r)
unfolding expect
first_then c w [] = refl
first_then c w (b ∷ t) = go (eqb c b)
  where
    go : (e : Bool) → ◌≡◌ {A = Read (Unit {0})} (cond e (expect w t) (bad (b ∷ t))) (after {A = Unit {0}} (cond e (got tt t) (bad (b ∷ t))) (λ _ r. expect w r))
    go true = refl
    go false = refl

module _ (s w : Text) (at i : ℕ) where
  pub literal_end : length w ≤ i → got tt (drop (at + i) s) ≡ expect (drop i w) (drop (at + i) s)
  unfolding expect
  literal_end h = let e : drop i w ≡ [] = drop_of_length-le w h in rw e

  module _ (h : i < length w) (b : Bool) (e : b ≡ starts (get_or w i 0 ∷ []) (drop (at + i) s)) where
    here : expect (drop i w) (drop (at + i) s) ≡ after (expect (get_or w i 0 ∷ []) (drop (at + i) s)) (λ _ r. expect (drop (i + 1) w) r)
    here = rw (drop_here w i h) (first_then (get_or w i 0) (drop (i + 1) w) (drop (at + i) s))

    pub literal_cut : not b ≡ true → bad (drop (at + i) s) ≡ expect (drop i w) (drop (at + i) s)
    literal_cut n = sym (here ∙ rw (one-not (get_or w i 0) (drop (at + i) s) (sym e ∙ not-true b n)))

    pub literal_room : not b ≡ false → at + (i + 1) ≤ length s
    literal_room n =
        let o = (one-yes (get_or w i 0) (drop (at + i) s) (sym e ∙ not-false b n)).1 in
        let l = length-drop (at + i) s in
        omega arith

    pub literal_more : not b ≡ false → expect (drop i w) (drop (at + i) s) ≡ expect (drop (i + 1) w) (drop (at + (i + 1)) s)
    literal_more n =
        let k : at + i + 1 ≡ at + (i + 1) = omega arith in
        here ∙ rw ((one-yes (get_or w i 0) (drop (at + i) s) (sym e ∙ not-false b n)).0, drop-drop 1 (at + i) s, k)

-- A text begins with a literal if and only if the literal can be read.
starts_is : (w t : Text) (P : Bool → Read (Unit {0}) → Type 0) → ((r : Text) → P true (got tt r)) → ((r : Text) → P false (bad r)) → P (starts w t) (expect w t)
unfolding starts expect
starts_is [] t P f g = f t
starts_is (c ∷ w) [] P f g = g []
starts_is (c ∷ w) (b ∷ t) P f g = go (eqb c b) (starts_is w t P f g)
  where
    go : (e : Bool) → P (starts w t) (expect w t) → P (e && starts w t) (cond e (expect w t) (bad (b ∷ t)))
    go true h = h
    go false h = g (b ∷ t)

pub starts-ok : (s w : Text) (at : ℕ) (r : Step) → step_of s r ≡ expect w (drop at s) → is_ok r ≡ starts w (drop at s)
starts-ok s w at (Ok i) v = starts_is w (drop at s) (λ b x. got tt (drop i s) ≡ x → true ≡ b) (λ u e. refl) (λ u e. cc) v
starts-ok s w at (Err e) v = starts_is w (drop at s) (λ b x. bad (drop e.at s) ≡ x → false ≡ b) (λ u e. cc) (λ u e. refl) v

-- ---- A value with its two quotes fills the text up to the index after it.

run_length : (p : ℕ → Bool) (t : Text) → length (run p t) + length (behind p t) ≡ length t
unfolding run behind
run_length p [] = refl
run_length p (b ∷ t) = go (p b) (run_length p t)
  where
    go : (c : Bool) → length (run p t) + length (behind p t) ≡ length t →
        length (cond c (b ∷ run p t) []) + length (cond c (behind p t) (b ∷ t)) ≡ suc (length t)
    go true h = omega arith
    go false h = omega arith

-- A value that was read, its two quotes and the rest of the text have n bytes in all.
whole : ℕ → Read Text → Type 0
whole n (got v r) = length v + length r + 2 ≡ n
whole n (bad r) = Unit {0}

up-to-whole : (q : ℕ) (t : Text) → whole (suc (length t)) (up_to q t)
unfolding up_to expect whole
up-to-whole q t = go (behind (in_value q) t) (run_length (in_value q) t)
  where
    go : (u : Text) → length (run (in_value q) t) + length u ≡ length t
        → whole (suc (length t)) (after (expect (q ∷ []) u) (λ _ r. got (run (in_value q) t) r))
    go [] h = tt
    go (b ∷ u) h = both (eqb q b)
      where
        both : (c : Bool) → whole (suc (length t)) (after {A = Unit {0}} (cond c (got tt u) (bad (b ∷ u))) (λ _ r. got (run (in_value q) t) r))
        both true = omega arith
        both false = tt

value-whole : (t : Text) → whole (length t) (value t)
unfolding value whole
value-whole [] = tt
value-whole (b ∷ t) = go (eqb b 34 || eqb b 39)
  where
    go : (c : Bool) → whole (suc (length t)) (cond c (up_to b t) (bad (b ∷ t)))
    go true = up-to-whole b t
    go false = tt

pub value_room : (s : Text) (at : ℕ) (r : Step) → Reads s (value_of s (at + 1)) (value (drop at s)) r → (e : ℕ) → r ≡ Ok e → at ≤ length s →
    (at + 1 ≤ e) × (e + 1 ≤ length s)
unfolding whole
value_room s at r q e v h =
    let u : value (drop at s) ≡ got (take (e - (at + 1)) (drop (at + 1) s)) (drop (e + 1) s) = sym q.read_is ∙ rw v in
    let w : whole (length (drop at s)) (got (take (e - (at + 1)) (drop (at + 1) s)) (drop (e + 1) s)) =
    subst (λ (x : Read Text). whole (length (drop at s)) x) u (value-whole (drop at s)) in
    let a = length-drop at s in
    let b = length-drop (at + 1) s in
    let c = length-drop (e + 1) s in
    let d = length-take (e - (at + 1)) (drop (at + 1) s) in
    (omega arith, omega arith)

-- ---- White space, "=", white space.
module _ (s : Text) (at i : ℕ) (from : drop i s ≡ behind white (drop at s)) (b : Bool) (p : b ≡ starts (61 ∷ []) (drop i s)) where
  pub equals_not : not b ≡ true → bad (drop i s) ≡ equals (drop at s)
  unfolding equals text
  equals_not n = sym (rw (sym from, one-not 61 (drop i s) (sym p ∙ not-true b n)))

  pub equals_room : not b ≡ false → i + 1 ≤ length s
  equals_room n = let o = (one-yes 61 (drop i s) (sym p ∙ not-false b n)).1 in let l = length-drop i s in omega arith

  pub equals_yes : not b ≡ false → (j : ℕ) → drop j s ≡ behind white (drop (i + 1) s) → got tt (drop j s) ≡ equals (drop at s)
  unfolding equals text
  equals_yes n j f = sym (rw (sym from, (one-yes 61 (drop i s) (sym p ∙ not-false b n)).0, drop-drop 1 i s, sym f))
