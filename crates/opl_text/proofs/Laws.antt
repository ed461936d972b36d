-- What the definitions read at index i of a text, in terms of the byte there and of what they read at index i + 1. The loops of the reader advance so.
use mathlib.Core.Path.{◌≡◌, refl, sym, ap, ◌∙◌}
use mathlib.Core.List.{[], ◌∷◌}
use mathlib.Core.Bool.{Bool, true, false, not, cond, true≢false, false≢true, ◌&&◌, ◌||◌}
use Prim.Native.Nat.{ℕ, zero, suc, ◌+◌, ◌-◌, ◌<◌, ◌≤◌}
use native.Mathlib.Nat.{sub_self}
use native.Mathlib.Numerals.{add-one}
use native.Mathlib.Omega.{arith}
use lib.Dec.{eqb}
use lib.ListN.{length, get_or, take, drop, drop_of_length-le, length-drop}
use lib.Seq.{drop-cons, drop-drop}
use borrow.Author.Tests.{eq-eqb, ne_eqb}
use Rattle.paper_opl.specs.Reading.{Text, Read, run, behind, word, starts, expect, text, in_value, up_to, value, control, comment, closing, white, misc}
use Rattle.paper_opl.specs.Reading.Read.{got, bad}
use Rattle.paper_opl.proofs.Counts.{behind-le, below_of, comment-below, starts-le, misc-enough}

pub drop_here : (s : Text) (i : ℕ) → i < length s → drop i s ≡ get_or s i 0 ∷ drop (i + 1) s
drop_here s i h = drop-cons s i 0 h ∙ rw add-one

-- The text that a refused reading holds.
refused_text : {A : Type 0} → Read A → Text
refused_text (got x s) = s
refused_text (bad s) = s

pub bad-same : {A : Type 0} {s r : Text} → ◌≡◌ {A = Read A} (bad s) (bad r) → s ≡ r
unfolding refused_text
bad-same e = ap refused_text e

-- ---- `behind p`: the text after all leading bytes with the property p.

module _ (p : ℕ → Bool) (s : Text) (i : ℕ) where
  pub behind-end : length s ≤ i → drop i s ≡ behind p (drop i s)
  unfolding behind
  behind-end h = let e : drop i s ≡ [] = drop_of_length-le s h in rw e

  pub behind-stop : i < length s → (b : Bool) → b ≡ p (get_or s i 0) → not b ≡ true → drop i s ≡ behind p (drop i s)
  unfolding behind
  behind-stop h true e n = absurd (false≢true n)
  behind-stop h false e n = rw (drop_here s i h, sym e)

  pub behind_more : i < length s → (b : Bool) → b ≡ p (get_or s i 0) → not b ≡ false → behind p (drop i s) ≡ behind p (drop (i + 1) s)
  unfolding behind
  behind_more h true e n = rw (drop_here s i h, sym e)
  behind_more h false e n = absurd (true≢false n)

-- ---- A word: its bytes are those from index `at` up to the index after it.

run-either : (c : Bool) (t u r : Text) (b : ℕ) → length u ≤ length t → r ≡ take (length t - length u) t
    → cond c (b ∷ r) [] ≡ take (suc (length t) - length (cond c u (b ∷ t))) (b ∷ t)
run-either true t u r b h e = let k : suc (length t) - length u ≡ suc (length t - length u) = omega arith in rw k (ap (λ (x : Text). b ∷ x) e)
run-either false t u r b h e = rw sub_self

run_take : (p : ℕ → Bool) (t : Text) → run p t ≡ take (length t - length (behind p t)) t
unfolding run behind
run_take p [] = refl
run_take p (b ∷ t) = run-either (p b) t (behind p t) (run p t) b (behind-le p t) (run_take p t)

none-either : (c : Bool) (t u r : Text) (b : ℕ) → length u ≤ length t → length (cond c u (b ∷ t)) ≡ suc (length t)
    → ◌≡◌ {A = Read Text} (bad (b ∷ t)) (cond c (got (cond c (b ∷ r) []) (cond c u (b ∷ t))) (bad (b ∷ t)))
none-either true t u r b h e = absurd (omega arith)
none-either false t u r b h e = refl

word_none : (p : ℕ → Bool) (t : Text) → length (behind p t) ≡ length t → bad t ≡ word p t
unfolding word run behind
word_none p [] e = refl
word_none p (b ∷ t) e = none-either (p b) t (behind p t) (run p t) b (behind-le p t) e

some-either : (c : Bool) (t u r : Text) (b : ℕ) → (length (cond c u (b ∷ t)) ≡ suc (length t) → ⊥)
    → ◌≡◌ {A = Read Text} (got (cond c (b ∷ r) []) (cond c u (b ∷ t))) (cond c (got (cond c (b ∷ r) []) (cond c u (b ∷ t))) (bad (b ∷ t)))
some-either true t u r b n = refl
some-either false t u r b n = absurd (n refl)

word_some : (p : ℕ → Bool) (t : Text) → (length (behind p t) ≡ length t → ⊥) → got (run p t) (behind p t) ≡ word p t
unfolding word run behind
word_some p [] n = absurd (n refl)
word_some p (b ∷ t) n = some-either (p b) t (behind p t) (run p t) b n

module _ (p : ℕ → Bool) (s : Text) (at e : ℕ) (h : at ≤ length s) (from : drop e s ≡ behind p (drop at s)) (inside : e ≤ length s) where
  length-behind : length (behind p (drop at s)) ≡ length s - e
  length-behind = ap (λ (x : Text). length x) (sym from) ∙ length-drop e s

  pub onward : at ≤ e
  onward = let l = behind-le p (drop at s) in let m = length-drop at s in let n = length-behind in omega arith

  pub run_is : run p (drop at s) ≡ take (e - at) (drop at s)
  run_is =
      let o = onward in
      let m = length-drop at s in
      let n = length-behind in
      let k : length (drop at s) - length (behind p (drop at s)) ≡ e - at = omega arith in
      run_take p (drop at s) ∙ ap (λ (x : ℕ). take x (drop at s)) k

  pub no_word : e ≡ at → bad (drop at s) ≡ word p (drop at s)
  no_word q = word_none p (drop at s) (length-behind ∙ rw q (sym (length-drop at s)))

  pub a_word : (e ≡ at → ⊥) → got (take (e - at) (drop at s)) (drop e s) ≡ word p (drop at s)
  a_word n =
      let o = onward in
      let m = length-drop at s in
      let l = length-behind in
      rw (sym run_is, from) (word_some p (drop at s) (λ (z : length (behind p (drop at s)) ≡ length (drop at s)). n (omega arith)))

-- ---- One expected byte.

and-two : (b c d : Bool) → b && c && d ≡ b && (c && d)
and-two true c d = refl
and-two false c d = refl

and-true : (x : Bool) → x ≡ x && true
and-true true = refl
and-true false = refl

module _ (s : Text) (i b : ℕ) where
  pub at_end : length s ≤ i → false ≡ starts (b ∷ []) (drop i s)
  unfolding starts
  at_end h = let e : drop i s ≡ [] = drop_of_length-le s h in rw e

  pub at_here : i < length s → eqb b (get_or s i 0) ≡ starts (b ∷ []) (drop i s)
  unfolding starts
  at_here h = rw (drop_here s i h) (and-true (eqb b (get_or s i 0)))

pub one-not : (q : ℕ) (t : Text) → starts (q ∷ []) t ≡ false → expect (q ∷ []) t ≡ bad t
unfolding starts expect
one-not q [] e = refl
one-not q (b ∷ t) e = go (eqb q b) e
  where
    go : (c : Bool) → c && true ≡ false → ◌≡◌ {A = Read (Unit {0})} (cond c (got tt t) (bad (b ∷ t))) (bad (b ∷ t))
    go true e = absurd (true≢false e)
    go false e = refl

pub one-yes : (q : ℕ) (t : Text) → starts (q ∷ []) t ≡ true → (expect (q ∷ []) t ≡ got tt (drop 1 t)) × (0 < length t)
unfolding starts expect
one-yes q [] e = absurd (false≢true e)
one-yes q (b ∷ t) e = (go (eqb q b) e, omega arith)
  where
    go : (c : Bool) → c && true ≡ true → ◌≡◌ {A = Read (Unit {0})} (cond c (got tt t) (bad (b ∷ t))) (got tt t)
    go true e = refl
    go false e = absurd (false≢true e)

-- ---- A value between quotes.

module _ (s : Text) (at : ℕ) where
  pub value_end : length s ≤ at → bad (drop at s) ≡ value (drop at s)
  unfolding value
  value_end h = let e : drop at s ≡ [] = drop_of_length-le s h in rw e

  pub value_not : at < length s → not (eqb (get_or s at 0) 34 || eqb (get_or s at 0) 39) ≡ true → bad (drop at s) ≡ value (drop at s)
  unfolding value
  value_not h n = rw (drop_here s at h) (go (eqb (get_or s at 0) 34 || eqb (get_or s at 0) 39) n)
    where
      go : (c : Bool) → not c ≡ true → bad (get_or s at 0 ∷ drop (at + 1) s) ≡ cond c (up_to (get_or s at 0) (drop (at + 1) s)) (bad (get_or s at 0 ∷ drop (at + 1) s))
      go true n = absurd (false≢true n)
      go false n = refl

  value-open : at < length s → not (eqb (get_or s at 0) 34 || eqb (get_or s at 0) 39) ≡ false → value (drop at s) ≡ up_to (get_or s at 0) (drop (at + 1) s)
  unfolding value
  value-open h n = rw (drop_here s at h) (go (eqb (get_or s at 0) 34 || eqb (get_or s at 0) 39) n)
    where
      go : (c : Bool) → not c ≡ false →
          cond c (up_to (get_or s at 0) (drop (at + 1) s)) (bad (get_or s at 0 ∷ drop (at + 1) s)) ≡ up_to (get_or s at 0) (drop (at + 1) s)
      go true n = refl
      go false n = absurd (true≢false n)

  module _ (h : at < length s) (open-quote : not (eqb (get_or s at 0) 34 || eqb (get_or s at 0) 39) ≡ false) (e : ℕ)
      (from : drop e s ≡ behind (in_value (get_or s at 0)) (drop (at + 1) s)) (inside : e ≤ length s)
    where
      pub value_cut : (b : Bool) → b ≡ starts (get_or s at 0 ∷ []) (drop e s) → not b ≡ true → bad (drop e s) ≡ value (drop at s)
      unfolding up_to
      value_cut true q n = absurd (false≢true n)
      value_cut false q n = sym (value-open h open-quote ∙ rw (sym from, one-not (get_or s at 0) (drop e s) (sym q)))

      pub value_got : (b : Bool) → b ≡ starts (get_or s at 0 ∷ []) (drop e s) → not b ≡ false
          → got (take (e - (at + 1)) (drop (at + 1) s)) (drop (e + 1) s) ≡ value (drop at s)
      unfolding up_to
      value_got false q n = absurd (true≢false n)
      value_got true q n =
          let y : expect (get_or s at 0 ∷ []) (drop e s) ≡ got tt (drop 1 (drop e s)) = (one-yes (get_or s at 0) (drop e s) (sym q)).0 in
          let d : drop 1 (drop e s) ≡ drop (e + 1) s = drop-drop 1 e s in
          let r : run (in_value (get_or s at 0)) (drop (at + 1) s) ≡ take (e - (at + 1)) (drop (at + 1) s) =
          run_is (in_value (get_or s at 0)) s (at + 1) e (omega arith) from inside in
          sym (value-open h open-quote ∙ rw (sym from, y, d, r))

-- ---- Comments.

pub starts-next : (c : ℕ) (w s : Text) (i : ℕ) → starts (c ∷ w) (drop i s) ≡ starts (c ∷ []) (drop i s) && starts w (drop (i + 1) s)
unfolding starts
starts-next c w [] zero = refl
starts-next c w [] (suc i) = refl
starts-next c w (b ∷ s) zero = ap (λ (x : Bool). x && starts w s) (and-true (eqb c b))
starts-next c w (b ∷ s) (suc i) =
    let k : suc (i + 1) ≡ suc i + 1 = omega arith in
    starts-next c w s i ∙ ap (λ (x : ℕ). starts (c ∷ []) (drop i s) && starts w (drop x (b ∷ s))) k

-- Two hyphens.
pub hyphens : (s : Text) (i : ℕ) (x y : Bool) → x ≡ starts (45 ∷ []) (drop i s) → y ≡ starts (45 ∷ []) (drop (i + 1) s) → starts (text "--") (drop i s) ≡ x && y
unfolding text
hyphens s i x y p q = starts-next 45 (45 ∷ []) s i ∙ rw (sym p, sym q)

module _ (s : Text) (i : ℕ) where
  pub comment_end : length s ≤ i → bad (drop i s) ≡ comment (drop i s)
  unfolding comment
  comment_end h = let e : drop i s ≡ [] = drop_of_length-le s h in rw e

  module _ (h : i < length s) (x y : Bool) (p : x ≡ starts (45 ∷ []) (drop i s)) (q : y ≡ starts (45 ∷ []) (drop (i + 1) s)) where
    here : comment (drop i s) ≡
        cond (x && y) (closing (drop i s) (drop 1 (drop (i + 1) s))) (cond (control (get_or s i 0)) (bad (drop i s)) (comment (drop (i + 1) s)))
    unfolding comment
    here = rw (sym (hyphens s i x y p q)) (rw (drop_here s i h))

    pub comment_hit : x && y ≡ true → comment (drop i s) ≡ closing (drop i s) (drop (i + 2) s)
    comment_hit e = let k : i + 1 + 1 ≡ i + 2 = omega arith in here ∙ rw (e, drop-drop 1 (i + 1) s, k)

    pub comment_bad : x && y ≡ false → (b : Bool) → b ≡ control (get_or s i 0) → b ≡ true → bad (drop i s) ≡ comment (drop i s)
    comment_bad e b f t = sym (here ∙ rw (e, sym f, t))

    pub comment_more : x && y ≡ false → (b : Bool) → b ≡ control (get_or s i 0) → b ≡ false → comment (drop i s) ≡ comment (drop (i + 1) s)
    comment_more e b f t = here ∙ rw (e, sym f, t)

  pub closing_end : (w : Text) → length s ≤ i → bad (drop (length s) s) ≡ closing w (drop i s)
  closing_end w h =
      let e : drop i s ≡ [] = drop_of_length-le s h in
      let l : length s ≤ length s = omega arith in
      let f : drop (length s) s ≡ [] = drop_of_length-le s l in
      rw (e, f)

  pub closing_yes : (w : Text) (j : ℕ) → i + 1 ≡ j → i < length s → get_or s i 0 ≡ 62 → got tt (drop j s) ≡ closing w (drop i s)
  closing_yes w j k h e = rw (drop_here s i h, eq-eqb _ _ e, k)

  pub closing_not : (w : Text) → i < length s → (get_or s i 0 ≡ 62 → ⊥) → bad w ≡ closing w (drop i s)
  closing_not w h n = rw (drop_here s i h, ne_eqb _ _ n)

-- The text after a comment is not longer than the text from the comment on.
pub comment-le : (t r : Text) → comment t ≡ got tt r → length r ≤ length t
comment-le t r e = let h = below_of e (comment-below t) in omega arith

pub opening-le : (t : Text) → starts (text "<!--") t ≡ true → 4 ≤ length t
unfolding text
opening-le t e = starts-le (60 ∷ 33 ∷ 45 ∷ 45 ∷ []) t e

-- The four bytes that open a comment.
pub opening-is : (s : Text) (i : ℕ) (a b c d : Bool) → a ≡ starts (60 ∷ []) (drop i s) → b ≡ starts (33 ∷ []) (drop (i + 1) s) →
    c ≡ starts (45 ∷ []) (drop (i + 2) s)
    → d ≡ starts (45 ∷ []) (drop (i + 3) s) → a && b && c && d ≡ starts (text "<!--") (drop i s)
unfolding text
opening-is s i a b c d p q r t =
    let k : i + 1 + 1 ≡ i + 2 = omega arith in
    let l : i + 2 + 1 ≡ i + 3 = omega arith in
    rw (p, q, r, t)
    (and-and (starts (60 ∷ []) (drop i s)) (starts (33 ∷ []) (drop (i + 1) s)) (starts (45 ∷ []) (drop (i + 2) s)) (starts (45 ∷ []) (drop (i + 3) s))
    ∙ sym (starts-next 60 (33 ∷ 45 ∷ 45 ∷ []) s i ∙ rw (starts-next 33 (45 ∷ 45 ∷ []) s (i + 1), k, starts-next 45 (45 ∷ []) s (i + 2), l)))
  where
    and-and : (a b c d : Bool) → a && b && c && d ≡ a && (b && (c && d))
    and-and true b c d = and-two b c d
    and-and false b c d = refl

-- ---- White space and comments. The definition `misc` has a count to make it end; the length of the text is always enough.

pub skip-skip : (t : Text) → behind white (behind white t) ≡ behind white t
unfolding behind
skip-skip [] = refl
skip-skip (b ∷ t) = go (white b) refl (skip-skip t)
  where
    go : (c : Bool) → white b ≡ c → behind white (behind white t) ≡ behind white t →
        behind white (cond c (behind white t) (b ∷ t)) ≡ cond c (behind white t) (b ∷ t)
    go true e h = h
    go false e h = rw e

pub misc-skip : (n : ℕ) (t : Text) → length t ≤ n → misc n t ≡ misc n (behind white t)
unfolding misc behind
misc-skip zero [] h = refl
misc-skip zero (b ∷ t) h = absurd (omega arith)
misc-skip (suc n) t h = rw (skip-skip t)

module _ (s : Text) (i : ℕ) (clear : behind white (drop i s) ≡ drop i s) where
  pub misc-stop : (n : ℕ) → starts (text "<!--") (drop i s) ≡ false → misc n (drop i s) ≡ got tt (drop i s)
  unfolding misc
  misc-stop zero e = refl
  misc-stop (suc n) e = rw (clear, e)

  pub misc-bad : (n : ℕ) (r : Text) → length (drop i s) ≤ n → starts (text "<!--") (drop i s) ≡ true → comment (drop (i + 4) s) ≡ bad r →
      misc n (drop i s) ≡ bad r
  unfolding misc
  misc-bad zero r h e q = let k = opening-le (drop i s) e in absurd (omega arith)
  misc-bad (suc n) r h e q = rw (clear, e, drop-drop 4 i s, q)

  step : (n : ℕ) (r : Text) → length r < n → starts (text "<!--") (drop i s) ≡ true → comment (drop (i + 4) s) ≡ got tt r → misc n (drop i s) ≡ misc n r
  unfolding misc
  step zero r l e q = absurd (omega arith)
  step (suc n) r l e q = rw (clear, e, drop-drop 4 i s, q) (misc-enough n (suc n) r (omega arith) (omega arith))

  pub misc-on : (n : ℕ) (r : Text) → length (drop i s) ≤ n → starts (text "<!--") (drop i s) ≡ true → comment (drop (i + 4) s) ≡ got tt r
      → misc n (drop i s) ≡ misc n (behind white r)
  misc-on n r h e q =
      let o = opening-le (drop i s) e in
      let a = comment-le (drop (i + 4) s) r q in
      let b = length-drop i s in
      let d = length-drop (i + 4) s in
      step n r (omega arith) e q ∙ misc-skip n r (omega arith)
