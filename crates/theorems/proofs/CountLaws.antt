-- Laws of the number of elements of a list for which p holds.
use Prim.Native.Nat.{suc, ◌+◌, ◌≤◌, ◌<◌}
use mathlib.Core.Path.{◌≡◌, refl, sym, ap, ◌∙◌}
use mathlib.Core.Bool.{Bool, true, false, not, cond, ◌&&◌, ◌||◌, true≢false, false≢true}
use mathlib.Core.List.{List, [], ◌∷◌}
use native.Mathlib.Omega.{arith}
use Rattle.paper_lower.specs.Lists.{some, many, keep, each, Every}

module _ {A : Type 0} where
  -- If p implies q, q holds for at least as many elements.
  pub count-imp : (p q : A → Bool) (xs : List A) → ((x : A) → p x ≡ true → q x ≡ true) → many (keep p xs) ≤ many (keep q xs)
  unfolding many keep
  count-imp p q [] f = omega arith
  count-imp p q (x ∷ xs) f = go (p x) refl (q x) refl (count-imp p q xs f)
    where
      go : (b : Bool) → p x ≡ b → (c : Bool) → q x ≡ c → many (keep p xs) ≤ many (keep q xs)
          → many (cond b (x ∷ keep p xs) (keep p xs)) ≤ many (cond c (x ∷ keep q xs) (keep q xs))
      go true e true d h = omega arith
      go true e false d h = absurd (true≢false (sym (f x e) ∙ d))
      go false e true d h = omega arith
      go false e false d h = h

  pub count_same : (p q : A → Bool) (xs : List A) → ((x : A) → p x ≡ q x) → many (keep p xs) ≡ many (keep q xs)
  count_same p q xs f =
      let l = count-imp p q xs (λ x e. sym (f x) ∙ e) in
      let m = count-imp q p xs (λ x e. f x ∙ e) in
      omega arith

  pub count-keep : (p q : A → Bool) (xs : List A) → many (keep p (keep q xs)) ≡ many (keep (λ x. q x && p x) xs)
  unfolding many keep
  count-keep p q [] = refl
  count-keep p q (x ∷ xs) = go (q x) (p x) refl (count-keep p q xs)
    where
      go : (b c : Bool) → p x ≡ c → many (keep p (keep q xs)) ≡ many (keep (λ x. q x && p x) xs)
          → many (keep p (cond b (x ∷ keep q xs) (keep q xs))) ≡ many (cond (b && c) (x ∷ keep (λ x. q x && p x) xs) (keep (λ x. q x && p x) xs))
      go true true e h = rw e (ap suc h)
      go true false e h = rw e h
      go false c e h = h

  pub count-each : (p : A → Bool) (f : A → A) (xs : List A) → many (keep p (each f xs)) ≡ many (keep (λ x. p (f x)) xs)
  unfolding many keep each
  count-each p f [] = refl
  count-each p f (x ∷ xs) = go (p (f x)) (count-each p f xs)
    where
      go : (b : Bool) → many (keep p (each f xs)) ≡ many (keep (λ x. p (f x)) xs)
          → many (cond b (f x ∷ keep p (each f xs)) (keep p (each f xs))) ≡ many (cond b (x ∷ keep (λ x. p (f x)) xs) (keep (λ x. p (f x)) xs))
      go true h = ap suc h
      go false h = h

  pub many-each : (f : A → A) (xs : List A) → many (each f xs) ≡ many xs
  unfolding many each
  many-each f [] = refl
  many-each f (x ∷ xs) = ap suc (many-each f xs)

  -- The elements for which p does not hold and those for which it holds are all elements.
  pub count-split : (p : A → Bool) (xs : List A) → many (keep (λ x. not (p x)) xs) + many (keep p xs) ≡ many xs
  unfolding many keep
  count-split p [] = refl
  count-split p (x ∷ xs) = go (p x) (count-split p xs)
    where
      go : (b : Bool) → many (keep (λ x. not (p x)) xs) + many (keep p xs) ≡ many xs
          → many (cond (not b) (x ∷ keep (λ x. not (p x)) xs) (keep (λ x. not (p x)) xs)) + many (cond b (x ∷ keep p xs) (keep p xs)) ≡ suc (many xs)
      go true h = omega arith
      go false h = omega arith

  pub count_none : (p : A → Bool) (xs : List A) → Every (λ x. p x ≡ false) xs → many (keep p xs) ≡ 0
  unfolding many keep
  count_none p [] h = refl
  count_none p (x ∷ xs) h = rw h.0 (count_none p xs h.1)

  pub count-some : (p : A → Bool) (xs : List A) → some p xs ≡ true → 0 < many (keep p xs)
  unfolding many keep some
  count-some p [] h = absurd (false≢true h)
  count-some p (x ∷ xs) h = go (p x) h (count-some p xs)
    where
      go : (b : Bool) → b || some p xs ≡ true → (some p xs ≡ true → 0 < many (keep p xs)) → 0 < many (cond b (x ∷ keep p xs) (keep p xs))
      go true h r = omega arith
      go false h r = r h

  -- Of some elements p holds for at most as many as of all.
  pub count_less : (p q : A → Bool) (xs : List A) → many (keep p (keep q xs)) ≤ many (keep p xs)
  count_less p q xs = let l = count-keep p q xs in let m = count-imp (λ x. q x && p x) p xs (λ x e. second (q x) e) in omega arith
    where
      second : {b : Bool} (a : Bool) → a && b ≡ true → b ≡ true
      second true h = h
      second false h = absurd (false≢true h)
