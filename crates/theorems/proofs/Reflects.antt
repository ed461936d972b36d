-- Tests and statements: laws of the form `(b ≡ true) ↔ P`; and the first check that applies as the first refusal whose condition holds.
use Prim.Native.Nat.{ℕ, zero, suc, ◌<◌}
use mathlib.Core.Path.{◌≡◌, refl, sym, ap, ◌∙◌}
use mathlib.Core.Bool.{Bool, true, false, not, cond, ◌&&◌, ◌||◌, true≢false, false≢true}
use mathlib.Core.Logic.Iff
use mathlib.Core.Logic.{◌⊎◌, inl, inr, ⊎_elim, ◌↔◌}
use mathlib.Core.List.{List, [], ◌∷◌}
use native.Mathlib.Omega.{arith}
use borrow.Author.Tests.{eqb-true, eq-eqb}
use lib.Dec.{eqb}
use Rattle.paper_lower.specs.Sets.{Set, has, minus, meets, within, without}
use Rattle.paper_lower.specs.Lists.{Maybe, some_number_below, holds, some, Every}
use Rattle.paper_lower.specs.Lists.Maybe.{none, just}
use Rattle.paper_lower.proofs.ListLaws.{both, every_map, some_below}
use Rattle.sets.proofs.SetLaws.{has-minus, has_within, within_has, common-meets, meets-common, none-common}
use Rattle.theorems.specs.OverEntries.{Any}
use Rattle.theorems.specs.Exactly.{Not, Refusal, refusal, GivenExactly, In}
use Rattle.theorems.proofs.Down.{has-without}

-- ---- Tests.
pub either : (b c : Bool) {P Q : Type 0} → (b ≡ true) ↔ P → (c ≡ true) ↔ Q → (b || c ≡ true) ↔ (P ⊎ Q)
either true c p q = (λ e. inl (p.0 refl), λ y. refl)
either false c p q = (λ e. inr (q.0 e), λ y. ⊎_elim (λ z. absurd (false≢true (p.1 z))) (λ z. q.1 z) y)

pub either_same : {P Q R : Type 0} → P ↔ Q → (P ⊎ R) ↔ (Q ⊎ R)
either_same p = (λ x. ⊎_elim (λ y. inl (p.0 y)) (λ y. inr y) x, λ x. ⊎_elim (λ y. inl (p.1 y)) (λ y. inr y) x)

pub one_of_three : (a b c : Bool) {P Q R : Type 0} → (a ≡ true) ↔ P → (b ≡ true) ↔ Q → (c ≡ true) ↔ R → (a || b || c ≡ true) ↔ (P ⊎ (Q ⊎ R))
one_of_three a b c p q r =
    Iff.trans (either (a || b) c (either a b p q) r) (
      λ h. ⊎_elim (λ y. ⊎_elim (λ z. inl z) (λ z. inr (inl z)) y) (λ z. inr (inr z)) h,
      λ h. ⊎_elim (λ z. inl (inl z)) (λ y. ⊎_elim (λ z. inl (inr z)) (λ z. inr z) y) h,
    )

pub together : (a b : Bool) {P Q : Type 0} → (a ≡ true) ↔ P → (b ≡ true) ↔ Q → (a && b ≡ true) ↔ (P × Q)
together true b p q = (λ e. (p.0 refl, q.0 e), λ x. q.1 x.1)
together false b p q = (λ e. absurd (false≢true e), λ x. p.1 x.0)

pub all_three : (a b c : Bool) {P Q R : Type 0} → (a ≡ true) ↔ P → (b ≡ true) ↔ Q → (c ≡ true) ↔ R → (a && b && c ≡ true) ↔ (P × Q × R)
all_three a b c p q r =
    Iff.trans (together (a && b) c (together a b p q) r) (λ x. (x.0.0, x.0.1, x.1), λ x. ((x.0, x.1), x.2))

pub negated : (b : Bool) {P : Type 0} → (b ≡ true) ↔ P → (not b ≡ true) ↔ Not P
negated true p = (λ e. absurd (false≢true e), λ n. absurd (n (p.0 refl)))
negated false p = (λ e x. false≢true (p.1 x), λ n. refl)

pub same : {P : Type 0} → P ↔ P
same = (λ x. x, λ x. x)

pub is_same : (a b : ℕ) → (eqb a b ≡ true) ↔ (a ≡ b)
is_same a b = (eqb-true a b, eq-eqb a b)

pub turned_same : (a b : ℕ) → (eqb a b ≡ true) ↔ (b ≡ a)
turned_same a b = (λ e. sym (eqb-true a b e), λ e. eq-eqb a b (sym e))

-- A test that equals another one.
pub as-test : {b c : Bool} {P : Type 0} → b ≡ c → (c ≡ true) ↔ P → (b ≡ true) ↔ P
as-test e p = (λ h. p.0 (sym e ∙ h), λ x. e ∙ p.1 x)

-- ---- Lists and tables.
pub some-any : {A : Type 0} (p : A → Bool) (P : A → Type 0) → ((x : A) → (p x ≡ true) ↔ P x) → (xs : List A) → (some p xs ≡ true) ↔ Any P xs
unfolding some
some-any p P h [] = (λ e. false≢true e, λ x. absurd x)
some-any p P h (x ∷ xs) = either (p x) (some p xs) (h x) (some-any p P h xs)

pub any-map : {A : Type 0} {P Q : A → Type 0} (xs : List A) → ((x : A) → P x → Q x) → Any P xs → Any Q xs
any-map [] f h = h
any-map (x ∷ xs) f h = ⊎_elim (λ p. inl (f x p)) (λ q. inr (any-map xs f q)) h

-- If every element has P, and R follows from an element with P and Q, then R follows if some element has Q.
pub any_of : {A : Type 0} {P Q : A → Type 0} (R : Type 0) (xs : List A) → Every P xs → ((x : A) → P x → Q x → R) → Any Q xs → R
any_of R [] p f h = absurd h
any_of R (x ∷ xs) p f h = ⊎_elim (λ q. f x p.0 q) (λ q. any_of R xs p.1 f q) h

-- The same, where R may also use that this element x is in the list: some element y has S x y.
pub any-chosen : {A : Type 0} {P Q : A → Type 0} (S : A → A → Type 0) (R : Type 0) (xs : List A) → Every P xs → ((x : A) → Q x → S x x)
    → ((x : A) → P x → Q x → Any (S x) xs → R) → Any Q xs → R
any-chosen S R [] p s f h = absurd h
any-chosen S R (x ∷ xs) p s f h =
    ⊎_elim (λ q. f x p.0 q (inl (s x q))) (λ q. any-chosen S R xs p.1 s (λ z a b c. f z a b (inr c)) q) h

-- If every element with P has Q b for some b, and some element has P, then for some b an element has Q b.
pub any-choose : {A B : Type 0} {P : A → Type 0} (Q : B → A → Type 0) (xs : List A) → ((x : A) → P x → (b : B) × Q b x) → Any P xs → (b : B) × Any (Q b) xs
any-choose Q [] f h = absurd h
any-choose Q (x ∷ xs) f h = ⊎_elim (λ p. let y = f x p in (y.0, inl y.1)) (λ p. let y = any-choose Q xs f p in (y.0, inr y.1)) h

pub row_below : (n : ℕ) (f : ℕ → Bool) → some_number_below n f ≡ true → (k : ℕ) × (k < n) × (f k ≡ true)
unfolding some_number_below
row_below zero f h = absurd (false≢true h)
row_below (suc n) f h = go (f n) refl h (row_below n f)
  where
    go : (b : Bool) → f n ≡ b → b || some_number_below n f ≡ true → (some_number_below n f ≡ true → (k : ℕ) × (k < n) × (f k ≡ true)) → (k : ℕ) × (k < suc n) × (f k ≡ true)
    go true e h rest = (n, omega arith, e)
    go false e h rest = let x = rest h in let l = x.1 in (x.0, omega arith, x.2)

-- f holds for some number below n exactly if some number has P, if every number with P is below n.
pub some-row : (n : ℕ) (f : ℕ → Bool) (P : ℕ → Type 0) → ((k : ℕ) → k < n → (f k ≡ true) ↔ P k) → ((k : ℕ) → P k → k < n)
    → (some_number_below n f ≡ true) ↔ ((k : ℕ) × P k)
some-row n f P each small = (
  λ h. let x = row_below n f h in (x.0, (each x.0 x.1).0 x.2),
  λ x. let l = small x.0 x.1 in some_below n f x.0 l ((each x.0 l).1 x.1),
)

pub is-there : {A : Type 0} (p : A → Bool) (x : Maybe A) → (holds p x ≡ true) ↔ ((y : A) × (x ≡ just y) × (p y ≡ true))
unfolding holds
is-there p none = (λ e. absurd (false≢true e), λ y. absurd (nothing y.1))
  where
    nothing : {A : Type 0} {y : A} → none ≡ just y → ⊥
    nothing e = true≢false (sym (ap (holds (λ _. true)) e))
is-there p (just x) = (λ e. (x, refl, e), λ y. ap (holds p) y.1 ∙ y.2)

-- ---- Sets.
pub astray : (m d : Set) → (not (within m d) ≡ true) ↔ ((q : ℕ) × In m q × Not (In d q))
astray m d = (λ e. go (meets m (without m d)) refl e, λ x. (negated (within m d) same).1 (λ w. x.2 (within_has m d x.0 w x.1)))
  where
    go : (b : Bool) → meets m (without m d) ≡ b → not (within m d) ≡ true → (q : ℕ) × In m q × Not (In d q)
    go true e h =
        let x = meets-common m (without m d) e in
        let y = both (has m x.0) _ (sym (has-without m d x.0) ∙ x.2) in
        (x.0, x.1, (negated (has d x.0) same).0 y.1)
    go false e h = absurd ((negated (within m d) same).0 h (has_within m d (λ i p. here i p (has d i) refl)))
      where
        here : (i : ℕ) → has m i ≡ true → (b : Bool) → has d i ≡ b → b ≡ true
        here i p true q = refl
        here i p false q = absurd (none-common m (without m d) i e p (has-without m d i ∙ rw (p, q) refl))

pub common : (m d : Set) → (meets m d ≡ true) ↔ ((q : ℕ) × In m q × In d q)
common m d = (meets-common m d, λ x. common-meets m d x.0 x.1 x.2)

pub minus-parts : (d : Set) (b q : ℕ) → In (minus d b) q ↔ (In d q × Not (q ≡ b))
minus-parts d b q = as-test (has-minus d b q) (together (has d q) (not (eqb q b)) same (negated (eqb q b) (is_same q b)))

-- ---- The first check that applies.
pub none_left : GivenExactly [] 0
none_left = record { granted = (λ _. tt, λ _. refl); refused = tt; listed = λ _. refl }

module _ {n : ℕ} {When : Type 0} {ks : List Refusal} (low : 0 < n) (rises : Every (λ j. n < j.reply) ks) where
  applies : When → GivenExactly (refusal n When ∷ ks) n
  applies w = record {
    granted = (λ e. let z : ⊥ = omega arith in absurd z, λ x. absurd (x.0 w));
    refused = (
      (λ _. (w, (λ l. let z : ⊥ = omega arith in absurd z, every_map ks (λ j up l. let z : ⊥ = omega arith in absurd z) rises)), λ _. refl),
      every_map ks (λ j up. (λ e. let z : ⊥ = omega arith in absurd z, λ x. absurd (x.1.0 up w))) rises,
    );
    listed = λ x. absurd (x.0 refl);
  }

  passes : (q : ℕ) → Not When → GivenExactly ks q → GivenExactly (refusal n When ∷ ks) q
  passes q away g = record {
    granted = (λ e. (away, g.granted.0 e), λ x. g.granted.1 x.1);
    refused = (
      (λ e. absurd (different e), λ x. absurd (away x.0)),
      every_map ks (λ j h. (λ e. let x = h.0 e in (x.0, (λ l w. away w, x.1)), λ x. h.1 (x.0, x.1.1))) g.refused,
    );
    listed = λ x. g.listed x.1;
  }
    where
      different : q ≡ n → ⊥
      different e = let z = g.listed (every_map ks (λ j up i. let z : ⊥ = omega arith in absurd z) rises) in let w : ⊥ = omega arith in w

  pub check : {q : ℕ} (b : Bool) → (b ≡ true) ↔ When → (b ≡ false → GivenExactly ks q) → GivenExactly (refusal n When ∷ ks) (cond b n q)
  check true p rest = applies (p.0 refl)
  check {q} false p rest = passes q (λ w. false≢true (p.1 w)) (rest refl)
