-- Steps along a chain: which entries they reach, that different numbers of steps reach different entries, and the same steps in another buffer.
use Prim.Native.Nat.{ℕ, zero, suc, ◌+◌, ◌-◌, ◌≤◌, ◌<◌}
use mathlib.Core.List.{List, [], ◌∷◌, ◌++◌}
use mathlib.Core.Path.{◌≡◌, refl, ap, ap₂, ◌∙◌}
use native.Mathlib.Numerals.{add-one}
use native.Mathlib.Omega.{arith}
use lib.ListN.{get_or}
use Rattle.order_links.specs.Chains.{link_of, word_at, Linked}
use Rattle.order_links.specs.Stacks.{payload_of, stack_of, step_to, before_to, cut_away}
use Rattle.order_links.proofs.ChainLaws.{linked-here, one-length}

pub linked-step : (l : List ℕ) (P : ℕ → Type 0) (h n a : ℕ) → a ≤ n → Linked l P h n → Linked l P (step_to l h a) (n - a)
unfolding step_to
linked-step l P h n zero le p = let e : n - zero ≡ n = omega arith in rw e p
linked-step l P h zero (suc a) le p = let z : ⊥ = omega arith in absurd z
linked-step l P h (suc n) (suc a) le p = let e : suc n - suc a ≡ n - a = omega arith in rw e (linked-step l P (link_of (word_at l h)) n a (omega arith) p.1)

pub fine-at : (l : List ℕ) (P : ℕ → Type 0) (h n a : ℕ) → a < n → Linked l P h n → P (step_to l h a)
fine-at l P h n a less p = linked-here l P (step_to l h a) (n - a) (omega arith) (linked-step l P h n a (omega arith) p)

pub apart : (l : List ℕ) (P : ℕ → Type 0) → ((h : ℕ) → P h → 0 < h) → (h n a b : ℕ) → a < b → b ≤ n → Linked l P h n → step_to l h a ≡ step_to l h b → ⊥
apart l P p0 h n a b less le p e =
    let same = one-length l P P p0 p0 (step_to l h a) (n - a) (n - b) (linked-step l P h n a (omega arith) p) (rw e (linked-step l P h n b le p)) in
    omega arith

-- One more step.
step-last : (l : List ℕ) (h a : ℕ) → step_to l h (suc a) ≡ link_of (word_at l (step_to l h a))
unfolding step_to
step-last l h zero = refl
step-last l h (suc a) = step-last l (link_of (word_at l h)) a

pub step-more : (l : List ℕ) (h a : ℕ) → step_to l h (a + 1) ≡ link_of (word_at l (step_to l h a))
step-more l h a = rw add-one (step-last l h a)

pub before_more : (l : List ℕ) (h a : ℕ) → before_to l h (a + 1) ≡ step_to l h a
unfolding before_to
before_more l h a = rw add-one

pub step-next : (l : List ℕ) (h a e : ℕ) → step_to l h a ≡ e → step_to l h (suc a) ≡ link_of (word_at l e)
step-next l h a e p = step-last l h a ∙ ap (λ (x : ℕ). link_of (word_at l x)) p

-- ---- A chain made of its first a entries and the rest, and its payloads.
pub linked-join : (l : List ℕ) (P : ℕ → Type 0) (h a m : ℕ) → ((b : ℕ) → b < a → P (step_to l h b)) → Linked l P (step_to l h a) m → Linked l P h (a + m)
unfolding step_to
linked-join l P h zero m front rest = let e : zero + m ≡ m = omega arith in rw e rest
linked-join l P h (suc a) m front rest = let e : suc a + m ≡ suc (a + m) = omega arith in
    rw e (front zero (omega arith), linked-join l P (link_of (word_at l h)) a m (λ b less. front (suc b) (omega arith)) rest)

pub stack-append : (l : List ℕ) (h a m : ℕ) → stack_of l h (a + m) ≡ stack_of l h a ++ stack_of l (step_to l h a) m
unfolding stack_of step_to
stack-append l h zero m = let e : zero + m ≡ m = omega arith in rw e
stack-append l h (suc a) m = let e : suc a + m ≡ suc (a + m) = omega arith in
    rw e (ap (◌∷◌ (payload_of (word_at l h))) (stack-append l (link_of (word_at l h)) a m))

pub stack-item : (l : List ℕ) (h n a : ℕ) → a < n → get_or (stack_of l h n) a 0 ≡ payload_of (word_at l (step_to l h a))
unfolding stack_of step_to
stack-item l h zero a less = let z : ⊥ = omega arith in absurd z
stack-item l h (suc n) zero less = refl
stack-item l h (suc n) (suc a) less = stack-item l (link_of (word_at l h)) n a (omega arith)

pub cut_out-at : (l : List ℕ) (h n a : ℕ) → a < n → cut_away a (stack_of l h n) ≡ stack_of l h a ++ stack_of l (link_of (word_at l (step_to l h a))) (n - suc a)
unfolding cut_away stack_of step_to
cut_out-at l h zero a less = let z : ⊥ = omega arith in absurd z
cut_out-at l h (suc n) zero less = let e : suc n - suc zero ≡ n = omega arith in rw e
cut_out-at l h (suc n) (suc a) less = let e : suc n - suc (suc a) ≡ n - suc a = omega arith in
    rw e (ap (◌∷◌ (payload_of (word_at l h))) (cut_out-at l (link_of (word_at l h)) n a (omega arith)))

-- ---- The same steps in another buffer.
pub steps-same : (l l' : List ℕ) (h a : ℕ) → ((b : ℕ) → b < a → link_of (word_at l' (step_to l h b)) ≡ link_of (word_at l (step_to l h b))) →
    step_to l' h a ≡ step_to l h a
unfolding step_to
steps-same l l' h zero same = refl
steps-same l l' h (suc a) same =
    ap (λ (x : ℕ). step_to l' x a) (same zero (omega arith)) ∙ steps-same l l' (link_of (word_at l h)) a (λ b less. same (suc b) (omega arith))

pub front_same : (l l' : List ℕ) (h a : ℕ) → ((b : ℕ) → b < a → payload_of (word_at l' (step_to l h b)) ≡ payload_of (word_at l (step_to l h b)))
    → ((b : ℕ) → suc b < a → link_of (word_at l' (step_to l h b)) ≡ link_of (word_at l (step_to l h b))) → stack_of l' h a ≡ stack_of l h a
unfolding stack_of step_to
front_same l l' h zero load link = refl
front_same l l' h (suc zero) load link = ap (λ (x : ℕ). x ∷ []) (load zero (omega arith))
front_same l l' h (suc (suc a)) load link =
    ap₂ (λ (x : ℕ) (xs : List ℕ). x ∷ xs) (load zero (omega arith))
    (ap (λ (x : ℕ). stack_of l' x (suc a)) (link zero (omega arith)) ∙
    front_same l l' (link_of (word_at l h)) (suc a) (λ b less. load (suc b) (omega arith)) (λ b less. link (suc b) (omega arith)))
