-- The words of the answer: the list of free tasks written into words that are 0, and the stuck tasks as the tasks of m that are not in the list.
use Prim.Native.Nat.{ℕ, zero, suc, ◌+◌, ◌-◌, ◌≤◌, ◌^◌, ◌<◌}
use mathlib.Core.Bool.{Bool, true, false, not, ◌&&◌, ◌||◌}
use mathlib.Core.List.{List, [], ◌∷◌, ◌++◌}
use mathlib.Core.Path.{◌≡◌, refl, sym, ap, ◌∙◌}
use native.Mathlib.Omega.{arith}
use lib.Dec.{eqb, ltb}
use lib.Bits.{bit_and}
use lib.ListN.{length, drop, set, replicate, length-replicate}
use lib.Seq.{sets, sets-eq}
use borrow.Author.Tests.{ltb-true, ltb-false}
use Rattle.paper_lower.specs.Sets.{Set, empty, has, plus, collect}
use Rattle.paper_lower.specs.Lists.{Maybe, some, many}
use Rattle.paper_lower.specs.Lists.Maybe.{none, just}
use Rattle.paper_lower.specs.Tables.{Tasks, Pair, Rules}
use Rattle.paper_lower.specs.Policy.{tasks_of}
use Rattle.paper_lower.proofs.ListLaws.{or-false}
use Rattle.sets.proofs.Bits.{bit-and, bit_not, bit-above}
use Rattle.sets.proofs.SetLaws.{has-empty, has-plus, same-members, collect-same, collect-below, collect-above, has-bit, hasnt-bit, bit-has, bit-hasnt}
use Rattle.replies.proofs.SearchLaws.{collect-more}
use Rattle.paper_upper.specs.Stuck.{may, lowest_from, go_on, free_from, free_tasks, stuck_tasks, stuck_figures, stuck_of}
use Rattle.paper_upper.specs.Questions.{answer_words, padded}
use Rattle.order_stuck.specs.Listing.{having, Listed}

-- ---- The members of one set that are not in another, as the code computes them.
pub others-are : (m k : Set) → m < 2 ^ 64 → k < 2 ^ 64 → bit_and m (2 ^ 64 - 1 - k) ≡ collect 64 (λ t. has m t && not (has k t))
others-are m k l h = same-members _ _ (λ i. at i (ltb i 64) refl)
  where
    by : (i : ℕ) → i < 64 → (a b : Bool) → has m i ≡ a → has k i ≡ b → has (bit_and m (2 ^ 64 - 1 - k)) i ≡ a && not b
    by i o true true p q =
        let x = bit-and i m (2 ^ 64 - 1 - k) in
        let y = bit_not 64 i k h o in
        let z = has-bit k i q in
        bit-hasnt _ i (omega arith)
    by i o true false p q =
        let x = bit-and i m (2 ^ 64 - 1 - k) in
        let y = bit_not 64 i k h o in
        let z = hasnt-bit k i q in
        let w = has-bit m i p in
        bit-has _ i (omega arith)
    by i o false b p q =
        let x = bit-and i m (2 ^ 64 - 1 - k) in
        let w = hasnt-bit m i p in
        bit-hasnt _ i (omega arith)

    at : (i : ℕ) (b : Bool) → ltb i 64 ≡ b → has (bit_and m (2 ^ 64 - 1 - k)) i ≡ has (collect 64 (λ t. has m t && not (has k t))) i
    at i true o = by i (ltb-true i 64 o) (has m i) (has k i) refl refl ∙ sym (collect-below 64 _ i (ltb-true i 64 o))
    at i false o =
        let x = bit-and i m (2 ^ 64 - 1 - k) in
        let w = bit-above 64 i m l (ltb-false i 64 o) in
        bit-hasnt _ i (omega arith) ∙ sym (collect-above 64 _ i (ltb-false i 64 o))

-- ---- One turn of the loop that gathers the tasks of a template.
module _ (f : ℕ → Bool) (k : ℕ) {m : Set} {b : Bool} (below : m ≡ collect k f) (is : b ≡ f k) where
  pub taken_in : b ≡ true → plus m k ≡ collect (k + 1) f
  taken_in e = let h : f k ≡ true = sym is ∙ e in sym (collect-more f k ∙ rw (h, ← below))

  pub left_out : b ≡ false → m ≡ collect (k + 1) f
  left_out e = let h : f k ≡ false = sym is ∙ e in sym (collect-more f k ∙ rw (h, ← below))

-- ---- The tasks of a list as a set.
has-having : (d : Set) (ts : List ℕ) (t : ℕ) → has (having d ts) t ≡ has d t || some (eqb t) ts
unfolding having some
has-having d [] t = sym (or-false (has d t))
has-having d (s ∷ ts) t = has-having (plus d s) ts t ∙ ap (λ (b : Bool). b || some (eqb t) ts) (has-plus d s t) ∙ assoc (has d t) (eqb t s) (some (eqb t) ts)
  where
    assoc : (a b c : Bool) → (a || b) || c ≡ a || (b || c)
    assoc true b c = refl
    assoc false b c = refl

stuck-others : (m : Set) (befores : List Pair) → collect 64 (λ t. has m t && not (has (having empty (free_tasks m befores)) t)) ≡ stuck_tasks m befores
unfolding stuck_tasks
stuck-others m befores =
    collect-same 64 _ _ (λ t l. ap (λ (b : Bool). has m t && not b)
    (has-having empty (free_tasks m befores) t ∙ ap (λ (b : Bool). b || some (eqb t) (free_tasks m befores)) (has-empty t)))

-- ---- A list of free tasks has at most as many tasks as steps.
at_most : (m : Set) (befores : List Pair) (n : ℕ) (had : Set) → length (free_from m befores n had) ≤ n
unfolding free_from go_on
at_most m befores zero had = omega arith
at_most m befores (suc n) had = go (lowest_from 0 64 (may m befores had)) (at_most m befores n)
  where
    go : (x : Maybe ℕ) → ((d : Set) → length (free_from m befores n d) ≤ n) → length (go_on (free_from m befores n) had x) ≤ suc n
    go none h = omega arith
    go (just t) h = let l = h (plus had t) in omega arith

-- ---- The list written into words that are 0.
abbrev zeros : ℕ → List ℕ
zeros n = replicate n 0

zeros-left : (k n : ℕ) → drop k (zeros n) ≡ zeros (n - k)
zeros-left zero n = let e : n - 0 ≡ n = omega arith in rw e
zeros-left (suc k) zero = let e : 0 - suc k ≡ 0 = omega arith in rw e
zeros-left (suc k) (suc n) = let e : suc n - suc k ≡ n - k = omega arith in rw e (zeros-left k n)

pub written : (m : Set) (befores : List Pair) (l l' : List ℕ) (had stuck : Set) → l ≡ replicate answer_words 0 → Listed m befores l l' had
    → stuck ≡ collect 64 (λ t. has m t && not (has had t)) → set l' 0 stuck ≡ padded (stuck_figures m befores)
unfolding padded
written m befores l l' had stuck z g s =
    let free = free_tasks m befores in
    let most : length free ≤ 64 = unfold free_tasks in at_most m befores 64 empty in
    let room : 2 + length free ≤ length (zeros answer_words) = let r = length-replicate {A = ℕ} answer_words 0 in omega arith in
    let w : sets l 2 free ≡ 0 ∷ 0 ∷ (free ++ zeros (answer_words - (2 + length free))) =
    rw z (sets-eq free (zeros answer_words) 2 room ∙ ap (λ (r : List ℕ). 0 ∷ 0 ∷ (free ++ r)) (zeros-left (2 + length free) answer_words)) in
    let k : stuck ≡ stuck_tasks m befores = s ∙ ap (λ (d : Set). collect 64 (λ t. has m t && not (has d t))) g.taken ∙ stuck-others m befores in
    let e : answer_words - (2 + length free) ≡ answer_words - suc (suc (length free)) = omega arith in
    ap (λ (x : List ℕ). set x 0 stuck) g.words ∙ ap (λ (x : List ℕ). set (set x 1 (many free)) 0 stuck) w ∙ rw (k, e)

pub of-template : (k : Tasks) (rules : Rules) (j : ℕ) {m : Set} {l : List ℕ} → m ≡ tasks_of k j → l ≡ padded (stuck_figures m rules.befores) →
    l ≡ padded (stuck_of k rules j)
unfolding stuck_of
of-template k rules j e h = h ∙ ap (λ (m : Set). padded (stuck_figures m rules.befores)) e
