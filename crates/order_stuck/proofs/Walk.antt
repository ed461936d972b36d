-- The loop of `list`: its invariant `Going`, its start, one turn, and its end.
use Prim.Native.Nat.{ℕ, suc, ◌+◌, ◌-◌, ◌≤◌, ◌<◌}
use mathlib.Core.Bool.{not, ◌&&◌}
use mathlib.Core.List.{List, [], ◌∷◌}
use mathlib.Core.Path.{◌≡◌, refl, sym, ap, ◌∙◌}
use native.Mathlib.Omega.{arith}
use lib.ListN.{set}
use lib.Seq.{sets}
use Rattle.std.specs.Prelude.{Option, Some, None}
use Rattle.paper_lower.specs.Sets.{Set, empty, has, plus, union, collect}
use Rattle.paper_lower.specs.Lists.{many}
use Rattle.paper_lower.specs.Tables.{Pair}
use Rattle.paper_upper.specs.Stuck.{may, lowest_from, go_on, free_from, free_tasks}
use Rattle.order_stuck.specs.Listing.{optional, waiting, having, Listed}
use Rattle.order_stuck.proofs.WaitLaws.{others-may}
use Rattle.order_stuck.proofs.LowestLaws.{lowest-same, is_found, none_found}

-- The lowest of the tasks of m that are neither in `had` nor waiting is the lowest that may come next.
pub next-is : (m : Set) (befores : List Pair) (had : Set) {w u o : Set} {r : Option ℕ} → w ≡ waiting had befores → u ≡ union had w →
    o ≡ collect 64 (λ t. has m t && not (has u t))
    → r ≡ optional (lowest_from 0 64 (has o)) → r ≡ optional (lowest_from 0 64 (may m befores had))
next-is m befores had p q e h =
    h ∙ ap optional (lowest-same 0 64 _ _ (λ i a l. ap (λ (s : Set). has s i) e
    ∙ ap (λ (s : Set). has (collect 64 (λ t. has m t && not (has s t))) i) (q ∙ ap (union had) p)
    ∙ others-may m befores had i (omega arith)))

module _ (m : Set) (befores : List Pair) where
  -- The invariant after n tasks, which are in `had`: with the tasks that the definition
  -- still adds, the words, the set and the number are those of the whole list.
  pub record Going (l₀ l : List ℕ) (had : Set) (n : ℕ) : Type 0 where
    pub words : sets l (n + 2) (free_from m befores (64 - n) had) ≡ sets l₀ 2 (free_tasks m befores)
    pub taken : having had (free_from m befores (64 - n) had) ≡ having empty (free_tasks m befores)
    pub counted : n + many (free_from m befores (64 - n) had) ≡ many (free_tasks m befores)

  pub begin : (l : List ℕ) → Going l l empty 0
  unfolding free_tasks
  begin l = record { words = refl; taken = refl; counted = omega arith }

  -- ---- The part of the list that is still to be written.
  left_one : (had : Set) (n t : ℕ) → n < 64 → Some t ≡ optional (lowest_from 0 64 (may m befores had))
      → free_from m befores (64 - n) had ≡ t ∷ free_from m befores (64 - (n + 1)) (plus had t)
  unfolding free_from go_on
  left_one had n t l e =
      let a : 64 - n ≡ suc (64 - (n + 1)) = omega arith in
      rw (a, is_found (lowest_from 0 64 (may m befores had)) t e)

  left-none : (had : Set) (n : ℕ) → n < 64 → None ≡ optional (lowest_from 0 64 (may m befores had)) → free_from m befores (64 - n) had ≡ []
  unfolding free_from go_on
  left-none had n l e =
      let a : 64 - n ≡ suc (64 - (n + 1)) = omega arith in
      rw (a, none_found (lowest_from 0 64 (may m befores had)) e)

  left-past : (had : Set) (n : ℕ) → 64 ≤ n → free_from m befores (64 - n) had ≡ []
  unfolding free_from
  left-past had n l = let a : 64 - n ≡ 0 = omega arith in rw a

  -- ---- One turn, and the two ends of the loop.
  pub turn : (l₀ l : List ℕ) (had : Set) (n t : ℕ) → n < 64 → Some t ≡ optional (lowest_from 0 64 (may m befores had))
      → Going l₀ l had n → Going l₀ (set l (n + 2) t) (plus had t) (n + 1)
  unfolding having many
  turn l₀ l had n t h e g =
      let o = left_one had n t h e in
      let p : n + 1 + 2 ≡ suc (n + 2) = omega arith in
      let c = ap (λ (ts : List ℕ). n + many ts) o in
      record {
        words = rw p (ap (sets l (n + 2)) (sym o) ∙ g.words);
        taken = ap (having had) (sym o) ∙ g.taken;
        counted = let k = g.counted in omega arith;
      }

  ended : (l₀ l : List ℕ) (had : Set) (n : ℕ) → free_from m befores (64 - n) had ≡ [] → Going l₀ l had n → Listed m befores l₀ (set l 1 n) had
  unfolding having many
  ended l₀ l had n o g =
      let c = ap (λ (ts : List ℕ). n + many ts) o in
      let k : n ≡ many (free_tasks m befores) = let q = g.counted in omega arith in
      let w : l ≡ sets l₀ 2 (free_tasks m befores) = ap (sets l (n + 2)) (sym o) ∙ g.words in
      record { words = rw (← k, ← w); taken = ap (having had) (sym o) ∙ g.taken }

  pub none_left : (l₀ l : List ℕ) (had : Set) (n : ℕ) → n < 64 → None ≡ optional (lowest_from 0 64 (may m befores had)) → Going l₀ l had n →
      Listed m befores l₀ (set l 1 n) had
  none_left l₀ l had n h e g = ended l₀ l had n (left-none had n h e) g

  pub all_done : (l₀ l : List ℕ) (had : Set) (n : ℕ) → 64 ≤ n → Going l₀ l had n → Listed m befores l₀ (set l 1 n) had
  all_done l₀ l had n h g = ended l₀ l had n (left-past had n h) g
