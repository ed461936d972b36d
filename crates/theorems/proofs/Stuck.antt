-- The list that takes the lowest task that may come next has exactly the free tasks (02, Ask 13).
use Prim.Native.Nat.{ℕ, zero, suc, ◌+◌, ◌<◌, ◌≤◌, ◌^◌}
use mathlib.Core.Path.{◌≡◌, refl, sym, ap, subst, ◌∙◌}
use mathlib.Core.Logic.{⊎_elim}
use mathlib.Core.Bool.{Bool, true, false, not, cond, ◌&&◌, ◌||◌, false≢true}
use mathlib.Core.List.{List, [], ◌∷◌, ◌++◌}
use native.Mathlib.Omega.{arith}
use borrow.Author.Tests.{eqb-true, leb-true, leb-false, not-true, not-false}
use lib.Count.{ones-le}
use lib.Dec.{eqb, leb}
use Rattle.paper_lower.specs.Sets.{Set, empty, has, plus, size, within, overlap, collect}
use Rattle.paper_lower.specs.Lists.{Maybe, some}
use Rattle.paper_lower.specs.Lists.Maybe.{none, just}
use Rattle.paper_lower.specs.Tables.{Pair}
use Rattle.paper_lower.proofs.ListLaws.{both, not-both, every_map, some-none, none-some}
use Rattle.sets.proofs.Bits.{same-or-other}
use Rattle.sets.proofs.SetLaws.{Part, part-empty, part-has, has_part, has-empty, has-plus, has_above, plus-member, within-refl, collect-above, collect-below, minus-out, overlap-in, overlap-empty, overlap-part, size-ones}
use Rattle.paper_upper.specs.Rules.{missing}
use Rattle.paper_upper.specs.Stuck.{ready, Orderly, may, Lowest, lowest_from, go_on, free_from, free_tasks, stuck_tasks}
use Rattle.theorems.specs.Joining.{gathered}
use Rattle.theorems.specs.Stuck.{Answered, StuckAreTold}

-- ---- The lowest number for which f holds.
abbrev Found : (ℕ → Bool) → ℕ → ℕ → Maybe ℕ → Type 0
Found f k n none = (j : ℕ) → k ≤ j → j < k + n → f j ≡ false
Found f k n (just t) = (f t ≡ true) × ((u : ℕ) → k ≤ u → u < t → f u ≡ false)

found : (f : ℕ → Bool) (k n : ℕ) → Found f k n (lowest_from k n f)
unfolding lowest_from
found f k zero = λ j l m. let z : ⊥ = omega arith in absurd z
found f k (suc n) = go (f k) refl (found f (suc k) n)
  where
    later : f k ≡ false → (x : Maybe ℕ) → Found f (suc k) n x → Found f k (suc n) x
    later e none h = λ j l m. ⊎_elim (λ (q : j ≡ k). ap f q ∙ e) (λ d. h j (omega arith) (omega arith)) (same-or-other j k)
    later e (just t) h = (h.0, λ u l m. ⊎_elim (λ (q : u ≡ k). ap f q ∙ e) (λ d. h.1 u (omega arith) m) (same-or-other u k))

    go : (b : Bool) → f k ≡ b → Found f (suc k) n (lowest_from (suc k) n f) → Found f k (suc n) (cond b (just k) (lowest_from (suc k) n f))
    go true e h = (e, λ u l m. let z : ⊥ = omega arith in absurd z)
    go false e h = later e (lowest_from (suc k) n f) h

has-gathered : (d : Set) (ts : List ℕ) (t : ℕ) → has (gathered d ts) t ≡ has d t || some (eqb t) ts
unfolding gathered some
has-gathered d [] t = sym (or-none-right (has d t))
  where
    or-none-right : (b : Bool) → b || false ≡ b
    or-none-right true = refl
    or-none-right false = refl
has-gathered d (s ∷ ts) t =
    has-gathered (plus d s) ts t ∙ ap (λ (b : Bool). b || some (eqb t) ts) (has-plus d s t) ∙ assoc (has d t) (eqb t s) (some (eqb t) ts)
  where
    assoc : (a b c : Bool) → (a || b) || c ≡ a || (b || c)
    assoc true b c = refl
    assoc false b c = refl

module _ (m : Set) (rs : List Pair) (small : m < 2 ^ 64) where
  may-parts : (had : Set) (t : ℕ) → may m rs had t ≡ true → (has m t ≡ true) × (has had t ≡ false) × (ready rs had t ≡ true)
  unfolding may
  may-parts had t h =
      let x = both (has m t && not (has had t)) (ready rs had t) h in
      let y = both (has m t) (not (has had t)) x.0 in
      (y.0, not-true _ y.1, x.1)

  -- ---- Each task of the list may come where it stands, and no lower one could.
  kept : (n : ℕ) (had : Set) → Orderly m rs had (free_from m rs n had) × Lowest m rs had (free_from m rs n had)
  unfolding free_from go_on
  kept zero had = (tt, tt)
  kept (suc n) had = go (lowest_from 0 64 (may m rs had)) (found (may m rs had) 0 64) (λ d. kept n d)
    where
      go : (x : Maybe ℕ) → Found (may m rs had) 0 64 x → ((d : Set) → Orderly m rs d (free_from m rs n d) × Lowest m rs d (free_from m rs n d))
          → Orderly m rs had (go_on (free_from m rs n) had x) × Lowest m rs had (go_on (free_from m rs n) had x)
      go none h rest = (tt, tt)
      go (just t) h rest =
          let p = may-parts had t h.0 in
          let r = rest (plus had t) in
          ((p.0, p.1, p.2, r.0), (λ u l. h.1 u (omega arith) l, r.1))

  -- ---- Each step adds one more task of the template, as long as there is one.
  one_more : (had : Set) (t : ℕ) → has m t ≡ true → has had t ≡ false → overlap m (plus had t) ≡ overlap m had + 1
  one_more had t h n = overlap-in m had t h ∙ ap (λ (d : Set). overlap m d + 1) (minus-out had t n)

  with-one : (had : Set) (t : ℕ) → Part had m → has m t ≡ true → Part (plus had t) m
  with-one had t p h = part-has (plus had t) m (λ i e. ⊎_elim (λ (q : i ≡ t). ap (has m) q ∙ h) (λ x. has_part had m i p x) (plus-member had t i e))

  -- If no task below 64 may come next, none may.
  everywhere : (had : Set) → ((u : ℕ) → u < 64 → may m rs had u ≡ false) → (t : ℕ) → may m rs had t ≡ false
  unfolding may
  everywhere had h t = go (leb 64 t) refl
    where
      go : (b : Bool) → leb 64 t ≡ b → has m t && not (has had t) && ready rs had t ≡ false
      go true e = rw (has_above 64 m t small (leb-true 64 t e))
      go false e = h t (leb-false 64 t e)

  -- After enough steps no task may come next.
  ended : (n : ℕ) (had : Set) → Part had m → overlap m m ≤ overlap m had + n → (t : ℕ) → may m rs (gathered had (free_from m rs n had)) t ≡ false
  unfolding free_from go_on gathered
  ended zero had p l t = go (may m rs had t) refl
    where
      go : (b : Bool) → may m rs had t ≡ b → b ≡ false
      go true e =
          let x = may-parts had t e in
          let o = one_more had t x.0 x.1 in
          let w = overlap-part m (plus had t) m (with-one had t p x.0) in
          let z : ⊥ = omega arith in absurd z
      go false e = refl
  ended (suc n) had p l t = go (lowest_from 0 64 (may m rs had)) (found (may m rs had) 0 64) (λ d. ended n d)
    where
      go : (x : Maybe ℕ) → Found (may m rs had) 0 64 x
          → ((d : Set) → Part d m → overlap m m ≤ overlap m d + n → (t : ℕ) → may m rs (gathered d (free_from m rs n d)) t ≡ false)
          → may m rs (gathered had (go_on (free_from m rs n) had x)) t ≡ false
      go none h rest = everywhere had (λ u l. h u (omega arith) l) t
      go (just s) h rest =
          let x = may-parts had s h.0 in
          let o = one_more had s x.0 x.1 in
          rest (plus had s) (with-one had s p x.0) (omega arith) t

  -- ---- Every list in which each task may come next has only tasks of this list.
  unfoldable pub had-all : Set
  had-all = gathered empty (free_tasks m rs)

  as_many : overlap m m ≡ size m
  unfolding overlap within
  as_many = ap size (eqb-true _ _ (within-refl m))

  none-follows : (t : ℕ) → may m rs had-all t ≡ false
  unfolding had-all free_tasks
  none-follows t =
      let a = as_many in
      let l = ones-le 64 m small in
      let s = size-ones m in
      let o = overlap-empty m in
      ended 64 empty (part-empty m) (omega arith) t

  pub one-had : (had all : Set) (t : ℕ) → Part had all → (x : Pair) → missing had t x ≡ false → missing all t x ≡ false
  unfolding missing
  one-had had all t p x h = go (eqb x.b t) refl
    where
      go : (b : Bool) → eqb x.b t ≡ b → b && not (has all x.a) ≡ false
      go true e = ap not (has_part had all x.a p (not-false _ (not-both (eqb x.b t) (not (has had x.a)) h e)))
      go false e = refl

  ready-more : (had all : Set) (t : ℕ) → Part had all → ready rs had t ≡ true → ready rs all t ≡ true
  unfolding ready
  ready-more had all t p h =
      ap not (none-some (missing all t) rs (every_map rs (one-had had all t p) (some-none (missing had t) rs (not-true _ h))))

  pub is-had : (t : ℕ) → has m t ≡ true → ready rs had-all t ≡ true → has had-all t ≡ true
  unfolding may
  is-had t h r =
      not-false _ (not-both (ready rs had-all t) (not (has had-all t)) (turned (has m t) (not (has had-all t)) (ready rs had-all t) h (none-follows t)) r)
    where
      turned : (a b c : Bool) → a ≡ true → a && b && c ≡ false → c && b ≡ false
      turned true true true e h = h
      turned true true false e h = refl
      turned true false true e h = refl
      turned true false false e h = refl
      turned false b c e h = absurd (false≢true e)

  last-had : (ts : List ℕ) (t : ℕ) (had : Set) → Part had had-all → Orderly m rs had (ts ++ (t ∷ [])) → has had-all t ≡ true
  last-had [] t had p o = is-had t o.0 (ready-more had had-all t p o.2)
  last-had (s ∷ ts) t had p o =
      let h = is-had s o.0 (ready-more had had-all s p o.2) in
      last-had ts t (plus had s)
      (part-has (plus had s) had-all (λ i e. ⊎_elim (λ (q : i ≡ s). ap (has had-all) q ∙ h) (λ x. has_part had had-all i p x) (plus-member had s i e))) o.3

  -- ---- Each task of the list is the end of a first part of it, and so is free.
  ends-in : (us : List ℕ) (t : ℕ) (had : Set) → Orderly m rs had us → some (eqb t) us ≡ true → (ts : List ℕ) × Orderly m rs had (ts ++ (t ∷ []))
  unfolding some
  ends-in [] t had o h = absurd (false≢true h)
  ends-in (u ∷ us) t had o h = go (eqb t u) refl h (λ q. ends-in us t (plus had u) o.3 q)
    where
      go : (b : Bool) → eqb t u ≡ b → b || some (eqb t) us ≡ true → (some (eqb t) us ≡ true → (ts : List ℕ) × Orderly m rs (plus had u) (ts ++ (t ∷ [])))
          → (ts : List ℕ) × Orderly m rs had (ts ++ (t ∷ []))
      go true e h rest = ([], subst (λ (s : ℕ). Orderly m rs had (s ∷ [])) (sym (eqb-true _ _ e)) (o.0, o.1, o.2, tt))
      go false e h rest = let r = rest h in (u ∷ r.0, (o.0, o.1, o.2, r.1))

  pub member : (t : ℕ) → has had-all t ≡ some (eqb t) (free_tasks m rs)
  unfolding had-all
  member t = has-gathered empty (free_tasks m rs) t ∙ rw (has-empty t)

  pub answered : Answered m rs
  unfolding free_tasks stuck_tasks
  answered =
      let k = kept 64 empty in
      record {
        orderly = k.0;
        lowest = k.1;
        free = λ t. (λ f. sym (member t) ∙ last-had f.0 t empty (part-empty had-all) f.1, λ h. ends-in (free_tasks m rs) t empty k.0 h);
        stuck = λ t. within_64 t (leb 64 t) refl;
      }
    where
      within_64 : (t : ℕ) (b : Bool) → leb 64 t ≡ b
          → has (collect 64 (λ t. has m t && not (some (eqb t) (free_tasks m rs)))) t ≡ has m t && not (some (eqb t) (free_tasks m rs))
      within_64 t true e = collect-above 64 _ t (leb-true 64 t e) ∙ rw (has_above 64 m t small (leb-true 64 t e))
      within_64 t false e = collect-below 64 _ t (leb-false 64 t e)

pub stuck-are-told : StuckAreTold
stuck-are-told m rs small = answered m rs small
