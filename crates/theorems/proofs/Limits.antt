-- Limits on roles: a set breaks its limit exactly if more than n different roles of it count, role by role.
use Prim.Native.Nat.{ℕ, zero, suc, ◌≤◌, ◌<◌}
use mathlib.Core.Path.{◌≡◌, refl, sym, ap, subst, ◌∙◌}
use mathlib.Core.Bool.{Bool, true, false, ◌||◌, true≢false, false≢true}
use mathlib.Core.Logic.{◌⊎◌, inl, inr, ⊎_elim, ◌↔◌}
use mathlib.Core.List.{List, [], ◌∷◌}
use native.Mathlib.Omega.{arith}
use borrow.Author.Tests.{eqb-true, ltb-true, lt-ltb, le-ltb}
use lib.ListN.{length}
use Rattle.paper_lower.specs.Sets.{Set, has, plus, minus, union, ones_in, size, overlap, meets, within}
use Rattle.paper_lower.specs.Lists.{some, each, Every}
use Rattle.paper_lower.specs.Records.{Record}
use Rattle.paper_lower.specs.Tables.{Seniority, Limit}
use Rattle.paper_lower.specs.Policy.{down, breaks}
use Rattle.paper_lower.proofs.ListLaws.{every_map, every-both, none-some}
use Rattle.sets.proofs.SetLaws.{part-refl, part-more, part-minus, part-has, part_same, part_left, part_right, plus-member, has-old, has_new, has_kept, has_part, has-gone, has-union, overlap-in, meets-common, apart, within-refl}
use Rattle.theorems.specs.OverEntries.{of_kind, EveryTwo, Leads, AtOrAbove, Reached, Any, Exceeded, Broken}
use Rattle.theorems.specs.Seniority.{AsRecorded}
use Rattle.theorems.specs.Exactly.{In}
use Rattle.theorems.proofs.Down.{down-has, down-below, down-member}
use Rattle.theorems.proofs.Made.{a_limit}
use Rattle.theorems.proofs.Ranks.{Ranked}
use Rattle.theorems.proofs.Roles.{Within}
use Rattle.theorems.proofs.Reflects.{either}

-- ---- A list of different members of both sets has at most as many elements as their overlap, and there is one with as many.
abbrev Both : Set → Set → ℕ → Type 0
Both m d r = (has m r ≡ true) × (has d r ≡ true)

abbrev Differ : ℕ → ℕ → Type 0
Differ q r = q ≡ r → ⊥

plus-in : (d : Set) (r : ℕ) → has d r ≡ true → plus d r ≡ d
plus-in d r h = part_same _ _ (part-has _ _ (λ x e. ⊎_elim (λ (q : x ≡ r). rw q h) (λ y. y) (plus-member d r x e))) (part-more d d r (part-refl d))

one_less : (m d : Set) (r : ℕ) → Both m d r → overlap m d ≡ suc (overlap m (minus d r))
one_less m d r h = let e = ap (overlap m) (plus-in d r h.1) in let o = overlap-in m d r h.0 in omega arith

pub no_more : (m d : Set) (rs : List ℕ) → EveryTwo Differ rs → Every (Both m d) rs → length rs ≤ overlap m d
no_more m d [] two all = omega arith
no_more m d (r ∷ rs) two all =
    let rest = no_more m (minus d r) rs two.1 (every-both rs (λ q n h. (h.0, has_kept d r q (λ e. n (sym e)) ∙ h.1)) two.0 all.1) in
    let o = one_less m d r all.0 in
    omega arith

in-common : (m d : Set) → 0 < overlap m d → meets m d ≡ true
unfolding overlap size ones_in
in-common m d l = go (meets m d) refl
  where
    go : (b : Bool) → meets m d ≡ b → b ≡ true
    go true e = refl
    go false e = let o = ap size (apart m d e) in let z : ⊥ = omega arith in absurd z

pub as_many : (m d : Set) (k : ℕ) → k ≤ overlap m d → (rs : List ℕ) × EveryTwo Differ rs × (length rs ≡ k) × Every (Both m d) rs
as_many m d zero l = ([], tt, refl, tt)
as_many m d (suc k) l =
    let t = meets-common m d (in-common m d (omega arith)) in
    let o = one_less m d t.0 (t.1, t.2) in
    let rest = as_many m (minus d t.0) k (omega arith) in (
      t.0 ∷ rest.0,
      (every_map rest.0 (λ q h e. true≢false (sym h.1 ∙ ap (has (minus d t.0)) (sym e) ∙ has-gone d t.0)) rest.3, rest.1),
      ap suc rest.2,
      ((t.1, t.2), every_map rest.0 (λ q h. (h.0, has_part _ _ q (part-minus d t.0) h.1)) rest.3),
    )

pub union-parts : (d m : Set) (q : ℕ) → (has (union d m) q ≡ true) ↔ ((has d q ≡ true) ⊎ (has m q ≡ true))
union-parts d m q = (λ h. go (has d q) refl (sym (has-union d m q) ∙ h), λ h. ⊎_elim (has_part _ _ q (part_left d m)) (has_part _ _ q (part_right d m)) h)
  where
    go : (b : Bool) → has d q ≡ b → b || has m q ≡ true → (has d q ≡ true) ⊎ (has m q ≡ true)
    go true e h = inl e
    go false e h = inr h

pub plus-parts : (d : Set) (b q : ℕ) → (has (plus d b) q ≡ true) ↔ ((has d q ≡ true) ⊎ (q ≡ b))
plus-parts d b q = (
  λ h. ⊎_elim (λ e. inr e) (λ e. inl e) (plus-member d b q h),
  λ h. ⊎_elim (has-old d b q) (λ e. rw e (has_new d b)) h,
)

pub own-overlap : (m : Set) → overlap m m ≡ size m
unfolding overlap within
own-overlap m = ap size (eqb-true _ _ (within-refl m))

-- ---- The test `breaks` of the tables and the statement `Exceeded` about a record.
pub exceeds : (d : Set) (Counts : ℕ → Type 0) → ((r : ℕ) → In d r ↔ Counts r) → (x : Record) → (breaks d (a_limit x) ≡ true) ↔ Exceeded Counts x
unfolding breaks
exceeds d Counts c x = (
  λ e.
      let l = ltb-true x.n (overlap x.m d) e in
      let y = as_many x.m d (suc x.n) (omega arith) in
      let k = y.2 in
      record { roles = y.0; different = y.1; more = omega arith; among = every_map y.0 (λ r h. (h.0, (c r).0 h.1)) y.3 },
  λ y.
      let l = no_more x.m d y.roles y.different (every_map y.roles (λ r h. (h.0, (c r).1 h.1)) y.among) in
      let k = y.more in
      lt-ltb x.n (overlap x.m d) (omega arith),
)

some-exceed : (d : Set) (Counts : ℕ → Type 0) → ((r : ℕ) → In d r ↔ Counts r) → (rs : List Record)
    → (some (breaks d) (each a_limit rs) ≡ true) ↔ Any (Exceeded Counts) rs
unfolding some each
some-exceed d Counts c [] = (λ e. false≢true e, λ x. absurd x)
some-exceed d Counts c (x ∷ rs) = either _ _ (exceeds d Counts c x) (some-exceed d Counts c rs)

within-unbroken : (ls : List Limit) (d : Set) → Within ls d → some (breaks d) ls ≡ false
unfolding breaks
within-unbroken ls d h = none-some (breaks d) ls (every_map ls (λ l x. le-ltb l.n (overlap l.members d) x) h)

-- ---- Roles together with those below them: the tables and the chains of the policy's records.
module _ (policy : List Record) (se : Seniority) (ranked : Ranked se) (recorded : AsRecorded policy se) where
  senior : (a b : ℕ) → (between : List ℕ) × Leads (λ a b. has (se.juniors a) b) a between b → a < 64
  senior a b ([], l) = ranked.small a b l
  senior a b (c ∷ cs, l) = ranked.small a c l.0

  -- Any roles for which n is the set.
  module _ (Roles : ℕ → Type 0) (n : Set) (parts : (q : ℕ) → In n q ↔ Roles q) where
    below : (q r : ℕ) → In n q → AtOrAbove policy q r → In (down se n) r
    below q r h (inl e) = has_part n (down se n) r (down-has se n) (subst (In n) e h)
    below q r h (inr c) =
        let b = (recorded.below q r).1 c in
        has_part _ _ r (down-below se n q (senior q r ((ranked.chains q r).0 b)) h) b

    pub reached : (r : ℕ) → In (down se n) r ↔ Reached policy Roles r
    reached r = (
      λ h. ⊎_elim (λ e. (r, (parts r).0 e, inl refl)) (λ q. (q.0, (parts q.0).0 q.1, inr ((recorded.below q.0 r).0 q.2))) (down-member se n r h),
      λ q. below q.0 r ((parts q.0).1 q.1) q.2,
    )

    -- The sets of one kind.
    module _ (kind : ℕ) (ls : List Limit) (made : ls ≡ each a_limit (of_kind kind policy)) where
      pub broken : (some (breaks (down se n)) ls ≡ true) ↔ Broken policy kind Roles
      broken =
          subst (λ (ls : List Limit). (some (breaks (down se n)) ls ≡ true) ↔ Broken policy kind Roles) (sym made)
          (some-exceed (down se n) (Reached policy Roles) reached (of_kind kind policy))

      pub none-broken : Within ls (down se n) → Broken policy kind Roles → ⊥
      none-broken w b = true≢false (sym (broken.1 b) ∙ within-unbroken ls (down se n) w)
