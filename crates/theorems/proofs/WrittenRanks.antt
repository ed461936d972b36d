-- Writing senior roles, kind 17: the written pairs lead to the same tables although their order
-- differs from the policy's, because the roles below a role are those that chains of pairs lead to.
use Prim.Native.Nat.{ℕ, zero, suc, ◌+◌, ◌<◌, ◌≤◌}
use mathlib.Core.Path.{◌≡◌, refl, sym, ap, subst, ◌∙◌}
use mathlib.Core.Logic.{◌⊎◌, inl, inr, ⊎_elim, ◌↔◌}
use mathlib.Core.Bool.{Bool, true, false, cond, ◌&&◌, false≢true}
use mathlib.Core.List.{List, [], ◌∷◌}
use native.Mathlib.Omega.{arith}
use borrow.Author.Tests.{eqb-true, le-ltb, ltb-true, ltb-false, lt-leb}
use lib.Dec.{eqb, ltb, leb}
use Rattle.paper_lower.specs.Sets.{Set, empty, has, plus, size, overlap, collect}
use Rattle.paper_lower.specs.Lists.{upd, some_number_below, sum_below, some}
use Rattle.paper_lower.specs.Records.{Record}
use Rattle.paper_lower.specs.Forms.{policy_forms, form_of, misplaced, above, misshapen, out_of_range}
use Rattle.paper_lower.specs.Kinds.{chosen}
use Rattle.paper_lower.specs.Tables.{Seniority, Policy}
use Rattle.paper_lower.specs.Policy.{down, breaks, raised, raisings, raise_checks, raise_next, policy_kinds}
use Rattle.paper_lower.specs.Written.{in_turn, when, row}
use Rattle.paper_lower.proofs.ListLaws.{upd_same, upd_other, and-false, below_none, every_map, none-some}
use Rattle.sets.proofs.Bits.{same-or-other, ones-or}
use Rattle.sets.proofs.SetLaws.{same-members, has-empty, hasnt-bit, collect-above, Part, part-has, has_part, plus-member, size-ones, size-part}
use Rattle.theorems.proofs.WellMade.{in-collect}
use Rattle.theorems.proofs.Down.{down-more}
use Rattle.theorems.proofs.Ranks.{named, Chain, leads-more, Ranked, through, raised-ranked}
use Rattle.theorems.proofs.Roles.{Within, within-less}
use Rattle.theorems.proofs.WrittenRuns.{Clean, Run, run_none, run-one, run-then, bare, mix, mix-below, mix-from, mix-none, mix_all, mix_next, upd-idle, upd-again, collect-next, collect-skip, collect-all}
use Rattle.theorems.proofs.WrittenReady.{Ready}
use Rattle.theorems.proofs.WrittenStages.{whole, unranked, no-set, role-small}

-- ---- The pairs determine the roles below each role.
same_bit : (b c : Bool) → (b ≡ true → c ≡ true) → (c ≡ true → b ≡ true) → b ≡ c
same_bit true c f g = sym (f refl)
same_bit false true f g = g refl
same_bit false false f g = refl

pub same-ranks : (z s : Seniority) → Ranked z → Ranked s → z.juniors ≡ s.juniors → z ≡ s
same-ranks z s rz rs e = λ i. record { juniors = e i; below = λ r. same r i }
  where
    there-so : (r b : ℕ) → (has (z.below r) b ≡ true) ↔ Chain (named s) r b
    there-so r b = subst (λ (f : ℕ → Set). (has (z.below r) b ≡ true) ↔ Chain (λ x y. has (f x) y) r b) e (rz.chains r b)

    same : (r : ℕ) → z.below r ≡ s.below r
    same r = same-members (z.below r) (s.below r) (λ b.
        same_bit (has (z.below r) b) (has (s.below r) b) (λ h. (rs.chains r b).1 ((there-so r b).0 h)) (λ h. (there-so r b).1 ((rs.chains r b).0 h)))

-- Fewer pairs give fewer roles below each role.
pub below-part : (z s : Seniority) → Ranked z → Ranked s → ((a b : ℕ) → named z a b ≡ true → named s a b ≡ true) → (r : ℕ) → Part (z.below r) (s.below r)
below-part z s rz rs h r = part-has _ _ (λ b e. let c = (rz.chains r b).0 e in (rs.chains r b).1 (c.0, leads-more (named z) (named s) h r c.0 b c.1))

-- ---- A part of the pairs is fewer pairs than all.
sum-le : (n : ℕ) (f g : ℕ → ℕ) → ((r : ℕ) → f r ≤ g r) → sum_below n f ≤ sum_below n g
unfolding sum_below
sum-le zero f g h = omega arith
sum-le (suc n) f g h = let a = h n in let b = sum-le n f g h in omega arith

sum_less : (n : ℕ) (f g : ℕ → ℕ) → ((r : ℕ) → f r ≤ g r) → (a : ℕ) → a < n → f a < g a → sum_below n f < sum_below n g
unfolding sum_below
sum_less zero f g h a l q = omega arith
sum_less (suc n) f g h a l q = go (same-or-other a n) (sum_less n f g h a)
  where
    go : (a ≡ n) ⊎ (a ≡ n → ⊥) → (a < n → f a < g a → sum_below n f < sum_below n g) → f n + sum_below n f < g n + sum_below n g
    go (inl e) rest = let x : f n < g n = rw e at q in let b = sum-le n f g h in omega arith
    go (inr d) rest = let x = h n in let b = rest (omega arith) q in omega arith

size-more : (m k : Set) (b : ℕ) → Part m k → has m b ≡ false → has k b ≡ true → size m < size k
unfolding plus
size-more m k b h out inn =
    let p = size-part (plus m b) k (part-has _ _ (λ i e. ⊎_elim (λ (q : i ≡ b). rw q inn) (λ q. has_part m k i h q) (plus-member m b i e))) in
    let o = ones-or b m in
    let z = hasnt-bit m b out in
    let u = size-ones (plus m b) in
    let v = size-ones m in
    omega arith

module _ (p : Policy) (h : Ready p) (hold : (u : ℕ) → Within p.rules.statics (down p.seniority (p.people.assigned u))) where
  abbrev s : Seniority
  s = p.seniority

  abbrev f : ℕ → Set
  f = s.juniors

  -- The policy with the senior roles z and everything else as in p, but no walls.
  abbrev pub P17 : Seniority → Policy
  P17 z = whole p.people z p.permissions p.tasks p.rules

  -- The records rs lead from the pairs of z to the pairs g.
  record Reach (z : Seniority) (rs : List Record) (g : ℕ → Set) : Type 0 where
    to : Seniority
    run : Run (P17 z) rs (P17 to)
    ranked : Ranked to
    pairs : to.juniors ≡ g

  reach-turns : (G : ℕ → ℕ → Set) (rows : ℕ → List Record) (n : ℕ)
      → ((k : ℕ) → k < n → (z : Seniority) → Ranked z → z.juniors ≡ G k → Reach z (rows k) (G (suc k)))
      → (z : Seniority) → Ranked z → z.juniors ≡ G 0 → Reach z (in_turn n rows) (G n)
  unfolding in_turn
  reach-turns G rows zero one z r e = record { to = z; run = run_none (P17 z) (P17 z) refl; ranked = r; pairs = e }
  reach-turns G rows (suc n) one z r e =
      let a = reach-turns G rows n (λ k l. one k (omega arith)) z r e in
      let b = one n (omega arith) a.to a.ranked a.pairs in
      record { to = b.to; run = run-then (P17 z) (P17 a.to) (P17 b.to) (in_turn n rows) (rows n) a.run b.run; ranked = b.ranked; pairs = b.pairs }

  -- ---- One pair: it is accepted.
  module _ (z : Seniority) (r : Ranked z) (part : (i j : ℕ) → named z i j ≡ true → named s i j ≡ true) (a b : ℕ) (mine : named s a b ≡ true) (new : named z a b ≡ false) where
    small-a : a < 64
    small-a = role-small p h a (h.ranks.known a b mine).0

    below-b : has (s.below a) b ≡ true
    below-b = (h.ranks.ranked.chains a b).1 ([], mine)

    no_self : eqb a b ≡ false
    no_self = go (eqb a b) refl
      where
        go : (c : Bool) → eqb a b ≡ c → c ≡ false
        go true e = absurd (h.ranks.ranked.loopless a (ap (has (s.below a)) (eqb-true a b e) ∙ below-b))
        go false e = refl

    no_loop : has (z.below b) a ≡ false
    no_loop = go (has (z.below b) a) refl
      where
        go : (c : Bool) → has (z.below b) a ≡ c → c ≡ false
        go true e =
            absurd (h.ranks.ranked.loopless a
            (through s h.ranks.ranked a b a b a below-b (has_part _ _ a (below-part z s r h.ranks.ranked part b) e)))
        go false e = refl

    abbrev next : Seniority
    next = raised z a b

    next-ranked : Ranked next
    next-ranked = raised-ranked z r a b small-a no_self no_loop

    next-part : (i j : ℕ) → named next i j ≡ true → named s i j ≡ true
    unfolding raised
    next-part i j e = ⊎_elim
        (λ (q : i ≡ a). ⊎_elim (λ (w : j ≡ b). rw (q, w) mine) (λ (w : has (z.juniors a) j ≡ true). rw q (part a j w))
        (plus-member (z.juniors a) b j (rw (upd_same z.juniors a i (plus (z.juniors a) b) q) at e)))
        (λ n. part i j (rw (upd_other z.juniors a i (plus (z.juniors a) b) n) at e)) (same-or-other i a)

    unbroken : some_number_below 1024 (λ u. p.people.users u && some (breaks (down next (p.people.assigned u))) p.rules.statics) ≡ false
    unfolding breaks
    unbroken = below_none 1024 (λ u. p.people.users u && some (breaks (down next (p.people.assigned u))) p.rules.statics) (λ u l.
        let w =
        within-less p.rules.statics _ _ (down-more next s (below-part next s next-ranked h.ranks.ranked next-part) (p.people.assigned u)) (hold u) in
        ap (λ (c : Bool). p.people.users u && c)
        (none-some (breaks (down next (p.people.assigned u))) p.rules.statics
        (every_map p.rules.statics (λ l x. le-ltb l.n (overlap l.members (down next (p.people.assigned u))) x) w))
        ∙ and-false (p.people.users u))

    room : leb 64 (raisings z) ≡ false
    unfolding raisings
    room =
        let l =
        sum_less 64 (λ i. size (z.juniors i)) (λ i. size (s.juniors i)) (λ i. size-part (z.juniors i) (s.juniors i) (part-has _ _ (part i))) a small-a
        (size-more (z.juniors a) (s.juniors a) b (part-has _ _ (part a)) new mine) in
        let m = h.ranks.room in
        lt-leb 64 (sum_below 64 (λ i. size (z.juniors i))) (omega arith)

    clean : Clean (P17 z) (row 17 0 a b 0 0)
    unfolding chosen policy_kinds raise_checks policy_forms form_of misshapen misplaced out_of_range above
    clean =
        let la = small-a in
        let d = h.ranks.known a b mine in
        let lb = role-small p h b d.1 in
        record {
          a = omega arith;
          b = omega arith;
          c = omega arith;
          m = omega arith;
          shape = refl;
          range = rw (le-ltb 63 a (omega arith), le-ltb 63 b (omega arith)) refl;
          checks = (rw (d.0, d.1) refl, (new, (no_self, (no_loop, (unbroken, (room, tt))))));
        }

    step-17 : Run (P17 z) (row 17 0 a b 0 0 ∷ []) (P17 next)
    unfolding chosen policy_kinds raise_next
    step-17 = run-one (P17 z) (P17 next) (row 17 0 a b 0 0) clean refl

  -- ---- `at a b`: the pairs written before the pair (a, b): all pairs of roles with a lower number than a, and those of a with a lower number than b.
  abbrev at : ℕ → ℕ → ℕ → Set
  at a b = upd (mix f bare a) a (collect b (has (f a)))

  here : (a b : ℕ) → at a b a ≡ collect b (has (f a))
  here a b = upd_same (mix f bare a) a a (collect b (has (f a))) refl

  mixed : (a i j : ℕ) → has (mix f bare a i) j ≡ true → has (f i) j ≡ true
  mixed a i j e = go (ltb i a) refl
    where
      go : (c : Bool) → ltb i a ≡ c → has (f i) j ≡ true
      go true q = rw (mix-below f bare a i (ltb-true i a q)) at e
      go false q = absurd (false≢true (sym (has-empty j) ∙ (rw (mix-from f bare a i (ltb-false i a q)) at e)))

  within_all : (a b i j : ℕ) → has (at a b i) j ≡ true → has (f i) j ≡ true
  within_all a b i j e = ⊎_elim
      (λ (q : i ≡ a). rw q (in-collect b (has (f a)) j (rw (upd_same (mix f bare a) a i (collect b (has (f a))) q) at e)).1)
      (λ n. mixed a i j (rw (upd_other (mix f bare a) a i (collect b (has (f a))) n) at e)) (same-or-other i a)

  one-pair : (a b : ℕ) (z : Seniority) → Ranked z → z.juniors ≡ at a b → Reach z (when (has (f a) b) (row 17 0 a b 0 0)) (at a (suc b))
  unfolding when raised
  one-pair a b z r e = go (has (f a) b) refl
    where
      part : (i j : ℕ) → named z i j ≡ true → named s i j ≡ true
      part i j q = within_all a b i j (subst (λ (g : ℕ → Set). has (g i) j ≡ true) e q)

      new : named z a b ≡ false
      new = subst (λ (g : ℕ → Set). has (g a) b ≡ false) (sym e) (rw (here a b) (collect-above b (has (f a)) b (omega arith)))

      more : has (f a) b ≡ true → (raised z a b).juniors ≡ at a (suc b)
      more q =
          ap (λ (g : ℕ → Set). upd g a (plus (g a) b)) e
          ∙ ap (λ (m : Set). upd (at a b) a (plus m b)) (here a b)
          ∙ upd-again (mix f bare a) a (collect b (has (f a))) (plus (collect b (has (f a))) b)
          ∙ ap (λ (m : Set). upd (mix f bare a) a m) (collect-next (f a) b q)

      go : (c : Bool) → has (f a) b ≡ c → Reach z (cond c (row 17 0 a b 0 0 ∷ []) []) (at a (suc b))
      go true q = record { to = raised z a b; run = step-17 z r part a b q new; ranked = next-ranked z r part a b q new; pairs = more q }
      go false q = record {
        to = z;
        run = run_none (P17 z) (P17 z) refl;
        ranked = r;
        pairs = e ∙ ap (λ (m : Set). upd (mix f bare a) a m) (collect-skip (f a) b q);
      }

  small-pair : (a b : ℕ) → has (f a) b ≡ true → b < 64
  small-pair a b e = role-small p h b (h.ranks.known a b e).1

  one-row : (a : ℕ) (z : Seniority) → Ranked z → z.juniors ≡ mix f bare a →
      Reach z (in_turn 64 (λ b. when (has (f a) b) (row 17 0 a b 0 0))) (mix f bare (suc a))
  unfolding collect
  one-row a z r e =
      let x = reach-turns (at a) (λ b. when (has (f a) b) (row 17 0 a b 0 0)) 64 (λ b l. one-pair a b) z r
      (e ∙ sym (upd-idle (mix f bare a) a empty (mix-from f bare a a (omega arith)))) in
      record {
        to = x.to;
        run = x.run;
        ranked = x.ranked;
        pairs = x.pairs ∙ mix_next f bare a (collect 64 (has (f a))) (collect-all 64 (f a) (small-pair a));
      }

  pub run-17 : Ranked unranked → Run (P17 unranked) (in_turn 64 (λ a. in_turn 64 (λ b. when (has (f a) b) (row 17 0 a b 0 0)))) (P17 s)
  run-17 start =
      let x =
      reach-turns (mix f bare) (λ a. in_turn 64 (λ b. when (has (f a) b) (row 17 0 a b 0 0))) 64 (λ a l. one-row a) unranked start (sym (mix-none f bare)) in
      let e = same-ranks x.to s x.ranked h.ranks.ranked
      (x.pairs ∙ mix_all f bare 64 (no-set f 64 (λ i b q. role-small p h i (h.ranks.known i b q).0))) in
      subst (λ (z : Seniority). Run (P17 unranked) (in_turn 64 (λ a. in_turn 64 (λ b. when (has (f a) b) (row 17 0 a b 0 0)))) (P17 z)) e x.run
