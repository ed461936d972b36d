-- After an accepted load, the roles below a role are those to which a chain of the policy's records of kind 17 leads, and no role is below itself.
use Prim.Native.Nat.{ℕ, ◌<◌}
use mathlib.Core.Path.{◌≡◌, refl, sym, ap, subst, ◌∙◌}
use mathlib.Core.Logic.{◌⊎◌, inl, inr, ⊎_elim, ◌↔◌}
use mathlib.Core.Bool.{Bool, true, false, cond, ◌&&◌, ◌||◌, true≢false, false≢true, or-true, or-false}
use mathlib.Core.List.{List, [], ◌∷◌, ◌++◌}
use native.Mathlib.Omega.{arith}
use borrow.Author.Tests.{eqb-true, eqb-false, eq-eqb, ne_eqb}
use lib.Dec.{eqb, ltb}
use Rattle.paper_lower.specs.Sets.{empty, has, plus, union}
use Rattle.paper_lower.specs.Lists.{some, keep}
use Rattle.paper_lower.specs.Records.{Bytes, Record}
use Rattle.paper_lower.specs.Forms.{policy_forms, form_of, above, out_of_range}
use Rattle.paper_lower.specs.Tables.{Seniority, Policy, no_policy}
use Rattle.paper_lower.specs.Policy.{user_next, role_next, permission_next, assign_next, give_next, task_next, open_to_next, carries_next, static_next, dynamic_next, task_set_next, block_next, ban_next, most_next, bind_next, before_next, raised, raise_checks, raise_next, wall_next, policy_kinds}
use Rattle.paper_lower.specs.Load.{load, records_of}
use Rattle.paper_lower.proofs.ListLaws.{upd_same, upd_other, ◌⨾◌}
use Rattle.sets.proofs.Bits.{same-or-other}
use Rattle.sets.proofs.SetLaws.{has-empty, has-union, has-plus, has_new, has-old, plus-member}
use Rattle.theorems.specs.OverEntries.{of_kind, puts, Leads}
use Rattle.theorems.specs.Seniority.{AsRecorded}
use Rattle.theorems.proofs.Rows.{Rows}
use Rattle.theorems.proofs.Loads.{step, filled, Accepted, fits-rows, load-keeps, load-accepted}
use Rattle.theorems.proofs.WellMade.{a-within}

-- ---- Chains of pairs.
pub leads-more : (e f : ℕ → ℕ → Bool) → ((a b : ℕ) → e a b ≡ true → f a b ≡ true) → (a : ℕ) (cs : List ℕ) (b : ℕ) → Leads e a cs b → Leads f a cs b
leads-more e f h a [] b l = h a b l
leads-more e f h a (c ∷ cs) b l = (h a c l.0, leads-more e f h c cs b l.1)

leads-on : (e : ℕ → ℕ → Bool) (a : ℕ) (cs : List ℕ) (b : ℕ) (ds : List ℕ) (c : ℕ) → Leads e a cs b → Leads e b ds c → Leads e a (cs ++ (b ∷ ds)) c
leads-on e a [] b ds c l k = (l, k)
leads-on e a (x ∷ cs) b ds c l k = (l.0, leads-on e x cs b ds c l.1 k)

-- Whether role b is put directly below role a.
abbrev pub named : Seniority → ℕ → ℕ → Bool
named s a b = has (s.juniors a) b

-- Some chain of pairs leads from a to b.
abbrev pub Chain : (ℕ → ℕ → Bool) → ℕ → ℕ → Type 0
Chain e a b = (between : List ℕ) × Leads e a between b

-- The roles below a role are those that chains of pairs lead to, and no role is below itself.
pub record Ranked (s : Seniority) : Type 0 where
  pub small : (a b : ℕ) → has (s.juniors a) b ≡ true → a < 64
  pub chains : (a b : ℕ) → (has (s.below a) b ≡ true) ↔ Chain (named s) a b
  pub loopless : (a : ℕ) → has (s.below a) a ≡ true → ⊥

-- ---- One more pair: role a is put above role b.
module _ (s : Seniority) (h : Ranked s) (a b : ℕ) where
  pub through : (x c y : ℕ) → has (s.below x) c ≡ true → has (s.below c) y ≡ true → has (s.below x) y ≡ true
  through x c y p q =
      let l = (h.chains x c).0 p in
      let k = (h.chains c y).0 q in
      (h.chains x y).1 (l.0 ++ (c ∷ k.0), leads-on (named s) x l.0 c k.0 y l.1 k.1)

  -- The senior roles after the new pair.
  abbrev z : Seniority
  z = raised s a b

  name-old : (x y : ℕ) → named s x y ≡ true → named z x y ≡ true
  unfolding raised
  name-old x y e = ⊎_elim
      (λ (q : x ≡ a). rw (upd_same s.juniors a x (plus (s.juniors a) b) q) (has-old (s.juniors a) b y (rw q at e)))
      (λ n. rw (upd_other s.juniors a x (plus (s.juniors a) b) n) e) (same-or-other x a)

  name_new : named z a b ≡ true
  unfolding raised
  name_new = rw (upd_same s.juniors a a (plus (s.juniors a) b) refl) (has_new (s.juniors a) b)

  pub name-split : (x y : ℕ) → named z x y ≡ true → (named s x y ≡ true) ⊎ ((x ≡ a) × (y ≡ b))
  unfolding raised
  name-split x y e = ⊎_elim
      (λ (q : x ≡ a). ⊎_elim (λ (i : y ≡ b). inr (q, i)) (λ (i : has (s.juniors a) y ≡ true). inl (rw q i))
      (plus-member (s.juniors a) b y (rw (upd_same s.juniors a x (plus (s.juniors a) b) q) at e)))
      (λ n. inl (rw (upd_other s.juniors a x (plus (s.juniors a) b) n) at e)) (same-or-other x a)

  -- `Up x`: x is a or above a. `Down y`: y is b or below b.
  Up : ℕ → Type 0
  Up x = (x ≡ a) ⊎ (has (s.below x) a ≡ true)

  Down : ℕ → Type 0
  Down y = (y ≡ b) ⊎ (has (s.below b) y ≡ true)

  below_old : (x y : ℕ) → has (s.below x) y ≡ true → has (z.below x) y ≡ true
  unfolding raised
  below_old x y e = go (eqb x a || has (s.below x) a)
    where
      go : (c : Bool) → has (cond c (union (s.below x) (plus (s.below b) b)) (s.below x)) y ≡ true
      go true = has-union (s.below x) (plus (s.below b) b) y ∙ rw e refl
      go false = e

  is_up : (x : ℕ) → Up x → eqb x a || has (s.below x) a ≡ true
  unfolding Up
  is_up x (inl e) = rw (eq-eqb x a e) refl
  is_up x (inr e) = rw e (or-true (eqb x a))

  is_down : (y : ℕ) → Down y → has (plus (s.below b) b) y ≡ true
  unfolding Down
  is_down y (inl e) = rw e (has_new (s.below b) b)
  is_down y (inr e) = has-old (s.below b) b y e

  below_new : (x y : ℕ) → Up x → Down y → has (z.below x) y ≡ true
  unfolding raised
  below_new x y u d = rw (is_up x u) (has-union (s.below x) (plus (s.below b) b) y ∙ rw (is_down y d) (or-true (has (s.below x) y)))

  below_split : (x y : ℕ) → has (z.below x) y ≡ true → (has (s.below x) y ≡ true) ⊎ (Up x × Down y)
  unfolding raised Up Down
  below_split x y e = go (eqb x a) (has (s.below x) a) refl refl e
    where
      far : (c : Bool) → has (s.below x) y ≡ c → Up x → c || has (plus (s.below b) b) y ≡ true → (has (s.below x) y ≡ true) ⊎ (Up x × Down y)
      far true q u k = inl q
      far false q u k = inr (u, plus-member (s.below b) b y k)

      new : Up x → has (union (s.below x) (plus (s.below b) b)) y ≡ true → (has (s.below x) y ≡ true) ⊎ (Up x × Down y)
      new u k = far (has (s.below x) y) refl u (sym (has-union (s.below x) (plus (s.below b) b) y) ∙ k)

      go : (c d : Bool) → eqb x a ≡ c → has (s.below x) a ≡ d → has (cond (c || d) (union (s.below x) (plus (s.below b) b)) (s.below x)) y ≡ true
          → (has (s.below x) y ≡ true) ⊎ (Up x × Down y)
      go true d p q k = new (inl (eqb-true x a p)) k
      go false true p q k = new (inr q) k
      go false false p q k = inl k

  chain-old : (x y : ℕ) → has (s.below x) y ≡ true → Chain (named z) x y
  chain-old x y e = let l = (h.chains x y).0 e in (l.0, leads-more (named s) (named z) name-old x l.0 y l.1)

  -- Two chains joined to one.
  joined : (x c y : ℕ) → Chain (named z) x c → Chain (named z) c y → Chain (named z) x y
  joined x c y l k = (l.0 ++ (c ∷ k.0), leads-on (named z) x l.0 c k.0 y l.1 k.1)

  chain-new : (x y : ℕ) → Up x → Down y → Chain (named z) x y
  unfolding Up Down
  chain-new x y (inl u) (inl d) = rw u (rw d ([], name_new))
  chain-new x y (inl u) (inr d) = rw u (joined a b y ([], name_new) (chain-old b y d))
  chain-new x y (inr u) (inl d) = rw d (joined x a b (chain-old x a u) ([], name_new))
  chain-new x y (inr u) (inr d) = joined x a y (chain-old x a u) (joined a b y ([], name_new) (chain-old b y d))

  follow : (x : ℕ) (cs : List ℕ) (y : ℕ) → Leads (named z) x cs y → has (z.below x) y ≡ true
  unfolding Up Down
  follow x [] y l = ⊎_elim (λ e. below_old x y ((h.chains x y).1 ([], e))) (λ e. below_new x y (inl e.0) (inl e.1)) (name-split x y l)
  follow x (c ∷ cs) y l = go (name-split x c l.0) (below_split c y (follow c cs y l.1))
    where
      up : has (s.below x) c ≡ true → Up c → Up x
      up e (inl q) = inr (rw q at e)
      up e (inr q) = inr (through x c a e q)

      go : (named s x c ≡ true) ⊎ ((x ≡ a) × (c ≡ b)) → (has (s.below c) y ≡ true) ⊎ (Up c × Down y) → has (z.below x) y ≡ true
      go (inl e) (inl k) = below_old x y (through x c y ((h.chains x c).1 ([], e)) k)
      go (inl e) (inr k) = below_new x y (up ((h.chains x c).1 ([], e)) k.0) k.1
      go (inr e) (inl k) = below_new x y (inl e.0) (inr (rw e.1 at k))
      go (inr e) (inr k) = below_new x y (inl e.0) k.1

  pub raised-ranked : a < 64 → eqb a b ≡ false → has (s.below b) a ≡ false → Ranked z
  unfolding Up Down
  raised-ranked l other free = record {
    small = λ x y e. ⊎_elim (λ q. h.small x y q) (λ q. let i = q.0 in omega arith) (name-split x y e);
    chains = λ x y. (
      λ e. ⊎_elim (chain-old x y) (λ q. chain-new x y q.0 q.1) (below_split x y e),
      λ c. follow x c.0 y c.1,
    );
    loopless = λ x e. ⊎_elim (h.loopless x) (λ q. circle x q.0 q.1) (below_split x x e);
  }
    where
      above-free : has (s.below b) a ≡ true → ⊥
      above-free e = true≢false (sym e ∙ free)

      circle : (x : ℕ) → Up x → Down x → ⊥
      circle x (inl u) (inl d) = eqb-false a b other (sym u ∙ d)
      circle x (inl u) (inr d) = above-free (rw u at d)
      circle x (inr u) (inl d) = above-free (rw d at u)
      circle x (inr u) (inr d) = above-free (through b x a d u)

-- ---- Every kind of policy record keeps this.
rows : Rows policy_forms (λ n p r x. Ranked p.seniority → Ranked x.seniority) policy_kinds
unfolding policy_kinds policy_forms form_of out_of_range above user_next role_next permission_next assign_next give_next task_next open_to_next carries_next static_next dynamic_next task_set_next block_next ban_next most_next bind_next before_next raise_checks raise_next wall_next
rows =
    (λ p r g c i. i) ⨾ (λ p r g c i. i) ⨾ (λ p r g c i. i) ⨾ (λ p r g c i. i) ⨾ (λ p r g c i. i) ⨾ (λ p r g c i. i) ⨾ (λ p r g c i. i) ⨾ (λ p r g c i. i)
    ⨾ (λ p r g c i. i) ⨾ (λ p r g c i. i) ⨾ (λ p r g c i. i) ⨾ (λ p r g c i. i) ⨾ (λ p r g c i. i) ⨾ (λ p r g c i. i) ⨾ (λ p r g c i. i) ⨾ (λ p r g c i. i)
    ⨾ (λ p r g c i. raised-ranked p.seniority i r.a r.b (let l = a-within 63 r.a (ltb 63 r.b) g in omega arith) c.1.1.0 c.1.1.1.0)
    ⨾ (λ p r g c i. i) ⨾ tt

pub start : Ranked no_policy.seniority
unfolding no_policy
start = record {
  small = λ a b e. absurd (none b e);
  chains = λ a b. (λ e. absurd (none b e), λ c. absurd (first a c.0 b c.1));
  loopless = λ a e. none a e;
}
  where
    none : (b : ℕ) → has empty b ≡ true → ⊥
    none b e = false≢true (sym (has-empty b) ∙ e)

    first : (a : ℕ) (cs : List ℕ) (b : ℕ) → Leads (λ x y. has empty y) a cs b → ⊥
    first a [] b l = none b l
    first a (c ∷ cs) b l = none c l.0

-- ---- The pairs in the tables are those of the policy's records.
pub step-rows : Rows policy_forms (λ n p r x. x.seniority ≡ cond (eqb n 17) (raised p.seniority r.a r.b) p.seniority) policy_kinds
unfolding policy_kinds user_next role_next permission_next assign_next give_next task_next open_to_next carries_next static_next dynamic_next task_set_next block_next ban_next most_next bind_next before_next raise_next wall_next
step-rows =
    (λ p r g c. refl) ⨾ (λ p r g c. refl) ⨾ (λ p r g c. refl) ⨾ (λ p r g c. refl) ⨾ (λ p r g c. refl) ⨾ (λ p r g c. refl) ⨾ (λ p r g c. refl) ⨾
    (λ p r g c. refl)
    ⨾ (λ p r g c. refl) ⨾ (λ p r g c. refl) ⨾ (λ p r g c. refl) ⨾ (λ p r g c. refl) ⨾ (λ p r g c. refl) ⨾ (λ p r g c. refl) ⨾ (λ p r g c. refl) ⨾
    (λ p r g c. refl)
    ⨾ (λ p r g c. refl) ⨾ (λ p r g c. refl) ⨾ tt

eqb-turned : (x y : ℕ) → eqb x y ≡ eqb y x
eqb-turned x y = ⊎_elim (λ (e : x ≡ y). eq-eqb x y e ∙ sym (eq-eqb y x (sym e))) (λ n. ne_eqb x y n ∙ sym (ne_eqb y x (λ e. n (sym e)))) (same-or-other x y)

or_assoc : (x y z : Bool) → x || y || z ≡ x || (y || z)
or_assoc true y z = refl
or_assoc false y z = refl

pub put : (s : Seniority) (x y a b : ℕ) → named (raised s x y) a b ≡ named s a b || (eqb x a && eqb y b)
unfolding raised
put s x y a b = ⊎_elim
    (λ (q : a ≡ x). rw q
    (rw (upd_same s.juniors x x (plus (s.juniors x) y) refl, eq-eqb x x refl)
    (has-plus (s.juniors x) y b ∙ ap (λ c. has (s.juniors x) b || c) (eqb-turned b y))))
    (λ n. rw (upd_other s.juniors x a (plus (s.juniors x) y) n, ne_eqb x a (λ e. n (sym e))) (sym (or-false (has (s.juniors a) b)))) (same-or-other a x)

put-once : (s : Seniority) (x y a b : ℕ) (rest : Bool) → named (raised s x y) a b || rest ≡ named s a b || (eqb x a && eqb y b || rest)
put-once s x y a b rest = ap (λ c. c || rest) (put s x y a b) ∙ or_assoc (named s a b) (eqb x a && eqb y b) rest

recorded : (a b : ℕ) (p : Policy) (rs : List Record) → Accepted p rs → named (filled p rs).seniority a b ≡ named p.seniority a b || puts rs a b
unfolding filled puts of_kind keep some
recorded a b p [] x = sym (or-false (named p.seniority a b))
recorded a b p (r ∷ rs) x =
    recorded a b (step p r) rs x.1
    ∙ ap (λ (s : Seniority). named s a b || puts rs a b)
    (fits-rows (λ n p r x. x.seniority ≡ cond (eqb n 17) (raised p.seniority r.a r.b) p.seniority) step-rows p r x.0)
    ∙ go (eqb r.kind 17)
  where
    go : (c : Bool) → named (cond c (raised p.seniority r.a r.b) p.seniority) a b || puts rs a b
        ≡ named p.seniority a b || some (λ r. eqb r.a a && eqb r.b b) (cond c (r ∷ of_kind 17 rs) (of_kind 17 rs))
    go true = put-once p.seniority r.a r.b a b (puts rs a b)
    go false = refl

-- ---- All records of an accepted policy.
pub ranked-of : (rs : List Record) → Accepted no_policy rs → Ranked (filled no_policy rs).seniority
ranked-of rs a = load-keeps (λ p. Ranked p.seniority) rows no_policy rs a start

pub named-of : (rs : List Record) → Accepted no_policy rs → (a b : ℕ) → named (filled no_policy rs).seniority a b ≡ puts rs a b
unfolding no_policy
named-of rs x a b = recorded a b no_policy rs x ∙ rw (has-empty b) refl

pub loaded-ranked : (policy : Bytes) → (load policy).reply ≡ 0 → Ranked (load policy).tables.seniority
loaded-ranked policy h = let x = load-accepted policy h in rw x.1 (ranked-of (records_of policy) x.0)

pub loaded-named : (policy : Bytes) → (load policy).reply ≡ 0 → (a b : ℕ) → named (load policy).tables.seniority a b ≡ puts (records_of policy) a b
loaded-named policy h a b = let x = load-accepted policy h in rw x.1 (named-of (records_of policy) x.0 a b)

pub as-recorded : (policy : List Record) (s : Seniority) → Ranked s → ((a b : ℕ) → named s a b ≡ puts policy a b) → AsRecorded policy s
as-recorded policy s r e =
    let pairs : named s ≡ puts policy = λ i a b. e a b i in
    let below : (a b : ℕ) → (has (s.below a) b ≡ true) ↔ Chain (puts policy) a b =
    λ a b. subst (λ (f : ℕ → ℕ → Bool). (has (s.below a) b ≡ true) ↔ Chain f a b) pairs (r.chains a b) in
    record {
      by_name = e;
      below = below;
      no-circle = λ a c. r.loopless a ((below a a).1 c);
    }
