-- Policy tables stay ready (WrittenReady): each change that a policy record or a request makes to one group of tables keeps it.
use Prim.Native.Nat.{ℕ, zero, suc, ◌+◌, ◌<◌, ◌≤◌}
use mathlib.Core.Path.{◌≡◌, refl, sym, ap, subst, ◌∙◌}
use mathlib.Core.Logic.{◌⊎◌, inl, inr, ⊎_elim}
use mathlib.Core.Bool.{Bool, true, false, not, ◌||◌, true≢false, false≢true}
use mathlib.Core.List.{List, [], ◌∷◌, ◌++◌, append-nil}
use native.Mathlib.Nat.{le_refl}
use native.Mathlib.Omega.{arith}
use borrow.Author.Tests.{eq-eqb, not-false, leb-false}
use lib.Dec.{eqb, leb}
use Rattle.paper_lower.specs.Sets.{Set, empty, has, plus, minus, size, within, collect}
use Rattle.paper_lower.specs.Lists.{upd, some_number_below, sum_below, Maybe, holds, there, is, add}
use Rattle.paper_lower.specs.Lists.Maybe.{none, just}
use Rattle.paper_lower.specs.Tables.{Limit, Block, Pair, People, Seniority, Permission, Permissions, Tasks, Rules, Policy, with_people, with_permissions, with_statics, with_dynamics, with_task_sets, with_blocks, with_bindings, with_befores}
use Rattle.paper_lower.specs.Policy.{is_for, declared_tasks, tasks_of, has_task, one_template, together, raised, raisings}
use Rattle.paper_lower.proofs.ListLaws.{or-none, or-true, upd_same, upd_other, none_below}
use Rattle.sets.proofs.Bits.{same-or-other, bit_le, ones-or}
use Rattle.sets.proofs.SetLaws.{has-empty, has-old, plus-member, has_part, part-minus, collect-below, some-collected, within_has, has_within, within-trans, size-ones}
use Rattle.theorems.proofs.WellMade.{holds-just, is-just, in-collect}
use Rattle.theorems.proofs.Made.{add-more}
use Rattle.theorems.proofs.Ranks.{raised-ranked, name-split}
use Rattle.theorems.proofs.WrittenRuns.{Prefixed}
use Rattle.theorems.proofs.WrittenReady.{PeopleReady, RanksReady, PermissionsReady, TasksReady, SetOk, TaskSetOk, BlockOk, PairOk, BindingOk, BeforeOk, RulesReady, Ready}
use Rattle.theorems.proofs.WrittenStages.{folk, may, work, is-there}

-- ---- Lists with a property that depends on the elements before each.
pub prefixed-map : {A : Type 0} (P Q : List A → A → Type 0) → ((acc : List A) (x : A) → P acc x → Q acc x) → (acc xs : List A) → Prefixed P acc xs →
    Prefixed Q acc xs
prefixed-map P Q f acc [] h = tt
prefixed-map P Q f acc (x ∷ xs) h = (f acc x h.0, prefixed-map P Q f (add acc x) xs h.1)

prefixed-more : {A : Type 0} (P : List A → A → Type 0) (acc xs : List A) (y : A) → Prefixed P acc xs → P (acc ++ xs) y → Prefixed P acc (add xs y)
unfolding add
prefixed-more P acc [] y h q = (subst (λ (zs : List _). P zs y) (append-nil acc) q, tt)
prefixed-more P acc (x ∷ xs) y h q = (h.0, prefixed-more P (add acc x) xs y h.1 (subst (λ (zs : List _). P zs y) (sym (add-more acc x xs)) q))

pub prefixed-add : {A : Type 0} (P : List A → A → Type 0) (xs : List A) (y : A) → Prefixed P [] xs → P xs y → Prefixed P [] (add xs y)
prefixed-add P xs y h q = prefixed-more P [] xs y h q

-- ---- Users and their roles.
module _ (x : People) (h : PeopleReady x) where
  reassigned : (users : ℕ → Bool) (a : ℕ) (m : Set) → ((u : ℕ) → users u ≡ true → u < 1024) → ((u : ℕ) → (u ≡ a → ⊥) → users u ≡ false → x.users u ≡ false)
      → (users a ≡ false → m ≡ empty) → ((r : ℕ) → has m r ≡ true → has x.roles r ≡ true) → PeopleReady (folk users x.roles (upd x.assigned a m))
  reassigned users a m small others gone known = record {
    users = small;
    roles = h.roles;
    bare = λ u e. ⊎_elim (λ (q : u ≡ a). upd_same x.assigned a u m q ∙ gone (rw q at e))
        (λ n. upd_other x.assigned a u m n ∙ h.bare u (others u n e)) (same-or-other u a);
    assigned = λ u r e. ⊎_elim (λ (q : u ≡ a). known r (rw (upd_same x.assigned a u m q) at e))
        (λ n. h.assigned u r (rw (upd_other x.assigned a u m n) at e)) (same-or-other u a);
  }

  pub joins : (a : ℕ) (m : Set) → a < 1024 → ((r : ℕ) → has m r ≡ true → has x.roles r ≡ true)
      → PeopleReady (folk (upd x.users a true) x.roles (upd x.assigned a m))
  joins a m l known = reassigned (upd x.users a true) a m
      (λ u e. ⊎_elim (λ (q : u ≡ a). omega arith) (λ n. h.users u (rw (upd_other x.users a u true n) at e)) (same-or-other u a))
      (λ u n e. rw (upd_other x.users a u true n) at e) (λ e. absurd (true≢false (sym (upd_same x.users a a true refl) ∙ e))) known

  pub leaves : (a : ℕ) → PeopleReady (folk (upd x.users a false) x.roles (upd x.assigned a empty))
  leaves a = reassigned (upd x.users a false) a empty
      (λ u e. ⊎_elim (λ (q : u ≡ a). absurd (false≢true (sym (upd_same x.users a u false q) ∙ e)))
      (λ n. h.users u (rw (upd_other x.users a u false n) at e)) (same-or-other u a))
      (λ u n e. rw (upd_other x.users a u false n) at e) (λ e. refl) (λ r e. absurd (false≢true (sym (has-empty r) ∙ e)))

  pub gains : (a b : ℕ) → x.users a ≡ true → has x.roles b ≡ true → PeopleReady (folk x.users x.roles (upd x.assigned a (plus (x.assigned a) b)))
  gains a b user known = reassigned x.users a (plus (x.assigned a) b) h.users (λ u n e. e) (λ e. absurd (true≢false (sym user ∙ e)))
      (λ r e. ⊎_elim (λ (q : r ≡ b). rw q known) (λ q. h.assigned a r q) (plus-member (x.assigned a) b r e))

  pub loses : (a b : ℕ) → x.users a ≡ true → PeopleReady (folk x.users x.roles (upd x.assigned a (minus (x.assigned a) b)))
  loses a b user = reassigned x.users a (minus (x.assigned a) b) h.users (λ u n e. e) (λ e. absurd (true≢false (sym user ∙ e)))
      (λ r e. h.assigned a r (has_part _ _ r (part-minus (x.assigned a) b) e))

  pub more-roles : (a : ℕ) → a < 64 → PeopleReady (folk x.users (plus x.roles a) x.assigned)
  more-roles a l = record {
    users = h.users;
    roles = λ r e. ⊎_elim (λ (q : r ≡ a). omega arith) (λ q. h.roles r q) (plus-member x.roles a r e);
    bare = h.bare;
    assigned = λ u r e. has-old x.roles a r (h.assigned u r e);
  }

-- ---- Senior roles.
sum-upto : (n : ℕ) (f g : ℕ → ℕ) → ((r : ℕ) → r < n → g r ≤ f r) → sum_below n g ≤ sum_below n f
unfolding sum_below
sum-upto zero f g h = omega arith
sum-upto (suc n) f g h = let a = h n (omega arith) in let b = sum-upto n f g (λ r l. h r (omega arith)) in omega arith

sum-one-more : (n : ℕ) (f g : ℕ → ℕ) (a : ℕ) → ((r : ℕ) → (r ≡ a → ⊥) → g r ≤ f r) → g a ≤ f a + 1 → sum_below n g ≤ sum_below n f + 1
unfolding sum_below
sum-one-more zero f g a h q = omega arith
sum-one-more (suc n) f g a h q = go (same-or-other n a) (sum-one-more n f g a h q)
  where
    go : (n ≡ a) ⊎ (n ≡ a → ⊥) → sum_below n g ≤ sum_below n f + 1 → g n + sum_below n g ≤ f n + sum_below n f + 1
    go (inl e) rest =
        let x : g n ≤ f n + 1 = rw (← e) at q in
        let y = sum-upto n f g (λ r l. h r (λ k. let z : ⊥ = omega arith in z)) in
        omega arith
    go (inr d) rest = let x = h n d in omega arith

size-plus : (m : Set) (b : ℕ) → size (plus m b) ≤ size m + 1
unfolding plus
size-plus m b = let o = ones-or b m in let u = size-ones (plus m b) in let v = size-ones m in let l = bit_le b m in omega arith

module _ (roles : Set) (s : Seniority) (h : RanksReady roles s) where
  pub ranks-more : (a : ℕ) → RanksReady (plus roles a) s
  ranks-more a = record {
    ranked = h.ranked;
    known = λ x y e. let k = h.known x y e in (has-old roles a x k.0, has-old roles a y k.1);
    room = h.room;
  }

  raisings-more : (a b : ℕ) → raisings (raised s a b) ≤ raisings s + 1
  unfolding raisings raised
  raisings-more a b = sum-one-more 64 (λ r. size (s.juniors r)) (λ r. size (upd s.juniors a (plus (s.juniors a) b) r)) a
      (λ r n. rw (upd_other s.juniors a r (plus (s.juniors a) b) n) (le_refl (size (s.juniors r))))
      (rw (upd_same s.juniors a a (plus (s.juniors a) b) refl) (size-plus (s.juniors a) b))

  pub ranks-raised : (a b : ℕ) → has roles a ≡ true → has roles b ≡ true → a < 64 → eqb a b ≡ false → has (s.below b) a ≡ false → leb 64 (raisings s) ≡ false
      → RanksReady roles (raised s a b)
  ranks-raised a b ka kb l other free full = record {
    ranked = raised-ranked s h.ranked a b l other free;
    known = λ x y e. ⊎_elim (λ q. h.known x y q) (λ q. (rw q.0 ka, rw q.1 kb)) (name-split s h.ranked a b x y e);
    room = let q = raisings-more a b in let m = leb-false 64 (raisings s) full in omega arith;
  }

-- ---- One more task: what the checks asked of tasks still holds.

-- g has every task of f, with the same template.
abbrev pub Grows : (ℕ → Maybe ℕ) → (ℕ → Maybe ℕ) → Type 0
Grows f g = (t j : ℕ) → f t ≡ just j → g t ≡ just j

pub new-grows : (f : ℕ → Maybe ℕ) (a b : ℕ) → there (f a) ≡ false → Grows f (upd f a (just b))
unfolding holds
new-grows f a b new t j e = ⊎_elim
    (λ (q : t ≡ a). absurd (true≢false (sym (ap (λ (x : Maybe ℕ). there x) (ap f (sym q) ∙ e)) ∙ new)))
    (λ n. upd_other f a t (just b) n ∙ e) (same-or-other t a)

some_mono : (n : ℕ) (f g : ℕ → Bool) → ((k : ℕ) → f k ≡ true → g k ≡ true) → some_number_below n f ≡ true → some_number_below n g ≡ true
unfolding some_number_below
some_mono zero f g h e = e
some_mono (suc n) f g h e = go (f n) refl e (some_mono n f g h)
  where
    go : (b : Bool) → f n ≡ b → b || some_number_below n f ≡ true → (some_number_below n f ≡ true → some_number_below n g ≡ true) → g n || some_number_below n g ≡ true
    go true q e rest = rw (h n q) refl
    go false q e rest = rw (rest e) (or-true (g n))

module _ (k z : Tasks) (grows : Grows k.template z.template) where
  pub there-grows : (t : ℕ) → there (k.template t) ≡ true → there (z.template t) ≡ true
  unfolding holds
  there-grows t e = let y = is-there (k.template t) e in rw (grows t y.0 y.1) refl

  is-grows : (j t : ℕ) → is j (k.template t) ≡ true → is j (z.template t) ≡ true
  unfolding holds
  is-grows j t e = rw (grows t j (is-just j (k.template t) e)) (eq-eqb j j refl)

  collect-grows : (f g : ℕ → Bool) → ((t : ℕ) → f t ≡ true → g t ≡ true) → within (collect 64 f) (collect 64 g) ≡ true
  collect-grows f g h = has_within _ _ (λ t e. let x = in-collect 64 f t e in collect-below 64 g t x.0 ∙ h t x.1)

  pub declared-grows : (m : Set) → within m (declared_tasks k) ≡ true → within m (declared_tasks z) ≡ true
  unfolding declared_tasks
  declared-grows m e = within-trans m _ _ e (collect-grows (λ t. there (k.template t)) (λ t. there (z.template t)) there-grows)

  pub template-grows : (m : Set) → one_template k m ≡ true → one_template z m ≡ true
  unfolding one_template tasks_of
  template-grows m e = some_mono 16 (λ j. within m (tasks_of k j)) (λ j. within m (tasks_of z j))
      (λ j q. within-trans m _ _ q (collect-grows (λ t. is j (k.template t)) (λ t. is j (z.template t)) (is-grows j))) e

  pub task-grows : (j : ℕ) → has_task k j ≡ true → has_task z j ≡ true
  unfolding has_task tasks_of
  task-grows j e =
      sym (some-collected 64 (λ t. is j (z.template t)))
      ∙ some_mono 64 (λ t. is j (k.template t)) (λ t. is j (z.template t)) (is-grows j) (some-collected 64 (λ t. is j (k.template t)) ∙ e)

  pub together-grows : (a b : ℕ) → together k a b ≡ true → together z a b ≡ true
  unfolding together holds
  together-grows a b e = let y = holds-just (λ j. is j (k.template b)) (k.template a) e in rw (grows a y.0 y.1) (is-grows y.0 b y.2)

  pair-grows : (x : Pair) → PairOk k x → PairOk z x
  pair-grows x q = (there-grows x.a q.0, there-grows x.b q.1, q.2, together-grows x.a x.b q.3)

  pub rules-grow : (roles : Set) (ru : Rules) → RulesReady roles k ru → RulesReady roles z ru
  rules-grow roles ru h = record {
    statics = h.statics;
    dynamics = h.dynamics;
    task_sets =
        prefixed-map (TaskSetOk k) (TaskSetOk z) (λ acc l q. (declared-grows l.members q.0, q.1, q.2, template-grows l.members q.3, q.4, q.5))
        []
        ru.task_sets h.task_sets;
    blocks =
        prefixed-map (BlockOk k) (BlockOk z) (λ acc x q. (q.0, declared-grows x.tasks q.1, q.2, q.3, template-grows _ q.4, q.5, q.6)) []
        ru.blocks h.blocks;
    bindings = prefixed-map (BindingOk k) (BindingOk z) (λ acc x q. (pair-grows x q.0, q.1, q.2)) [] ru.bindings h.bindings;
    befores = prefixed-map (BeforeOk k) (BeforeOk z) (λ acc x q. (pair-grows x q.0, q.1, q.2)) [] ru.befores h.befores;
  }

  pub permissions-grow : (roles : Set) (x : Permissions) → PermissionsReady roles k.template x → PermissionsReady roles z.template x
  permissions-grow roles x h = record {
    declared = h.declared;
    pairs = h.pairs;
    holders = h.holders;
    carriers = λ i t e. let q = h.carriers i t e in (there-grows t q.0, q.1);
  }

-- One more declared role.
pub rules-more : (roles : Set) (k : Tasks) (ru : Rules) (a : ℕ) → RulesReady roles k ru → RulesReady (plus roles a) k ru
rules-more roles k ru a h = record {
  statics = prefixed-map (SetOk roles) (SetOk (plus roles a)) (λ acc l q. (known l.members q.0, q.1, q.2, q.3, q.4)) [] ru.statics h.statics;
  dynamics = prefixed-map (SetOk roles) (SetOk (plus roles a)) (λ acc l q. (known l.members q.0, q.1, q.2, q.3, q.4)) [] ru.dynamics h.dynamics;
  task_sets = h.task_sets;
  blocks = h.blocks;
  bindings = h.bindings;
  befores = h.befores;
}
  where
    known : (m : Set) → within m roles ≡ true → within m (plus roles a) ≡ true
    known m e = has_within m (plus roles a) (λ i q. has-old roles a i (within_has m roles i e q))

pub permissions-more : (roles : Set) (template : ℕ → Maybe ℕ) (x : Permissions) (a : ℕ) → PermissionsReady roles template x →
    PermissionsReady (plus roles a) template x
permissions-more roles template x a h = record {
  declared = h.declared;
  pairs = h.pairs;
  holders = λ i r e. let q = h.holders i r e in (has-old roles a r q.0, q.1);
  carriers = h.carriers;
}

pub tasks-more : (roles : Set) (k : Tasks) (a : ℕ) → TasksReady roles k → TasksReady (plus roles a) k
tasks-more roles k a h = record {
  template = h.template;
  open_to = λ t r e. let q = h.open_to t r e in (q.0, has-old roles a r q.1);
  banned = h.banned;
  most = h.most;
}

-- ---- Permissions.
module _ (roles : Set) (template : ℕ → Maybe ℕ) (x : Permissions) (h : PermissionsReady roles template x) where
  -- A new permission: its number and its pair are not in use.
  pub declares : (a b c : ℕ) → a < 256 → b < 65536 → c < 65536
      → there (x.declared a) || some_number_below 256 (λ i. holds (is_for b c) (x.declared i)) ≡ false
      → PermissionsReady roles template (may (upd x.declared a (just (record { operation = b; object = c }))) x.holders x.carriers)
  unfolding holds is_for
  declares a b c la lb lc new = record {
    declared = λ i y e. ⊎_elim
        (λ (q : i ≡ a). own i y q e)
        (λ n. h.declared i y (sym (upd_other x.declared a i it n) ∙ e)) (same-or-other i a);
    pairs = λ i j y z e f o p. ⊎_elim
        (λ (q : i ≡ a). ⊎_elim (λ (w : j ≡ a). q ∙ sym w)
        (λ n. absurd (clash j z (sym (upd_other x.declared a j it n) ∙ f) (sym (own_first i y q e) ∙ o) (sym (own-second i y q e) ∙ p))) (same-or-other j a))
        (λ m. ⊎_elim
        (λ (w : j ≡ a). absurd (clash i y (sym (upd_other x.declared a i it m) ∙ e) (sym (own_first j z w f) ∙ sym o) (sym (own-second j z w f) ∙ sym p)))
        (λ n. h.pairs i j y z (sym (upd_other x.declared a i it m) ∙ e) (sym (upd_other x.declared a j it n) ∙ f) o p) (same-or-other j a))
        (same-or-other i a);
    holders = λ i r e. let q = h.holders i r e in (q.0, still i q.1);
    carriers = λ i t e. let q = h.carriers i t e in (q.0, still i q.1);
  }
    where
      it : Maybe Permission
      it = just (record { operation = b; object = c })

      just-one : (y z : Permission) → just y ≡ just z → y ≡ z
      just-one y z e = ap (λ (m : Maybe Permission). back m) e
        where
          back : Maybe Permission → Permission
          back none = y
          back (just w) = w

      own_is : (i : ℕ) (y : Permission) → i ≡ a → upd x.declared a it i ≡ just y → record { operation = b; object = c } ≡ y
      own_is i y q e = just-one (record { operation = b; object = c }) y (sym (upd_same x.declared a i it q) ∙ e)

      own_first : (i : ℕ) (y : Permission) → i ≡ a → upd x.declared a it i ≡ just y → y.operation ≡ b
      own_first i y q e = sym (ap (λ (w : Permission). w.operation) (own_is i y q e))

      own-second : (i : ℕ) (y : Permission) → i ≡ a → upd x.declared a it i ≡ just y → y.object ≡ c
      own-second i y q e = sym (ap (λ (w : Permission). w.object) (own_is i y q e))

      own : (i : ℕ) (y : Permission) → i ≡ a → upd x.declared a it i ≡ just y → (i < 256) × (y.operation < 65536) × (y.object < 65536)
      own i y q e = let u = own_first i y q e in let v = own-second i y q e in (omega arith, omega arith, omega arith)

      clash : (j : ℕ) (z : Permission) → x.declared j ≡ just z → b ≡ z.operation → c ≡ z.object → ⊥
      clash j z e o p =
          let l = (h.declared j z e).0 in
          let n = none_below 256 (λ i. holds (is_for b c) (x.declared i)) (or-none (there (x.declared a)) _ new).1 j l in
          true≢false (sym (ap (λ (m : Maybe Permission). holds (is_for b c) m) e ∙ rw (eq-eqb z.operation b (sym o), eq-eqb z.object c (sym p)) refl) ∙ n)

      still : (i : ℕ) → there (x.declared i) ≡ true → there (upd x.declared a it i) ≡ true
      still i e = ⊎_elim (λ (q : i ≡ a). rw (upd_same x.declared a i it q) refl) (λ n. rw (upd_other x.declared a i it n) e) (same-or-other i a)

  pub gives : (a b : ℕ) → has roles a ≡ true → there (x.declared b) ≡ true
      → PermissionsReady roles template (may x.declared (upd x.holders b (plus (x.holders b) a)) x.carriers)
  gives a b known there-b = record {
    declared = h.declared;
    pairs = h.pairs;
    holders = λ i r e. ⊎_elim
        (λ (q : i ≡ b). ⊎_elim (λ (w : r ≡ a). (rw w known, rw q there-b)) (λ w. ((h.holders b r w).0, rw q there-b))
        (plus-member (x.holders b) a r (rw (upd_same x.holders b i (plus (x.holders b) a) q) at e)))
        (λ n. h.holders i r (rw (upd_other x.holders b i (plus (x.holders b) a) n) at e)) (same-or-other i b);
    carriers = h.carriers;
  }

  pub withdraws : (a b : ℕ) → PermissionsReady roles template (may x.declared (upd x.holders b (minus (x.holders b) a)) x.carriers)
  withdraws a b = record {
    declared = h.declared;
    pairs = h.pairs;
    holders = λ i r e. ⊎_elim
        (λ (q : i ≡ b). rw q (h.holders b r (has_part _ _ r (part-minus (x.holders b) a) (rw (upd_same x.holders b i (minus (x.holders b) a) q) at e))))
        (λ n. h.holders i r (rw (upd_other x.holders b i (minus (x.holders b) a) n) at e)) (same-or-other i b);
    carriers = h.carriers;
  }

  pub carries : (a b : ℕ) → there (template a) ≡ true → there (x.declared b) ≡ true
      → PermissionsReady roles template (may x.declared x.holders (upd x.carriers b (plus (x.carriers b) a)))
  carries a b known there-b = record {
    declared = h.declared;
    pairs = h.pairs;
    holders = h.holders;
    carriers = λ i t e. ⊎_elim
        (λ (q : i ≡ b). ⊎_elim (λ (w : t ≡ a). (rw w known, rw q there-b)) (λ w. ((h.carriers b t w).0, rw q there-b))
        (plus-member (x.carriers b) a t (rw (upd_same x.carriers b i (plus (x.carriers b) a) q) at e)))
        (λ n. h.carriers i t (rw (upd_other x.carriers b i (plus (x.carriers b) a) n) at e)) (same-or-other i b);
  }

-- ---- Tasks.
module _ (roles : Set) (k : Tasks) (h : TasksReady roles k) where
  pub task-new : (a b : ℕ) → a < 64 → b < 16 → there (k.template a) ≡ false
      → TasksReady roles (work (upd k.template a (just b)) k.open_to k.banned k.most)
  task-new a b la lb new = record {
    template = λ t j e. ⊎_elim (λ (q : t ≡ a). own t j q e) (λ n. h.template t j (sym (upd_other k.template a t (just b) n) ∙ e)) (same-or-other t a);
    open_to = λ t r e. let q = h.open_to t r e in (there-grows k z grown t q.0, q.1);
    banned = λ j e. let q = h.banned j e in (q.0, task-grows k z grown j q.1);
    most = λ t n e. let q = h.most t n e in (there-grows k z grown t q.0, q.1);
  }
    where
      z : Tasks
      z = work (upd k.template a (just b)) k.open_to k.banned k.most

      grown : Grows k.template (upd k.template a (just b))
      grown = new-grows k.template a b new

      own : (t j : ℕ) → t ≡ a → upd k.template a (just b) t ≡ just j → (t < 64) × (j < 16)
      own t j q e = let w : b ≡ j = ap (λ (m : Maybe ℕ). back m) (sym (upd_same k.template a t (just b) q) ∙ e) in (omega arith, omega arith)
        where
          back : Maybe ℕ → ℕ
          back none = b
          back (just i) = i

  pub opens : (a b : ℕ) → there (k.template a) ≡ true → has roles b ≡ true
      → TasksReady roles (work k.template (upd k.open_to a (plus (k.open_to a) b)) k.banned k.most)
  unfolding has_task tasks_of
  opens a b there-a known = record {
    template = h.template;
    open_to = λ t r e. ⊎_elim
        (λ (q : t ≡ a). ⊎_elim (λ (w : r ≡ b). (rw q there-a, rw w known)) (λ w. (rw q there-a, (h.open_to a r w).1))
        (plus-member (k.open_to a) b r (rw (upd_same k.open_to a t (plus (k.open_to a) b) q) at e)))
        (λ n. h.open_to t r (rw (upd_other k.open_to a t (plus (k.open_to a) b) n) at e)) (same-or-other t a);
    banned = h.banned;
    most = h.most;
  }

  pub bans : (a : ℕ) → a < 16 → has_task k a ≡ true → TasksReady roles (work k.template k.open_to (upd k.banned a true) k.most)
  unfolding has_task tasks_of
  bans a l some-task = record {
    template = h.template;
    open_to = h.open_to;
    banned =
        λ j e. ⊎_elim (λ (q : j ≡ a). (let u = q in omega arith, rw q some-task)) (λ n. h.banned j (rw (upd_other k.banned a j true n) at e))
        (same-or-other j a);
    most = h.most;
  }

  pub limits : (a n : ℕ) → there (k.template a) ≡ true → eqb n 0 ≡ false →
      TasksReady roles (work k.template k.open_to k.banned (upd k.most a (just n)))
  unfolding has_task tasks_of
  limits a n there-a some-n = record {
    template = h.template;
    open_to = h.open_to;
    banned = h.banned;
    most = λ t i e. ⊎_elim (λ (q : t ≡ a). own t i q e) (λ d. h.most t i (sym (upd_other k.most a t (just n) d) ∙ e)) (same-or-other t a);
  }
    where
      own : (t i : ℕ) → t ≡ a → upd k.most a (just n) t ≡ just i → (there (k.template t) ≡ true) × (eqb i 0 ≡ false)
      own t i q e = let w : n ≡ i = ap (λ (m : Maybe ℕ). back m) (sym (upd_same k.most a t (just n) q) ∙ e) in (rw q there-a, rw (← w) some-n)
        where
          back : Maybe ℕ → ℕ
          back none = n
          back (just x) = x

-- ---- One more rule.
module _ (roles : Set) (k : Tasks) (ru : Rules) (h : RulesReady roles k ru) where
  pub with-statics : (l : Limit) → SetOk roles ru.statics l → RulesReady roles k (with_statics ru (add ru.statics l))
  with-statics l q =
      record {
        statics = prefixed-add (SetOk roles) ru.statics l h.statics q;
        dynamics = h.dynamics;
        task_sets = h.task_sets;
        blocks = h.blocks;
        bindings = h.bindings;
        befores = h.befores;
      }

  pub with-dynamics : (l : Limit) → SetOk roles ru.dynamics l → RulesReady roles k (with_dynamics ru (add ru.dynamics l))
  with-dynamics l q =
      record {
        statics = h.statics;
        dynamics = prefixed-add (SetOk roles) ru.dynamics l h.dynamics q;
        task_sets = h.task_sets;
        blocks = h.blocks;
        bindings = h.bindings;
        befores = h.befores;
      }

  pub with-task-sets : (l : Limit) → TaskSetOk k ru.task_sets l → RulesReady roles k (with_task_sets ru (add ru.task_sets l))
  with-task-sets l q =
      record {
        statics = h.statics;
        dynamics = h.dynamics;
        task_sets = prefixed-add (TaskSetOk k) ru.task_sets l h.task_sets q;
        blocks = h.blocks;
        bindings = h.bindings;
        befores = h.befores;
      }

  pub with-blocks : (x : Block) → BlockOk k ru.blocks x → RulesReady roles k (with_blocks ru (add ru.blocks x))
  with-blocks x q =
      record {
        statics = h.statics;
        dynamics = h.dynamics;
        task_sets = h.task_sets;
        blocks = prefixed-add (BlockOk k) ru.blocks x h.blocks q;
        bindings = h.bindings;
        befores = h.befores;
      }

  pub with-bindings : (x : Pair) → BindingOk k ru.bindings x → RulesReady roles k (with_bindings ru (add ru.bindings x))
  with-bindings x q =
      record {
        statics = h.statics;
        dynamics = h.dynamics;
        task_sets = h.task_sets;
        blocks = h.blocks;
        bindings = prefixed-add (BindingOk k) ru.bindings x h.bindings q;
        befores = h.befores;
      }

  pub with-befores : (x : Pair) → BeforeOk k ru.befores x → RulesReady roles k (with_befores ru (add ru.befores x))
  with-befores x q =
      record {
        statics = h.statics;
        dynamics = h.dynamics;
        task_sets = h.task_sets;
        blocks = h.blocks;
        bindings = h.bindings;
        befores = prefixed-add (BeforeOk k) ru.befores x h.befores q;
      }

pub a_pair : (k : Tasks) (a b : ℕ) → not (there (k.template a)) || not (there (k.template b)) ≡ false → eqb a b || not (together k a b) ≡ false
    → PairOk k (record { a = a; b = b })
a_pair k a b known well =
    let s = or-none (not (there (k.template a))) (not (there (k.template b))) known in
    let q = or-none (eqb a b) (not (together k a b)) well in
    (not-false _ s.0, not-false _ s.1, q.0, not-false _ q.1)

-- ---- One group of tables replaced, with the same declared roles.
pub with-people : (p : Policy) → Ready p → (users : ℕ → Bool) (assigned : ℕ → Set) → PeopleReady (folk users p.people.roles assigned)
    → Ready (with_people p (folk users p.people.roles assigned))
with-people p i users assigned q = record { people = q; ranks = i.ranks; permissions = i.permissions; tasks = i.tasks; rules = i.rules; walls = i.walls }

pub with-permissions : (p : Policy) → Ready p → (x : Permissions) → PermissionsReady p.people.roles p.tasks.template x → Ready (with_permissions p x)
with-permissions p i x q = record { people = i.people; ranks = i.ranks; permissions = q; tasks = i.tasks; rules = i.rules; walls = i.walls }
