-- Records that are accepted one after the other, and the load of their bytes; and tables that are filled row by row by the records written for them.
use Prim.Native.Nat.{ℕ, zero, suc, ◌*◌, ◌/◌, ◌<◌, ◌≤◌}
use mathlib.Core.Path.{◌≡◌, refl, sym, ap, subst, ◌∙◌}
use mathlib.Core.Bool.{Bool, true, false, cond}
use mathlib.Core.List.{List, [], ◌∷◌, ◌++◌, append-nil}
use native.Mathlib.Omega.{arith}
use borrow.Author.Tests.{eqb-true, eqb-false, ltb-true, ltb-false, le-ltb, lt-ltb}
use lib.Dec.{eqb, ltb}
use lib.ListN.{length, take, drop, length-append}
use Rattle.paper_lower.specs.Sets.{Set, empty, has, plus, collect}
use Rattle.paper_lower.specs.Lists.{upd, Maybe, many, add, each}
use Rattle.paper_lower.specs.Lists.Maybe.{none, just}
use Rattle.paper_lower.specs.Records.{Bytes, Record, bytes, encode}
use Rattle.paper_lower.specs.Forms.{policy_forms, form_of, misshapen, out_of_range, form_checks}
use Rattle.paper_lower.specs.Kinds.{chosen, reply_to, answer}
use Rattle.paper_lower.specs.Tables.{Policy, no_policy}
use Rattle.paper_lower.specs.Policy.{policy_kinds}
use Rattle.paper_lower.specs.Load.{accepted, policy_answer, load_on, load, records_from, records_of}
use Rattle.paper_lower.specs.Words.{joined}
use Rattle.paper_lower.specs.Written.{in_turn, when, of_there}
use Rattle.paper_lower.proofs.ListLaws.{upd_same}
use Rattle.paper_lower.proofs.CheckLaws.{Passed, none-applies}
use Rattle.paper_lower.proofs.ReadBack.{read_back, sixteen}
use Rattle.sets.proofs.SetLaws.{same-members, has-empty, collect-above, collect-below}
use Rattle.theorems.proofs.Loads.{step, filled}
use Rattle.theorems.proofs.Made.{add-more}

-- P holds for every element and the elements before it.
abbrev pub Prefixed : {A : Type 0} → (List A → A → Type 0) → List A → List A → Type 0
Prefixed P acc [] = Unit {0}
Prefixed P acc (x ∷ xs) = P acc x × Prefixed P (add acc x) xs

-- ---- A record that a policy accepts, also when it is read from its bytes.
pub record Clean (p : Policy) (r : Record) : Type 0 where
  pub a : r.a < 65536
  pub b : r.b < 65536
  pub c : r.c < 65536
  pub m : r.m < 18446744073709551616
  pub shape : misshapen (form_of policy_forms r.kind) r ≡ false
  pub range : out_of_range (form_of policy_forms r.kind) r ≡ false
  pub checks : Passed ((chosen policy_kinds r.kind).checks p r)

clean-reply : (p : Policy) (r : Record) → Clean p r → reply_to policy_forms policy_kinds p (encode r) ≡ 0
unfolding reply_to form_checks
clean-reply p r x =
    let e = read_back r x.a x.b x.c x.m in
    rw (e, sixteen r, x.shape, x.range) (none-applies ((chosen policy_kinds r.kind).checks p r) x.checks)

clean-answer : (p : Policy) (r : Record) → Clean p r → ((policy_answer p (encode r)).reply ≡ 0) × ((policy_answer p (encode r)).tables ≡ step p r)
unfolding policy_answer answer
clean-answer p r x =
    let e = clean-reply p r x in
    (e, rw (e, read_back r x.a x.b x.c x.m) refl)

-- ---- Records accepted one after the other.
abbrev pub Cleanly : Policy → List Record → Type 0
Cleanly p [] = Unit {0}
Cleanly p (r ∷ rs) = Clean p r × Cleanly (step p r) rs

-- The records rs are accepted from p on and lead to q.
abbrev pub Run : Policy → List Record → Policy → Type 0
Run p rs q = Cleanly p rs × (filled p rs ≡ q)

first-sixteen : (r : Record) (s : Bytes) → (take 16 (encode r ++ s) ≡ encode r) × (drop 16 (encode r ++ s) ≡ s)
unfolding encode bytes
first-sixteen r s = (refl, refl)

load-clean : (p : Policy) (rs : List Record) (place : ℕ) → Cleanly p rs → load_on (many rs) place (joined (each encode rs)) p ≡ accepted (filled p rs)
unfolding load_on many joined each filled
load-clean p [] place x = refl
load-clean p (r ∷ rs) place x =
    let f = first-sixteen r (joined (each encode rs)) in
    let c = clean-answer p r x.0 in
    rw (f.0, f.1, c.0, c.1) (load-clean (step p r) rs (suc place) x.1)

written-length : (rs : List Record) → length (joined (each encode rs)) ≡ many rs * 16
unfolding joined each many
written-length [] = refl
written-length (r ∷ rs) =
    let n = length-append (encode r) (joined (each encode rs)) in
    let k = sixteen r in
    let m = written-length rs in
    omega arith

sixteenth : (n : ℕ) → n * 16 / 16 ≡ n
sixteenth n = omega arith

pub load-run : (rs : List Record) (q : Policy) → Run no_policy rs q → load (joined (each encode rs)) ≡ accepted q
unfolding load
load-run rs q x =
    rw (written-length rs, sixteenth (many rs)) (load-clean no_policy rs 1 x.0 ∙ ap (λ (p : Policy). accepted p) x.1)

-- The records read from the bytes are those that were written.
read-clean : (p : Policy) (rs : List Record) → Cleanly p rs → records_from (many rs) (joined (each encode rs)) ≡ rs
unfolding records_from many joined each
read-clean p [] x = refl
read-clean p (r ∷ rs) x =
    let f = first-sixteen r (joined (each encode rs)) in
    rw (f.0, f.1, read_back r x.0.a x.0.b x.0.c x.0.m, read-clean (step p r) rs x.1) refl

pub read-run : (rs : List Record) (q : Policy) → Run no_policy rs q → records_of (joined (each encode rs)) ≡ rs
unfolding records_of
read-run rs q x = rw (written-length rs, sixteenth (many rs)) (read-clean no_policy rs x.0)

-- ---- Runs of records, one after the other.
pub run_none : (p q : Policy) → p ≡ q → Run p [] q
unfolding filled
run_none p q e = (tt, e)

pub run-one : (p q : Policy) (r : Record) → Clean p r → step p r ≡ q → Run p (r ∷ []) q
unfolding filled
run-one p q r x e = ((x, tt), e)

pub run-then : (p q z : Policy) (rs ss : List Record) → Run p rs q → Run q ss z → Run p (rs ++ ss) z
unfolding filled
run-then p q z [] ss x y = subst (λ (k : Policy). Run k ss z) (sym x.1) y
run-then p q z (r ∷ rs) ss x y = let rest = run-then (step p r) q z rs ss (x.0.1, x.1) y in ((x.0.0, rest.0), rest.1)

pub run-turns : (Q : ℕ → Policy) (f : ℕ → List Record) (n : ℕ) → ((k : ℕ) → k < n → Run (Q k) (f k) (Q (suc k))) → Run (Q 0) (in_turn n f) (Q n)
unfolding in_turn
run-turns Q f zero h = run_none (Q 0) (Q 0) refl
run-turns Q f (suc n) h = run-then (Q 0) (Q n) (Q (suc n)) (in_turn n f) (f n) (run-turns Q f n (λ k l. h k (omega arith))) (h n (omega arith))

pub run-when : (p q : Policy) (b : Bool) (r : Record) → (b ≡ true → Clean p r × (step p r ≡ q)) → (b ≡ false → p ≡ q) → Run p (when b r) q
unfolding when
run-when p q true r f g = let x = f refl in run-one p q r x.0 x.1
run-when p q false r f g = run_none p q (g refl)

pub run-there : {A : Type 0} (p q : Policy) (f : A → Record) (x : Maybe A) → ((y : A) → x ≡ just y → Clean p (f y) × (step p (f y) ≡ q)) → (x ≡ none → p ≡ q)
    → Run p (of_there f x) q
unfolding of_there
run-there p q f none g h = run_none p q (h refl)
run-there p q f (just y) g h = let x = g y refl in run-one p q (f y) x.0 x.1

pub run-as : (p p' q q' : Policy) (rs : List Record) → p ≡ p' → q ≡ q' → Run p rs q → Run p' rs q'
run-as p p' q q' rs e f x = subst (λ (k : Policy). Run k rs q') e (subst (λ (k : Policy). Run p rs k) f x)

-- ---- Tables filled row by row: `mix f g k` has the rows of f below k and those of g from k on.
unfoldable pub mix : {A : Type 0} → (ℕ → A) → (ℕ → A) → ℕ → ℕ → A
mix f g k i = cond (ltb i k) (f i) (g i)

module _ {A : Type 0} (f g : ℕ → A) where
  pub mix-below : (k i : ℕ) → i < k → mix f g k i ≡ f i
  unfolding mix
  mix-below k i l = rw (lt-ltb i k l) refl

  pub mix-from : (k i : ℕ) → k ≤ i → mix f g k i ≡ g i
  unfolding mix
  mix-from k i l = rw (le-ltb i k l) refl

  pub mix-none : mix f g 0 ≡ g
  mix-none = λ j i. mix-from 0 i (omega arith) j

  pub mix_all : (n : ℕ) → ((i : ℕ) → n ≤ i → f i ≡ g i) → mix f g n ≡ f
  mix_all n h = λ j i. go i (ltb i n) refl j
    where
      go : (i : ℕ) (b : Bool) → ltb i n ≡ b → mix f g n i ≡ f i
      go i true e = mix-below n i (ltb-true i n e)
      go i false e = let l = ltb-false i n e in mix-from n i l ∙ sym (h i l)

  elsewhere : (k i : ℕ) (b : Bool) → ltb i k ≡ b → (i ≡ k → ⊥) → mix f g k i ≡ mix f g (suc k) i
  elsewhere k i true q n = let l = ltb-true i k q in mix-below k i l ∙ sym (mix-below (suc k) i (omega arith))
  elsewhere k i false q n = let l = ltb-false i k q in mix-from k i l ∙ sym (mix-from (suc k) i (omega arith))

  pub mix_next : (k : ℕ) (x : A) → x ≡ f k → upd (mix f g k) k x ≡ mix f g (suc k)
  unfolding upd
  mix_next k x e = λ j i. go i (eqb i k) refl j
    where
      go : (i : ℕ) (b : Bool) → eqb i k ≡ b → cond b x (mix f g k i) ≡ mix f g (suc k) i
      go i true q = let l = eqb-true i k q in e ∙ sym (ap f l) ∙ sym (mix-below (suc k) i (omega arith))
      go i false q = let n = eqb-false i k q in elsewhere k i (ltb i k) refl n

  pub mix-skip : (k : ℕ) → f k ≡ g k → mix f g k ≡ mix f g (suc k)
  mix-skip k e = λ j i. go i (eqb i k) refl j
    where
      go : (i : ℕ) (b : Bool) → eqb i k ≡ b → mix f g k i ≡ mix f g (suc k) i
      go i true q = let l = eqb-true i k q in mix-from k i (omega arith) ∙ ap g l ∙ sym e ∙ sym (ap f l) ∙ sym (mix-below (suc k) i (omega arith))
      go i false q = let n = eqb-false i k q in elsewhere k i (ltb i k) refl n

pub upd-idle : {A : Type 0} (f : ℕ → A) (k : ℕ) (x : A) → f k ≡ x → upd f k x ≡ f
unfolding upd
upd-idle f k x e = λ j i. go i (eqb i k) refl j
  where
    go : (i : ℕ) (b : Bool) → eqb i k ≡ b → cond b x (f i) ≡ f i
    go i true q = sym e ∙ sym (ap f (eqb-true i k q))
    go i false q = refl

pub upd-again : {A : Type 0} (f : ℕ → A) (k : ℕ) (x y : A) → upd (upd f k x) k y ≡ upd f k y
unfolding upd
upd-again f k x y = λ j i. go i (eqb i k) j
  where
    go : (i : ℕ) (b : Bool) → cond b y (cond b x (f i)) ≡ cond b y (f i)
    go i true = refl
    go i false = refl

-- ---- Sets filled member by member.
pub collect-next : (m : Set) (k : ℕ) → has m k ≡ true → plus (collect k (has m)) k ≡ collect (suc k) (has m)
unfolding collect
collect-next m k e = rw e refl

pub collect-skip : (m : Set) (k : ℕ) → has m k ≡ false → collect k (has m) ≡ collect (suc k) (has m)
unfolding collect
collect-skip m k e = rw e refl

pub collect-all : (n : ℕ) (m : Set) → ((i : ℕ) → has m i ≡ true → i < n) → collect n (has m) ≡ m
collect-all n m h = same-members (collect n (has m)) m (λ i. go i (ltb i n) refl)
  where
    go : (i : ℕ) (b : Bool) → ltb i n ≡ b → has (collect n (has m)) i ≡ has m i
    go i true e = collect-below n (has m) i (ltb-true i n e)
    go i false e = let l = ltb-false i n e in collect-above n (has m) i l ∙ sym (gone i (has m i) refl l)
      where
        gone : (i : ℕ) (b : Bool) → has m i ≡ b → n ≤ i → b ≡ false
        gone i true q l = let k = h i q in let z : ⊥ = omega arith in absurd z
        gone i false q l = refl

-- ---- Whole tables, with the records of one row after another.
abbrev pub bare : ℕ → Set
bare = λ _. empty

abbrev pub nowhere : {A : Type 0} → ℕ → Maybe A
nowhere = λ _. none

-- A table of flags.
pub run-marks : (P : (ℕ → Bool) → Policy) (f : ℕ → Bool) (n : ℕ) (rec : ℕ → Record) → ((i : ℕ) → n ≤ i → f i ≡ false)
    → ((g : ℕ → Bool) (k : ℕ) → k < n → f k ≡ true → g k ≡ false → Clean (P g) (rec k) × (step (P g) (rec k) ≡ P (upd g k true)))
    → Run (P (λ _. false)) (in_turn n (λ a. when (f a) (rec a))) (P f)
run-marks P f n rec far one =
    run-as (P (mix f no 0)) (P no) (P (mix f no n)) (P f) _ (ap P (mix-none f no)) (ap P (mix_all f no n far))
    (run-turns (λ k. P (mix f no k)) (λ a. when (f a) (rec a)) n (λ k l. run-when (P (mix f no k)) (P (mix f no (suc k))) (f k) (rec k)
    (λ e. let x = one (mix f no k) k l e (mix-from f no k k (omega arith)) in (x.0, x.1 ∙ ap P (mix_next f no k true (sym e))))
    (λ e. ap P (mix-skip f no k e))))
  where
    no : ℕ → Bool
    no = λ _. false

-- A table of optional values.
pub run-theres : {A : Type 0} (P : (ℕ → Maybe A) → Policy) (f : ℕ → Maybe A) (n : ℕ) (rec : ℕ → A → Record) → ((i : ℕ) → n ≤ i → f i ≡ none)
    → ((k : ℕ) (x : A) → k < n → f k ≡ just x →
    Clean (P (mix f nowhere k)) (rec k x) × (step (P (mix f nowhere k)) (rec k x) ≡ P (upd (mix f nowhere k) k (just x))))
    → Run (P nowhere) (in_turn n (λ a. of_there (rec a) (f a))) (P f)
run-theres P f n rec far one =
    run-as (P (mix f nowhere 0)) (P nowhere) (P (mix f nowhere n)) (P f) _ (ap P (mix-none f nowhere)) (ap P (mix_all f nowhere n far))
    (run-turns (λ k. P (mix f nowhere k)) (λ a. of_there (rec a) (f a)) n (λ k l. run-there (P (mix f nowhere k)) (P (mix f nowhere (suc k))) (rec k) (f k)
    (λ x e. let y = one k x l e in (y.0, y.1 ∙ ap P (mix_next f nowhere k (just x) (sym e))))
    (λ e. ap P (mix-skip f nowhere k e))))

-- A table of sets: row by row, and within a row member by member.
pub run-rows : (P : (ℕ → Set) → Policy) (f : ℕ → Set) (n m : ℕ) (rec : ℕ → ℕ → Record) → ((a : ℕ) → n ≤ a → f a ≡ empty) →
    ((a b : ℕ) → has (f a) b ≡ true → b < m)
    → ((g : ℕ → Set) (a b : ℕ) → a < n → b < m → has (f a) b ≡ true → has (g a) b ≡ false
    → Clean (P g) (rec a b) × (step (P g) (rec a b) ≡ P (upd g a (plus (g a) b))))
    → Run (P bare) (in_turn n (λ a. in_turn m (λ b. when (has (f a) b) (rec a b)))) (P f)
unfolding collect
run-rows P f n m rec far small one =
    run-as (P (mix f bare 0)) (P bare) (P (mix f bare n)) (P f) _ (ap P (mix-none f bare)) (ap P (mix_all f bare n far))
    (run-turns (λ k. P (mix f bare k)) (λ a. in_turn m (λ b. when (has (f a) b) (rec a b))) n (λ k l.
    run-as (P (at k 0)) (P (mix f bare k)) (P (at k m)) (P (mix f bare (suc k))) _
    (ap P (upd-idle (mix f bare k) k empty (mix-from f bare k k (omega arith))))
    (ap P (mix_next f bare k (collect m (has (f k))) (collect-all m (f k) (small k))))
    (run-turns (λ b. P (at k b)) (λ b. when (has (f k) b) (rec k b)) m (λ b lb. run-when (P (at k b)) (P (at k (suc b))) (has (f k) b) (rec k b)
    (λ e. let x = one (at k b) k b l lb e (rw (here k b) (collect-above b (has (f k)) b (omega arith))) in (x.0, x.1 ∙ ap P (more k b e)))
    (λ e. ap P (ap (λ (z : Set). upd (mix f bare k) k z) (collect-skip (f k) b e)))))))
  where
    at : ℕ → ℕ → ℕ → Set
    at k b = upd (mix f bare k) k (collect b (has (f k)))

    here : (k b : ℕ) → at k b k ≡ collect b (has (f k))
    here k b = upd_same (mix f bare k) k k (collect b (has (f k))) refl

    more : (k b : ℕ) → has (f k) b ≡ true → upd (at k b) k (plus (at k b k) b) ≡ at k (suc b)
    more k b e =
        ap (λ (z : Set). upd (at k b) k (plus z b)) (here k b)
        ∙ upd-again (mix f bare k) k (collect b (has (f k))) (plus (collect b (has (f k))) b)
        ∙ ap (λ (z : Set). upd (mix f bare k) k z) (collect-next (f k) b e)

-- A table of sets: member by member, and for each member every row that has it.
pub run-columns : (P : (ℕ → Set) → Policy) (f : ℕ → Set) (n m : ℕ) (rec : ℕ → ℕ → Record) → ((b : ℕ) → m ≤ b → f b ≡ empty) →
    ((b a : ℕ) → has (f b) a ≡ true → a < n)
    → ((g : ℕ → Set) (a b : ℕ) → a < n → b < m → has (f b) a ≡ true → has (g b) a ≡ false
    → Clean (P g) (rec a b) × (step (P g) (rec a b) ≡ P (upd g b (plus (g b) a))))
    → Run (P bare) (in_turn n (λ a. in_turn m (λ b. when (has (f b) a) (rec a b)))) (P f)
unfolding collect
run-columns P f n m rec far small one =
    run-as (P (low 0)) (P bare) (P (low n)) (P f) _ refl (ap P (λ j k. collect-all n (f k) (small k) j))
    (run-turns (λ k. P (low k)) (λ a. in_turn m (λ b. when (has (f b) a) (rec a b))) n (λ k l.
    run-as (P (at k 0)) (P (low k)) (P (at k m)) (P (low (suc k))) _
    (ap P (mix-none (low (suc k)) (low k)))
    (ap P (mix_all (low (suc k)) (low k) m (λ i q. sym (collect-skip (f i) k (rw (far i q) (has-empty k))))))
    (run-turns (λ b. P (at k b)) (λ b. when (has (f b) k) (rec k b)) m (λ b lb. run-when (P (at k b)) (P (at k (suc b))) (has (f b) k) (rec k b)
    (λ e. let x = one (at k b) k b l lb e (rw (here k b) (collect-above k (has (f b)) k (omega arith))) in (
      x.0,
      x.1 ∙ ap P (mix_next (low (suc k)) (low k) b (plus (at k b b) k) (ap (λ (z : Set). plus z k) (here k b) ∙ collect-next (f b) k e)),
    ))
    (λ e. ap P (mix-skip (low (suc k)) (low k) b (sym (collect-skip (f b) k e))))))))
  where
    low : ℕ → ℕ → Set
    low a = λ k. collect a (has (f k))

    at : ℕ → ℕ → ℕ → Set
    at k b = mix (low (suc k)) (low k) b

    here : (k b : ℕ) → at k b b ≡ collect k (has (f b))
    here k b = mix-from (low (suc k)) (low k) b b (omega arith)

-- Rules, in the order in which the policy has them.
pub run-rules : {A : Type 0} (P : List A → Policy) (Ok : List A → A → Type 0) (rec : A → Record)
    → ((acc : List A) (x : A) → Ok acc x → Clean (P acc) (rec x) × (step (P acc) (rec x) ≡ P (add acc x)))
    → (acc xs : List A) → Prefixed Ok acc xs → Run (P acc) (each rec xs) (P (acc ++ xs))
unfolding each
run-rules P Ok rec one acc [] h = run_none (P acc) (P (acc ++ [])) (ap P (sym (append-nil acc)))
run-rules P Ok rec one acc (x ∷ xs) h =
    let y = one acc x h.0 in
    run-then (P acc) (P (add acc x)) (P (acc ++ (x ∷ xs))) (rec x ∷ []) (each rec xs) (run-one (P acc) (P (add acc x)) (rec x) y.0 y.1)
    (subst (λ (zs : List _). Run (P (add acc x)) (each rec xs) (P zs)) (add-more acc x xs) (run-rules P Ok rec one (add acc x) xs h.1))
