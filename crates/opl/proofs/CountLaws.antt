-- The counts of the pass over the tags are the numbers of records in the defined answer, and each kind begins at the place where it begins there.
use Prim.Native.Nat.{ℕ, zero, suc, ◌+◌, ◌*◌, ◌≤◌, ◌<◌}
use mathlib.Core.Path.{◌≡◌, refl, sym, ap, ◌∙◌}
use mathlib.Core.Bool.{true, true≢false}
use mathlib.Core.List.{List, [], ◌∷◌, ◌++◌}
use native.Mathlib.Omega.{arith}
use lib.Dec.{eqb}
use lib.ListN.{length}
use borrow.Author.Tests.{eqb-true, eqb-false, ne_eqb}
use Rattle.paper_lower.specs.Lists.{Maybe, upd, every, many, keep, each}
use Rattle.paper_lower.specs.Lists.Maybe.{just}
use Rattle.paper_lower.specs.Records.{Bytes, Record, put_at}
use Rattle.paper_lower.proofs.ListLaws.{both, upd_same, upd_other, many-each, many-append}
use Rattle.paper_opl.specs.Tree.{Tag}
use Rattle.paper_opl.specs.Naming.{Line, Names, task_record, written}
use Rattle.paper_opl.specs.Walk.{names_in, Context, start, turn, kind_at, leading, Saying, saying, sayings, record_said, rising, records_in}
use Rattle.paper_opl.specs.Filling.{valued, fill, count_of, start_of, tally}
use Rattle.paper_opl.proofs.Inversion.{on_test}
use Rattle.paper_opl.proofs.Judging.{one_of, of_tags, said-range, ordered}
use Rattle.paper_opl.proofs.Tallied.{tally-is}
use Rattle.paper_opl.proofs.Filled.{start-step, start_first, written-sixteen}
use Rattle.opl_turns.specs.Meaning.{element_of, sets_by}
use Rattle.opl_turns.proofs.MeaningLaws.{kind-is, turn_is, kind-small}
use Rattle.opl_passes.specs.Tags.{begins}

-- ---- No tag yields a record of kind 6, which only task lines yield.
none-of-six : (xs : List Saying) → every (λ x. of_tags x.kind) xs ≡ true → many (keep (λ x. eqb x.kind 6) xs) ≡ 0
unfolding every keep many one_of
none-of-six [] h = refl
none-of-six (x ∷ xs) h =
    let b = both (of_tags x.kind) (every (λ x. of_tags x.kind) xs) h in
    on_test (eqb x.kind 6)
    (λ q. absurd (true≢false (sym b.0 ∙ ap of_tags (eqb-true x.kind 6 q))))
    (λ q. rw q (none-of-six xs b.1))

-- ---- The number of records.
module _ (ns : Names) (xs : List Saying) (ls : List Line) where
  rising-many : (n k : ℕ) → 1 ≤ k → ((j : ℕ) → k ≤ j → j < k + n → j ≡ 6 → ⊥) → start_of xs ls k + many (rising ns k n xs) ≡ start_of xs ls (k + n)
  unfolding rising many
  rising-many zero k a h = let z : k + 0 ≡ k = omega arith in rw z (omega arith)
  rising-many (suc n) k a h =
      let z : suc k + n ≡ k + suc n = omega arith in
      let r = rising-many n (suc k) (omega arith) (λ j p q. h j (omega arith) (omega arith)) in
      let s = start-step xs ls k a in
      let c : count_of xs ls k ≡ many (keep (λ x. eqb x.kind k) xs) = rw (ne_eqb k 6 (h k (omega arith) (omega arith))) in
      let e = many-each (record_said ns) (keep (λ x. eqb x.kind k) xs) in
      let m = many-append (each (record_said ns) (keep (λ x. eqb x.kind k) xs)) (rising ns (suc k) n xs) in
      rw (← z) (omega (arith, r, s, c, e, m))

  all-many : many (rising ns 1 5 xs ++ each (task_record ns) ls ++ rising ns 7 12 xs) ≡ start_of xs ls 19
  all-many =
      let f = start_first xs ls in
      let a = rising-many 5 1 (omega arith) (λ j p q e. omega arith) in
      let b = rising-many 12 7 (omega arith) (λ j p q e. omega arith) in
      let s = start-step xs ls 6 (omega arith) in
      let m = many-append (rising ns 1 5 xs ++ each (task_record ns) ls) (rising ns 7 12 xs) in
      let n = many-append (rising ns 1 5 xs) (each (task_record ns) ls) in
      let t = many-each (task_record ns) ls in
      omega (arith, f, a, b, s, m, n, t)

-- The number of records of an answer, and the length of its bytes.
pub counted : (ts : List Tag) (ls : List Line) (rs : List Record) → records_in ts ls ≡ just rs
    → (many rs ≡ start_of (sayings start ts) ls 19) × (length (written rs) ≡ 16 * start_of (sayings start ts) ls 19)
counted ts ls rs e =
    let m : many rs ≡ start_of (sayings start ts) ls 19
    = sym (many-each just rs) ∙ ap (λ (x : List (Maybe Record)). many x) (sym (ordered ts ls rs e)) ∙ all-many (names_in ts ls) (sayings start ts) ls in
    (m, written-sixteen rs ∙ ap (λ (k : ℕ). 16 * k) m)

-- ---- The counts of the pass, with the number of task lines as that of kind 6.
module _ (ts : List Tag) (ls : List Line) (f₀ f : ℕ → ℕ) (zeros : (k : ℕ) → f₀ k ≡ 0) (tallied : f ≡ tally start f₀ ts) where
  abbrev xs : List Saying
  xs = sayings start ts

  by_kind : (k : ℕ) → f k ≡ many (keep (λ x. eqb x.kind k) xs)
  by_kind k = let a = ap (λ (g : ℕ → ℕ). g k) tallied ∙ tally-is ts start f₀ k in let b = zeros k in omega (arith, a, b)

  module _ (g : ℕ → ℕ) (with-lines : g ≡ upd f 6 (many ls)) where
    counts-are : (k : ℕ) → g k ≡ count_of xs ls k
    counts-are k =
        ap (λ (h : ℕ → ℕ). h k) with-lines
        ∙ on_test (eqb k 6)
        (λ q. rw (q, upd_same f 6 k (many ls) (eqb-true k 6 q)))
        (λ q. rw (q, upd_other f 6 k (many ls) (eqb-false k 6 q)) (by_kind k))

    pub begins-are : (k : ℕ) → begins g k ≡ start_of xs ls k
    unfolding begins start_of
    begins-are zero = refl
    begins-are (suc zero) = refl
    begins-are (suc (suc k)) = let a = begins-are (suc k) in let b = counts-are (suc k) in rw (a, b)

    -- The places of a kind's records end at or before the place where the next kind begins.
    pub tally-ends : (h : ℕ → ℕ) → ((k : ℕ) → 1 ≤ k → k < 19 → h k ≡ begins g k) → (k : ℕ) → 1 ≤ k → k < 19 → tally start h ts k ≤ start_of xs ls (suc k)
    tally-ends h begun k a b =
        let u = tally-is ts start h k in
        let v = begun k a b in
        let w = begins-are k in
        let s = start-step xs ls k a in
        on_test (eqb k 6)
        (λ q.
        let e = eqb-true k 6 q in
        let z : many (keep (λ x. eqb x.kind k) xs) ≡ 0 = rw e (none-of-six xs (said-range start refl ts)) in
        omega (arith, u, v, w, s, z))
        (λ q. let c : count_of xs ls k ≡ many (keep (λ x. eqb x.kind k) xs) = rw q in omega (arith, u, v, w, s, c))

    pub lines_end : start_of xs ls 7 ≡ start_of xs ls 6 + many ls
    lines_end = start-step xs ls 6 (omega arith)

-- ---- The output depends only on the places of kinds 1 to 18.
low_turn : (c : Context) (t : Tag) → c.sets ≤ 10 → (turn c t).sets ≤ 10
low_turn c t h = rw (ap (λ (d : Context). d.sets) (turn_is c t)) (low (element_of t.name))
  where
    low : (id : ℕ) → sets_by c.sets id ≤ 10
    low id = on_test (eqb id 20) (λ q. rw q (omega arith)) (λ q. on_test (eqb id 21) (λ p. rw (q, p) (omega arith)) (λ p. rw (q, p) h))

abbrev Agree : (ℕ → ℕ) → (ℕ → ℕ) → Type 0
Agree f g = (k : ℕ) → 1 ≤ k → k < 19 → f k ≡ g k

agree-upd : (f g : ℕ → ℕ) (k : ℕ) → 1 ≤ k → k < 19 → Agree f g → Agree (upd f k (suc (f k))) (upd g k (suc (g k)))
agree-upd f g k a b h i p q =
    on_test (eqb i k)
    (λ u. let e = eqb-true i k u in rw (upd_same f k i (suc (f k)) e, upd_same g k i (suc (g k)) e, h k a b))
    (λ u. let e = eqb-false i k u in rw (upd_other f k i (suc (f k)) e, upd_other g k i (suc (g k)) e) (h i p q))

pub fill-agree : (ns : Names) (ts : List Tag) (c : Context) → c.sets ≤ 10 → (f g : ℕ → ℕ) → Agree f g → (out : Bytes) → fill ns c f ts out ≡ fill ns c g ts out
unfolding fill
fill-agree ns [] c low f g h out = refl
fill-agree ns (t ∷ ts) c low f g h out =
    on_test (eqb (kind_at c t) 0) (λ q. rw q (fill-agree ns ts (turn c t) (low_turn c t low) f g h out))
    (λ q.
    let z = eqb-false (kind_at c t) 0 q in
    let s : kind_at c t < 19 = rw (kind-is c t) (kind-small c.sets t.name low) in
    let o : 1 ≤ kind_at c t = omega (arith, z) in
    rw q (ap (λ (p : ℕ). fill ns (turn c t) (upd f (kind_at c t) (suc (f (kind_at c t)))) ts (put_at out p (valued (record_said ns (saying c t (leading ts))))))
    (h (kind_at c t) o s)
    ∙ fill-agree ns ts (turn c t) (low_turn c t low) (upd f (kind_at c t) (suc (f (kind_at c t)))) (upd g (kind_at c t) (suc (g (kind_at c t))))
    (agree-upd f g (kind_at c t) o s h) (put_at out (g (kind_at c t)) (valued (record_said ns (saying c t (leading ts)))))))
