-- The pass that writes each record to the next place of its kind leaves the records of the defined answer, with rising kinds.
use mathlib.Core.Path.{◌≡◌, refl, sym, ap, ◌∙◌}
use mathlib.Core.List.{List, [], ◌∷◌, ◌++◌, append_assoc, append-nil}
use mathlib.Core.Bool.{true, false≢true}
use Prim.Native.Nat.{ℕ, zero, suc, ◌+◌, ◌*◌, ◌<◌, ◌≤◌}
use native.Mathlib.Omega.{arith}
use lib.Dec.{eqb}
use lib.ListN.{length, drop, length-append}
use borrow.Author.Tests.{eqb-true, eqb-false, ne_eqb}
use Rattle.paper_lower.specs.Lists.{upd, every, many, keep, each, Every}
use Rattle.paper_lower.specs.Lists.Maybe.{just}
use Rattle.paper_lower.specs.Records.{Bytes, Record, bytes, encode, put_at}
use Rattle.paper_lower.proofs.ListLaws.{both, upd_same, upd_other, every_append, many-each}
use Rattle.paper_opl.specs.Tree.{Tag}
use Rattle.paper_opl.specs.Naming.{Line, Names, task_record, written}
use Rattle.paper_opl.specs.Walk.{names_in, Context, start, turn, kind_at, leading, Saying, saying, sayings, record_said, rising, records_in}
use Rattle.paper_opl.specs.Filling.{valued, fill_lines, fill, count_of, start_of}
use Rattle.paper_opl.proofs.Inversion.{on_test}
use Rattle.paper_opl.proofs.KindByKind.{each_append}
use Rattle.paper_opl.proofs.Judging.{one_of, of_tags, said-range, ordered}
use Rattle.paper_opl.proofs.InPlaces.{Kinded, InKinds, fill_all, picked, gather, places, starts-count}

-- ---- Tags and task lines as records with their kinds.

abbrev tags_kinded : Names → List Saying → List Kinded
tags_kinded ns xs = each (λ x. (x.kind, valued (record_said ns x))) xs

abbrev lines_kinded : Names → List Line → List Kinded
lines_kinded ns ls = each (λ l. (6, valued (task_record ns l))) ls

fill_is : (ns : Names) (ts : List Tag) (c : Context) (next : ℕ → ℕ) (out : Bytes) → fill ns c next ts out ≡ fill_all next (tags_kinded ns (sayings c ts)) out
unfolding fill fill_all sayings each
fill_is ns [] c next out = refl
fill_is ns (t ∷ ts) c next out =
    on_test (eqb (kind_at c t) 0) (λ q. rw q (fill_is ns ts (turn c t) next out))
    (λ q. rw q (fill_is ns ts (turn c t) (upd next (kind_at c t) (suc (next (kind_at c t))))
    (put_at out (next (kind_at c t)) (valued (record_said ns (saying c t (leading ts)))))))

-- Two assignments of places that differ at most for kind 6. For records of other kinds, the output does not depend on the place of kind 6.
abbrev Apart : (ℕ → ℕ) → (ℕ → ℕ) → Type 0
Apart f g = (k : ℕ) → (k ≡ 6 → ⊥) → f k ≡ g k

apart-upd : (f g : ℕ → ℕ) (k : ℕ) → (k ≡ 6 → ⊥) → Apart f g → Apart (upd f k (suc (f k))) (upd g k (suc (g k)))
apart-upd f g k n h i m =
    on_test (eqb i k)
    (λ q. let e = eqb-true i k q in rw (upd_same f k i (suc (f k)) e, upd_same g k i (suc (g k)) e, h k n))
    (λ q. let e = eqb-false i k q in rw (upd_other f k i (suc (f k)) e, upd_other g k i (suc (g k)) e) (h i m))

fill-apart : (ys : List Kinded) (f g : ℕ → ℕ) (out : Bytes) → Apart f g → Every (λ y. y.0 ≡ 6 → ⊥) ys → fill_all f ys out ≡ fill_all g ys out
unfolding fill_all
fill-apart [] f g out h n = refl
fill-apart (y ∷ ys) f g out h n =
    ap (λ (p : ℕ). fill_all (upd f y.0 (suc (f y.0))) ys (put_at out p y.1)) (h y.0 n.0)
    ∙ fill-apart ys (upd f y.0 (suc (f y.0))) (upd g y.0 (suc (g y.0))) (put_at out (g y.0) y.1) (apart-upd f g y.0 n.0 h) n.1

-- The task lines are written first, then the tags.
lines_then : (ns : Names) (ls : List Line) (next f : ℕ → ℕ) (p : ℕ) (ys : List Kinded) (out : Bytes) → next 6 ≡ p → Apart next f → Every (λ y. y.0 ≡ 6 → ⊥) ys
    → fill_all next (lines_kinded ns ls ++ ys) out ≡ fill_all f ys (fill_lines ns p ls out)
unfolding fill_lines fill_all each
lines_then ns [] next f p ys out e h n = fill-apart ys next f out h n
lines_then ns (l ∷ ls) next f p ys out e h n =
    ap (λ (q : ℕ). fill_all (upd next 6 (suc (next 6))) (lines_kinded ns ls ++ ys) (put_at out q (valued (task_record ns l)))) e
    ∙ lines_then ns ls (upd next 6 (suc (next 6))) f (suc p) ys (put_at out p (valued (task_record ns l))) (upd_same next 6 6 (suc (next 6)) refl ∙ ap suc e)
    (λ k m. upd_other next 6 k (suc (next 6)) m ∙ h k m) n

-- ---- Kind by kind.

picked-append : (k : ℕ) (ys zs : List Kinded) → picked k (ys ++ zs) ≡ picked k ys ++ picked k zs
unfolding picked
picked-append k [] zs = refl
picked-append k (y ∷ ys) zs = on_test (eqb y.0 k) (λ q. rw (q, picked-append k ys zs)) (λ q. rw (q, picked-append k ys zs))

tags-picked : (ns : Names) (k : ℕ) (xs : List Saying) → picked k (tags_kinded ns xs) ≡ each valued (each (record_said ns) (keep (λ x. eqb x.kind k) xs))
unfolding picked each keep
tags-picked ns k [] = refl
tags-picked ns k (x ∷ xs) =
    on_test (eqb x.kind k) (λ q. rw q (ap (λ (l : List Record). valued (record_said ns x) ∷ l) (tags-picked ns k xs))) (λ q. rw q (tags-picked ns k xs))

lines-picked : (ns : Names) (ls : List Line) → picked 6 (lines_kinded ns ls) ≡ each valued (each (task_record ns) ls)
unfolding picked each
lines-picked ns [] = refl
lines-picked ns (l ∷ ls) = ap (λ (x : List Record). valued (task_record ns l) ∷ x) (lines-picked ns ls)

lines_other : (ns : Names) (k : ℕ) (ls : List Line) → (k ≡ 6 → ⊥) → picked k (lines_kinded ns ls) ≡ []
unfolding picked each
lines_other ns k [] n = refl
lines_other ns k (l ∷ ls) n = rw (ne_eqb 6 k (λ e. n (sym e))) (lines_other ns k ls n)

one-range : (n k j : ℕ) → one_of k n j ≡ true → (k ≤ j) × (j < k + n)
unfolding one_of
one-range zero k j e = absurd (false≢true e)
one-range (suc n) k j e =
    on_test (eqb j k) (λ q. let x = eqb-true j k q in (omega arith, omega arith))
    (λ q. let x = one-range n (suc k) j (rw q at e) in let y = x.0 in let z = x.1 in (omega arith, omega arith))

tag-kind : (j : ℕ) → of_tags j ≡ true → (1 ≤ j) × (j < 19) × (j ≡ 6 → ⊥)
tag-kind j e =
    on_test (one_of 1 5 j)
    (λ q. let x = one-range 5 1 j q in let y = x.0 in let z = x.1 in (omega arith, omega arith, λ w. omega arith))
    (λ q. let x = one-range 12 7 j (rw q at e) in let y = x.0 in let z = x.1 in (omega arith, omega arith, λ w. omega arith))

tags-in-kinds : (ns : Names) (xs : List Saying) → every (λ x. of_tags x.kind) xs ≡ true →
    Every InKinds (tags_kinded ns xs) × Every (λ y. y.0 ≡ 6 → ⊥) (tags_kinded ns xs) × (keep (λ x. eqb x.kind 6) xs ≡ [])
unfolding every each keep
tags-in-kinds ns [] h = (tt, tt, refl)
tags-in-kinds ns (x ∷ xs) h =
    let b = both (of_tags x.kind) (every (λ x. of_tags x.kind) xs) h in
    let k = tag-kind x.kind b.0 in
    let r = tags-in-kinds ns xs b.1 in
    (((k.0, k.1), r.0), (k.2, r.1), rw (ne_eqb x.kind 6 k.2) r.2)

lines-in-kinds : (ns : Names) (ls : List Line) → Every InKinds (lines_kinded ns ls)
unfolding each
lines-in-kinds ns [] = tt
lines-in-kinds ns (l ∷ ls) = ((omega arith, omega arith), lines-in-kinds ns ls)

-- Without kind 6, the records of a range of kinds are those of the tags.
gather-tags : (ns : Names) (xs : List Saying) (ls : List Line) (n k : ℕ) → ((j : ℕ) → k ≤ j → j < k + n → j ≡ 6 → ⊥) →
    gather k n (lines_kinded ns ls ++ tags_kinded ns xs) ≡ each valued (rising ns k n xs)
unfolding gather rising each
gather-tags ns xs ls zero k h = refl
gather-tags ns xs ls (suc n) k h =
    ap (λ (x : List Record). x ++ gather (suc k) n (lines_kinded ns ls ++ tags_kinded ns xs))
    (picked-append k (lines_kinded ns ls) (tags_kinded ns xs) ∙
    ap (λ (x : List Record). x ++ picked k (tags_kinded ns xs)) (lines_other ns k ls (h k (omega arith) (omega arith))) ∙ tags-picked ns k xs)
    ∙ ap (λ (x : List Record). each valued (each (record_said ns) (keep (λ x. eqb x.kind k) xs)) ++ x)
    (gather-tags ns xs ls n (suc k) (λ j a b. h j (omega arith) (omega arith)))
    ∙ sym (each_append valued (each (record_said ns) (keep (λ x. eqb x.kind k) xs)) (rising ns (suc k) n xs))

gather-split : (n m a : ℕ) (ys : List Kinded) → gather a (n + m) ys ≡ gather a n ys ++ gather (a + n) m ys
unfolding gather
gather-split zero m a ys = let z : 0 + m ≡ m = omega arith in let w : a + 0 ≡ a = omega arith in rw (z, w)
gather-split (suc n) m a ys =
    let z : suc n + m ≡ suc (n + m) = omega arith in
    let w : suc a + n ≡ a + suc n = omega arith in
    rw z (ap (λ (x : List Record). picked a ys ++ x) (gather-split n m (suc a) ys ∙ ap (λ (k : ℕ). gather (suc a) n ys ++ gather k m ys) w) ∙
    sym (append_assoc (picked a ys) (gather (suc a) n ys) (gather (a + suc n) m ys)))

valued-all : (rs : List Record) → each valued (each just rs) ≡ rs
unfolding each
valued-all [] = refl
valued-all (r ∷ rs) = ap (λ (x : List Record). r ∷ x) (valued-all rs)

-- ---- The whole output.

pub start-step : (xs : List Saying) (ls : List Line) (k : ℕ) → 1 ≤ k → start_of xs ls (suc k) ≡ start_of xs ls k + count_of xs ls k
unfolding start_of
start-step xs ls zero h = absurd (omega arith)
start-step xs ls (suc k) h = refl

pub start_first : (xs : List Saying) (ls : List Line) → start_of xs ls 1 ≡ 0
unfolding start_of
start_first xs ls = refl

pub written-sixteen : (rs : List Record) → length (written rs) ≡ 16 * many rs
unfolding written many encode bytes
written-sixteen [] = refl
written-sixteen (r ∷ rs) = let h = written-sixteen rs in length-append (encode r) (written rs) ∙ omega arith

-- From kind 6 on: the records of the task lines, and then those of higher kinds.
later : (ys : List Kinded) → gather 6 13 ys ≡ picked 6 ys ++ gather 7 12 ys
unfolding gather
later ys = refl

module _ (ns : Names) (xs : List Saying) (ls : List Line) (range : every (λ x. of_tags x.kind) xs ≡ true) where
  all-kinded : List Kinded
  all-kinded = lines_kinded ns ls ++ tags_kinded ns xs

  counted : (k : ℕ) → 1 ≤ k → k < 19 → count_of xs ls k ≡ many (picked k all-kinded)
  unfolding all-kinded each
  counted k a b =
      on_test (eqb k 6)
      (λ q.
      let e = eqb-true k 6 q in
      rw (q, e, picked-append 6 (lines_kinded ns ls) (tags_kinded ns xs), lines-picked ns ls, tags-picked ns 6 xs, (tags-in-kinds ns xs range).2)
      (sym (ap many (append-nil (each valued (each (task_record ns) ls))) ∙ many-each valued (each (task_record ns) ls) ∙ many-each (task_record ns) ls)))
      (λ q.
      let e = eqb-false k 6 q in
      rw (q, picked-append k (lines_kinded ns ls) (tags_kinded ns xs), lines_other ns k ls e, tags-picked ns k xs)
      (sym (many-each valued (each (record_said ns) (keep (λ x. eqb x.kind k) xs)) ∙ many-each (record_said ns) (keep (λ x. eqb x.kind k) xs))))

  six : picked 6 all-kinded ≡ each valued (each (task_record ns) ls)
  unfolding all-kinded each
  six =
      picked-append 6 (lines_kinded ns ls) (tags_kinded ns xs)
      ∙ rw (lines-picked ns ls, tags-picked ns 6 xs, (tags-in-kinds ns xs range).2) (append-nil (each valued (each (task_record ns) ls)))

  gathered : gather 1 18 all-kinded ≡ each valued (rising ns 1 5 xs ++ each (task_record ns) ls ++ rising ns 7 12 xs)
  unfolding all-kinded
  gathered =
      gather-split 5 13 1 all-kinded
      ∙ ap (λ (x : List Record). gather 1 5 all-kinded ++ x) (later all-kinded)
      ∙ rw (gather-tags ns xs ls 5 1 (λ j a b e. omega arith), six, gather-tags ns xs ls 12 7 (λ j a b e. omega arith))
      (sym (each_append valued (rising ns 1 5 xs ++ each (task_record ns) ls) (rising ns 7 12 xs) ∙
      ap (λ (x : List Record). x ++ each valued (rising ns 7 12 xs)) (each_append valued (rising ns 1 5 xs) (each (task_record ns) ls))
      ∙ append_assoc (each valued (rising ns 1 5 xs)) (each valued (each (task_record ns) ls)) (each valued (rising ns 7 12 xs))))

-- "Records go by kind rising, then in text order": the pass that writes leaves them in this order.
pub fill-writes : (ts : List Tag) (ls : List Line) (rs : List Record) (out : Bytes) → records_in ts ls ≡ just rs → length (written rs) ≤ length out
    → fill (names_in ts ls) start (start_of (sayings start ts) ls) ts (fill_lines (names_in ts ls) (start_of (sayings start ts) ls 6) ls out) ≡
    written rs ++ drop (length (written rs)) out
unfolding all-kinded
fill-writes ts ls rs out e fits =
    let range = said-range start refl ts in
    let i = tags-in-kinds ns xs range in
    let g : gather 1 18 (lines_kinded ns ls ++ tags_kinded ns xs) ≡ rs = gathered ns xs ls range ∙ ap (each valued) (ordered ts ls rs e) ∙ valued-all rs in
    let w = written-sixteen rs in
    let z = start_first xs ls in
    let c =
    starts-count out s (count_of xs ls) (start-step xs ls) (lines_kinded ns ls ++ tags_kinded ns xs) (counted ns xs ls range) 18 1 (omega arith) (omega arith) in
    let m = ap (λ (x : List Record). many x) g in
    let t : 16 * s 19 ≡ length (written rs) = omega arith in
    fill_is ns ts start s (fill_lines ns (s 6) ls out)
    ∙ sym (lines_then ns ls s s (s 6) (tags_kinded ns xs) out refl (λ k o. refl) i.1)
    ∙ places out s (count_of xs ls) (start-step xs ls) (omega arith) (lines_kinded ns ls ++ tags_kinded ns xs) z (counted ns xs ls range)
    (every_append InKinds (lines_kinded ns ls) (tags_kinded ns xs) (lines-in-kinds ns ls) i.0)
    ∙ rw (g, t)
  where
    ns : Names
    ns = names_in ts ls

    xs : List Saying
    xs = sayings start ts

    s : ℕ → ℕ
    s = start_of (sayings start ts) ls
