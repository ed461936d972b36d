-- The theorems on a mended file (02, Ask 12): what is written loads, a file that loads comes out the same, and the records written and the places reported are
-- together all places. Each is proved by induction on the records, which mend and load take one after the other.
use Prim.Native.Nat.{ℕ, zero, suc, ◌+◌, ◌-◌, ◌*◌, ◌≤◌, ◌<◌, ◌/◌, ◌%◌}
use mathlib.Core.Path.{◌≡◌, refl, sym, ap, ap₂, ◌∙◌}
use mathlib.Core.Bool.{Bool, true, false, not, cond, ◌||◌}
use mathlib.Core.List.{List, [], ◌∷◌, ◌++◌}
use native.Mathlib.Omega.{arith}
use borrow.Author.Tests.{eqb-true, eq-eqb, ne_eqb}
use lib.Dec.{eqb}
use lib.ListN.{length, take, drop, length-take, length-drop, length-append, take-append-drop}
use lib.Seq.{take_at, drop_at}
use Rattle.paper_lower.specs.Lists.{some, Every}
use Rattle.paper_lower.specs.Checks.{SHAPE, granted}
use Rattle.paper_lower.specs.Records.{Bytes}
use Rattle.paper_lower.specs.Tables.{Policy, no_policy}
use Rattle.paper_lower.specs.Load.{Loaded, accepted, refused, policy_answer, load_on, load}
use Rattle.paper_lower.specs.Mend.{Dropped, dropped, Mended, keeping, dropping, mend_from, mend}
use Rattle.theorems.specs.Mending.{WhatIsWrittenLoads, AFileThatLoadsComesOut, WrittenAndReported, reported, unreported, Rising}

-- If n + 1 whole records are left, the first has sixteen bytes and n are left after it.
front : (n : ℕ) (s : Bytes) → suc n * 16 ≤ length s → length (take 16 s) ≡ 16
front n s h = let e = length-take 16 s in omega arith

behind : (n : ℕ) (s : Bytes) → suc n * 16 ≤ length s → n * 16 ≤ length (drop 16 s)
behind n s h = let e = length-drop 16 s in omega arith

-- ---- "What is written always loads".
record Reloads (p : Policy) (x : Mended) : Type 0 where
  pub kept : ℕ
  pub bytes : length x.written ≡ kept * 16
  pub loads : (place : ℕ) → load_on kept place x.written p ≡ accepted x.tables

load_one : (h w : Bytes) (p : Policy) (q place : ℕ) → length h ≡ 16 → (policy_answer p h).reply ≡ 0
    → load_on (suc q) place (h ++ w) p ≡ load_on q (suc place) w (policy_answer p h).tables
unfolding load_on
load_one h w p q place l e =
    ap₂ (λ a b. granted (policy_answer p a).reply (load_on q (suc place) b (policy_answer p a).tables) (refused (policy_answer p a).reply place))
    (take_at h w 16 l) (drop_at h w 16 l)
    ∙ ap (λ z. granted z (load_on q (suc place) w (policy_answer p h).tables) (refused z place)) e

reloads : (n place : ℕ) (s : Bytes) (p : Policy) → n * 16 ≤ length s → Reloads p (mend_from n place s p)
unfolding mend_from load_on
reloads zero place s p h = record { kept = 0; bytes = refl; loads = λ k. refl }
reloads (suc n) place s p h =
    go (policy_answer p (take 16 s)).reply refl
    (reloads n (suc place) (drop 16 s) (policy_answer p (take 16 s)).tables (behind n s h))
    (reloads n (suc place) (drop 16 s) p (behind n s h))
  where
    go : (q : ℕ) → (policy_answer p (take 16 s)).reply ≡ q → {x y : Mended} → Reloads (policy_answer p (take 16 s)).tables x → Reloads p y
        → Reloads p (granted q (keeping (take 16 s) x) (dropping (dropped place q) y))
    go zero e {x} u v =
        record {
          kept = suc u.kept;
          bytes = let a = length-append (take 16 s) x.written in let b = front n s h in let c = u.bytes in omega arith;
          loads = λ k. load_one (take 16 s) x.written p u.kept k (front n s h) e ∙ u.loads (suc k);
        }
    go (suc q) e u v = record { kept = v.kept; bytes = v.bytes; loads = v.loads }

pub what-is-written-loads : WhatIsWrittenLoads
unfolding load mend
what-is-written-loads s =
    let x = reloads (length s / 16) 1 s no_policy (omega arith) in
    let e : length (mend s).written / 16 ≡ x.kept = let b = x.bytes in omega arith in
    ap (λ (k : ℕ). load_on k 1 (mend s).written no_policy) e ∙ x.loads 1

-- ---- "A file that loads comes out the same with an empty report."
no_bytes : (s : Bytes) → length s ≡ 0 → [] ≡ s
no_bytes [] e = refl
no_bytes (b ∷ s) e = let z : ⊥ = omega arith in absurd z

-- The answer of mend for a file s that loads: all of it is written, and the report is empty.
abbrev whole : Bytes → Loaded → Mended
whole s x = record { written = s; report = []; tables = x.tables }

comes-out : (n place : ℕ) (s : Bytes) (p : Policy) → n * 16 ≤ length s → (load_on n place s p).reply ≡ 0
    → mend_from n place s p ≡ whole s (load_on n place s p)
unfolding mend_from load_on
comes-out zero place s p h e = go (eqb (length s) 0) refl e
  where
    go : (b : Bool) → eqb (length s) 0 ≡ b → (cond b (accepted p) (refused SHAPE place)).reply ≡ 0
        → record { written = []; report = cond b [] (dropped place SHAPE ∷ []); tables = p } ≡ whole s (cond b (accepted p) (refused SHAPE place))
    go true d e = ap (λ (w : Bytes). record { written = w; report = []; tables = p }) (no_bytes s (eqb-true (length s) 0 d))
    go false d e = let z : ⊥ = omega arith in absurd z
comes-out (suc n) place s p h e =
    go (policy_answer p (take 16 s)).reply (load_on n (suc place) (drop 16 s) (policy_answer p (take 16 s)).tables) (mend_from n (suc place) (drop 16 s) p) e
    (comes-out n (suc place) (drop 16 s) (policy_answer p (take 16 s)).tables (behind n s h))
  where
    go : (q : ℕ) (x : Loaded) (z : Mended) {y : Mended} → (granted q x (refused q place)).reply ≡ 0 → (x.reply ≡ 0 → y ≡ whole (drop 16 s) x)
        → granted q (keeping (take 16 s) y) (dropping (dropped place q) z) ≡ whole s (granted q x (refused q place))
    go zero x z e ih =
        ap (keeping (take 16 s)) (ih e) ∙ ap (λ (w : Bytes). record { written = w; report = []; tables = x.tables }) (take-append-drop 16 s)
    go (suc q) x z e ih = let f : ⊥ = omega arith in absurd f

pub a-file-that-loads-comes-out : AFileThatLoadsComesOut
unfolding load mend
a-file-that-loads-comes-out s e = comes-out (length s / 16) 1 s no_policy (omega arith) e

-- ---- The records written and the places reported.

-- Reported places that rise from k rise also from a lower place.
lower : (k from : ℕ) (ds : List Dropped) → from < k → Rising k ds → Rising from ds
lower k from [] h r = tt
lower k from (d ∷ ds) h r = (omega arith, r.1)

not_yet : (place : ℕ) (ds : List Dropped) → Rising place ds → reported place ds ≡ false
unfolding some
not_yet place [] h = refl
not_yet place (d ∷ ds) h =
    ap₂ ◌||◌ (ne_eqb d.place place (λ e. let z : ⊥ = let l = h.0 in omega arith in z)) (not_yet place ds (lower d.place place ds h.0 h.1))

-- A report about a place before `place` has no effect on the records from `place` on.
passed-by : (n place : ℕ) (s : Bytes) (d : Dropped) (ds : List Dropped) → d.place < place → unreported n place s (d ∷ ds) ≡ unreported n place s ds
unfolding unreported some
passed-by zero place s d ds h = refl
passed-by (suc n) place s d ds h =
    ap₂ (λ (b : Bool) (w : Bytes). cond (b || reported place ds) w (take 16 s ++ w))
    (ne_eqb d.place place (λ e. let z : ⊥ = omega arith in z)) (passed-by n (suc place) (drop 16 s) d ds (omega arith))

-- What holds of a mended file of n records, of which the first has place `before` + 1. `last` is the place after all of them.
record Places (n before last : ℕ) (s : Bytes) (x : Mended) : Type 0 where
  pub others : x.written ≡ unreported n (suc before) s x.report
  pub rising : Rising before x.report
  pub within : Every (λ d. d.place ≤ last) x.report
  pub refusals : Every (λ d. 0 < d.reply) x.report
  pub incomplete : reported last x.report ≡ not (eqb (length s - n * 16) 0)
  pub shape : Every (λ d. d.place ≡ last → d.reply ≡ SHAPE) x.report

left : (n : ℕ) (s : Bytes) → length (drop 16 s) - n * 16 ≡ length s - suc n * 16
left n s = let e = length-drop 16 s in omega arith

places : (n before last : ℕ) (s : Bytes) (p : Policy) → n * 16 ≤ length s → n + suc before ≡ last → Places n before last s (mend_from n (suc before) s p)
unfolding mend_from unreported some
places zero before last s p h e = go (eqb (length s) 0) refl
  where
    none_left : {b : Bool} → eqb (length s) 0 ≡ b → not (eqb (length s - 0 * 16) 0) ≡ not b
    none_left d = ap (λ (k : ℕ). not (eqb k 0)) (let e : length s - 0 * 16 ≡ length s = omega arith in e) ∙ ap not d

    go : (b : Bool) → eqb (length s) 0 ≡ b
        → Places 0 before last s (record { written = []; report = cond b [] (dropped (suc before) SHAPE ∷ []); tables = p })
    go true d = record { others = refl; rising = tt; within = tt; refusals = tt; incomplete = sym (none_left d); shape = tt }
    go false d =
        record {
          others = refl;
          rising = (omega arith, tt);
          within = (omega arith, tt);
          refusals = (omega arith, tt);
          incomplete = ap (λ b. b || false) (eq-eqb (suc before) last (omega arith)) ∙ sym (none_left d);
          shape = (λ e. refl, tt);
        }
places (suc n) before last s p h e =
    go (policy_answer p (take 16 s)).reply
    (places n (suc before) last (drop 16 s) (policy_answer p (take 16 s)).tables (behind n s h) (omega arith))
    (places n (suc before) last (drop 16 s) p (behind n s h) (omega arith))
  where
    go : (q : ℕ) {x y : Mended} → Places n (suc before) last (drop 16 s) x → Places n (suc before) last (drop 16 s) y
        → Places (suc n) before last s (granted q (keeping (take 16 s) x) (dropping (dropped (suc before) q) y))
    go zero {x} u v =
        record {
          others =
              ap (λ (w : Bytes). take 16 s ++ w) u.others
              ∙ sym (ap
              (λ b. cond b (unreported n (suc (suc before)) (drop 16 s) x.report) (take 16 s ++ unreported n (suc (suc before)) (drop 16 s) x.report))
              (not_yet (suc before) x.report u.rising));
          rising = lower (suc before) before x.report (omega arith) u.rising;
          within = u.within;
          refusals = u.refusals;
          incomplete = u.incomplete ∙ ap (λ (k : ℕ). not (eqb k 0)) (left n s);
          shape = u.shape;
        }
    go (suc q) {x} {y} u v =
        record {
          others =
              v.others
              ∙ sym (ap (λ b. cond (b || reported (suc before) y.report)
              (unreported n (suc (suc before)) (drop 16 s) (dropped (suc before) (suc q) ∷ y.report))
              (take 16 s ++ unreported n (suc (suc before)) (drop 16 s) (dropped (suc before) (suc q) ∷ y.report))) (eq-eqb (suc before) (suc before) refl)
              ∙ passed-by n (suc (suc before)) (drop 16 s) (dropped (suc before) (suc q)) y.report (omega arith));
          rising = (omega arith, v.rising);
          within = (omega arith, v.within);
          refusals = (omega arith, v.refusals);
          incomplete =
              ap (λ b. b || reported last y.report) (ne_eqb (suc before) last (λ f. let z : ⊥ = omega arith in z))
              ∙ v.incomplete ∙ ap (λ (k : ℕ). not (eqb k 0)) (left n s);
          shape = (λ f. let z : ⊥ = omega arith in absurd z, v.shape);
        }

pub written-and-reported : WrittenAndReported
unfolding mend
written-and-reported s =
    let x = places (length s / 16) 0 (length s / 16 + 1) s no_policy (omega arith) (omega arith) in
    record {
      others = x.others;
      rising = x.rising;
      within = x.within;
      refusals = x.refusals;
      incomplete = x.incomplete ∙ ap (λ (k : ℕ). not (eqb k 0)) (let e : length s - length s / 16 * 16 ≡ length s % 16 = omega arith in e);
      shape = x.shape;
    }
