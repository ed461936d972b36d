-- 02's sentences about mending (`Sentences`): what is written loads, a file that loads comes out the same, and the output has all records not reported.
-- `OneAnswer`: no second answer meets the contract.
use Prim.Native.Nat.{ℕ, zero, suc, ◌*◌, ◌/◌, ◌%◌, ◌≤◌}
use mathlib.Core.Bool.{Bool}
use mathlib.Core.List.{List}
use mathlib.Core.Path.{◌≡◌, refl, sym, ap, ap₂, ◌∙◌}
use native.Mathlib.Omega.{arith}
use lib.ListN.{length, take, drop, length-take, length-drop, length-append}
use lib.Seq.{take-append_seam}
use Rattle.paper_lower.specs.Lists.{each}
use Rattle.paper_lower.specs.Checks.{first, granted}
use Rattle.paper_lower.specs.Records.{Bytes}
use Rattle.paper_lower.specs.Tables.{Policy, no_policy}
use Rattle.paper_lower.specs.Load.{Loaded, policy_answer, load}
use Rattle.paper_lower.specs.Mend.{Mended, dropped, keeping, dropping, mend_from, mend}
use Rattle.paper_upper.specs.Orders.{Engine}
use Rattle.paper_upper.specs.Engine.{engine_of}
use Rattle.lower.specs.Exports.{inside_one}
use Rattle.policy_mending.specs.declared.Dropped.{Dropped}
use Rattle.policy_mending.specs.Rest.{entries}
use Rattle.engine.specs.Buffers.{Buffers, tables_of, fit}
use Rattle.theorems.proofs.Mending.{what-is-written-loads, a-file-that-loads-comes-out, written-and-reported}
use Rattle.call_mend.specs.Mend.{mend_checks, front, Called, mend_of, mend_answer}
use Rattle.call_mend.specs.Promises.{Mends, Sentences, OneAnswer}

-- ---- Only whole records are written.
by-16 : (n place : ℕ) (s : Bytes) (t : Policy) → n * 16 ≤ length s → length (mend_from n place s t).written % 16 ≡ 0
unfolding mend_from
by-16 zero place s t h = refl
by-16 (suc n) place s t h =
    go (policy_answer t (take 16 s)).reply (mend_from n (suc place) (drop 16 s) (policy_answer t (take 16 s)).tables) (mend_from n (suc place) (drop 16 s) t)
    (by-16 n (suc place) (drop 16 s) (policy_answer t (take 16 s)).tables behind) (by-16 n (suc place) (drop 16 s) t behind)
  where
    behind : n * 16 ≤ length (drop 16 s)
    behind = let e = length-drop 16 s in omega arith

    go : (q : ℕ) (x y : Mended) → length x.written % 16 ≡ 0 → length y.written % 16 ≡ 0 →
        length (granted q (keeping (take 16 s) x) (dropping (dropped place q) y)).written % 16 ≡ 0
    go zero x y u v = let a = length-append (take 16 s) x.written in let b = length-take 16 s in omega arith
    go (suc q) x y u v = v

whole-records : (s : Bytes) → 16 * (length (mend s).written / 16) ≡ length (mend s).written
unfolding mend
whole-records s = let e = by-16 (length s / 16) 1 s no_policy (omega arith) in omega arith

-- ---- The answer of an accepted call.
abbrev mended : Bytes → Bytes → List Dropped → Called
mended s out report =
    record {
      reply = 0;
      kept = length (mend s).written / 16;
      output = front (mend s).written out;
      report = front (entries (mend s).report) report;
      tables = engine_of (mend s).tables;
    }

accepted : (s out : Bytes) (report : List Dropped) (x : Buffers) → (mend_answer s out report x).reply ≡ 0 → mend_answer s out report x ≡ mended s out report
unfolding mend_of
accepted s out report x g = go (first (mend_checks (fit x) s out (length report))) g
  where
    go : (c : ℕ) → (granted c (mended s out report) (record { reply = c; kept = 0; output = out; report = report; tables = tables_of x })).reply ≡ 0
        → granted c (mended s out report) (record { reply = c; kept = 0; output = out; report = report; tables = tables_of x }) ≡ mended s out report
    go zero g = refl
    go (suc c) g = let z : ⊥ = omega arith in absurd z

module _ (s out out' : Bytes) (report report' : List Dropped) (x x' : Buffers) (n : ℕ) (m : Mends s out report x out' report' x' n) where
  is : mend_answer s out report x ≡ mended s out report
  is = accepted s out report x m.1

  output : out' ≡ front (mend s).written out
  output = m.0.written ∙ ap (λ (a : Called). a.output) is

  tables : tables_of x' ≡ engine_of (mend s).tables
  tables = m.0.tables ∙ ap (λ (a : Called). a.tables) is

  records : take (16 * (mend_answer s out report x).kept) out' ≡ (mend s).written
  records =
      ap₂ (λ (k : ℕ) (l : Bytes). take k l) (ap (λ (a : Called). 16 * a.kept) is ∙ whole-records s) output
      ∙ take-append_seam (mend s).written (drop (length (mend s).written) out)

  loaded : load (take (16 * (mend_answer s out report x).kept) out') ≡ load (mend s).written
  loaded = ap load records

  reload : ((load (take (16 * (mend_answer s out report x).kept) out')).reply ≡ 0) ×
      (tables_of x' ≡ engine_of (load (take (16 * (mend_answer s out report x).kept) out')).tables)
  reload =
      let e = loaded ∙ what-is-written-loads s in
      (ap (λ (l : Loaded). l.reply) e, tables ∙ ap (λ (l : Loaded). engine_of l.tables) (sym e))

  comes : (load s).reply ≡ 0 → (take (length s) out' ≡ s) × ((report' ≡ report) × (tables_of x' ≡ engine_of (load s).tables))
  unfolding each
  comes l =
      let e = a-file-that-loads-comes-out s l in
      let o : out' ≡ front s out = output ∙ ap (λ (y : Mended). front y.written out) e in (
        ap (take (length s)) o ∙ take-append_seam s (drop (length s) out),
        (
          m.0.reported ∙ ap (λ (a : Called). a.report) is ∙ ap (λ (y : Mended). front (entries y.report) report) e,
          tables ∙ ap (λ (y : Mended). engine_of y.tables) e,
        ),
      )

pub sentences : Sentences
sentences = record {
  loads = λ {s} {out} {out'} {report} {report'} {x} {x'} {n} m. reload s out out' report report' x x' n m;
  comes-out = λ {s} {out} {out'} {report} {report'} {x} {x'} {n} m l. comes s out out' report report' x x' n m l;
  together = λ {s} {out} {out'} {report} {report'} {x} {x'} {n} m. (
    records s out out' report report' x x' n m ∙ (written-and-reported s).others,
    m.0.reported ∙ ap (λ (a : Called). a.report) (is s out out' report report' x x' n m),
  );
}

pub one_answer : OneAnswer
one_answer = record {
  mends = λ {s} {out} {a} {b} {report} {c} {d} {x} {x'} {y} {y'} {m} {n} f t u v.
      let e : mend_answer s out report x ≡ mend_answer s out report x' = ap₂ (λ (g : Bool) (z : Engine). mend_of g z s out report) f t in (
        u.answers ∙ ap (λ (z : Called). inside_one z.reply z.kept) e ∙ sym v.answers,
        (
          u.written ∙ ap (λ (z : Called). z.output) e ∙ sym v.written,
          (u.reported ∙ ap (λ (z : Called). z.report) e ∙ sym v.reported, u.tables ∙ ap (λ (z : Called). z.tables) e ∙ sym v.tables),
        ),
      );
}
