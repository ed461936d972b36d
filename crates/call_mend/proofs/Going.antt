-- The invariant of the loop in `mishantral_mend` (`Going`): what is written so far, and what is left to do, together make the whole answer. Each turn preserves it,
-- and at the end the contract of the call follows from it.
use Prim.Native.Nat.{ℕ, zero, suc, ◌+◌, ◌-◌, ◌*◌, ◌/◌, ◌%◌, ◌≤◌, ◌<◌}
use mathlib.Core.Bool.{Bool, true, false, cond}
use mathlib.Core.List.{List, [], ◌∷◌, ◌++◌, append-nil}
use mathlib.Core.Path.{◌≡◌, refl, sym, ap, ap₂, ◌∙◌}
use native.Mathlib.Omega.{arith}
use lib.Dec.{eqb, ltb}
use lib.ListN.{length, take, drop, set, length-take, length-append, length-set, take-append-drop}
use lib.Seq.{drop-drop, take-suc-set, drop-set-lt, append_snoc, length-take-le}
use borrow.Author.Tests.{ne_eqb, le-ltb}
use Rattle.paper_lower.specs.Lists.{each}
use Rattle.paper_lower.specs.Checks.{SHAPE, granted}
use Rattle.paper_lower.specs.Records.{Bytes}
use Rattle.paper_lower.specs.Tables.{Policy, no_policy}
use Rattle.paper_lower.specs.Load.{policy_answer}
use Rattle.paper_lower.specs.Mend as paper
use Rattle.paper_lower.specs.Mend.{Mended, dropped, keeping, dropping, mend_from, mend}
use Rattle.paper_upper.specs.Engine.{engine_of}
use Rattle.replies.proofs.DoneLaws.{granted-old}
use Rattle.policy.specs.Reading.{policy_of}
use Rattle.lower.specs.Exports.{inside_one}
use Rattle.policy_mending.specs.declared.Dropped.{Dropped}
use Rattle.policy_mending.specs.Rest.{entries, rest_of, laid, Rest, rest_by, rest_from}
use Rattle.engine.specs.Buffers.{Buffers, buffers, tables_of, SameLengths}
use Rattle.call_mend.specs.Mend.{mend_checks, front, mend_of}
use Rattle.call_mend.specs.Promises.{MendDone, checked, Ending, ending, ahead, told_of, tables_at, Alone, Turned}
use Rattle.call_mend.proofs.Steps.{there-is}

-- ---- A report has at most one entry more than the file has whole records.
entries-many : (ds : List paper.Dropped) → length (entries ds) ≡ length ds
unfolding each
entries-many [] = refl
entries-many (d ∷ ds) = ap suc (entries-many ds)

at_most : (n place : ℕ) (s : Bytes) (t : Policy) → length (mend_from n place s t).report ≤ n + 1
unfolding mend_from
at_most zero place s t = go (eqb (length s) 0)
  where
    go : (b : Bool) → length (cond b [] (dropped place SHAPE ∷ [])) ≤ 0 + 1
    go true = omega arith
    go false = omega arith
at_most (suc n) place s t =
    go (policy_answer t (take 16 s)).reply (mend_from n (suc place) (drop 16 s) (policy_answer t (take 16 s)).tables) (mend_from n (suc place) (drop 16 s) t)
    (at_most n (suc place) (drop 16 s) (policy_answer t (take 16 s)).tables) (at_most n (suc place) (drop 16 s) t)
  where
    go : (q : ℕ) (x y : Mended) → length x.report ≤ n + 1 → length y.report ≤ n + 1 →
        length (granted q (keeping (take 16 s) x) (dropping (dropped place q) y)).report ≤ suc n + 1
    go zero x y u v = omega arith
    go (suc q) x y u v = omega arith

-- ---- At first, what is left is the mending of the whole file.
module _ (s out : Bytes) where
  whole : rest_of 0 s no_policy ≡ mend s
  unfolding rest_of mend
  whole =
      let e : ltb (length s / 16) 0 ≡ false = le-ltb (length s / 16) 0 (omega arith) in
      let m : length s / 16 - 0 ≡ length s / 16 = omega arith in
      rw (e, m)

  pub at_first : rest_from 0 0 s out no_policy ≡ record {
    kept = length (mend s).written / 16;
    output = front (mend s).written out;
    report = entries (mend s).report;
    tables = (mend s).tables;
  }
  unfolding rest_from
  at_first =
      let e : 0 + length (mend s).written / 16 ≡ length (mend s).written / 16 = omega arith in
      let f : 16 * 0 + length (mend s).written ≡ length (mend s).written = omega arith in
      let b : laid 0 (mend s).written out ≡ front (mend s).written out = ap (λ (k : ℕ). (mend s).written ++ drop k out) f in
      ap (rest_by 0 out) whole ∙ (λ i. record { kept = e i; output = b i; report = entries (mend s).report; tables = (mend s).tables })

  report-fits : length (rest_from 0 0 s out no_policy).report ≤ length s / 16 + 1
  unfolding mend
  report-fits =
      let e : length (rest_from 0 0 s out no_policy).report ≡ length (mend s).report =
      ap (λ (x : Rest). length x.report) at_first ∙ entries-many (mend s).report in
      let h : length (mend s).report ≤ length s / 16 + 1 = at_most (length s / 16) 1 s no_policy in
      omega arith

-- ---- The values that a turn finds: the place, the number k of entries reported, the output, the report and the three buffers.
pub record Now : Type 0 where
  pub place : ℕ
  pub k : ℕ
  pub out : List ℕ
  pub ys : List Dropped
  pub p : List ℕ
  pub s : List ℕ
  pub o : List ℕ

abbrev pub state : Now → Buffers
state z = buffers z.p z.s z.o

module _ (input : Bytes) (room : ℕ) (z₀ : Now) where
  abbrev refusal : ℕ
  refusal = checked input z₀.out room (state z₀)

  -- What is left to do for the rest of the file, and, below it, for the whole file.
  abbrev pub left-of : Now → Ending
  left-of z = ending (rest_from z.place z.k input z.out (tables_at z.k z.p))

  abbrev all : Ending
  all = ending (rest_from 0 0 input z₀.out no_policy)

  pub record Lengths (out p s o : List ℕ) : Type 0 where
    pub of-out : length out ≡ length z₀.out
    pub of-p : length p ≡ length z₀.p
    pub of-s : length s ≡ length z₀.s
    pub of-o : length o ≡ length z₀.o

  -- A call that was not refused: what is written and what is left together make the whole answer. t is the number of entries still to report.
  pub record Left (t : ℕ) (z : Now) : Type 0 where
    pub number : (left-of z).number ≡ all.number
    pub output : (left-of z).output ≡ all.output
    pub report : take z.k z.ys ++ (left-of z).report ≡ all.report
    pub tables : (left-of z).tables ≡ all.tables
    pub past : drop z.k z.ys ≡ drop z.k z₀.ys
    pub many : length (left-of z).report ≡ t
    pub filled : z.k ≤ length z.ys
    pub alone : 0 < z.k → Alone (state z)

  -- The invariant: place and k stay within the file, no length changes, and a refused call has changed nothing.
  pub record Going (t : ℕ) (z : Now) : Type 0 where
    pub within : z.place ≤ length input / 16 + 1
    pub fewer : z.k ≤ z.place
    pub lengths : Lengths z.out z.p z.s z.o
    pub entries : length z.ys ≡ length z₀.ys
    pub untouched : (refusal ≡ 0 → ⊥) → (z.out ≡ z₀.out) × ((z.ys ≡ z₀.ys) × (state z ≡ state z₀))
    pub left : refusal ≡ 0 → Left t z

  same-checks : (out p s o : List ℕ) → Lengths out p s o → checked input out room (buffers p s o) ≡ refusal
  unfolding mend_checks
  same-checks out p s o l = rw (l.of-out, l.of-p, l.of-s, l.of-o)

  module _ (t : ℕ) (z : Now) (g : Going t z) where
    pub same-lengths : {out p s o : List ℕ} → length out ≡ length z.out → length p ≡ length z.p → length s ≡ length z.s → length o ≡ length z.o →
        Lengths out p s o
    same-lengths a b c d =
        record { of-out = a ∙ g.lengths.of-out; of-p = b ∙ g.lengths.of-p; of-s = c ∙ g.lengths.of-s; of-o = d ∙ g.lengths.of-o }

    checks : checked input z.out room (state z) ≡ refusal
    checks = same-checks z.out z.p z.s z.o g.lengths

    module _ (d : Dropped) (out' p' s' o' : List ℕ) (lengths' : Lengths out' p' s' o')
        (turned : Turned room z.place z.k input z.out (state z) out' (buffers p' s' o') d) where
      abbrev pub after : Now
      after = record { place = d.place; k = suc z.k; out = out'; ys = set z.ys z.k d; p = p'; s = s'; o = o' }

      abbrev pub left : ℕ
      left = length (left-of after).report

      -- ---- A step that names a dropped record: it becomes an entry of the report, and the invariant holds again.
      module _ (n : d.reply ≡ 0 → ⊥) where
        is-checked : refusal ≡ 0
        is-checked = go refusal refl
          where
            go : (c : ℕ) → refusal ≡ c → refusal ≡ 0
            go zero e = e
            go (suc c) e = absurd (n (ap (λ (x : Dropped). x.reply) (turned.refused (λ f. let q : suc c ≡ 0 = sym e ∙ sym checks ∙ f in omega arith)).0))

        abbrev L : Left t z
        L = g.left is-checked

        abbrev behind : Ending
        behind = ending (rest_from d.place (suc z.k) input out' (policy_of p'))

        is-behind : left-of after ≡ behind
        is-behind =
            let e : eqb (suc z.k) 0 ≡ false = ne_eqb (suc z.k) 0 (λ q. omega arith) in
            ap (λ (b : Bool). ending (rest_from d.place (suc z.k) input out' (cond b no_policy (policy_of p')))) e

        found : ahead d (left-of after) ≡ left-of z
        unfolding told_of
        found =
            ap (ahead d) is-behind
            ∙ granted-old (record { number = d.place; output = out'; report = []; tables = policy_of p' }) (ahead d behind) d.reply n
            ∙ turned.told (checks ∙ is-checked)

        longer : t ≡ suc left
        longer = sym L.many ∙ sym (ap (λ (x : Ending). length x.report) found)

        pub less : left < t
        less = let e = longer in omega arith

        pub within : room ≡ length z₀.ys → z.k < length z.ys
        within e =
            let a = length-append (take z.k z.ys) (left-of z).report in
            let b = ap length L.report in
            let c = length-take z.k z.ys in
            let m = L.many in
            let f = longer in
            let h = report-fits input z₀.out in
            let r = (there-is input z₀.out room (state z₀) is-checked).report in
            let i = g.entries in
            let j = L.filled in
            omega arith

        pub goes_on : room ≡ length z₀.ys → Going left after
        goes_on e =
            let k = z.k in
            let h : k < length z.ys = within e in
            let f = turned.further (checks ∙ is-checked) n in
            let l : k < suc k = omega arith in
            record {
              within = f.1;
              fewer = f.0;
              lengths = lengths';
              entries = length-set z.ys k d ∙ g.entries;
              untouched = λ q. absurd (q is-checked);
              left = λ _. record {
                number = ap (λ (x : Ending). x.number) found ∙ L.number;
                output = ap (λ (x : Ending). x.output) found ∙ L.output;
                report =
                    ap (λ (x : List Dropped). x ++ (left-of after).report) (take-suc-set z.ys k d h)
                    ∙ append_snoc (take k z.ys) d (left-of after).report
                    ∙ ap (λ (x : Ending). take k z.ys ++ x.report) found ∙ L.report;
                tables = ap (λ (x : Ending). x.tables) found ∙ L.tables;
                past =
                    drop-set-lt (suc k) z.ys k d l ∙ sym (one_further z.ys) ∙ ap (drop 1) L.past ∙ one_further z₀.ys;
                many = refl;
                filled = let v = length-set z.ys k d in omega arith;
                alone = λ _. turned.alone (checks ∙ is-checked) L.alone;
              };
            }
          where
            one_further : (l : List Dropped) → drop 1 (drop z.k l) ≡ drop (suc z.k) l
            one_further l = let e : z.k + 1 ≡ suc z.k = omega arith in drop-drop 1 z.k l ∙ ap (λ (j : ℕ). drop j l) e

      -- ---- A step that ends the call: the contract follows.
      module _ (e : d.reply ≡ 0) (same : room ≡ length z₀.ys) where
        abbrev Done : Type 0
        Done = MendDone input z₀.out z₀.ys (state z₀) out' z.ys (buffers p' s' o') d.place

        sizes : SameLengths (state z₀) (buffers p' s' o')
        sizes = record { policy = lengths'.of-p; sessions = lengths'.of-s; orders = lengths'.of-o }

        -- A call that was refused has written nothing.
        not_done : (c : ℕ) → checked input z₀.out (length z₀.ys) (state z₀) ≡ suc c → Done
        unfolding mend_of
        not_done c q =
            let r : refusal ≡ suc c = rw same q in
            let n : refusal ≡ 0 → ⊥ = λ f. let w : suc c ≡ 0 = sym r ∙ f in omega arith in
            let u = g.untouched n in
            let w = turned.refused (λ f. n (sym checks ∙ f)) in
            let v : d.place ≡ suc c = ap (λ (x : Dropped). x.place) w.0 ∙ checks ∙ r in
            record {
              answers = v ∙ rw q (let z : suc c ≡ suc c + 256 * (0 % 36028797018963968) = omega arith in z);
              written = w.1.0 ∙ u.0 ∙ rw q;
              reported = u.1.0 ∙ rw q;
              tables = ap tables_of (w.1.1 ∙ u.1.1) ∙ rw q;
              lengths = sizes;
              room = λ _. w.1.1 ∙ u.1.1;
              settles = λ z. let f : suc c ≡ 0 = (rw q at z) in absurd (omega arith);
            }

        mended : checked input z₀.out (length z₀.ys) (state z₀) ≡ 0 → Done
        unfolding mend_of told_of
        mended q =
            let r : refusal ≡ 0 = rw same q in
            let L = g.left r in
            let f : record { number = d.place; output = out'; report = []; tables = policy_of p' } ≡ left-of z = (rw e at (turned.told (checks ∙ r))) in
            let a = at_first input z₀.out in
            let w : take z.k z.ys ≡ entries (mend input).report =
            sym (append-nil (take z.k z.ys)) ∙ ap (λ (x : Ending). take z.k z.ys ++ x.report) f ∙ L.report ∙ ap (λ (x : Rest). x.report) a in
            let m : length (entries (mend input).report) ≡ z.k = sym (ap length w) ∙ length-take-le z.k z.ys L.filled in
            record {
              answers = ap (λ (x : Ending). x.number) f ∙ L.number ∙ ap (λ (x : Rest). inside_one 0 x.kept) a ∙ rw q;
              written = ap (λ (x : Ending). x.output) f ∙ L.output ∙ ap (λ (x : Rest). x.output) a ∙ rw q;
              reported =
                  sym (take-append-drop z.k z.ys) ∙ ap₂ (λ (x y : List Dropped). x ++ y) w (L.past ∙ ap (λ (j : ℕ). drop j z₀.ys) (sym m)) ∙ rw q;
              tables =
                  (turned.alone (checks ∙ r) L.alone).tables p'
                  ∙ ap engine_of (ap (λ (x : Ending). x.tables) f ∙ L.tables ∙ ap (λ (x : Rest). x.tables) a) ∙ rw q;
              lengths = sizes;
              room = λ n. absurd (n (rw q));
              settles = λ _. (turned.alone (checks ∙ r) L.alone).sound;
            }

        pub stop : Done
        stop = go (checked input z₀.out (length z₀.ys) (state z₀)) refl
          where
            go : (c : ℕ) → checked input z₀.out (length z₀.ys) (state z₀) ≡ c → Done
            go zero q = mended q
            go (suc c) q = not_done c q
