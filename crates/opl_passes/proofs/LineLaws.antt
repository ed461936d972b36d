-- Laws about the records of the task lines, line by line.
use Prim.Native.Nat.{ℕ, suc, ◌+◌, ◌≤◌, ◌<◌}
use mathlib.Core.Path.{◌≡◌, refl, sym, ap, ◌∙◌}
use mathlib.Core.Bool.{true, false, false≢true}
use mathlib.Core.List.{List, [], ◌∷◌}
use native.Mathlib.Omega.{arith}
use Rattle.std.specs.Prelude.{Option, Some, None, Ok, Err}
use lib.ListN.{length, drop, length-drop}
use Rattle.paper_lower.specs.Lists.{Maybe, holds, every, many}
use Rattle.paper_lower.specs.Lists.Maybe.{none, just}
use Rattle.paper_lower.specs.Records.{Bytes, Record, put_at}
use Rattle.paper_opl.specs.Reading.{Text}
use Rattle.paper_opl.specs.Naming.{Line, Names, lines, number_in, task_record}
use Rattle.paper_opl.specs.Filling.{valued, fill_lines}
use Rattle.opl_lines.specs.Lines.{lines_in, Apart, ReadsLine}
use Rattle.opl_text.specs.declared.BadByte.{BadByte}
use Rattle.opl_lines.specs.declared.Line.{Line as Ends}
use Rattle.opl_lines.proofs.LineLaws.{judge-past, judge-on, lines_step, lines-never, lines_none}
use Rattle.record_output.specs.Output.{Fits}
use Rattle.opl_spaces.specs.Spaces.{limit_of}
use Rattle.opl_line_names.proofs.LineNames.{leaves, accepts}
use Rattle.opl_said.specs.Said.{space_at, NumberIs}
use Rattle.opl_passes.specs.Lines.{lines_at, lines_good, lines_there, pair_record, line_between, Pairs, LineSteps, Paired, RowIs, LinesAre, LineWritten, LinesFit}
use Rattle.opl_passes.specs.declared.Row.{Row}

-- ---- The two numbers of a line.
module _ (ns : Names) (v w : Text) where
  pub no-task : NumberIs (limit_of 5) (number_in (space_at ns 5) v) None → task_record ns (record { task = v; template = w }) ≡ none
  unfolding space_at
  no-task task = let z = task.number_is in rw (← z)

  module _ (a : ℕ) (task : NumberIs (limit_of 5) (number_in (space_at ns 5) v) (Some a)) where
    pub no-template : NumberIs (limit_of 6) (number_in (space_at ns 6) w) None → task_record ns (record { task = v; template = w }) ≡ none
    unfolding space_at
    no-template template = let u = task.number_is in let z = template.number_is in rw (← u, ← z)

    pub both-named : (b next : ℕ) → NumberIs (limit_of 6) (number_in (space_at ns 6) w) (Some b) →
        (task_record ns (record { task = v; template = w }) ≡ just (pair_record a b)) × ((a < 65536) × ((b < 65536) × (next ≡ next)))
    unfolding space_at limit_of
    both-named b next template =
        let u = task.number_is in
        let z = template.number_is in
        (rw (← u, ← z), (omega (arith, task.small), (omega (arith, template.small), refl)))

-- ---- The line at an index.

module _ (ns : Names) (t : Text) (at : ℕ) (h : at < length t) (ok : lines_good t at) where
  pub row-never : (e : BadByte) → ReadsLine t at (Err e) → RowIs ns t at None
  row-never e reads = leaves (lines (length t) (drop at t)) ok (RowIs ns t at None) (λ z u. absurd (lines-never t at h e z reads u))

  module _ (x : Ends) (reads : ReadsLine t at (Ok x)) where
    abbrev e : ℕ
    e = x.task

    abbrev f : ℕ
    f = x.template

    abbrev n : ℕ
    n = x.next

    pub row_apart : Apart t at e f n
    row_apart = reads.stands

    lines_are : lines_at t at ≡ line_between t at e f ∷ lines_at t n
    lines_are = leaves (lines (length t) (drop at t)) ok (lines_at t at ≡ line_between t at e f ∷ lines_at t n) (λ z u. lines_step t at h x reads z u)

    still : lines_good t n
    still =
        leaves (lines (length t) (drop at t)) ok (lines_good t n) (λ z u. accepts (lines (length t) (drop n t)) z (sym (judge-on t at h x reads) ∙ u))

    steps : LineSteps t at n
    steps = let b = judge-past t at h x reads in record { past = b.0; inside = b.1; good = still }

    pub row_is : (r : Option Row) → Pairs ns (line_between t at e f) n r → RowIs ns t at r
    unfolding every holds
    row_is (Some r) p =
        rw p.1.1.1 (record { steps = steps; line = line_between t at e f; lines_are = lines_are; record_is = p.0; a-fits = p.1.0; b-fits = p.1.1.0 })
    row_is None p = rw (lines_are, p)

-- ---- Checking all lines: n lines are checked, and those from `at` on are left.
pub record LinesLeft (ns : Names) (t : Text) (n at : ℕ) : Type 0 where
  pub inside : at ≤ length t
  pub few : n ≤ at
  pub good : lines_good t at
  pub there-too : lines_there ns (lines_in t) ≡ lines_there ns (lines_at t at)
  pub count : many (lines_in t) ≡ n + many (lines_at t at)

pub paired-past : {ns : Names} {t : Text} {at : ℕ} (a b next : ℕ) → Paired ns t at a b next → at < next
paired-past a b next p = p.steps.past

pub no_lines : (t : Text) (at : ℕ) → length t ≤ at → lines_at t at ≡ []
no_lines t at h = let e = lines_none (length t) (drop at t) (omega (arith, length-drop at t)) in rw e

module _ (ns : Names) (t : Text) where
  pub lines-first : lines_good t 0 → LinesLeft ns t 0 0
  unfolding lines_in
  lines-first g =
      record
      { inside = omega arith; few = omega arith; good = g; there-too = refl; count = let z : many (lines_in t) ≡ many (lines_at t 0) = refl in omega (arith, z) }

  module _ (n at : ℕ) (left : LinesLeft ns t n at) where
    pub lines-on : (a b next : ℕ) → Paired ns t at a b next → LinesLeft ns t (n + 1) next
    unfolding every holds many
    lines-on a b next p =
        let m : many (lines_at t at) ≡ suc (many (lines_at t next)) = rw p.lines_are in
        record {
          inside = p.steps.inside;
          few = omega (arith, left.few, p.steps.past);
          good = p.steps.good;
          there-too = left.there-too ∙ rw (p.lines_are, p.record_is);
          count = omega (arith, left.count, m);
        }

    pub lines-unnamed : lines_there ns (lines_at t at) ≡ false → LinesAre ns t None
    lines-unnamed e = left.there-too ∙ e

    pub lines_end : length t ≤ at → LinesAre ns t (Some n)
    unfolding every many
    lines_end h =
        let e = no_lines t at h in
        let m : many (lines_at t at) ≡ 0 = rw e in
        (left.there-too ∙ rw e, (omega (arith, left.count, m), omega (arith, left.few, left.inside)))

-- ---- Writing the records of all lines.
module _ (ns : Names) (t : Text) (at : ℕ) (there-all : lines_there ns (lines_at t at) ≡ true) where
  pub named-all : lines_there ns (lines_at t at) ≡ false → {R : Type 0} → R
  named-all e = absurd (false≢true (sym e ∙ there-all))

  module _ (a b next : ℕ) (p : Paired ns t at a b next) where
    one_less : many (lines_at t at) ≡ 1 + many (lines_at t next)
    unfolding many
    one_less = let m : many (lines_at t at) ≡ suc (many (lines_at t next)) = rw p.lines_are in omega (arith, m)

    pub line-fits : (place : ℕ) (out : Bytes) → LinesFit t at place out → Fits out place 6 0 a b 0
    line-fits place out h =
        record {
          room = omega (arith, h, one_less);
          kind_fits = omega arith;
          n-fits = omega arith;
          a-fits = p.a-fits;
          b-fits = p.b-fits;
          c-fits = omega arith;
        }

    pub line-written : (place : ℕ) (out out' : Bytes) → out' ≡ put_at out place (pair_record a b) → length out' ≡ length out →
        LineWritten ns t at place next out out'
    unfolding every holds fill_lines
    line-written place out out' e l =
        let z : suc place ≡ place + 1 = omega arith in
        record {
          steps = p.steps;
          there-too = rw (p.lines_are, p.record_is) at there-all;
          fewer = one_less;
          fills = ap (λ (ls : List Line). fill_lines ns place ls out) p.lines_are
              ∙ ap (λ (r : Maybe Record). fill_lines ns (suc place) (lines_at t next) (put_at out place (valued r))) p.record_is
              ∙ ap (λ (o : Bytes). fill_lines ns (suc place) (lines_at t next) o) (sym e)
              ∙ ap (λ (k : ℕ). fill_lines ns k (lines_at t next) out') z;
          room = l;
        }

-- The invariant of writing: the lines from `at` on are still to be written, to place p and the places after it.
pub record LinesPut (ns : Names) (t : Text) (place : ℕ) (out₀ : Bytes) (at p : ℕ) (out : Bytes) : Type 0 where
  pub inside : at ≤ length t
  pub good : lines_good t at
  pub there-all : lines_there ns (lines_at t at) ≡ true
  pub fit : LinesFit t at p out
  pub fills : fill_lines ns place (lines_in t) out₀ ≡ fill_lines ns p (lines_at t at) out
  pub room : length out ≡ length out₀

module _ (ns : Names) (t : Text) (place : ℕ) (out₀ : Bytes) where
  pub put_first : lines_good t 0 → lines_there ns (lines_in t) ≡ true → LinesFit t 0 place out₀ → LinesPut ns t place out₀ 0 place out₀
  unfolding lines_in
  put_first g e f = record { inside = omega arith; good = g; there-all = e; fit = f; fills = refl; room = refl }

  module _ (at p : ℕ) (out : Bytes) (left : LinesPut ns t place out₀ at p out) where
    pub put_on : (next : ℕ) (out' : Bytes) → LineWritten ns t at p next out out' → LinesPut ns t place out₀ next (p + 1) out'
    put_on next out' w =
        record {
          inside = w.steps.inside;
          good = w.steps.good;
          there-all = w.there-too;
          fit = omega (arith, left.fit, w.fewer, w.room);
          fills = left.fills ∙ w.fills;
          room = w.room ∙ left.room;
        }

    pub put-end : length t ≤ at → out ≡ fill_lines ns place (lines_in t) out₀
    unfolding fill_lines
    put-end h = sym (left.fills ∙ rw (no_lines t at h))
