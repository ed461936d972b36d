-- Laws about the names that task lines declare, line by line.
use Prim.Native.Nat.{ℕ, ◌+◌, ◌-◌, ◌≤◌, ◌<◌}
use mathlib.Core.Path.{◌≡◌, refl, sym, ap, ◌∙◌}
use mathlib.Core.Bool.{Bool, true, false, cond, false≢true}
use mathlib.Core.List.{List, [], ◌∷◌}
use native.Mathlib.Omega.{arith}
use Rattle.std.specs.Prelude.{Option, Some, None, Ok, Err}
use lib.Dec.{eqb, ltb}
use lib.ListN.{length, take, drop, length-drop}
use lib.Seq.{length-take-le}
use borrow.Author.Tests.{le-leb, lt-leb, ltb-true, ltb-false}
use Rattle.paper_lower.specs.Lists.{every, each}
use Rattle.paper_opl.specs.Reading.{Text, Read}
use Rattle.paper_opl.specs.Reading.Read.{got, bad}
use Rattle.paper_opl.specs.Naming.{lines}
use Rattle.paper_opl.proofs.Inversion.{on_test}
use Rattle.opl_names.specs.Table.{names_in, Sound}
use Rattle.opl_lines.specs.Lines.{forget, lines_in, Apart, ReadsLine}
use Rattle.opl_text.specs.declared.BadByte.{BadByte}
use Rattle.opl_lines.specs.declared.Line.{Line as Ends}
use Rattle.opl_lines.proofs.LineLaws.{judge-past, judge-on, lines_step, lines-never, lines_none}
use Rattle.opl_tags.specs.declared.Part.{Part}
use Rattle.opl_spaces.specs.Spaces.{limit_of, table_of, DeclaresIn}
use Rattle.opl_line_names.specs.Names.{line_name, line_names, accepted, part_by, part_of, kept_name, filled, LineWalking}
use Rattle.opl_line_names.proofs.DeclaredLaws.{untouched}

-- An accepted reading leaves some text.
pub leaves : {A : Type 0} (x : Read A) → accepted x ≡ true → (R : Type 0) → ((z : Text) → forget x ≡ got tt z → R) → R
leaves (got v z) e R f = f z refl
leaves (bad z) e R f = absurd (false≢true e)

pub accepts : {A : Type 0} (x : Read A) (z : Text) → forget x ≡ got tt z → accepted x ≡ true
accepts (got v r) z e = refl
accepts (bad r) z e = let q : ◌≡◌ {A = ℕ} 0 1 = cc in absurd (omega arith)

pub no_lines : (t : Text) (i at : ℕ) → length t ≤ at → line_names t i at ≡ []
unfolding each
no_lines t i at h = let e = lines_none (length t) (drop at t) (omega (arith, length-drop at t)) in rw e

module _ (t : Text) (i at : ℕ) (ok : accepted (lines (length t) (drop at t)) ≡ true) where
  -- A line that cannot be read begins at the end of the text.
  pub line-never : (e : BadByte) → ReadsLine t at (Err e) → (l : List ℕ) → LineWalking t i at l l (Ok None)
  line-never e reads l =
      on_test (ltb at (length t))
      (λ p. let h = ltb-true at (length t) p in
      leaves (lines (length t) (drop at t)) ok (LineWalking t i at l l (Ok None)) (λ z u. absurd (lines-never t at h e z reads u)))
      (λ p. record {
        walking = record { walks = (no_lines t i at (ltb-false at (length t) p), refl); apart = untouched i l };
        goes_on = λ n w. let z : ◌≡◌ {A = ℕ} 0 1 = cc in absurd (omega arith);
      })

  module _ (x : Ends) (reads : ReadsLine t at (Ok x)) (l : List ℕ) (sound : Sound t (limit_of i) (table_of i l)) where
    abbrev e : ℕ
    e = x.task

    abbrev f : ℕ
    f = x.template

    abbrev n : ℕ
    n = x.next

    apart : Apart t at e f n
    apart = reads.stands

    h : at < length t
    h = omega (arith, apart.task, apart.template, apart.next, apart.inside)

    pub line-order : e < f
    line-order = omega (arith, apart.template)

    module _ (p : Part) (part : p ≡ part_of i at e f) where
      abbrev pub said : Text
      said = take (p.to - p.from) (drop p.from t)

      said-is : said ≡ line_name i (record { task = take (e - at) (drop at t); template = take (f - (e + 1)) (drop (e + 1) t) })
      said-is = rw part (go (eqb i 5))
        where
          go : (b : Bool) →
              take ((part_by b at e f).to - (part_by b at e f).from) (drop (part_by b at e f).from t) ≡
              cond b (take (e - at) (drop at t)) (take (f - (e + 1)) (drop (e + 1) t))
          go true = refl
          go false = refl

      pub part_in : (p.from ≤ p.to) × (p.to ≤ length t)
      part_in = rw part (go (eqb i 5))
        where
          go : (b : Bool) → ((part_by b at e f).from ≤ (part_by b at e f).to) × ((part_by b at e f).to ≤ length t)
          go true = (omega (arith, apart.task), omega (arith, apart.template, apart.next, apart.inside))
          go false = (omega (arith, apart.template), omega (arith, apart.next, apart.inside))

      said-length : length said ≡ p.to - p.from
      said-length = length-take-le (p.to - p.from) (drop p.from t) (omega (arith, length-drop p.from t, part_in.0, part_in.1))

      declares : line_names t i at ≡ said ∷ line_names t i n
      unfolding each
      declares =
          leaves (lines (length t) (drop at t)) ok (line_names t i at ≡ said ∷ line_names t i n)
          (λ z u. ap (each (line_name i)) (lines_step t at h x reads z u) ∙ ap (λ (x : Text). x ∷ line_names t i n) (sym said-is))

      still : accepted (lines (length t) (drop n t)) ≡ true
      still =
          leaves (lines (length t) (drop at t)) ok (accepted (lines (length t) (drop n t)) ≡ true)
          (λ z u. accepts (lines (length t) (drop n t)) z (sym (judge-on t at h x reads) ∙ u))

      pub line-long : 64 < p.to - p.from → LineWalking t i at l l (Err (record {}))
      unfolding every
      line-long u =
          record {
            walking = record { walks = rw (declares, lt-leb (length said) 64 (omega (arith, said-length))); apart = untouched i l };
            goes_on = λ k w. let z : ◌≡◌ {A = ℕ} 0 1 = cc in absurd (omega arith);
          }

      pub line_on : (l' : List ℕ) (k : Option ℕ) → p.to - p.from ≤ 64 → DeclaresIn t i said l l' k → LineWalking t i at l l' (Ok (Some n))
      unfolding every filled kept_name
      line_on l' k u d =
          let z : names_in t (table_of i l') ≡ kept_name (limit_of i) said (names_in t (table_of i l)) = d.declares.names ∙ rw d.declares.number in
          let b = judge-past t at h x reads in
          record {
            walking = record {
              walks =
                  record {
                    past = b.0;
                    inside = b.1;
                    sound = d.declares.sound;
                    fills = rw (declares, z);
                    shorts = rw (declares, le-leb (length said) 64 (omega (arith, said-length)));
                  };
              apart = d.apart;
            };
            goes_on = λ m w. let y : n ≡ m = cc in rw (← y) still;
          }

-- ---- The names of the two spaces that task lines declare.
pub tasks-are : (t : Text) → line_names t 5 0 ≡ each (λ l. l.task) (lines_in t)
unfolding lines_in
tasks-are t = refl

pub templates-are : (t : Text) → line_names t 6 0 ≡ each (λ l. l.template) (lines_in t)
unfolding lines_in
templates-are t = refl
