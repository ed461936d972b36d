-- Laws about the task lines: how one line is read, and how all lines are read one by one.
use Prim.Native.Nat.{ℕ, zero, suc, ◌+◌, ◌-◌, ◌≤◌, ◌<◌}
use mathlib.Core.Path.{◌≡◌, refl, sym, ap, ◌∙◌}
use mathlib.Core.Bool.{Bool, true, false, not, cond}
use mathlib.Core.List.{List, [], ◌∷◌}
use native.Mathlib.Omega.{arith}
use lib.ListN.{length, take, drop, drop_of_length-le, length-drop}
use lib.Seq.{drop-cons, drop-drop}
use borrow.Author.Tests.{not-true, not-false}
use Rattle.paper_opl.specs.Reading.{Text, Read, after, same, starts, expect, word, behind}
use Rattle.paper_opl.specs.Reading.Read.{got, bad}
use Rattle.paper_opl.specs.Naming.{Line, in_line, line_end, lines}
use Rattle.paper_opl.proofs.Inversion.{on, bad≢got}
use Rattle.paper_opl.proofs.Counts.{below_of, line-end-below, lines-enough}
use Rattle.std.specs.Prelude.{Ok, Err}
use Rattle.opl_text.specs.declared.BadByte.{BadByte}
use Rattle.opl_text.specs.Steps.{Step, Reads, step_of}
use Rattle.opl_text.proofs.Laws.{no_word, a_word, one-not, one-yes}
use Rattle.opl_lines.specs.Lines.{line, forget, lines_read, ReadsLine}
use Rattle.opl_lines.specs.declared.Line.{Line as Ends}

-- ---- The end of a line.
module _ (t : Text) (f : ℕ) where
  pub ends_here : length t ≤ f → got tt (drop f t) ≡ line_end (drop f t)
  unfolding line_end same
  ends_here h = let z : drop f t ≡ [] = drop_of_length-le t h in rw z

  module _ (h : f < length t) (c : Bool) (is : c ≡ starts (13 ∷ []) (drop f t)) where
    goes_on : same (drop f t) [] ≡ false
    unfolding same
    goes_on = rw (drop-cons t f 0 h)

    pub ends_twice : c ≡ true → (r : Step) → Reads t (step_of t) (expect (13 ∷ 10 ∷ []) (drop f t)) r → Reads t (step_of t) (line_end (drop f t)) r
    unfolding line_end
    ends_twice q r a = record { read_is = a.read_is ∙ rw (goes_on, ← is, q); inside = a.inside }

    pub ends_once : c ≡ false → (r : Step) → Reads t (step_of t) (expect (10 ∷ []) (drop f t)) r → Reads t (step_of t) (line_end (drop f t)) r
    unfolding line_end
    ends_once q r a = record { read_is = a.read_is ∙ rw (goes_on, ← is, q); inside = a.inside }

-- ---- The line at index `at`: the name of its task ends at e, that of its template at f.
module _ (t : Text) (at e : ℕ) (room : at ≤ length t) (ends : drop e t ≡ behind in_line (drop at t)) (inside : e ≤ length t) where
  pub line_empty : e ≡ at → bad (drop e t) ≡ line (drop at t)
  unfolding line
  line_empty q = rw (← no_word in_line t at e room ends inside q) (ap (λ i. bad (drop i t)) q)

  module _ (task : e ≡ at → ⊥) (b : Bool) (is : b ≡ starts (32 ∷ []) (drop e t)) where
    pub line_unspaced : not b ≡ true → bad (drop e t) ≡ line (drop at t)
    unfolding line
    line_unspaced q = rw (← a_word in_line t at e room ends inside task, one-not 32 (drop e t) (sym is ∙ not-true b q))

    module _ (q : not b ≡ false) where
      spaced : (expect (32 ∷ []) (drop e t) ≡ got tt (drop 1 (drop e t))) × (0 < length (drop e t))
      spaced = one-yes 32 (drop e t) (sym is ∙ not-false b q)

      pub line_past : e + 1 ≤ length t
      line_past = omega (arith, spaced.1, length-drop e t)

      module _ (f : ℕ) (ends₂ : drop f t ≡ behind in_line (drop (e + 1) t)) (inside₂ : f ≤ length t) where
        pub line_one : f ≡ e + 1 → bad (drop f t) ≡ line (drop at t)
        unfolding line
        line_one z =
            rw (← a_word in_line t at e room ends inside task, spaced.0, drop-drop 1 e t, ← no_word in_line t (e + 1) f line_past ends₂ inside₂ z)
            (ap (λ i. bad (drop i t)) z)

        module _ (template : f ≡ e + 1 → ⊥) where
          two-names :
              line (drop at t)
              ≡ after (line_end (drop f t)) (λ _ y. got (record { task = take (e - at) (drop at t); template = take (f - (e + 1)) (drop (e + 1) t) }) y)
          unfolding line
          two-names =
              rw (← a_word in_line t at e room ends inside task, spaced.0, drop-drop 1 e t, ← a_word in_line t (e + 1) f line_past ends₂ inside₂ template)

          pub line_unended : (i : ℕ) → bad (drop i t) ≡ line_end (drop f t) → bad (drop i t) ≡ line (drop at t)
          line_unended i q = rw (two-names, ← q)

          module _ (n : ℕ) (ended : got tt (drop n t) ≡ line_end (drop f t)) (inside₃ : n ≤ length t) where
            pub line_whole : got (record { task = take (e - at) (drop at t); template = take (f - (e + 1)) (drop (e + 1) t) }) (drop n t) ≡ line (drop at t)
            line_whole = rw (two-names, ← ended)

            -- The next line does not begin before the end of the template's name.
            pub line_onward : f ≤ n
            line_onward =
                let b = below_of (sym ended) (line-end-below (drop f t)) in
                omega (arith, b, length-drop f t, length-drop n t)

-- ---- All lines are read one by one.
by-line : (n : ℕ) (s : Text) → lines (suc n) s ≡ cond (same s []) (got [] s) (after (line s) (λ l y. after (lines n y) (λ ls x. got (l ∷ ls) x)))
unfolding lines line
by-line n s =
    on (word in_line s) (λ v r e. rw e
    (on (expect (32 ∷ []) r) (λ _ u d. rw d (on (word in_line u) (λ w z c. rw c (on (line_end z) (λ _ y b. rw b) (λ y b. rw b))) (λ z c. rw c))) (λ u d. rw d)))
    (λ r e. rw e)

more-text : (s : Text) → 0 < length s → same s [] ≡ false
unfolding same
more-text [] h = absurd (omega arith)
more-text (b ∷ s) h = refl

pub lines_none : (n : ℕ) (s : Text) → length s ≤ 0 → lines n s ≡ got [] s
unfolding lines same
lines_none zero [] h = refl
lines_none (suc n) [] h = refl
lines_none n (b ∷ s) h = absurd (omega arith)

module _ (s : Text) (more : 0 < length s) where
  pub lines-bad : (n : ℕ) (r : Text) → length s ≤ n → line s ≡ bad r → lines n s ≡ bad r
  lines-bad zero r h e = absurd (omega arith)
  lines-bad (suc n) r h e = by-line n s ∙ rw (more-text s more, e)

  pub lines-on : (n : ℕ) (l : Line) (y : Text) → length s ≤ n → length y < length s → line s ≡ got l y → lines n s ≡ after (lines n y) (λ ls x. got (l ∷ ls) x)
  lines-on zero l y h d e = absurd (omega arith)
  lines-on (suc n) l y h d e = by-line n s ∙ rw (more-text s more, e, lines-enough n (suc n) y (omega arith) (omega arith))

read-on : (x : Read (List Line)) (l : Line) (r : Text) → forget x ≡ got tt r → lines_read (after x (λ ls y. got (l ∷ ls) y)) ≡ l ∷ lines_read x
read-on (got ls r) l z e = refl
read-on (bad r) l z e = absurd (bad≢got e)

forget-on : (x : Read (List Line)) (l : Line) → forget (after x (λ ls y. got (l ∷ ls) y)) ≡ forget x
forget-on (got ls r) l = refl
forget-on (bad r) l = refl

-- ---- The turns of `judge`, at an index of the text.
module _ (t : Text) (at : ℕ) (h : at < length t) where
  longer : 0 < length (drop at t)
  longer = omega (arith, length-drop at t)

  fits : length (drop at t) ≤ length t
  fits = omega (arith, length-drop at t)

  pub judge-bad : (e : BadByte) → ReadsLine t at (Err e) → bad (drop e.at t) ≡ forget (lines (length t) (drop at t))
  judge-bad e reads = sym (ap forget (lines-bad (drop at t) longer (length t) (drop e.at t) fits (sym reads.read_is)))

  pub lines-never : (e : BadByte) (z : Text) → ReadsLine t at (Err e) → forget (lines (length t) (drop at t)) ≡ got tt z → ⊥
  lines-never e z reads u = bad≢got (judge-bad e reads ∙ u)

  module _ (l : Ends) (reads : ReadsLine t at (Ok l)) where
    pub judge-past : (at < l.next) × (l.next ≤ length t)
    judge-past = let apart = reads.stands in (omega (arith, apart.task, apart.template, apart.next), apart.inside)

    pub judge-on : forget (lines (length t) (drop at t)) ≡ forget (lines (length t) (drop l.next t))
    judge-on =
        ap forget (lines-on (drop at t) longer (length t) _ (drop l.next t) fits (omega (arith, length-drop at t, length-drop l.next t, judge-past.0, judge-past.1))
        (sym reads.read_is))
        ∙ forget-on (lines (length t) (drop l.next t)) _

    -- The lines of an accepted text are this line and those after it.
    pub lines_step : (z : Text) → forget (lines (length t) (drop at t)) ≡ got tt z →
        lines_read (lines (length t) (drop at t)) ≡
        record { task = take (l.task - at) (drop at t); template = take (l.template - (l.task + 1)) (drop (l.task + 1) t) }
        ∷ lines_read (lines (length t) (drop l.next t))
    lines_step z u =
        ap lines_read (lines-on (drop at t) longer (length t) _ (drop l.next t) fits
        (omega (arith, length-drop at t, length-drop l.next t, judge-past.0, judge-past.1)) (sym reads.read_is))
        ∙ read-on (lines (length t) (drop l.next t)) _ z (sym judge-on ∙ u)

pub judge-end : (t : Text) (at : ℕ) → length t ≤ at → got tt (drop at t) ≡ forget (lines (length t) (drop at t))
judge-end t at h = sym (ap forget (lines_none (length t) (drop at t) (omega (arith, length-drop at t))))
