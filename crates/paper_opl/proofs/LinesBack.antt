-- The texts that are accepted as task lines are exactly those that are written from lines, and they are read as those lines.
use mathlib.Core.Path.{◌≡◌, refl, sym, ap, ◌∙◌}
use mathlib.Core.Logic.{◌↔◌}
use mathlib.Core.List.{List, [], ◌∷◌, ◌++◌}
use mathlib.Core.Bool.{true, false, not, ◌&&◌, true≢false, false≢true}
use Prim.Native.Nat.{ℕ, zero, suc, ◌≤◌}
use native.Mathlib.Omega.{arith}
use lib.ListN.{length, length-append}
use borrow.Author.Tests.{not-true}
use Rattle.paper_lower.specs.Lists.{every, each}
use Rattle.paper_lower.proofs.ListLaws.{both}
use Rattle.paper_opl.specs.Reading.{Text, text, same, starts, expect, word}
use Rattle.paper_opl.specs.Reading.Read.{got}
use Rattle.paper_opl.specs.Tree.{byte_order_mark, behind_mark}
use Rattle.paper_opl.specs.Naming.{Line, in_line, line_end, lines, task_lines}
use Rattle.paper_opl.specs.Layout.{End, end_text, LaidLine, tasks_text, end_fits, line_fits, lines_suit, mark_text, LinesFrom}
use Rattle.paper_opl.specs.Layout.End.{bare, feed, return}
use Rattle.paper_opl.proofs.Inversion.{on, on_test, bad≢got, got-rest, got-value}
use Rattle.paper_opl.proofs.Counts.{below_of, word-strict, expect-below, lines-enough}
use Rattle.paper_opl.proofs.Tags.{same_end}
use Rattle.paper_opl.proofs.BytesBack.{stops, word_back}
use Rattle.paper_opl.proofs.Marks.{mark-back, mark-laid}
use Rattle.paper_opl.proofs.BytesLaid.{word-laid, expect-laid}

-- ---- Lines that are written are read back.

-- The end of a line is no part of the name before it.
end-stops : (e : End) (xs : List LaidLine) → end_fits e xs ≡ true → stops in_line (end_text e ++ tasks_text xs) ≡ true
unfolding end_text tasks_text text
end-stops bare [] h = refl
end-stops bare (x ∷ xs) h = absurd (false≢true h)
end-stops feed xs h = refl
end-stops return xs h = refl

end_read : (e : End) (xs : List LaidLine) → end_fits e xs ≡ true → line_end (end_text e ++ tasks_text xs) ≡ got tt (tasks_text xs)
unfolding line_end end_text tasks_text text same starts expect
end_read bare [] h = refl
end_read bare (x ∷ xs) h = absurd (false≢true h)
end_read feed xs h = refl
end_read return xs h = refl

not-empty : (w rest : Text) → same w [] ≡ false → same (w ++ rest) [] ≡ false
unfolding same
not-empty [] rest e = absurd (true≢false e)
not-empty (b ∷ w) rest e = refl

space-stops : (rest : Text) → stops in_line (text " " ++ rest) ≡ true
unfolding text
space-stops rest = refl

space-read : (rest : Text) → expect (32 ∷ []) (text " " ++ rest) ≡ got tt rest
unfolding expect text
space-read rest = refl

lines-back : (xs : List LaidLine) (n : ℕ) → lines_suit xs ≡ true → length (tasks_text xs) ≤ n → lines n (tasks_text xs) ≡ got (each (λ x. x.line) xs) []
unfolding lines tasks_text lines_suit each same
lines-back [] n h l = lines-enough n 0 [] (omega arith) (omega arith)
lines-back (x ∷ xs) n h l =
    let a = both (line_fits x.line) _ h in
    let g = both (end_fits x.end xs) (lines_suit xs) a.1 in
    let b = both (every in_line x.line.task) _ a.0 in
    let c = both (not (same x.line.task [])) _ b.1 in
    let d = both (every in_line x.line.template) (not (same x.line.template [])) c.1 in
    let e = not-true (same x.line.task []) c.0 in
    let f = not-true (same x.line.template []) d.1 in
    let rest = end_text x.end ++ tasks_text xs in
    let p = word_back in_line x.line.task (text " " ++ (x.line.template ++ rest)) b.0 e (space-stops (x.line.template ++ rest)) in
    let o = space-read (x.line.template ++ rest) in
    let q = word_back in_line x.line.template rest d.0 f (end-stops x.end xs g.0) in
    let i = below_of p (word-strict in_line (x.line.task ++ (text " " ++ (x.line.template ++ rest)))) in
    let j = below_of o (expect-below (32 ∷ []) (text " " ++ (x.line.template ++ rest))) in
    let k = below_of q (word-strict in_line (x.line.template ++ rest)) in
    let m = length-append (end_text x.end) (tasks_text xs) in
    lines-enough n (suc n) (x.line.task ++ (text " " ++ (x.line.template ++ rest))) l (omega arith)
    ∙ rw (not-empty x.line.task (text " " ++ (x.line.template ++ rest)) e, p, o, q, end_read x.end xs g.0, lines-back xs n g.1 (omega arith))

-- ---- Lines that were read are the text of some layout.

nothing-there : (w rest : Text) → [] ≡ w ++ (32 ∷ rest) → ⊥
nothing-there [] rest h = let x = ap (λ (s : Text). length s) h in omega arith
nothing-there (b ∷ w) rest h = let x = ap (λ (s : Text). length s) h in omega arith

one-space : (z : Text) → 32 ∷ z ≡ text " " ++ z
unfolding text
one-space z = refl

-- The end of a line that was read, if the text does not end there.
fed : (z y : Text) (xs : List LaidLine) → same z [] ≡ false → line_end z ≡ got tt y → y ≡ tasks_text xs →
    (e : End) × (end_fits e xs ≡ true) × (z ≡ end_text e ++ tasks_text xs)
unfolding line_end end_text text
fed z y xs q e t =
    on_test (starts (13 ∷ []) z)
    (λ c. (return, refl, expect-laid (13 ∷ 10 ∷ []) z y (rw (q, c) at e) ∙ ap (λ (x : Text). 13 ∷ 10 ∷ x) t))
    (λ c. (feed, refl, expect-laid (10 ∷ []) z y (rw (q, c) at e) ∙ ap (λ (x : Text). 10 ∷ x) t))

ended : (z y : Text) (xs : List LaidLine) → line_end z ≡ got tt y → y ≡ tasks_text xs → (e : End) × (end_fits e xs ≡ true) × (z ≡ end_text e ++ tasks_text xs)
unfolding line_end end_text tasks_text text
ended z y [] e t = on_test (same z []) (λ q. (bare, refl, same_end z q)) (λ q. fed z y [] q e t)
ended z y (x ∷ xs) e t =
    on_test (same z [])
    (λ q. absurd (nothing-there x.line.task _ (sym (same_end z q) ∙ got-rest (rw q at e) ∙ t)))
    (λ q. fed z y (x ∷ xs) q e t)

-- The lines of a text without a byte order mark, with their layout.
record Laid (ls : List Line) (t : Text) : Type 0 where
  layout : List LaidLine
  fit : lines_suit layout ≡ true
  lines_are : each (λ x. x.line) layout ≡ ls
  text-is : t ≡ tasks_text layout

lines-laid : (n : ℕ) (t : Text) (ls : List Line) (r : Text) → lines n t ≡ got ls r → Laid ls t
unfolding lines tasks_text lines_suit each
lines-laid zero t ls r e =
    on_test (same t []) (λ q. rw (sym (got-value (rw q at e))) (record { layout = []; fit = refl; lines_are = refl; text-is = same_end t q }))
    (λ q. absurd (bad≢got (rw q at e)))
lines-laid (suc n) t ls r e =
    on_test (same t []) (λ q. rw (sym (got-value (rw q at e))) (record { layout = []; fit = refl; lines_are = refl; text-is = same_end t q }))
    (λ q. on (word in_line t) (λ v u a. on (expect (32 ∷ []) u) (λ _ z b. on (word in_line z) (λ w y c. on (line_end y) (λ _ x d. on (lines n x)
    (λ ms i f.
    let p = word-laid in_line t v u a in
    let o = expect-laid (32 ∷ []) u z b in
    let s = word-laid in_line z w y c in
    let m = lines-laid n x ms i f in
    let g = ended y x m.layout d m.text-is in
    rw (sym (got-value (rw (q, a, b, c, d, f) at e)))
    (record {
      layout = record { line = record { task = v; template = w }; end = g.0 } ∷ m.layout;
      fit = rw (p.has, p.some, s.has, s.some, g.1) m.fit;
      lines_are = ap (λ (k : List Line). record { task = v; template = w } ∷ k) m.lines_are;
      text-is = p.text-is ∙ ap (λ (k : Text). v ++ k) (o ∙ one-space z ∙ ap (λ (k : Text). text " " ++ k) (s.text-is ∙ ap (λ (k : Text). w ++ k) g.2));
    }))
    (λ i f. absurd (bad≢got (rw (q, a, b, c, d, f) at e)))) (λ x d. absurd (bad≢got (rw (q, a, b, c, d) at e))))
    (λ y c. absurd (bad≢got (rw (q, a, b, c) at e))))
    (λ z b. absurd (bad≢got (rw (q, a, b) at e)))) (λ u a. absurd (bad≢got (rw (q, a) at e))))

marked : (t : Text) (ls : List Line) → task_lines t ≡ got ls [] → LinesFrom ls t
unfolding task_lines
marked t ls e =
    let m = mark-laid t in
    let l = lines-laid (length (behind_mark t)) (behind_mark t) ls [] e in
    record {
      mark = m.0;
      layout = l.layout;
      fit = l.fit;
      unmarked = ap (λ (x : Text). not m.0 && starts byte_order_mark x) (sym l.text-is) ∙ m.2;
      lines_are = l.lines_are;
      text-is = m.1 ∙ ap (mark_text m.0) l.text-is;
    }

marked-back : (t : Text) (ls : List Line) → LinesFrom ls t → task_lines t ≡ got ls []
unfolding task_lines
marked-back t ls w =
    ap (λ (x : Text). lines (length x) x) (ap behind_mark w.text-is ∙ mark-back w.mark (tasks_text w.layout) w.unmarked)
    ∙ lines-back w.layout (length (tasks_text w.layout)) w.fit (omega arith)
    ∙ ap (λ (x : List Line). got x []) w.lines_are

pub lines-exactly : (t : Text) (ls : List Line) → task_lines t ≡ got ls [] ↔ LinesFrom ls t
lines-exactly t ls = (marked t ls, marked-back t ls)
