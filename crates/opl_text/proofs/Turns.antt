-- The invariant of the loop over white space and comments (`Clear`), and its turns, at indices of the text.
use mathlib.Core.Path.{◌≡◌, sym, ◌∙◌}
use mathlib.Core.Bool.{Bool, true, false}
use Prim.Native.Nat.{ℕ, ◌+◌, ◌<◌, ◌≤◌}
use native.Mathlib.Omega.{arith}
use lib.ListN.{length, drop, length-drop}
use Rattle.paper_opl.specs.Reading.{Text, text, starts, white, behind, comment, misc}
use Rattle.paper_opl.specs.Reading.Read.{got, bad}
use Rattle.paper_opl.proofs.Counts.{misc-enough}
use Rattle.opl_text.proofs.Laws.{skip-skip, misc-skip, misc-stop, misc-bad, misc-on, comment-le, opening-le, onward}

-- There is no white space at index i, and reading white space and comments from `at` on gives the same as from i on.
pub record Clear (s : Text) (at i : ℕ) : Type 0 where
  pub clear : behind white (drop i s) ≡ drop i s
  pub goes_on : misc (length (drop at s)) (drop at s) ≡ misc (length s) (drop i s)

drop_le : (s : Text) (i : ℕ) → length (drop i s) ≤ length s
drop_le s i = let k = length-drop i s in omega arith

pub misc-first : (s : Text) (at i : ℕ) → drop i s ≡ behind white (drop at s) → Clear s at i
misc-first s at i e = record {
  clear = rw e (skip-skip (drop at s));
  goes_on = misc-enough (length (drop at s)) (length s) (drop at s) (omega arith) (drop_le s at) ∙ misc-skip (length s) (drop at s) (drop_le s at) ∙ rw e;
}

module _ (s : Text) (at i : ℕ) (c : Clear s at i) (inside : i ≤ length s) where
  pub misc-done : (b : Bool) → b ≡ starts (text "<!--") (drop i s) → b ≡ false → got tt (drop i s) ≡ misc (length (drop at s)) (drop at s)
  misc-done b e f = sym (c.goes_on ∙ misc-stop s i c.clear (length s) (sym e ∙ f))

  module _ (b : Bool) (e : b ≡ starts (text "<!--") (drop i s)) (t : b ≡ true) where
    pub misc-refused : (p : ℕ) → bad (drop p s) ≡ comment (drop (i + 4) s) → bad (drop p s) ≡ misc (length (drop at s)) (drop at s)
    misc-refused p u = sym (c.goes_on ∙ misc-bad s i c.clear (length s) (drop p s) (drop_le s i) (sym e ∙ t) (sym u))

    module _ (k : ℕ) (u : got tt (drop k s) ≡ comment (drop (i + 4) s)) (w : k ≤ length s) (j : ℕ) (f : drop j s ≡ behind white (drop k s)) (l : j ≤ length s) where
      pub misc-again : Clear s at j
      misc-again = record {
        clear = rw f (skip-skip (drop k s));
        goes_on = c.goes_on ∙ misc-on s i c.clear (length s) (drop k s) (drop_le s i) (sym e ∙ t) (sym u) ∙ rw f;
      }

      pub misc-past : i < j
      misc-past =
          let o = opening-le (drop i s) (sym e ∙ t) in
          let a = comment-le (drop (i + 4) s) (drop k s) (sym u) in
          let d = length-drop i s in
          let g = length-drop (i + 4) s in
          let h = length-drop k s in
          let z = onward white s k j w f l in
          omega arith

pub opening-room : (s : Text) (i : ℕ) (b : Bool) → b ≡ starts (text "<!--") (drop i s) → b ≡ true → i + 4 ≤ length s
opening-room s i b e t = let o = opening-le (drop i s) (sym e ∙ t) in let d = length-drop i s in omega arith
