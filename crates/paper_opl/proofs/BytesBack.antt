-- White space, comments, names and values, written by a layout, are read back.
use mathlib.Core.Path.{◌≡◌, refl, ap, ◌∙◌}
use mathlib.Core.List.{[], ◌∷◌, ◌++◌}
use mathlib.Core.Bool.{Bool, true, false, not, ◌&&◌, ◌||◌, true≢false}
use Prim.Native.Nat.{ℕ, suc, ◌≤◌}
use native.Mathlib.Omega.{arith}
use lib.Dec.{eqb}
use lib.ListN.{length}
use borrow.Author.Tests.{eqb-true, eq-eqb, not-true}
use Rattle.paper_lower.specs.Lists.{every}
use Rattle.paper_lower.proofs.ListLaws.{both}
use Rattle.paper_opl.specs.Reading.{Text, text, same, run, behind, word, starts, expect, white, control, space, in_value, up_to, value, equals, comment, misc}
use Rattle.paper_opl.specs.Reading.Read.{got}
use Rattle.paper_opl.specs.Layout.{blank, some_blank, calm, Gap, gap, gap_fits, quoted, quote_fits}
use Rattle.paper_opl.specs.Layout.Gap.{space as only-space, comment as with-comment}
use Rattle.paper_opl.proofs.Inversion.{on_test}
use Rattle.paper_opl.proofs.Counts.{below_of, behind-le, comment-below, misc-enough}

-- ---- Words.

-- The text does not begin with a byte that has the property p.
abbrev pub stops : (ℕ → Bool) → Text → Bool
stops p [] = true
stops p (b ∷ s) = not (p b)

pub behind-stops : (p : ℕ → Bool) (rest : Text) → stops p rest ≡ true → behind p rest ≡ rest
unfolding behind
behind-stops p [] h = refl
behind-stops p (b ∷ s) h = rw (not-true (p b) h)

run-stops : (p : ℕ → Bool) (rest : Text) → stops p rest ≡ true → run p rest ≡ []
unfolding run
run-stops p [] h = refl
run-stops p (b ∷ s) h = rw (not-true (p b) h)

pub behind-all : (p : ℕ → Bool) (w rest : Text) → every p w ≡ true → stops p rest ≡ true → behind p (w ++ rest) ≡ rest
unfolding behind every
behind-all p [] rest h s = behind-stops p rest s
behind-all p (b ∷ w) rest h s = let q = both (p b) (every p w) h in rw (q.0, behind-all p w rest q.1 s)

pub run-all : (p : ℕ → Bool) (w rest : Text) → every p w ≡ true → stops p rest ≡ true → run p (w ++ rest) ≡ w
unfolding run every
run-all p [] rest h s = run-stops p rest s
run-all p (b ∷ w) rest h s = let q = both (p b) (every p w) h in rw (q.0, run-all p w rest q.1 s)

pub word_back : (p : ℕ → Bool) (w rest : Text) → every p w ≡ true → same w [] ≡ false → stops p rest ≡ true → word p (w ++ rest) ≡ got w rest
unfolding word every same
word_back p [] rest h n s = absurd (true≢false n)
word_back p (b ∷ w) rest h n s = let q = both (p b) (every p w) h in rw (q.0, run-all p (b ∷ w) rest h s, behind-all p (b ∷ w) rest h s)

pub space-back : (s rest : Text) → some_blank s ≡ true → stops white rest ≡ true → space (s ++ rest) ≡ got tt rest
space-back s rest h t = let q = both (blank s) (not (same s [])) h in rw (word_back white s rest q.0 (not-true (same s []) q.1) t)

-- ---- Values.

quote-stops : (q : ℕ) (rest : Text) → stops (in_value q) (q ∷ rest) ≡ true
quote-stops q rest = rw (eq-eqb q q refl)

pub value-back : (q : ℕ) (v rest : Text) → quote_fits q v ≡ true → value (quoted q v rest) ≡ got v rest
unfolding value up_to expect
value-back q v rest h =
    let k = both (eqb q 34 || eqb q 39) (every (in_value q) v) h in
    rw (k.0, behind-all (in_value q) v (q ∷ rest) k.1 (quote-stops q rest), run-all (in_value q) v (q ∷ rest) k.1 (quote-stops q rest), eq-eqb q q refl)

pub quote-clear : (q : ℕ) (s : Text) → eqb q 34 || eqb q 39 ≡ true → stops white (q ∷ s) ≡ true
quote-clear q s h = on_test (eqb q 34) (λ e. rw (eqb-true q 34 e)) (λ e. rw (eqb-true q 39 (rw e at h)))

pub equals-back : (l r rest : Text) → blank l ≡ true → blank r ≡ true → stops white rest ≡ true → equals (l ++ (text "=" ++ (r ++ rest))) ≡ got tt rest
unfolding equals expect text
equals-back l r rest a b s = rw (behind-all white l (61 ∷ (r ++ rest)) a refl, behind-all white r rest b s)

-- ---- Comments.

no-hyphen : (body rest : Text) → same body [] || starts (text "-") body ≡ false → starts (text "-") (body ++ rest) ≡ false
unfolding same starts text
no-hyphen [] rest h = absurd (true≢false h)
no-hyphen (b ∷ body) rest h = h

comment-back : (body rest : Text) → calm body ≡ true → comment (body ++ (text "-->" ++ rest)) ≡ got tt rest
unfolding comment calm starts text
comment-back [] rest h = refl
comment-back (b ∷ body) rest h =
    let p = both (not (control b) && not (eqb 45 b && (same body [] || starts (text "-") body))) (calm body) h in
    let q = both (not (control b)) (not (eqb 45 b && (same body [] || starts (text "-") body))) p.0 in
    let r = not-true (eqb 45 b && (same body [] || starts (text "-") body)) q.1 in
    let c = not-true (control b) q.0 in
    on_test (eqb 45 b)
    (λ e. rw (e, no-hyphen body (text "-->" ++ rest) (rw e at r), c) (comment-back body rest p.1))
    (λ e. rw (e, c) (comment-back body rest p.1))

pub gap_back : (n : ℕ) (g : Gap) (rest : Text) → gap_fits g ≡ true → stops white rest ≡ true → starts (text "<!--") rest ≡ false → length (gap g rest) ≤ n →
    misc n (gap g rest) ≡ got tt rest
unfolding misc gap gap_fits starts text
gap_back n (only-space s) rest h k c l = misc-enough n (suc n) (s ++ rest) l (omega arith) ∙ rw (behind-all white s rest h k, c)
gap_back n (with-comment s body g) rest h k c l =
    let p = both (blank s && calm body) (gap_fits g) h in
    let q = both (blank s) (calm body) p.0 in
    let x = body ++ (text "-->" ++ gap g rest) in
    let b : behind white (s ++ (text "<!--" ++ (body ++ (text "-->" ++ gap g rest)))) ≡ text "<!--" ++ (body ++ (text "-->" ++ gap g rest))
    = behind-all white s (text "<!--" ++ (body ++ (text "-->" ++ gap g rest))) q.0 refl in
    let d = comment-back body (gap g rest) q.1 in
    let i = below_of d (comment-below (body ++ (text "-->" ++ gap g rest))) in
    let j = behind-le white (s ++ (text "<!--" ++ (body ++ (text "-->" ++ gap g rest)))) in
    let m = ap (λ (t : Text). length t) b in
    misc-enough n (suc n) (s ++ (text "<!--" ++ (body ++ (text "-->" ++ gap g rest)))) l (omega arith) ∙ rw (b, d) (gap_back n g rest p.1 k c (omega arith))
