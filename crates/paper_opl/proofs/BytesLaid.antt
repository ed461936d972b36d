-- White space, comments, names and values that were read are the text of some layout.
use mathlib.Core.Path.{◌≡◌, refl, sym, ap, ◌∙◌}
use mathlib.Core.List.{[], ◌∷◌, ◌++◌}
use mathlib.Core.Bool.{Bool, true, false, ◌&&◌, ◌||◌, false≢true, true≢false}
use Prim.Native.Nat.{ℕ, zero, suc}
use lib.Dec.{eqb}
use lib.ListN.{length, drop}
use borrow.Author.Tests.{eqb-true}
use Rattle.paper_lower.specs.Lists.{every}
use Rattle.paper_lower.proofs.ListLaws.{both}
use Rattle.paper_opl.specs.Reading.{Text, text, same, run, behind, word, starts, expect, white, control, skip, space, in_value, up_to, value, equals, closing, comment, misc}
use Rattle.paper_opl.specs.Reading.Read.{got}
use Rattle.paper_opl.specs.Layout.{blank, some_blank, calm, Gap, gap, gap_fits, Value, quoted, quote_fits, value_text, value_fits}
use Rattle.paper_opl.specs.Layout.Gap.{space as only-space, comment as with-comment}
use Rattle.paper_opl.proofs.Inversion.{on, on_test, bad≢got, got-rest, got-value}

-- ---- Words.

pub split : (p : ℕ → Bool) (s : Text) → s ≡ run p s ++ behind p s
unfolding run behind
split p [] = refl
split p (b ∷ s) = on_test (p b) (λ e. rw e (ap (λ (x : Text). b ∷ x) (split p s))) (λ e. rw e)

pub run-has : (p : ℕ → Bool) (s : Text) → every p (run p s) ≡ true
unfolding run every
run-has p [] = refl
run-has p (b ∷ s) = on_test (p b) (λ e. rw (e, e) (run-has p s)) (λ e. rw e)

-- The text s is the word w, whose bytes all have the property p, and then r.
pub record Word (p : ℕ → Bool) (s w r : Text) : Type 0 where
  pub text-is : s ≡ w ++ r
  pub has : every p w ≡ true
  pub some : same w [] ≡ false

not-empty : (p : ℕ → Bool) (b : ℕ) (s : Text) → p b ≡ true → same (run p (b ∷ s)) [] ≡ false
unfolding run same
not-empty p b s e = rw e

pub word-laid : (p : ℕ → Bool) (s w r : Text) → word p s ≡ got w r → Word p s w r
unfolding word
word-laid p [] w r e = absurd (bad≢got e)
word-laid p (b ∷ s) w r e =
    on_test (p b)
    (λ q.
    let k = rw q at e in
    rw (sym (got-value k), sym (got-rest k)) (record { text-is = split p (b ∷ s); has = run-has p (b ∷ s); some = not-empty p b s q }))
    (λ q. absurd (bad≢got (rw q at e)))

-- If a literal was read, the text begins with it.
pub expect-laid : (w s r : Text) → expect w s ≡ got tt r → s ≡ w ++ r
unfolding expect
expect-laid [] s r e = got-rest e
expect-laid (c ∷ w) [] r e = absurd (bad≢got e)
expect-laid (c ∷ w) (b ∷ s) r e =
    on_test (eqb c b) (λ q. rw (sym (eqb-true c b q)) (ap (λ (x : Text). c ∷ x) (expect-laid w s r (rw q at e)))) (λ q. absurd (bad≢got (rw q at e)))

pub starts-laid : (w s : Text) → starts w s ≡ true → s ≡ w ++ drop (length w) s
unfolding starts
starts-laid [] s e = refl
starts-laid (c ∷ w) [] e = absurd (false≢true e)
starts-laid (c ∷ w) (b ∷ s) e =
    let q = both (eqb c b) (starts w s) e in
    rw (sym (eqb-true c b q.0)) (ap (λ (x : Text). c ∷ x) (starts-laid w s q.1))

-- The white space that is skipped.
pub skip-laid : (s : Text) → (blank (run white s) ≡ true) × (s ≡ run white s ++ skip s)
skip-laid s = (run-has white s, split white s)

pub space-laid : (s r : Text) → space s ≡ got tt r → (w : Text) × (some_blank w ≡ true) × (s ≡ w ++ r)
space-laid s r e =
    on (word white s) (λ w u q. let k = word-laid white s w u q in (w, rw (k.has, k.some), k.text-is ∙ ap (λ (x : Text). w ++ x) (got-rest (rw q at e))))
    (λ u q. absurd (bad≢got (rw q at e)))

-- ---- Values.

pub value-laid : (s v r : Text) → value s ≡ got v r → (q : ℕ) × (quote_fits q v ≡ true) × (s ≡ quoted q v r)
unfolding value up_to
value-laid [] v r e = absurd (bad≢got e)
value-laid (b ∷ s) v r e =
    on_test (eqb b 34 || eqb b 39)
    (λ q. on (expect (b ∷ []) (behind (in_value b) s))
    (λ _ u x.
    let k = rw (q, x) at e in
    let y = expect-laid (b ∷ []) (behind (in_value b) s) u x in
    rw (sym (got-value k), sym (got-rest k))
    (b, rw (q, run-has (in_value b) s), ap (λ (z : Text). b ∷ z) (split (in_value b) s ∙ ap (λ (z : Text). run (in_value b) s ++ z) y)))
    (λ u x. absurd (bad≢got (rw (q, x) at e))))
    (λ q. absurd (bad≢got (rw q at e)))

-- "=" and the value after it, as a layout.
pub record Laid (s v r : Text) : Type 0 where
  pub value : Value
  pub value-is : value.value ≡ v
  pub fits : value_fits value ≡ true
  pub text-is : s ≡ value_text value r

pub equals-laid : (s u v r : Text) → equals s ≡ got tt u → value u ≡ got v r → Laid s v r
unfolding equals text
equals-laid s u v r e f =
    on (expect (61 ∷ []) (skip s))
    (λ _ z q.
    let a = skip-laid s in
    let b = skip-laid z in
    let k = got-rest (rw q at e) in
    let x = expect-laid (61 ∷ []) (skip s) z q in
    let y = value-laid u v r f in
    record {
      value = record { left = run white s; right = run white z; quote = y.0; value = v };
      value-is = refl;
      fits = rw (a.0, b.0, y.1);
      text-is = a.1 ∙ ap (λ (t : Text). run white s ++ t) (x ∙ ap (λ (t : Text). 61 ∷ t) (b.1 ∙ ap (λ (t : Text). run white z ++ t) (k ∙ y.2)));
    })
    (λ z q. absurd (bad≢got (rw q at e)))

-- ---- Comments.

closing-laid : (w t r : Text) → closing w t ≡ got tt r → t ≡ 62 ∷ r
closing-laid w [] r e = absurd (bad≢got e)
closing-laid w (b ∷ t) r e = on_test (eqb b 62) (λ q. rw (eqb-true b 62 q, got-rest (rw q at e))) (λ q. absurd (bad≢got (rw q at e)))

hyphen-back : (body r : Text) → starts (text "-") (body ++ (text "-->" ++ r)) ≡ false → same body [] || starts (text "-") body ≡ false
unfolding starts same text
hyphen-back [] r e = absurd (true≢false e)
hyphen-back (b ∷ body) r e = e

calm_more : (b : ℕ) (body : Text) → control b ≡ false → eqb 45 b && (same body [] || starts (text "-") body) ≡ false → calm body ≡ true → calm (b ∷ body) ≡ true
unfolding calm
calm_more b body c h k = rw (c, h) k

opens : (s : Text) → starts (text "<!--") s ≡ true → s ≡ text "<!--" ++ drop 4 s
unfolding text
opens s q = starts-laid (text "<!--") s q

pub comment-laid : (s r : Text) → comment s ≡ got tt r → (body : Text) × (calm body ≡ true) × (s ≡ body ++ (text "-->" ++ r))
unfolding comment calm starts text
comment-laid [] r e = absurd (bad≢got e)
comment-laid (b ∷ s) r e =
    on_test (starts (text "--") (b ∷ s))
    (λ q.
    let a = starts-laid (text "--") (b ∷ s) q in
    let c = closing-laid (b ∷ s) (drop 1 s) r (rw q at e) in
    ([], refl, a ∙ ap (λ (x : Text). 45 ∷ 45 ∷ x) c))
    (λ q. on_test (control b) (λ c. absurd (bad≢got (rw (q, c) at e)))
    (λ c.
    let x = comment-laid s r (rw (q, c) at e) in
    let y : eqb 45 b && (same x.0 [] || starts (text "-") x.0) ≡ false
    = on_test (eqb 45 b) (λ h. rw (h, hyphen-back x.0 r (ap (starts (text "-")) (sym x.2) ∙ (rw h at q)))) (λ h. rw h) in
    (b ∷ x.0, calm_more b x.0 c y x.1, ap (λ (z : Text). b ∷ z) x.2)))

pub gap-laid : (n : ℕ) (s r : Text) → misc n s ≡ got tt r → (g : Gap) × (gap_fits g ≡ true) × (s ≡ gap g r)
unfolding misc gap gap_fits every
gap-laid zero s r e = (only-space [], refl, got-rest e)
gap-laid (suc n) s r e =
    let w = skip-laid s in
    on_test (starts (text "<!--") (skip s))
    (λ q. on (comment (drop 4 (skip s)))
    (λ _ u c.
    let x = comment-laid (drop 4 (skip s)) u c in
    let y = gap-laid n u r (rw (q, c) at e) in (
      with-comment (run white s) x.0 y.0,
      rw (w.0, x.1, y.1),
      w.1 ∙
          ap (λ (z : Text). run white s ++ z)
          (opens (skip s) q ∙ ap (λ (z : Text). text "<!--" ++ z) (x.2 ∙ ap (λ (z : Text). x.0 ++ (text "-->" ++ z)) y.2)),
    ))
    (λ u c. absurd (bad≢got (rw (q, c) at e))))
    (λ q. (only-space (run white s), w.0, w.1 ∙ ap (λ (z : Text). run white s ++ z) (got-rest (rw q at e))))
