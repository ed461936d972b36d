-- Readers in sequence: the first that refuses refuses the whole, and after one that accepts the next goes on.
use mathlib.Core.Path.{◌≡◌, refl, sym, ap, ◌∙◌}
use mathlib.Core.List.{[], ◌∷◌}
use mathlib.Core.Bool.{true, false}
use Prim.Native.Nat.{ℕ, ◌+◌, ◌<◌, ◌≤◌}
use native.Mathlib.Omega.{arith}
use lib.ListN.{length, drop, length-drop}
use lib.Seq.{drop-drop}
use Rattle.paper_opl.specs.Reading.{Text, Read, after, starts, expect, in_name, name, value, white, behind, space}
use Rattle.paper_opl.specs.Reading.Read.{got, bad}
use Rattle.paper_opl.proofs.Inversion.{bad≢got, got-rest}
use Rattle.paper_opl.proofs.Counts.{below_of, word-strict}
use Rattle.opl_text.proofs.Laws.{bad-same, no_word, a_word, one-not, one-yes}
use Rattle.std.specs.Prelude.{Ok, IsErrAnd}
use Rattle.std.proofs.lemmas.Result.{err_from_is_err_and}
use Rattle.opl_text.specs.declared.BadByte.{BadByte}
use Rattle.opl_text.specs.Steps.{Step, Reads, step_of, word_of, value_of}
use Rattle.opl_text.proofs.Literals.{value_room}
use Rattle.opl_reader.specs.Grammar.{forget}

pub after-after : {A B C : Type 0} (x : Read A) (f : A → Text → Read B) (g : B → Text → Read C) → after (after x f) g ≡ after x (λ v r. after (f v r) g)
after-after (got v r) f g = refl
after-after (bad r) f g = refl

pub after-each : {A B : Type 0} (x : Read A) (f g : A → Text → Read B) → ((v : A) (r : Text) → f v r ≡ g v r) → after x f ≡ after x g
after-each (got v r) f g h = h v r
after-each (bad r) f g h = refl

-- A refusal that `?` hands on.
pub handed_on : (s : Text) (x : Read (Unit {0})) (r : Step) (e : BadByte) → IsErrAnd r (λ y. y ≡ e) → e.at ≤ length s → x ≡ bad (drop e.at s) → Reads s (step_of s) x r
handed_on s x r e h i q = let p = err_from_is_err_and r h in rw (p.1, p.2) (record { read_is = sym q; inside = i })

-- A name has at least one byte.
pub name_room : (s : Text) (at k : ℕ) → Reads s (word_of s at) (name (drop at s)) (Ok k) → at < k
name_room s at k q =
    let h = below_of (sym q.read_is) (word-strict in_name (drop at s)) in
    let a = length-drop at s in
    let b = length-drop k s in
    omega arith

-- A value has a quote at its beginning and one at its end.
pub value_inside : (s : Text) (at end : ℕ) → at ≤ length s → Reads s (value_of s (at + 1)) (value (drop at s)) (Ok end) → (at + 1 ≤ end) × (end + 1 ≤ length s)
value_inside s at end h q = value_room s at (Ok end) q end refl h

pub drop_one : (at : ℕ) (s : Text) → drop 1 (drop at s) ≡ drop (at + 1) s
drop_one at s = drop-drop 1 at s

-- ---- One byte.

pub one_bad : (q i : ℕ) (s : Text) → starts (q ∷ []) (drop i s) ≡ false → expect (q ∷ []) (drop i s) ≡ bad (drop i s)
one_bad q i s e = one-not q (drop i s) e

pub one_got : (q i : ℕ) (s : Text) → starts (q ∷ []) (drop i s) ≡ true → expect (q ∷ []) (drop i s) ≡ got tt (drop (i + 1) s)
one_got q i s e = (one-yes q (drop i s) e).0 ∙ rw (drop-drop 1 i s)

pub one_room : (q i : ℕ) (s : Text) → starts (q ∷ []) (drop i s) ≡ true → i + 1 ≤ length s
one_room q i s e = let h = (one-yes q (drop i s) e).1 in let d = length-drop i s in omega arith

-- ---- Required white space.

module _ (s : Text) (at i : ℕ) (h : at ≤ length s) (from : drop i s ≡ behind white (drop at s)) (inside : i ≤ length s) where
  pub space_not : i ≡ at → bad (drop at s) ≡ space (drop at s)
  space_not e = rw (sym (no_word white s at i h from inside e))

  pub space_yes : (i ≡ at → ⊥) → got tt (drop i s) ≡ space (drop at s)
  space_yes n = rw (sym (a_word white s at i h from inside n))

-- ---- Readings without their values (`forget`).

pub on-got : {A B : Type 0} (x : Read A) (r : Text) → forget x ≡ got tt r → (f : A → Text → Read B) (g : Read (Unit {0})) →
    ((v : A) → x ≡ got v r → forget (f v r) ≡ g) → forget (after x f) ≡ g
on-got (got v u) r e f g h = let q : u ≡ r = got-rest e in ap (λ (z : Text). forget (f v z)) q ∙ h v (ap (λ (z : Text). got v z) q)
on-got (bad u) r e f g h = absurd (bad≢got e)

pub on-bad : {A B : Type 0} (x : Read A) (r : Text) → forget x ≡ bad r → (f : A → Text → Read B) → forget (after x f) ≡ bad r
on-bad (got v u) r e f = absurd (bad≢got (sym e))
on-bad (bad u) r e f = ap bad (bad-same e)

pub forget-on : {A B : Type 0} (x : Read A) (f : A → B) → forget (after x (λ v r. got (f v) r)) ≡ forget x
forget-on (got v r) f = refl
forget-on (bad r) f = refl

pub judged : {A B : Type 0} (x : Read A) (c : B) → after x (λ _ r. got c r) ≡ after (forget x) (λ _ r. got c r)
judged (got v r) c = refl
judged (bad r) c = refl
