-- Attributes: one among those that may still be given, and the loop over the attributes of a tag.
use mathlib.Core.Path.{◌≡◌, refl, sym, ap, ◌∙◌}
use mathlib.Core.List.{List, [], ◌∷◌}
use mathlib.Core.Bool.{Bool, true, false, cond, ◌||◌}
use Prim.Native.Nat.{ℕ, suc, ◌+◌, ◌-◌, ◌<◌, ◌≤◌}
use native.Mathlib.Omega.{arith}
use lib.ListN.{length, drop, length-drop, drop_of_length-le}
use Rattle.std.specs.Prelude.{Ok, Err}
use Rattle.paper_lower.specs.Lists.{some}
use Rattle.paper_opl.specs.Reading.{Text, Read, after, text, starts, white, behind, skip, space, name, equals, value}
use Rattle.paper_opl.specs.Reading.Read.{got, bad}
use Rattle.paper_opl.specs.Elements.{Attribute}
use Rattle.paper_opl.specs.Tree.{Given, if-found, required, fits, find, without, attribute, attributes}
use Rattle.paper_opl.proofs.Inversion.{on, on_test, on-found}
use Rattle.paper_opl.proofs.Counts.{below, below_of, below-after, space-strict, attribute-below, attributes-enough}
use Rattle.opl_text.specs.declared.BadByte.{BadByte}
use Rattle.opl_text.specs.Steps.{From}
use Rattle.opl_table.specs.Numbers.{list_of}
use Rattle.opl_reader.specs.declared.Taken.{Taken}
use Rattle.opl_reader.specs.Grammar.{forget, remaining, classed, valued, strange, attributes_read, Takes}
use Rattle.opl_reader.proofs.Chain.{space_not, space_yes, forget-on}

-- ---- One attribute: its name, "=" and its value.

pub remains : (left : List Attribute) (t : Text) →
    remaining left t ≡ after (name t) (λ w r. if-found (find left w) (strange t r) (λ a. valued a.class (without w left) r))
unfolding remaining attribute strange valued classed
remains left t =
    on (name t) (λ w r p. on (equals r) (λ _ u q. on (value u) (λ v z o. on-found (find left w)
    (λ a f. on_test (fits a.class v) (λ c. rw (p, q, o, f, c)) (λ c. rw (p, q, o, f, c))) (λ f. rw (p, q, o, f)))
    (λ z o. on-found (find left w) (λ a f. rw (p, q, o, f)) (λ f. rw (p, q, o, f)))) (λ u q. on-found (find left w) (λ a f. rw (p, q, f)) (λ f. rw (p, q, f))))
    (λ r p. rw p)

-- ---- The attributes of a tag, one after the other.

remaining-below : (left : List Attribute) (t : Text) → below (suc (length t)) (remaining left t)
unfolding remaining
remaining-below left t =
    below-after (attribute left t) (λ g r. got (without g.name left) r) (suc (length t)) (suc (length t)) (attribute-below left t) (λ g r h. h)

-- One attribute and those after it, without the values that were read.
on-more : (n : ℕ) (left : List Attribute) (t : Text)
    → forget (after (attribute left t) (λ g u. after (attributes n (without g.name left) u) (λ gs z. got (g ∷ gs) z))) ≡
    forget (after (remaining left t) (λ more u. attributes n more u))
unfolding remaining
on-more n left t = go (attribute left t)
  where
    go : (x : Read Given) →
        forget (after x (λ g u. after (attributes n (without g.name left) u) (λ gs z. got (g ∷ gs) z))) ≡
        forget (after (after x (λ g r. got (without g.name left) r)) (λ more u. attributes n more u))
    go (got g u) = forget-on (attributes n (without g.name left) u) (λ gs. g ∷ gs)
    go (bad u) = refl

turn : (n : ℕ) (left : List Attribute) (t : Text) → Read (Unit {0})
turn n left t =
    cond (starts (62 ∷ []) (skip t) || starts (47 ∷ []) (skip t)) (cond (some (λ a. required a.class) left) (bad (skip t)) (got tt (skip t)))
    (after (space t) (λ _ r. forget (after (remaining left r) (λ more u. attributes n more u))))

turns : (n : ℕ) (left : List Attribute) (t : Text) → forget (attributes (suc n) left t) ≡ turn n left t
unfolding turn attributes text
turns n left t = go (starts (62 ∷ []) (skip t) || starts (47 ∷ []) (skip t)) (some (λ a. required a.class) left) (space t)
  where
    go : (b c : Bool) (x : Read (Unit {0}))
        → forget (cond b (cond c (bad (skip t)) (got [] (skip t)))
        (after x (λ _ r. after (attribute left r) (λ g u. after (attributes n (without g.name left) u) (λ gs z. got (g ∷ gs) z)))))
        ≡ cond b (cond c (bad (skip t)) (got tt (skip t))) (after x (λ _ r. forget (after (remaining left r) (λ more u. attributes n more u))))
    go true true x = refl
    go true false x = refl
    go false c (got v r) = on-more n left r
    go false c (bad r) = refl

pub none_left : (s : Text) (i l : ℕ) → length s ≤ i → attributes_read (list_of l) (drop i s) ≡ bad (drop i s)
unfolding attributes_read attributes
none_left s i l h = let e : drop i s ≡ [] = drop_of_length-le s h in rw e

-- After an attribute the reading goes on.
pub record Onward (s : Text) (i l : ℕ) (taken : Taken) : Type 0 where
  pub inside : taken.next ≤ length s
  pub past : i < taken.next
  pub rest : attributes_read (list_of l) (drop i s) ≡ attributes_read (list_of taken.list) (drop taken.next s)

module _ (s : Text) (i l j : ℕ) (h : i < length s) (f : From s (behind white (drop i s)) j) where
  turned : attributes_read (list_of l) (drop i s) ≡ cond (starts (62 ∷ []) (drop j s) || starts (47 ∷ []) (drop j s))
      (cond (some (λ a. required a.class) (list_of l)) (bad (drop j s)) (got tt (drop j s)))
      (after (space (drop i s)) (λ _ r. forget (after (remaining (list_of l) r) (λ more u. attributes (length s - (i + 1)) more u))))
  unfolding attributes_read turn
  turned =
      let d = length-drop i s in
      let n : length (drop i s) ≡ suc (length s - (i + 1)) = omega arith in
      ap (λ k. forget (attributes k (list_of l) (drop i s))) n ∙ turns (length s - (i + 1)) (list_of l) (drop i s) ∙ rw (sym f.rest)

  pub tag_missing : starts (62 ∷ []) (drop j s) || starts (47 ∷ []) (drop j s) ≡ true → some (λ a. required a.class) (list_of l) ≡ true →
      attributes_read (list_of l) (drop i s) ≡ bad (drop j s)
  tag_missing e m = turned ∙ rw (e, m)

  pub tag_whole : starts (62 ∷ []) (drop j s) || starts (47 ∷ []) (drop j s) ≡ true → some (λ a. required a.class) (list_of l) ≡ false →
      attributes_read (list_of l) (drop i s) ≡ got tt (drop j s)
  tag_whole e m = turned ∙ rw (e, m)

  module _ (e : starts (62 ∷ []) (drop j s) || starts (47 ∷ []) (drop j s) ≡ false) where
    pub no_space : j ≡ i → attributes_read (list_of l) (drop i s) ≡ bad (drop i s)
    no_space t = turned ∙ rw (e, sym (space_not s i j (omega arith) f.rest f.inside t))

    module _ (n : j ≡ i → ⊥) where
      spaced : space (drop i s) ≡ got tt (drop j s)
      spaced = sym (space_yes s i j (omega arith) f.rest f.inside n)

      begun : attributes_read (list_of l) (drop i s) ≡
          forget (after (remaining (list_of l) (drop j s)) (λ more u. attributes (length s - (i + 1)) more u))
      begun = turned ∙ rw (e, spaced)

      pub attribute_refused : (b : BadByte) → Takes s (remaining (list_of l) (drop j s)) (Err b) → attributes_read (list_of l) (drop i s) ≡ bad (drop b.at s)
      attribute_refused b q = begun ∙ rw (sym q.read_is)

      pub attribute_taken : (taken : Taken) → Takes s (remaining (list_of l) (drop j s)) (Ok taken) → Onward s i l taken
      unfolding attributes_read
      attribute_taken taken q =
          let k = taken.next in
          let f = below_of (sym q.read_is) (remaining-below (list_of l) (drop j s)) in
          let g = below_of spaced (space-strict (drop i s)) in
          let c = length-drop k s in
          let d = length-drop i s in
          let inside : k ≤ length s = q.inside in
          let o : length (drop k s) ≤ length s - (i + 1) = omega arith in
          let z : length (drop k s) ≤ length (drop k s) = omega arith in
          record {
            inside = inside;
            past = omega arith;
            rest =
                begun ∙ rw (sym q.read_is)
                (ap (λ r. forget r) (attributes-enough (length s - (i + 1)) (length (drop k s)) (list_of taken.list) (drop k s) o z));
          }

-- What `attributes_end` needs.
pub ruleset tag_steps = (none_left, tag_missing, tag_whole, no_space, attribute_refused, attribute_taken)
