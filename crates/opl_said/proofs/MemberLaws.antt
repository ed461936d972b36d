-- The elements of one name inside an element, found tag by tag; and the first of their numbers, or the set of them.
use Prim.Native.Nat.{ℕ, ◌≤◌}
use mathlib.Core.Path.{◌≡◌, refl, ap, ◌∙◌}
use mathlib.Core.Bool.{Bool, true, false, ◌||◌}
use mathlib.Core.List.{List, []}
use native.Mathlib.Omega.{arith}
use Rattle.std.specs.Prelude.{Option, Some, None}
use lib.Dec.{eqb}
use borrow.Author.Tests.{eq-eqb, ne_eqb}
use Rattle.paper_lower.specs.Sets.{plus}
use Rattle.paper_lower.specs.Lists.{some, keep, each}
use Rattle.paper_lower.specs.Lists.Maybe.{none, just}
use Rattle.paper_opl.specs.Reading.{Text, same}
use Rattle.paper_opl.specs.Naming.{Names}
use Rattle.paper_opl.specs.Filling.{set_from}
use Rattle.paper_opl.specs.Walk.{inner_names, leading}
use Rattle.paper_opl.proofs.SetsFrom.{set-from}
use Rattle.opl_table.specs.Numbers.{name_of}
use Rattle.opl_tags.specs.Tags.{given_at, walk_at}
use Rattle.opl_turns.specs.Meaning.{inner_of}
use Rattle.opl_turns.specs.Listing.{Opened, Meets}
use Rattle.opl_turns.specs.declared.Met.{Met}
use Rattle.opl_turns.specs.declared.Met.TheVariants.{Begun, Ended}
use Rattle.opl_turns.proofs.MeaningLaws.{stands_by, inner-by}
use Rattle.opl_said.specs.Said.{NumberIs}
use Rattle.opl_said.specs.Forms.{number_by, givens_of, inside_at, Inner, Onward, HereIs, MemberIs, NextIs, first_by, set_by}
use Rattle.opl_said.specs.declared.StartTag.{StartTag}
use Rattle.opl_said.specs.declared.Member.{Member}
use Rattle.opl_said.specs.declared.Member.TheVariants.{Other, Here, Last}

-- ---- The code's test for an element that occurs inside one which yields a record.
six : (a b c d e f : Bool) → (((((a || b) || c) || d) || e) || f) ≡ (a || (b || (c || (d || (e || (f || false))))))
six true b c d e f = refl
six false true c d e f = refl
six false false true d e f = refl
six false false false true e f = refl
six false false false false true f = refl
six false false false false false true = refl
six false false false false false false = refl

pub inner-is : (id : ℕ) → (((((eqb id 15 || eqb id 16) || eqb id 24) || eqb id 25) || eqb id 36) || eqb id 40) ≡ inner_of id
unfolding some inner_of
inner-is id = six (eqb id 15) (eqb id 16) (eqb id 24) (eqb id 25) (eqb id 36) (eqb id 40)

-- ---- One tag.
module _ (s : Text) (l : List ℕ) (e at entry : ℕ) (r : Option Met) (meets : Meets s l at entry r) where
  pub member-over : r ≡ None → MemberIs s l e at Last
  unfolding keep each leading
  member-over q = let z : walk_at s at ≡ [] = rw q at meets in rw z

  pub member-ended : (n : ℕ) → r ≡ Some (Ended n) → MemberIs s l e at (Other n entry)
  member-ended n q =
      let m : Meets s l at entry (Some (Ended n)) = rw q at meets in
      record { past = m.0.past; inside = m.0.inside; rest = ap (λ ts. givens_of e (leading ts)) m.0.walk; leads = m.1 }

  module _ (id end behind : ℕ) (q : r ≡ Some (Begun id end behind)) where
    met : Meets s l at entry (Some (Begun id end behind))
    met = rw q at meets

    abbrev o : Opened s at end id
    o = met.0

    stands : some (same o.name) inner_names ≡ inner_of id
    stands = inner-by o.name ∙ ap inner_of o.element

    looked-for : Inner e → same o.name (name_of e) ≡ eqb id e
    looked-for i = stands_by o.name e i ∙ ap (λ (k : ℕ). eqb k e) o.element

    pub member-here : Inner e → id ≡ e → MemberIs s l e at (Here (record { end = end; entry = behind }))
    unfolding keep each leading
    member-here i h =
        let k : same o.name (name_of e) ≡ true = looked-for i ∙ eq-eqb id e h in
        let n : some (same o.name) inner_names ≡ true = stands ∙ ap inner_of h ∙ i in
        record { past = o.past; inside = o.inside; first = rw (o.walk, n, k); leads = met.1 }

    pub member-other : Inner e → (id ≡ e → ⊥) → inner_of id ≡ true → MemberIs s l e at (Other end behind)
    unfolding keep each leading
    member-other i h d =
        let k : same o.name (name_of e) ≡ false = looked-for i ∙ ne_eqb id e h in
        let n : some (same o.name) inner_names ≡ true = stands ∙ d in
        record { past = o.past; inside = o.inside; rest = rw (o.walk, n, k); leads = met.1 }

    pub member-past : inner_of id ≡ false → MemberIs s l e at Last
    unfolding keep each leading
    member-past d = let n : some (same o.name) inner_names ≡ false = stands ∙ d in rw (o.walk, n)

-- ---- The next element of this name.
module _ (s : Text) (l : List ℕ) (e from at : ℕ) (left : inside_at s e from ≡ inside_at s e at) (order : from ≤ at) (r : Member) (is : MemberIs s l e at r) where
  pub next_last : r ≡ Last → NextIs s l e from None
  next_last q = let z : MemberIs s l e at Last = rw q at is in left ∙ z

  pub next_here : (tag : StartTag) → r ≡ Here tag → NextIs s l e from (Some tag)
  next_here tag q =
      let z : HereIs s l e at tag.end tag.entry = rw q at is in
      record { past = omega (arith, z.past); inside = z.inside; first = left ∙ z.first; leads = z.leads }

  module _ (n entry : ℕ) (q : r ≡ Other n entry) where
    pub next-on : Onward s l e at n entry
    next-on = rw q at is

    pub next-left : inside_at s e from ≡ inside_at s e n
    next-left = left ∙ next-on.rest

-- ---- The number of the first such element, and the set of the numbers of all.
module _ (ns : Names) (s : Text) (l : List ℕ) (e id i from : ℕ) where
  pub first-nothing : (n : ℕ) → NextIs s l e from None → NumberIs n (first_by ns id i (inside_at s e from)) None
  unfolding each
  first-nothing n z = record { number_is = rw z; small = tt }

  pub first-there : (tag : StartTag) → NextIs s l e from (Some tag) → (n : ℕ) (f : Option ℕ) → NumberIs n (number_by ns id i (given_at s tag.end)) f →
      NumberIs n (first_by ns id i (inside_at s e from)) f
  unfolding each
  first-there tag is n f k = rw is.first k

  pub set_first : set_from 0 (each (number_by ns id i) (inside_at s e from)) ≡ set_by ns id i (inside_at s e from)
  set_first = set-from (each (number_by ns id i) (inside_at s e from))

  module _ (m at : ℕ) (left : set_from m (each (number_by ns id i) (inside_at s e at)) ≡ set_by ns id i (inside_at s e from)) where
    pub set-end : inside_at s e at ≡ [] → just m ≡ set_by ns id i (inside_at s e from)
    unfolding each set_from
    set-end q = rw q at left

    module _ (n end entry : ℕ) (is : HereIs s l e at end entry) where
      pub set-unnamed : NumberIs n (number_by ns id i (given_at s end)) None → none ≡ set_by ns id i (inside_at s e from)
      unfolding each set_from
      set-unnamed number = rw (is.first, ← number.number_is) at left

      pub set_on : (k : ℕ) → NumberIs n (number_by ns id i (given_at s end)) (Some k) →
          set_from (plus m k) (each (number_by ns id i) (inside_at s e end)) ≡ set_by ns id i (inside_at s e from)
      unfolding each set_from
      set_on k number = rw (is.first, ← number.number_is) at left
