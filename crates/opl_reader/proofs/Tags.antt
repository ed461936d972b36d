-- The start tag of an element and its end tag.
use mathlib.Core.Path.{◌≡◌, refl}
use mathlib.Core.List.{[], ◌∷◌}
use mathlib.Core.Bool.{Bool, true, false, cond, ◌&&◌, ◌||◌}
use Prim.Native.Nat.{ℕ, zero, suc, ◌+◌, ◌/◌, ◌<◌, ◌≤◌}
use native.Mathlib.Omega.{arith}
use lib.ListN.{length, drop}
use lib.Seq.{drop-drop}
use Rattle.paper_opl.specs.Reading.{Text, Read, after, text, same, starts, expect, skip, name}
use Rattle.paper_opl.specs.Reading.Read.{got, bad}
use Rattle.paper_opl.specs.Elements.{elements_of, row_in, next, may_end}
use Rattle.paper_opl.specs.Tree.{if-found, attributes, opening, ending}
use Rattle.paper_opl.specs.Tree.Elements.{nothing}
use Rattle.opl_text.proofs.Laws.{starts-next}
use Rattle.opl_table.specs.Numbers.{name_of, left_of}
use Rattle.opl_reader.specs.Grammar.{forget, attributes_read, tagged, tagged_in}
use Rattle.opl_reader.proofs.Chain.{name_room, one_bad, one_got, one_room, judged}

-- ---- "<" and the name of an element.

module _ (s : Text) (at left : ℕ) where
  pub no_opening : starts (60 ∷ []) (drop at s) ≡ false → opening (left_of left) (drop at s) ≡ bad (drop at s)
  unfolding opening text
  no_opening f = rw (starts-next 60 (33 ∷ []) s at, starts-next 60 (63 ∷ []) s at, f, one_bad 60 at s f)

  module _ (o : starts (60 ∷ []) (drop at s) ≡ true) where
    pub other_opening : starts (33 ∷ []) (drop (at + 1) s) || starts (63 ∷ []) (drop (at + 1) s) ≡ true → opening (left_of left) (drop at s) ≡ bad (drop at s)
    unfolding opening text
    other_opening e = rw (starts-next 60 (33 ∷ []) s at, starts-next 60 (63 ∷ []) s at, o, e)

    pub opens : starts (33 ∷ []) (drop (at + 1) s) || starts (63 ∷ []) (drop (at + 1) s) ≡ false → opening (left_of left) (drop at s) ≡
        after (name (drop (at + 1) s)) (λ v u. if-found (next (left_of left) v) (bad (drop at s)) (λ cs. got (record { name = v; left = cs }) u))
    unfolding opening text
    opens e = rw (starts-next 60 (33 ∷ []) s at, starts-next 60 (63 ∷ []) s at, o, e, one_got 60 at s o)

-- ---- The rest of the start tag. The depth that is still allowed is half of n.

module _ (s : Text) (all : Bool) (n id more : ℕ) where
  pub tag_deep : n < 2 → tagged_in all (n / 2) id more s ≡ bad s
  unfolding tagged_in tagged
  tag_deep h = let e : n / 2 ≡ 0 = omega arith in rw e

  pub tag_is : 2 ≤ n → tagged_in all (n / 2) id more s ≡
      after (attributes_read (row_in (elements_of all) (name_of id)).attributes s) (λ _ r. got (record { name = name_of id; left = left_of more }) r)
  unfolding tagged_in tagged attributes_read
  tag_is h = go (n / 2) (omega arith)
    where
      go : (d : ℕ) → (d ≡ 0 → ⊥) → tagged all d (record { name = name_of id; left = left_of more }) s ≡
          after (forget (attributes (length s) (row_in (elements_of all) (name_of id)).attributes s)) (λ _ r. got (record { name = name_of id; left = left_of more }) r)
      go zero z = absurd (z refl)
      go (suc d) z = judged (attributes (length s) (row_in (elements_of all) (name_of id)).attributes s) (record { name = name_of id; left = left_of more })

-- ---- The end tag.

pub ending_is : (s : Text) (at id left : ℕ) → forget (ending (name_of id) (left_of left) (drop at s)) ≡
    after (name (drop (at + 2) s)) (λ v r. cond (same v (name_of id) && may_end (left_of left)) (expect (62 ∷ []) (skip r)) (bad (drop at s)))
unfolding ending text
ending_is s at id left = rw (drop-drop 2 at s) (go (name (drop (at + 2) s)))
  where
    closed : (b : Bool) (x : Read (Unit {0})) → forget (cond b (after x (λ _ u. got nothing u)) (bad (drop at s))) ≡ cond b x (bad (drop at s))
    closed true (got v r) = refl
    closed true (bad r) = refl
    closed false x = refl

    go : (x : Read Text) →
        forget (after x (λ v r. cond (same v (name_of id) && may_end (left_of left)) (after (expect (62 ∷ []) (skip r)) (λ _ u. got nothing u)) (bad (drop at s))))
        ≡ after x (λ v r. cond (same v (name_of id) && may_end (left_of left)) (expect (62 ∷ []) (skip r)) (bad (drop at s)))
    go (got v r) = closed (same v (name_of id) && may_end (left_of left)) (expect (62 ∷ []) (skip r))
    go (bad r) = refl

-- What `named` and `ending` need.
pub ruleset named_steps = (no_opening, other_opening, opens, name_room, one_room)

pub ruleset ending_steps = (ending_is, name_room, one_bad, one_got, one_room)
