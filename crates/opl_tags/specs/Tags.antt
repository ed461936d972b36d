-- What the results of the readers of attributes and tags mean in paper_opl's pass from left to right. If the text cannot be read, they give no index, because
-- the text has been judged before.
use Rattle.std.specs.Prelude.{ℕ, zero, suc, ◌+◌, ◌-◌, ◌≤◌, ◌<◌, ◌≡◌, Bool, not, cond, ◌||◌, List, [], ◌∷◌, eqb, length, take, drop, Option, Some, None}
use Rattle.paper_lower.specs.Lists.{Maybe}
use Rattle.paper_lower.specs.Lists.Maybe.{none, just}
use Rattle.paper_opl.specs.Reading.{Text, text, Read, after, starts, expect, behind, skip, space, misc, name}
use Rattle.paper_opl.specs.Reading.Read.{got, bad}
use Rattle.paper_opl.specs.Tree.{Given, Tag as Tagged}
use Rattle.paper_opl.specs.Walk.{plain, onward}
use Rattle.opl_tags.specs.declared.Attribute.{Attribute}
use Rattle.opl_tags.specs.declared.Attribute.TheVariants.{Pair, Done, Stop}
use Rattle.opl_tags.specs.declared.Part.{Part}
use Rattle.opl_tags.specs.declared.Tag.{Tag}
use Rattle.opl_tags.specs.declared.Tag.TheVariants.{Start, End}

-- A result without the place of its refusal.
abbrev pub placeless : {A : Type 0} → Read A → Read A
placeless (got x r) = got x r
placeless (bad r) = bad []

-- ---- One attribute.

-- Reads an attribute after white space; `none` if the start tag ends there.
unfoldable pub given : Text → Read (Maybe Given)
given s =
    cond (starts (text ">") (skip s) || starts (text "/") (skip s)) (got none (skip s))
    (after (space s) (λ _ r. after (plain r) (λ g u. got (just g) u)))

-- The meaning of an `Attribute`.
abbrev pub attribute_of : Text → Attribute → Read (Maybe Given)
attribute_of s (Pair from end value close) = got (just (record { name = take (end - from) (drop from s); value = take (close - value) (drop value s) })) (drop (close + 1) s)
attribute_of s (Done i) = got none (drop i s)
attribute_of s Stop = bad []

-- The indices of an attribute rise and are not past the end.
pub record Within (s : Text) (at from end value close : ℕ) : Type 0 where
  pub behind : at ≤ from
  pub name : from < end
  pub apart : end < value
  pub order : value ≤ close
  pub inside : close + 1 ≤ length s

-- The same for the code's result.
abbrev pub Stands : Text → ℕ → Attribute → Type 0
Stands s at (Pair from end value close) = Within s at from end value close
Stands s at (Done i) = (at ≤ i) × (i ≤ length s)
Stands s at Stop = Unit {0}

-- The contract of the readers of one attribute.
pub record ReadsAttribute (s : Text) (at : ℕ) (read : Read (Maybe Given)) (r : Attribute) : Type 0 where
  pub read_is : attribute_of s r ≡ placeless read
  pub stands : Stands s at r

-- ---- All attributes of a start tag.

-- An attribute followed by those of the rest of the text; none if it cannot be read.
abbrev pub collected_on : Read (Maybe Given) → (Text → List Given) → List Given
collected_on (got none r) f = []
collected_on (got (just g) r) f = g ∷ f r
collected_on (bad r) f = []

-- The attributes that can be read, at most n.
unfoldable pub collected : ℕ → Text → List Given
collected zero s = []
collected (suc n) s = collected_on (given s) (λ r. collected n r)

-- The attributes of the start tag whose name ends at this index.
abbrev pub given_at : Text → ℕ → List Given
given_at s at = collected (length (drop at s)) (drop at s)

-- The contract of `value_place`: the part p of the text s is the value w.
pub record Valued (s w : Text) (p : Part) : Type 0 where
  pub value : take (p.to - p.from) (drop p.from s) ≡ w
  pub order : p.from ≤ p.to
  pub inside : p.to ≤ length s

-- ---- A tag.

-- Whether a byte cannot begin a tag.
abbrev pub shut : ℕ → Bool
shut b = not (eqb b 60)

-- Reads the next tag up to the end of its name, from the next "<" on that begins no comment; an end tag yields nothing. In an accepted text that is the next
-- tag, although the rest of the tag before is skipped without reading: no "<" occurs in it.
unfoldable pub next_tag : Text → Read (List Tagged)
next_tag s =
    after (misc (length (behind shut s)) (behind shut s)) (λ _ r. after (expect (text "<") r) (λ _ u. cond (starts (text "/") u) (got [] u)
    (after (name u) (λ w z. got (record { name = w; given = collected (length z) z } ∷ []) z))))

-- The start tags of a text, of which at most n tags are read.
unfoldable pub next_tags : ℕ → Text → List Tagged
next_tags zero s = []
next_tags (suc n) s = onward (next_tag s) (λ r. next_tags n r)

-- The start tags from an index on.
abbrev pub walk_at : Text → ℕ → List Tagged
walk_at s at = next_tags (length (drop at s)) (drop at s)

-- The meaning of the code's result.
abbrev pub tag_of : Text → Option Tag → Read (List Tagged)
tag_of s (Some (Start name end)) = got (record { name = take (end - name) (drop name s); given = given_at s end } ∷ []) (drop end s)
tag_of s (Some (End next)) = got [] (drop next s)
tag_of s None = bad []

-- The indices of a start tag rise and are not past the end.
pub record Opens (s : Text) (name end : ℕ) : Type 0 where
  pub named : name < end
  pub inside : end ≤ length s

-- The same for the code's result.
abbrev pub TagStands : Text → Option Tag → Type 0
TagStands s (Some (Start name end)) = Opens s name end
TagStands s (Some (End next)) = next ≤ length s
TagStands s None = Unit {0}

-- The contract of `read_tag`.
pub record ReadsTag (s : Text) (read : Read (List Tagged)) (r : Option Tag) : Type 0 where
  pub read_is : tag_of s r ≡ placeless read
  pub stands : TagStands s r
