-- The code finds a name among the places of a state or of an attribute list exactly as the definitions find it among the children or attributes. Each of the
-- two tables is one computation.
use mathlib.Core.Path.{◌≡◌, refl, sym, ap, ◌∙◌}
use mathlib.Core.List.{List, [], ◌∷◌}
use mathlib.Core.Bool.{Bool, true, false, cond, ◌||◌}
use Prim.Native.Nat.{ℕ, zero, suc, ◌+◌, ◌-◌, ◌/◌, ◌%◌, ◌<◌, ◌≤◌}
use native.Mathlib.Omega.{arith}
use lib.ListN.{length, get_or, get_or-eq_default}
use Rattle.paper_lower.specs.Lists.{Maybe, some, keep, each}
use Rattle.paper_lower.specs.Lists.Maybe.{none, just}
use Rattle.paper_opl.specs.Reading.{Text, text, same}
use Rattle.paper_opl.specs.Elements.{Attribute, Child, elements, needed, follow, next}
use Rattle.paper_opl.specs.Tree.{find, without}
use Rattle.paper_opl.proofs.Conforms.{same_true}
use Rattle.opl_text.proofs.Same.{same-swap}
use Rattle.std.specs.Prelude.{Option, Some, None}
use Rattle.std.proofs.lemmas.Option.{none-some}
use Rattle.opl_table.specs.declared.Known.{Known}
use Rattle.opl_table.specs.declared.TheConstants.{STATE_FROM, LIST_FROM, PLACE_NAME, PLACE_THEN}
use Rattle.opl_table.specs.Numbers.{names, name_of, stages, joined, lefts, left_of, lists, list_of, class_of}
use Rattle.opl_table.specs.Found.{place_of, Follows, Allows}
use Rattle.opl_table.proofs.Cases.{values_to, agree, lefts-length, lists_length}

-- ---- The first item that has a given name, and the code's search for its place.

first_by : {A : Type 0} → (A → Text) → List A → Text → Maybe A
first_by name [] v = none
first_by name (x ∷ xs) v = cond (same v (name x)) (just x) (first_by name xs v)

-- The items at n places from k on.
range : {A : Type 0} → (ℕ → A) → ℕ → ℕ → List A
range f k zero = []
range f k (suc n) = f k ∷ range f (k + 1) n

number_in : Option Known → ℕ
number_in (Some known) = known.number
number_in None = 0

after_in : Option Known → ℕ
after_in (Some known) = known.after
after_in None = 0

module _ {A : Type 0} (name : A → Text) (f : ℕ → A) (named : (k : ℕ) → name (f k) ≡ name_of (get_or PLACE_NAME k 0)) (v : Text) where
  taken : (k n j : ℕ) → place_of v k n ≡ Some j → (first_by name (range f k n) v ≡ just (f j)) × (v ≡ name (f j))
  unfolding place_of range first_by
  taken k zero j e = absurd (none-some j e)
  taken k (suc n) j e = go (same v (name (f k))) refl (ap (λ x. cond (same v x) (Some k) (place_of v (k + 1) n)) (named k) ∙ e) (taken (k + 1) n j)
    where
      go : (b : Bool) → same v (name (f k)) ≡ b → cond b (Some k) (place_of v (k + 1) n) ≡ Some j
          → (place_of v (k + 1) n ≡ Some j → (first_by name (range f (k + 1) n) v ≡ just (f j)) × (v ≡ name (f j)))
          → (cond b (just (f k)) (first_by name (range f (k + 1) n) v) ≡ just (f j)) × (v ≡ name (f j))
      go true s e h = let q : k ≡ j = cc in (rw q, same_true v (name (f k)) s ∙ rw q)
      go false s e h = h e

  not_taken : (k n : ℕ) → place_of v k n ≡ None → first_by name (range f k n) v ≡ none
  unfolding place_of range first_by
  not_taken k zero e = refl
  not_taken k (suc n) e = go (same v (name (f k))) (ap (λ x. cond (same v x) (Some k) (place_of v (k + 1) n)) (named k) ∙ e) (not_taken (k + 1) n)
    where
      go : (b : Bool) → cond b (Some k) (place_of v (k + 1) n) ≡ None → (place_of v (k + 1) n ≡ None → first_by name (range f (k + 1) n) v ≡ none)
          → cond b (just (f k)) (first_by name (range f (k + 1) n) v) ≡ none
      go true e h = absurd (none-some k (sym e))
      go false e h = h e

-- The search, place by place.
module _ (v : Text) (k end : ℕ) where
  pub no_place : end ≤ k → place_of v k (end - k) ≡ None
  unfolding place_of
  no_place h = let e : end - k ≡ 0 = omega arith in rw e

  pub place_here : k < end → true ≡ same v (name_of (get_or PLACE_NAME k 0)) → place_of v k (end - k) ≡ Some k
  unfolding place_of
  place_here h s = let e : end - k ≡ suc (end - (k + 1)) = omega arith in rw (e, sym s)

  pub place_more : k < end → false ≡ same v (name_of (get_or PLACE_NAME k 0)) → place_of v k (end - k) ≡ place_of v (k + 1) (end - (k + 1))
  unfolding place_of
  place_more h s = let e : end - k ≡ suc (end - (k + 1)) = omega arith in rw (e, sym s)

-- ---- Children: the names that may occur in a state, each with the children that may follow it.

record Way : Type 0 where
  name : Text
  left : List Child

name_in : Way → Text
name_in w = w.name

left_in : Maybe Way → Maybe (List Child)
left_in none = none
left_in (just w) = just w.left

-- A way is a name that may come next, with the children that may follow it. These are the ways of a child with the names ws; then those of a list of children.
ways_of : List Text → List Child → List Way → List Way
ways_of [] f more = more
ways_of (w ∷ ws) f more = record { name = w; left = f } ∷ ways_of ws f more

ways : List Child → List Way
ways [] = []
ways (c ∷ cs) = ways_of c.names (follow c.times c.names cs) (cond (needed c.times) [] (ways cs))

some-way : (ws : List Text) (f : List Child) (more : List Way) (v : Text) →
    left_in (first_by name_in (ways_of ws f more) v) ≡ cond (some (same v) ws) (just f) (left_in (first_by name_in more v))
unfolding ways_of first_by some left_in name_in
some-way [] f more v = refl
some-way (w ∷ ws) f more v = go (same v w) (some-way ws f more v)
  where
    go : (b : Bool) → left_in (first_by name_in (ways_of ws f more) v) ≡ cond (some (same v) ws) (just f) (left_in (first_by name_in more v))
        → left_in (cond b (just (record { name = w; left = f })) (first_by name_in (ways_of ws f more) v)) ≡
        cond (b || some (same v) ws) (just f) (left_in (first_by name_in more v))
    go true h = refl
    go false h = h

next-ways : (cs : List Child) (v : Text) → next cs v ≡ left_in (first_by name_in (ways cs) v)
unfolding next ways first_by left_in
next-ways [] v = refl
next-ways (c ∷ cs) v =
    sym
    (some-way c.names (follow c.times c.names cs) (cond (needed c.times) [] (ways cs)) v
    ∙ ap (λ x. cond (some (same v) c.names) (just (follow c.times c.names cs)) x) (go (needed c.times) (next-ways cs v)))
  where
    go : (b : Bool) → next cs v ≡ left_in (first_by name_in (ways cs) v) → left_in (first_by name_in (cond b [] (ways cs)) v) ≡ cond b none (next cs v)
    go true h = refl
    go false h = sym h

-- The way at place k of the code's numbers.
way_at : ℕ → Way
way_at k = record { name = name_of (get_or PLACE_NAME k 0); left = left_of (get_or PLACE_THEN k 0) }

way-named : (k : ℕ) → name_in (way_at k) ≡ name_of (get_or PLACE_NAME k 0)
unfolding name_in way_at
way-named k = refl

-- The ways of a state, by the definition and by the code's numbers.
ways_from : ℕ → List Way
ways_from left = ways (left_of left)

coded_ways : ℕ → List Way
coded_ways left = range way_at (get_or STATE_FROM left 0) (get_or STATE_FROM (left + 1) 0 - get_or STATE_FROM left 0)

all_coded : values_to ways_from 60 ≡ values_to coded_ways 60
unfolding ways_from coded_ways ways ways_of range way_at left_of lefts stages joined each elements text name_of names
all_coded = refl

module _ (v : Text) (left from end : ℕ) (h : left < 60) (f : from ≡ get_or STATE_FROM left 0) (g : end ≡ get_or STATE_FROM (left + 1) 0) (p : Option ℕ) (e : p ≡ place_of v from (end - from)) where
  here : next (left_of left) v ≡ left_in (first_by name_in (range way_at from (end - from)) v)
  unfolding ways_from coded_ways
  here = next-ways (left_of left) v ∙ rw (f, g) (ap (λ x. left_in (first_by name_in x v)) (agree ways_from coded_ways 60 all_coded left h))

  pub child-known : (k id more : ℕ) → p ≡ Some k → id ≡ get_or PLACE_NAME k 0 → more ≡ get_or PLACE_THEN k 0
      → Follows v (left_of left) (Some (record { number = id; after = more }))
  unfolding left_in way_at name_in number_in
  child-known k id more q i m =
      let t = taken name_in way_at way-named v from (end - from) k (sym e ∙ q) in
      record {
        moved = here ∙ ap left_in t.0 ∙ rw m;
        named = λ known z. let j : id ≡ known.number = ap number_in z in t.1 ∙ rw (sym i, j);
      }

  pub child-unknown : p ≡ None → Follows v (left_of left) None
  unfolding left_in
  child-unknown q = record {
    moved = here ∙ ap left_in (not_taken name_in way_at way-named v from (end - from) (sym e ∙ q));
    named = λ known z. absurd (none-some known z);
  }

pub child-past : (v : Text) (left : ℕ) → 60 ≤ left → Follows v (left_of left) None
unfolding next left_of
child-past v left h =
    let n : length lefts ≤ left = omega (arith, lefts-length) in
    let e : get_or lefts left [] ≡ [] = get_or-eq_default lefts [] n in
    record { moved = rw e; named = λ known z. absurd (none-some known z) }

-- ---- Attributes: those that may be given, each with those that may be given after it.

record Part : Type 0 where
  attribute : Attribute
  rest : List Attribute

name_on : Part → Text
name_on p = p.attribute.name

attribute_in : Maybe Part → Maybe Attribute
attribute_in none = none
attribute_in (just p) = just p.attribute

-- The attributes of a list, each with those that may be given after it.
parts : List Attribute → List Attribute → List Part
parts whole [] = []
parts whole (a ∷ us) = record { attribute = a; rest = without a.name whole } ∷ parts whole us

find-parts : (whole us : List Attribute) (v : Text) → find us v ≡ attribute_in (first_by name_on (parts whole us) v)
unfolding find parts first_by name_on attribute_in
find-parts whole [] v = refl
find-parts whole (a ∷ us) v = rw (same-swap a.name v) (go (same v a.name) (find-parts whole us v))
  where
    go : (b : Bool) → find us v ≡ attribute_in (first_by name_on (parts whole us) v)
        → cond b (just a) (find us v) ≡
        attribute_in (cond b (just (record { attribute = a; rest = without a.name whole })) (first_by name_on (parts whole us) v))
    go true h = refl
    go false h = h

part-rest : (whole us : List Attribute) (v : Text) (p : Part) → first_by name_on (parts whole us) v ≡ just p → p.rest ≡ without p.attribute.name whole
unfolding parts first_by name_on
part-rest whole [] v p e = absurd (let z : ◌≡◌ {A = ℕ} 0 1 = cc in omega arith)
part-rest whole (a ∷ us) v p e = go (same v a.name) e (part-rest whole us v p)
  where
    go : (b : Bool) → cond b (just (record { attribute = a; rest = without a.name whole })) (first_by name_on (parts whole us) v) ≡ just p
        → (first_by name_on (parts whole us) v ≡ just p → p.rest ≡ without p.attribute.name whole)
        → p.rest ≡ without p.attribute.name whole
    go true e h = let q : record { attribute = a; rest = without a.name whole } ≡ p = cc in
        ap (λ x. x.rest) (sym q) ∙ ap (λ (x : Part). without x.attribute.name whole) q
    go false e h = h e

-- The attribute at place k of the code's numbers.
part_at : ℕ → Part
part_at k = record {
  attribute = record { name = name_of (get_or PLACE_NAME k 0); class = class_of (get_or PLACE_THEN k 0 / 64) };
  rest = list_of (get_or PLACE_THEN k 0 % 64);
}

part-named : (k : ℕ) → name_on (part_at k) ≡ name_of (get_or PLACE_NAME k 0)
unfolding name_on part_at
part-named k = refl

-- The attributes of a list, by the definition and by the code's numbers.
parts_from : ℕ → List Part
parts_from list = parts (list_of list) (list_of list)

coded_parts : ℕ → List Part
coded_parts list = range part_at (get_or LIST_FROM list 0) (get_or LIST_FROM (list + 1) 0 - get_or LIST_FROM list 0)

all_listed : values_to parts_from 33 ≡ values_to coded_parts 33
unfolding parts_from coded_parts parts keep same range part_at list_of lists each elements text name_of names
all_listed = refl

module _ (v : Text) (list from end : ℕ) (h : list < 33) (f : from ≡ get_or LIST_FROM list 0) (g : end ≡ get_or LIST_FROM (list + 1) 0) (p : Option ℕ) (e : p ≡ place_of v from (end - from)) where
  these : parts (list_of list) (list_of list) ≡ range part_at from (end - from)
  unfolding parts_from coded_parts
  these = rw (f, g) (agree parts_from coded_parts 33 all_listed list h)

  looked : find (list_of list) v ≡ attribute_in (first_by name_on (range part_at from (end - from)) v)
  looked = find-parts (list_of list) (list_of list) v ∙ ap (λ x. attribute_in (first_by name_on x v)) these

  pub attribute-known : (k n : ℕ) → p ≡ Some k → n ≡ get_or PLACE_THEN k 0
      → Allows v (list_of list) (Some (record { number = n / 64; after = n % 64 }))
  unfolding attribute_in part_at name_on after_in
  attribute-known k n q m =
      let t = taken name_on part_at part-named v from (end - from) k (sym e ∙ q) in
      record {
        found = looked ∙ ap attribute_in t.0 ∙ rw (m, t.1);
        behind = λ known z.
            let j : n % 64 ≡ known.after = ap after_in z in
            let r = part-rest (list_of list) (list_of list) v (part_at k) (ap (λ x. first_by name_on x v) these ∙ t.0) in
            ap (λ x. without x (list_of list)) t.1 ∙ sym r ∙ rw (sym m, j);
      }

  pub attribute-unknown : p ≡ None → Allows v (list_of list) None
  unfolding attribute_in
  attribute-unknown q = record {
    found = looked ∙ ap attribute_in (not_taken name_on part_at part-named v from (end - from) (sym e ∙ q));
    behind = λ known z. absurd (none-some known z);
  }

pub attribute-past : (v : Text) (list : ℕ) → 33 ≤ list → Allows v (list_of list) None
unfolding find list_of
attribute-past v list h =
    let n : length lists ≤ list = omega (arith, lists_length) in
    let e : get_or lists list [] ≡ [] = get_or-eq_default lists [] n in
    record { found = rw e; behind = λ known z. absurd (none-some known z) }
