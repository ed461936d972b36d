-- The tags of the elements inside an element that yields a record come directly after its own tag. So the records that tags yield in their order are those
-- that the elements yield.
use mathlib.Core.Path.{◌≡◌, refl, sym, ap, ◌∙◌}
use mathlib.Core.List.{List, [], ◌∷◌, ◌++◌, append_assoc, append-nil}
use mathlib.Core.Bool.{Bool, true, false, not, cond, ◌||◌}
use lib.Dec.{eqb}
use borrow.Author.Tests.{eqb-true, not-true, not-false}
use Rattle.paper_lower.specs.Lists.{some, every, lists_open}
use Rattle.paper_lower.proofs.ListLaws.{or-none}
use Rattle.paper_opl.specs.Reading.{Text, text, same, reading_open}
use Rattle.paper_opl.specs.Elements.{Child, Element, elements_of, row_in, elements_open}
use Rattle.paper_opl.specs.Tree.{Elements, Tag, tags_of}
use Rattle.paper_opl.specs.Tree.Elements.{nothing, node}
use Rattle.paper_opl.specs.Walk.{Context, turn, kinds, kind_in, kind_at, inner_names, leading, Saying, saying, sayings}
use Rattle.paper_opl.proofs.Inversion.{on_test}
use Rattle.paper_opl.proofs.Conforms.{for_names, name-has, child-has, Fits, row_has, row-name}

-- ---- Groups of elements: heads, and the elements inside them. One test over the table shows how they are nested.

-- The test of a row: in a head, and in an element inside one, all children are inside elements; in any other element none is.
abbrev pub group_test : (Text → Bool) → (Text → Bool) → Element → Bool
group_test heads ins e = cond (heads e.name || ins e.name) (for_names ins e.children) (for_names (λ v. not (ins v)) e.children)

module _ (heads ins : Text → Bool) (w : Text) where
  group-row : every (group_test heads ins) (elements_of true) ≡ true →
      cond (heads w || ins w) (for_names ins (row_in (elements_of true) w).children) (for_names (λ v. not (ins v)) (row_in (elements_of true) w).children) ≡ true
  unfolding every
  group-row h =
      rw (ap (λ (v : Text). cond (heads v || ins v) (for_names ins (row_in (elements_of true) w).children)
      (for_names (λ v. not (ins v)) (row_in (elements_of true) w).children))
      (sym (row-name (elements_of true) w)))
      (row_has (group_test heads ins) (elements_of true) w (λ v. on_test (heads v || ins v) (λ q. rw q) (λ q. rw q)) h)

  pub stands-in : every (group_test heads ins) (elements_of true) ≡ true → heads w || ins w ≡ true → for_names ins (row_in (elements_of true) w).children ≡ true
  stands-in h e = rw e at (group-row h)

  pub stands-out : every (group_test heads ins) (elements_of true) ≡ true → heads w || ins w ≡ false →
      for_names (λ v. not (ins v)) (row_in (elements_of true) w).children ≡ true
  stands-out h e = rw e at (group-row h)

-- Elements that yield a record, in some context.
pub head : Text → Bool
head w = not (eqb (kind_in kinds w) 0) || same w (text "critical_role_set")

abbrev pub inner_name : Text → Bool
inner_name w = some (same w) inner_names

heads-group : every (group_test head inner_name) (elements_of true) ≡ true
unfolding lists_open reading_open elements_open kinds kind_in inner_names head
heads-group = refl

inner-quiet : every (λ w. not (head w)) inner_names ≡ true
unfolding lists_open reading_open kinds kind_in inner_names head
inner-quiet = refl

-- Elements that change the context.
abbrev pub turning : Text → Bool
turning w =
    same w (text "static_separation_of_duty") || (same w (text "dynamic_separation_of_duty") || (same w (text "hdsodtp_partitioning")
    || (same w (text "module_chinese_wall_policy") || same w (text "cw_partition"))))

inner-still : every (λ w. not (turning w)) inner_names ≡ true
unfolding lists_open reading_open inner_names
inner-still = refl

pub still : (c : Context) (t : Tag) → turning t.name ≡ false → turn c t ≡ c
unfolding turn
still c t e =
    let a = or-none (same t.name (text "static_separation_of_duty")) _ e in
    let b = or-none (same t.name (text "dynamic_separation_of_duty")) _ a.1 in
    let d = or-none (same t.name (text "hdsodtp_partitioning")) _ b.1 in
    let f = or-none (same t.name (text "module_chinese_wall_policy")) (same t.name (text "cw_partition")) d.1 in
    rw (a.0, b.0, d.0, f.0, f.1)

pub quiet : (c : Context) (t : Tag) → head t.name ≡ false → kind_at c t ≡ 0
unfolding head
quiet c t e =
    let a = or-none (not (eqb (kind_in kinds t.name) 0)) (same t.name (text "critical_role_set")) e in
    rw a.1 (eqb-true _ _ (not-false (eqb (kind_in kinds t.name) 0) a.0))

-- ---- What elements yield, in the order of the text.

-- The context after some tags.
unfoldable pub turns : Context → List Tag → Context
turns c [] = c
turns c (t ∷ ts) = turns (turn c t) ts

-- The elements that yield a record, with its kind, in the order of the text.
unfoldable pub told : Context → Elements → List Saying
told c nothing = []
told c (node w gs inside behind) =
    cond (eqb (kind_at c (record { name = w; given = gs })) 0) [] (saying c (record { name = w; given = gs }) (tags_of inside) ∷ [])
    ++ told (turn c (record { name = w; given = gs })) inside
    ++ told (turns (turn c (record { name = w; given = gs })) (tags_of inside)) behind

pub turns-append : (c : Context) (ts us : List Tag) → turns c (ts ++ us) ≡ turns (turns c ts) us
unfolding turns
turns-append c [] us = refl
turns-append c (t ∷ ts) us = turns-append (turn c t) ts us

-- Elements that all occur inside one that yields a record: they yield none and do not change the context.
pub record Silent (c : Context) (es : Elements) (rest : List Tag) : Type 0 where
  pub says_nothing : told c es ≡ []
  pub turns-nothing : turns c (tags_of es) ≡ c
  pub adds-nothing : sayings c (tags_of es ++ rest) ≡ sayings c rest
  pub leads : leading (tags_of es ++ rest) ≡ tags_of es ++ leading rest

silent : (cs : List Child) → for_names inner_name cs ≡ true → (es : Elements) → Fits cs es → (c : Context) (rest : List Tag) → Silent c es rest
unfolding Fits tags_of told turns sayings leading
silent cs h nothing f c rest = record { says_nothing = refl; turns-nothing = refl; adds-nothing = refl; leads = refl }
silent cs h (node w gs i b) f c rest =
    let n : inner_name w ≡ true = child-has inner_name cs w h f.0 in
    let q : head w ≡ false = not-true (head w) (name-has (λ v. not (head v)) inner_names w inner-quiet n) in
    let k : kind_at c (record { name = w; given = gs }) ≡ 0 = quiet c (record { name = w; given = gs }) q in
    let m : turn c (record { name = w; given = gs }) ≡ c =
    still c (record { name = w; given = gs }) (not-true (turning w) (name-has (λ v. not (turning v)) inner_names w inner-still n)) in
    let x = silent (row_in (elements_of true) w).children (stands-in head inner_name w heads-group (rw (q, n))) i f.1 c (tags_of b ++ rest) in
    let y = silent cs h b f.2 c rest in
    record {
      says_nothing = rw (k, m, x.says_nothing, x.turns-nothing, y.says_nothing);
      turns-nothing =
          ap (λ (d : Context). turns d (tags_of i ++ tags_of b)) m ∙ turns-append c (tags_of i) (tags_of b) ∙
          ap (λ (d : Context). turns d (tags_of b)) x.turns-nothing ∙ y.turns-nothing;
      adds-nothing = rw (k, m, append_assoc (tags_of i) (tags_of b) rest, x.adds-nothing, y.adds-nothing);
      leads = rw (n, append_assoc (tags_of i) (tags_of b) rest, x.leads, y.leads, append_assoc (tags_of i) (tags_of b) (leading rest));
    }

-- Elements that do not occur inside such an element end the tags that belong to it.
leads-out : (cs : List Child) → for_names (λ v. not (inner_name v)) cs ≡ true → (es : Elements) → Fits cs es → (rest : List Tag) → leading rest ≡ [] →
    leading (tags_of es ++ rest) ≡ []
unfolding Fits tags_of leading
leads-out cs h nothing f rest l = l
leads-out cs h (node w gs i b) f rest l = rw (not-true (inner_name w) (child-has (λ v. not (inner_name v)) cs w h f.0))

joined : {A : Type 0} (s t a b z x : List A) → s ≡ t → x ≡ a ++ (b ++ z) → s ++ x ≡ ((t ++ a) ++ b) ++ z
joined s t a b z x p q = rw (p, q, append_assoc (t ++ a) b z, append_assoc t a (b ++ z))

pub told_is : (cs : List Child) → for_names (λ v. not (inner_name v)) cs ≡ true → (es : Elements) → Fits cs es → (c : Context) (rest : List Tag) →
    leading rest ≡ []
    → sayings c (tags_of es ++ rest) ≡ told c es ++ sayings (turns c (tags_of es)) rest
unfolding Fits tags_of told turns sayings
told_is cs h nothing f c rest l = refl
told_is cs h (node w gs i b) f c rest l =
    joined _ _ (told d i) (told (turns d (tags_of i)) b) (sayings (turns d (tags_of i ++ tags_of b)) rest) (sayings d ((tags_of i ++ tags_of b) ++ rest))
    (on_test (head w) (λ q. ap (λ (x : List Tag). cond (eqb (kind_at c t) 0) [] (saying c t x ∷ [])) (leading-all q)) (λ q. rw (quiet c t q)))
    (ap (sayings d) (append_assoc (tags_of i) (tags_of b) rest) ∙
    on_test (head w) (λ q. all_in q) (λ q. told_is (row_in (elements_of true) w).children (outer q) i f.1 d (tags_of b ++ rest) out)
    ∙ ap (λ (x : List Saying). told d i ++ x) (told_is cs h b f.2 (turns d (tags_of i)) rest l ∙
    ap (λ (x : Context). told (turns d (tags_of i)) b ++ sayings x rest) (sym (turns-append d (tags_of i) (tags_of b)))))
  where
    t : Tag
    t = record { name = w; given = gs }

    d : Context
    d = turn c t

    out : leading (tags_of b ++ rest) ≡ []
    out = leads-out cs h b f.2 rest l

    hushed : head w ≡ true → Silent d i (tags_of b ++ rest)
    hushed q = silent (row_in (elements_of true) w).children (stands-in head inner_name w heads-group (rw q)) i f.1 d (tags_of b ++ rest)

    leading-all : head w ≡ true → leading ((tags_of i ++ tags_of b) ++ rest) ≡ tags_of i
    leading-all q = ap leading (append_assoc (tags_of i) (tags_of b) rest) ∙ (hushed q).leads ∙ ap (λ (x : List Tag). tags_of i ++ x) out ∙ append-nil (tags_of i)

    all_in : head w ≡ true → sayings d (tags_of i ++ (tags_of b ++ rest)) ≡ told d i ++ sayings (turns d (tags_of i)) (tags_of b ++ rest)
    all_in q = let x = hushed q in x.adds-nothing ∙ sym (rw (x.says_nothing, x.turns-nothing))

    outer : head w ≡ false → for_names (λ v. not (inner_name v)) (row_in (elements_of true) w).children ≡ true
    outer q = stands-out head inner_name w heads-group (rw (q, not-true (inner_name w) (child-has (λ v. not (inner_name v)) cs w h f.0)))
