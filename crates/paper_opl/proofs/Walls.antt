-- Walls: the objects in their blocks that the row of kind 18 finds are those that the pass over the tags finds. And the limits on partitionings, walls and
-- blocks hold in the definition if and only if the counts of the pass stay within theirs.
use mathlib.Core.Path.{◌≡◌, refl, sym, ap, ◌∙◌}
use mathlib.Core.List.{List, [], ◌∷◌, ◌++◌, append_assoc, append-nil}
use mathlib.Core.Bool.{Bool, true, false, not, cond, ◌&&◌, false≢true}
use Prim.Native.Nat.{ℕ, suc, ◌+◌, ◌-◌, ◌*◌, ◌≤◌}
use native.Mathlib.Omega.{arith}
use lib.Dec.{leb}
use borrow.Author.Tests.{not-true, leb-true, leb-false, le-leb, lt-leb}
use Rattle.paper_lower.specs.Lists.{some, every, many, keep, lists_open}
use Rattle.paper_lower.proofs.ListLaws.{both, or-none, many-append}
use Rattle.paper_opl.specs.Reading.{Text, text, same, reading_open}
use Rattle.paper_opl.specs.Elements.{Child, elements_of, row_in, elements_open}
use Rattle.paper_opl.specs.Tree.{Given, Elements, Tag, tags_of}
use Rattle.paper_opl.specs.Tree.Elements.{nothing, node}
use Rattle.paper_opl.specs.Naming.{Found, those, insides, in_each, in_walls, few_of}
use Rattle.paper_opl.specs.Walk.{Context, start, turn, few, few_from, kinds, kind_in, kind_at}
use Rattle.paper_opl.proofs.Inversion.{on_test}
use Rattle.paper_opl.proofs.Conforms.{same_true, for_names, child-has, Fits, row_has, row-name, root}
use Rattle.paper_opl.proofs.Groups.{group_test, stands-in, stands-out, turning, turns, turns-append, told}
use Rattle.paper_opl.proofs.Judging.{every_append}
use Rattle.paper_opl.proofs.KindByKind.{of_kind, said, hit, miss, nothing-told, parts, Sets, turn-sets, turns-sets, only, other, keep_append, partitioning, numbered-found}

abbrev wall : Text
wall = text "module_chinese_wall_policy"

abbrev block : Text
block = text "cw_partition"

abbrev object : Text
object = text "partition_object"

-- ---- Kind 18: objects, numbered by the block in which they occur.

only-object : every (only object 18) kinds ≡ true
unfolding lists_open reading_open kinds
only-object = refl

object-kind : (c : Context) (w : Text) (gs : List Given) → same w object ≡ true → kind_at c (record { name = w; given = gs }) ≡ 18
unfolding reading_open kinds kind_in
object-kind c w gs e = rw (same_true w object e)

no-partition : (w : Text) → same w object ≡ true → same w (text "hdsodtp_partition") ≡ false
unfolding reading_open
no-partition w e = rw (same_true w object e)

own-object : (c : Context) (w : Text) (gs : List Given) (i : List Tag) → Sets c
    → of_kind 18 (said c (record { name = w; given = gs }) i) ≡ cond (same w object) (record { number = c.blocks - 1; given = gs; inside = i } ∷ []) []
own-object c w gs i h =
    on_test (same w object)
    (λ q. hit 18 c (record { name = w; given = gs }) i refl (object-kind c w gs q) ∙ rw (no-partition w q, q))
    (λ q. miss 18 c (record { name = w; given = gs }) i (other 18 c (record { name = w; given = gs }) object h refl refl refl only-object q) ∙ rw q)

blocks-group : every (group_test (λ w. same w block) (λ w. some (same w) (object ∷ []))) (elements_of true) ≡ true
unfolding lists_open reading_open elements_open
blocks-group = refl

object-still : every (λ w. not (turning w)) (object ∷ []) ≡ true
unfolding lists_open reading_open
object-still = refl

block-turns : (w : Text) → turning w ≡ false → same w block ≡ false
block-turns w e =
    let a = or-none (same w (text "static_separation_of_duty")) _ e in
    let b = or-none (same w (text "dynamic_separation_of_duty")) _ a.1 in
    let d = or-none (same w partitioning) _ b.1 in
    (or-none (same w wall) (same w block) d.1).1

object-in : (w : Text) → some (same w) (object ∷ []) ≡ false → same w object ≡ false
unfolding some
object-in w e = (or-none (same w object) false e).0

-- The elements inside a wall, except its objects.
unfoldable about_blocks : List Text
about_blocks = text "cw_partitions" ∷ block ∷ text "uocws" ∷ []

abbrev around_blocks : Text → Bool
around_blocks w = some (same w) about_blocks

around-test : every (λ e. cond (around_blocks e.name) (cond (same e.name block) true (for_names around_blocks e.children)) true) (elements_of true) ≡ true
unfolding lists_open reading_open elements_open about_blocks
around-test = refl

around-in : (w : Text) → around_blocks w ≡ true → same w block ≡ false → for_names around_blocks (row_in (elements_of true) w).children ≡ true
unfolding every
around-in w h q =
    let r = row_has (λ e. cond (around_blocks e.name) (cond (same e.name block) true (for_names around_blocks e.children)) true) (elements_of true) w
    (λ v. on_test (around_blocks v) (λ a. rw a (on_test (same v block) (λ b. rw b) (λ b. rw b))) (λ a. rw a)) around-test in
    let z : cond (around_blocks w) (cond (same w block) true (for_names around_blocks (row_in (elements_of true) w).children)) true ≡ true
    = rw (ap (λ (v : Text). cond (around_blocks v) (cond (same v block) true (for_names around_blocks (row_in (elements_of true) w).children)) true)
    (sym (row-name (elements_of true) w))) r in
    rw (h, q) at z

around-apart : (w : Text) → around_blocks w ≡ true → (some (same w) (object ∷ []) ≡ false) × (same w wall ≡ false)
unfolding lists_open reading_open about_blocks
around-apart w h =
    on_test (same w (text "cw_partitions")) (λ q. rw (same_true w (text "cw_partitions") q) (refl, refl))
    (λ q. on_test (same w block) (λ p. rw (same_true w block p) (refl, refl))
    (λ p. on_test (same w (text "uocws")) (λ o. rw (same_true w (text "uocws") o) (refl, refl)) (λ o. absurd (false≢true (rw (q, p, o) at h)))))

block-counted : (c : Context) (t : Tag) → same t.name wall ≡ false → (turn c t).blocks ≡ cond (same t.name block) (suc c.blocks) c.blocks
unfolding turn
block-counted c t e = rw e

in_blocks : (cs : List Child) → for_names around_blocks cs ≡ true → (es : Elements) → Fits cs es → (c : Context) → Sets c
    → of_kind 18 (told c es) ≡ in_each c.blocks object (insides block es)
in_blocks =
    numbered-found 18 object block (object ∷ []) (λ c. c.blocks) around_blocks blocks-group object-still block-turns own-object object-in
    (λ w h. (around-apart w h).0) around-in (λ c t h. block-counted c t (around-apart t.name h).1)

-- ---- Walls.

unfoldable in_wall_names : List Text
in_wall_names = text "cw_partitions" ∷ block ∷ object ∷ text "uocws" ∷ []

abbrev in_wall : Text → Bool
in_wall w = some (same w) in_wall_names

walls-group : every (group_test (λ w. same w wall) in_wall) (elements_of true) ≡ true
unfolding lists_open reading_open elements_open in_wall_names
walls-group = refl

wall-row : for_names around_blocks (row_in (elements_of true) wall).children ≡ true
unfolding lists_open reading_open elements_open about_blocks
wall-row = refl

no-wall : (w : Text) → in_wall w ≡ true → same w wall ≡ false
unfolding lists_open reading_open in_wall_names
no-wall w h = on_test (same w wall) (λ q. absurd (false≢true (rw (same_true w wall q) at h))) (λ q. q)

outside-wall : (w : Text) → in_wall w ≡ false → (same w object ≡ false) × (same w block ≡ false)
unfolding some in_wall_names
outside-wall w e =
    let a = or-none (same w (text "cw_partitions")) _ e in
    let b = or-none (same w block) _ a.1 in
    ((or-none (same w object) _ b.1).0, b.0)

none_of : (xs : List Elements) → xs ≡ [] → many xs ≡ 0
unfolding many
none_of xs r = rw r

-- There is no wall inside a wall.
no-walls : (cs : List Child) → for_names in_wall cs ≡ true → (es : Elements) → Fits cs es → insides wall es ≡ []
unfolding Fits insides
no-walls cs h nothing f = refl
no-walls cs h (node w gs i b) f =
    let n : in_wall w ≡ true = child-has in_wall cs w h f.0 in
    let q = no-wall w n in
    rw (q, no-walls (row_in (elements_of true) w).children (stands-in (λ w. same w wall) in_wall w walls-group (rw (q, n))) i f.1, no-walls cs h b f.2)

-- There are as many tags of a name as elements of that name.
pub tags-of : (w : Text) (es : Elements) → many (keep (λ t. same t.name w) (tags_of es)) ≡ many (insides w es)
unfolding tags_of insides keep many
tags-of w nothing = refl
tags-of w (node v gs i b) =
    let x = tags-of w i in
    let y = tags-of w b in
    let k = ap (λ (l : List Tag). many l) (keep_append (λ t. same t.name w) (tags_of i) (tags_of b)) in
    let m = many-append (keep (λ t. same t.name w) (tags_of i)) (keep (λ t. same t.name w) (tags_of b)) in
    let n = many-append (insides w i) (insides w b) in
    on_test (same v w) (λ q. rw q (omega arith)) (λ q. rw q (omega arith))

walls-turned : (c : Context) (t : Tag) → (turn c t).walls ≡ cond (same t.name wall) (suc c.walls) c.walls
unfolding turn
walls-turned c t = refl

walls-counted : (ts : List Tag) (c : Context) → (turns c ts).walls ≡ many (keep (λ t. same t.name wall) ts) + c.walls
unfolding turns keep many
walls-counted [] c = let z : 0 + c.walls ≡ c.walls = omega arith in sym z
walls-counted (t ∷ ts) c =
    let x = walls-counted ts (turn c t) in
    let y = walls-turned c t in
    on_test (same t.name wall) (λ q. let z = rw q at y in rw q (omega arith)) (λ q. let z = rw q at y in rw q (omega arith))

walled-append : (k : ℕ) (xs ys : List Elements) → in_walls k block object (xs ++ ys) ≡ in_walls k block object xs ++ in_walls (many xs + k) block object ys
unfolding in_walls many
walled-append k [] ys = let z : 0 + k ≡ k = omega arith in rw z
walled-append k (x ∷ xs) ys =
    let z : many xs + suc k ≡ suc (many xs) + k = omega arith in
    ap (λ (l : List Found). in_each (16 * k) object (insides block x) ++ l)
    (walled-append (suc k) xs ys ∙ ap (λ (n : ℕ). in_walls (suc k) block object xs ++ in_walls n block object ys) z)
    ∙ sym (append_assoc (in_each (16 * k) object (insides block x)) (in_walls (suc k) block object xs) (in_walls (suc (many xs) + k) block object ys))

wall-begun : (c : Context) (t : Tag) → same t.name wall ≡ true → (turn c t).blocks ≡ 16 * c.walls
unfolding turn
wall-begun c t e = rw e

in-walls : (cs : List Child) → for_names (λ v. not (in_wall v)) cs ≡ true → (es : Elements) → Fits cs es → (c : Context) → Sets c
    → of_kind 18 (told c es) ≡ in_walls c.walls block object (insides wall es)
unfolding Fits insides in_walls many
in-walls cs h nothing f c s = nothing-told 18 c
in-walls cs h (node w gs i b) f c s =
    on_test (same w wall)
    (λ q.
    let r : insides wall i ≡ [] =
    no-walls (row_in (elements_of true) w).children (stands-in (λ w. same w wall) in_wall w walls-group (rw q)) i f.1 in
    let x = in_blocks (row_in (elements_of true) w).children (rw (same_true w wall q) wall-row) i f.1 d (turn-sets c t s) in
    let y = in-walls cs h b f.2 (turns d (tags_of i)) (turns-sets d (tags_of i) (turn-sets c t s)) in
    let m = walls-counted (tags_of i) d in
    let n = tags-of wall i in
    let v : d.walls ≡ suc c.walls = walls-turned c t ∙ rw q in
    let m2 = none_of (insides wall i) r in
    let k : (turns d (tags_of i)).walls ≡ suc c.walls = omega arith in
    parts 18 c w gs i b [] (in_each (16 * c.walls) object (insides block i)) (in_walls (suc c.walls) block object (insides wall b)) not_own
    (x ∙ rw (wall-begun c t q)) (y ∙ rw k)
    ∙ rw (q, r))
    (λ q.
    let x =
    in-walls (row_in (elements_of true) w).children (stands-out (λ w. same w wall) in_wall w walls-group (rw (q, out))) i f.1 d (turn-sets c t s) in
    let y = in-walls cs h b f.2 (turns d (tags_of i)) (turns-sets d (tags_of i) (turn-sets c t s)) in
    let v : d.walls ≡ c.walls = walls-turned c t ∙ rw q in
    let k : (turns d (tags_of i)).walls ≡ many (insides wall i) + c.walls = walls-counted (tags_of i) d ∙ rw (tags-of wall i, v) in
    parts 18 c w gs i b [] (in_walls c.walls block object (insides wall i)) (in_walls (many (insides wall i) + c.walls) block object (insides wall b)) not_own
    (x ∙ rw v) (y ∙ rw k)
    ∙ rw q (sym (walled-append c.walls (insides wall i) (insides wall b))))
  where
    t : Tag
    t = record { name = w; given = gs }

    d : Context
    d = turn c t

    out : in_wall w ≡ false
    out = not-true (in_wall w) (child-has (λ v. not (in_wall v)) cs w h f.0)

    not_own : of_kind 18 (said c t (tags_of i)) ≡ []
    not_own = own-object c w gs (tags_of i) s ∙ rw (outside-wall w out).0

-- ---- The limits on walls, blocks and partitionings.

-- The number of the next block is at most 16 times the number of walls: the last wall has at most 16 blocks.
abbrev own : Context → Bool
own c = leb c.blocks (16 * c.walls)

-- The same now and after each tag.
unfoldable blocks_fit : Context → List Tag → Bool
blocks_fit c [] = own c
blocks_fit c (t ∷ ts) = own c && blocks_fit (turn c t) ts

whole-fit : (c : Context) → own c ≡ true → blocks_fit c [] ≡ true
unfolding blocks_fit
whole-fit c e = e

not-own-fit : (c : Context) (ts : List Tag) → own c ≡ false → blocks_fit c ts ≡ false
unfolding blocks_fit
not-own-fit c [] e = e
not-own-fit c (t ∷ ts) e = rw e

own-fit : (c : Context) (t : Tag) (ts : List Tag) → own c ≡ true → blocks_fit c (t ∷ ts) ≡ blocks_fit (turn c t) ts
unfolding blocks_fit
own-fit c t ts e = rw e

-- Tags that begin no wall.
module _ (c : Context) (t : Tag) (ts : List Tag) (q : same t.name wall ≡ false) where
  one_more : many (keep (λ t. same t.name block) ts) + (turn c t).blocks ≡ many (keep (λ t. same t.name block) (t ∷ ts)) + c.blocks
  unfolding keep many
  one_more =
      let k = block-counted c t q in
      on_test (same t.name block) (λ p. let z = rw p at k in rw p (omega arith)) (λ p. let z = rw p at k in rw p (omega arith))

  same-walls : (turn c t).walls ≡ c.walls
  same-walls = walls-turned c t ∙ rw q

no_more : (t : Tag) (ts : List Tag) → many (keep (λ t. same t.name wall) (t ∷ ts)) ≡ 0
    → (same t.name wall ≡ false) × (many (keep (λ t. same t.name wall) ts) ≡ 0)
unfolding keep many
no_more t ts h = on_test (same t.name wall) (λ q. absurd (let z = rw q at h in omega arith)) (λ q. (q, rw q at h))

none_more : (w : Text) (n : ℕ) → many (keep (λ (t : Tag). same t.name w) []) + n ≡ n
unfolding keep many
none_more w n = omega arith

blocks-counted : (ts : List Tag) (c : Context) → many (keep (λ t. same t.name wall) ts) ≡ 0
    → (turns c ts).blocks ≡ many (keep (λ t. same t.name block) ts) + c.blocks
unfolding turns
blocks-counted [] c h = sym (none_more block c.blocks)
blocks-counted (t ∷ ts) c h = let n = no_more t ts h in blocks-counted ts (turn c t) n.1 ∙ one_more c t ts n.0

unwalled : (ts : List Tag) (c : Context) (rest : List Tag) → many (keep (λ t. same t.name wall) ts) ≡ 0 → own c ≡ true
    → blocks_fit c (ts ++ rest) ≡ leb (many (keep (λ t. same t.name block) ts) + c.blocks) (16 * c.walls) && blocks_fit (turns c ts) rest
unfolding turns
unwalled [] c rest h o = rw (none_more block c.blocks, o)
unwalled (t ∷ ts) c rest h o =
    let n = no_more t ts h in
    let v = same-walls c t ts n.0 in
    let u = one_more c t ts n.0 in
    on_test (own (turn c t))
    (λ p. own-fit c t (ts ++ rest) o ∙ unwalled ts (turn c t) rest n.1 p ∙ rw (u, v))
    (λ p.
    let a = leb-false (turn c t).blocks (16 * (turn c t).walls) p in
    let g : leb (many (keep (λ t. same t.name block) (t ∷ ts)) + c.blocks) (16 * c.walls) ≡ false =
    lt-leb (many (keep (λ t. same t.name block) (t ∷ ts)) + c.blocks) (16 * c.walls) (omega arith) in
    own-fit c t (ts ++ rest) o ∙ not-own-fit (turn c t) (ts ++ rest) p ∙ rw g)

-- A wall with at most 16 blocks.
abbrev small : Elements → Bool
small es = leb (many (insides block es)) 16

wall-own : (c : Context) (t : Tag) → same t.name wall ≡ true → ((turn c t).blocks ≡ 16 * c.walls) × ((turn c t).walls ≡ suc c.walls)
wall-own c t q = (wall-begun c t q, walls-turned c t ∙ rw q)

free_own : (c : Context) (t : Tag) → same t.name wall ≡ false → same t.name block ≡ false → own (turn c t) ≡ own c
free_own c t q p =
    let b : (turn c t).blocks ≡ c.blocks = block-counted c t q ∙ rw p in
    let w : (turn c t).walls ≡ c.walls = walls-turned c t ∙ rw q in
    rw (b, w)

-- The blocks of all tags fit if and only if no wall among these elements has more than 16 blocks and the blocks of the rest fit.
record Walled (c : Context) (es : Elements) (rest : List Tag) : Type 0 where
  fits : blocks_fit c (tags_of es ++ rest) ≡ every small (insides wall es) && blocks_fit (turns c (tags_of es)) rest
  left : every small (insides wall es) ≡ true → own (turns c (tags_of es)) ≡ true

-- The two parts after an element's own tag: its content, and the elements after it.
joined : (c : Context) (w : Text) (gs : List Given) (i b : Elements) (rest : List Tag) (x y : Bool) → own c ≡ true
    → every small (insides wall (node w gs i b)) ≡ x && y
    → blocks_fit (turn c (record { name = w; given = gs })) (tags_of i ++ (tags_of b ++ rest)) ≡
    x && blocks_fit (turns (turn c (record { name = w; given = gs })) (tags_of i)) (tags_of b ++ rest)
    → (x ≡ true → (blocks_fit (turns (turn c (record { name = w; given = gs })) (tags_of i)) (tags_of b ++ rest) ≡
    y && blocks_fit (turns (turns (turn c (record { name = w; given = gs })) (tags_of i)) (tags_of b)) rest) ×
    (y ≡ true → own (turns (turns (turn c (record { name = w; given = gs })) (tags_of i)) (tags_of b)) ≡ true))
    → Walled c (node w gs i b) rest
unfolding tags_of turns
joined c w gs i b rest x y o e f g = record {
  fits =
      own-fit c t ((tags_of i ++ tags_of b) ++ rest) o ∙ ap (blocks_fit d) (append_assoc (tags_of i) (tags_of b) rest) ∙ f
      ∙ on_test x (λ q. rw (q, e, turns-append d (tags_of i) (tags_of b)) (rw q (g q).0)) (λ q. rw (e, q));
  left = λ h.
      let k = both x y (sym e ∙ h) in
      ap (λ (z : Context). own z) (turns-append d (tags_of i) (tags_of b)) ∙ (g k.0).1 k.1;
}
  where
    t : Tag
    t = record { name = w; given = gs }

    d : Context
    d = turn c t

walls-fit : (cs : List Child) → for_names (λ v. not (in_wall v)) cs ≡ true → (es : Elements) → Fits cs es → (c : Context) (rest : List Tag) → own c ≡ true
    → Walled c es rest
unfolding Fits insides every tags_of turns
walls-fit cs h nothing f c rest o = record { fits = refl; left = λ _. o }
walls-fit cs h (node w gs i b) f c rest o =
    on_test (same w wall)
    (λ q.
    let r : insides wall i ≡ [] =
    no-walls (row_in (elements_of true) w).children (stands-in (λ w. same w wall) in_wall w walls-group (rw q)) i f.1 in
    let n : many (keep (λ t. same t.name wall) (tags_of i)) ≡ 0 = tags-of wall i ∙ none_of (insides wall i) r in
    let k = wall-own c t q in
    let k0 = k.0 in
    let k1 = k.1 in
    let m = tags-of block i in
    let od : own d ≡ true = le-leb d.blocks (16 * d.walls) (omega arith) in
    let g : leb (many (keep (λ t. same t.name block) (tags_of i)) + d.blocks) (16 * d.walls) ≡ small i =
    on_test (small i)
    (λ p.
    let l = leb-true (many (insides block i)) 16 p in
    rw p (le-leb (many (keep (λ t. same t.name block) (tags_of i)) + d.blocks) (16 * d.walls) (omega arith)))
    (λ p.
    let l = leb-false (many (insides block i)) 16 p in
    rw p (lt-leb (many (keep (λ t. same t.name block) (tags_of i)) + d.blocks) (16 * d.walls) (omega arith))) in
    joined c w gs i b rest (small i) (every small (insides wall b)) o (rw (q, r)) (unwalled (tags_of i) d (tags_of b ++ rest) n od ∙ rw g)
    (λ p.
    let l = leb-true (many (insides block i)) 16 p in
    let eb = blocks-counted (tags_of i) d n in
    let ew = walls-counted (tags_of i) d in
    let y = walls-fit cs h b f.2 (turns d (tags_of i)) rest
    (le-leb (turns d (tags_of i)).blocks (16 * (turns d (tags_of i)).walls) (omega arith)) in
    (y.fits, y.left)))
    (λ q.
    let od : own d ≡ true = free_own c t q (outside-wall w out).1 ∙ o in
    let x =
    walls-fit (row_in (elements_of true) w).children (stands-out (λ w. same w wall) in_wall w walls-group (rw (q, out))) i f.1 d (tags_of b ++ rest) od in
    joined c w gs i b rest (every small (insides wall i)) (every small (insides wall b)) o
    (rw q (every_append small (insides wall i) (insides wall b))) x.fits
    (λ p. let y = walls-fit cs h b f.2 (turns d (tags_of i)) rest (x.left p) in (y.fits, y.left)))
  where
    t : Tag
    t = record { name = w; given = gs }

    d : Context
    d = turn c t

    out : in_wall w ≡ false
    out = not-true (in_wall w) (child-has (λ v. not (in_wall v)) cs w h f.0)

-- The limits on partitionings, walls and blocks, each apart from the others.
and-false : (x : Bool) → x && false ≡ false
and-false true = refl
and-false false = refl

three : (a b o p w k : Bool) → (p ≡ true → a ≡ true) → (w ≡ true → b ≡ true) → (a && (b && o)) && (p && (w && k)) ≡ p && (w && (o && k))
three a b o true true k f g = rw (f refl, g refl)
three a b o true false k f g = and-false (a && (b && o))
three a b o false w k f g = and-false (a && (b && o))

-- A number is at most 16 if a larger one is.
fewer : (a n b : ℕ) → a ≤ n + b → leb (n + b) 16 ≡ true → leb a 16 ≡ true
fewer a n b l e = let k = leb-true (n + b) 16 e in le-leb a 16 (omega arith)

partitionings-step : (c : Context) (t : Tag) (ts : List Tag) →
    many (keep (λ t. same t.name partitioning) (t ∷ ts)) + c.partitionings ≡ many (keep (λ t. same t.name partitioning) ts) + (turn c t).partitionings
unfolding turn keep many
partitionings-step c t ts = on_test (same t.name partitioning) (λ q. rw q (omega arith)) (λ q. rw q)

walls-step : (c : Context) (t : Tag) (ts : List Tag) →
    many (keep (λ t. same t.name wall) (t ∷ ts)) + c.walls ≡ many (keep (λ t. same t.name wall) ts) + (turn c t).walls
unfolding turn keep many
walls-step c t ts = on_test (same t.name wall) (λ q. rw q (omega arith)) (λ q. rw q)

few-apart : (ts : List Tag) (c : Context)
    → few_from c ts
    ≡ leb (many (keep (λ t. same t.name partitioning) ts) + c.partitionings) 16
    && (leb (many (keep (λ t. same t.name wall) ts) + c.walls) 16 && blocks_fit c ts)
unfolding few_from blocks_fit
few-apart [] c = rw (none_more partitioning c.partitionings, none_more wall c.walls)
few-apart (t ∷ ts) c =
    let p = partitionings-step c t ts in
    let w = walls-step c t ts in
    ap (λ (b : Bool). few c && b) (few-apart ts (turn c t)) ∙ rw (p, w)
    (three (leb c.partitionings 16) (leb c.walls 16) (own c) _ _ (blocks_fit (turn c t) ts)
    (fewer c.partitionings (many (keep (λ t. same t.name partitioning) ts)) (turn c t).partitionings (omega arith))
    (fewer c.walls (many (keep (λ t. same t.name wall) ts)) (turn c t).walls (omega arith)))

those-tags : (w : Text) (k : ℕ) (es : Elements) → many (those w k es) ≡ many (keep (λ t. same t.name w) (tags_of es))
unfolding tags_of those keep many
those-tags w k nothing = refl
those-tags w k (node v gs i b) =
    let x = those-tags w k i in
    let y = those-tags w k b in
    let l = ap (λ (l : List Tag). many l) (keep_append (λ t. same t.name w) (tags_of i) (tags_of b)) in
    let m = many-append (keep (λ t. same t.name w) (tags_of i)) (keep (λ t. same t.name w) (tags_of b)) in
    let n = many-append (those w k i) (those w k b) in
    on_test (same v w) (λ q. rw q (omega arith)) (λ q. rw q (omega arith))

root-out : for_names (λ v. not (in_wall v)) root ≡ true
unfolding lists_open reading_open elements_open in_wall_names
root-out = refl

pub in-all-walls : (es : Elements) → Fits root es → of_kind 18 (told start es) ≡ in_walls 0 block object (insides wall es)
in-all-walls es f = in-walls root root-out es f start refl

pub few-are : (es : Elements) → Fits root es → few_of es ≡ few_from start (tags_of es)
unfolding few_of
few-are es f =
    let x = walls-fit root root-out es f start [] refl in
    let b : blocks_fit start (tags_of es) ≡ every small (insides wall es) =
    ap (blocks_fit start) (sym (append-nil (tags_of es))) ∙ x.fits
    ∙ on_test (every small (insides wall es)) (λ q. rw q (whole-fit (turns start (tags_of es)) (x.left q))) (λ q. rw q) in
    let z : (n : ℕ) → n + 0 ≡ n = λ n. omega arith in
    sym (few-apart (tags_of es) start ∙ rw (
      z (many (keep (λ t. same t.name partitioning) (tags_of es))),
      z (many (keep (λ t. same t.name wall) (tags_of es))),
      b,
      sym (those-tags partitioning 0 es),
      tags-of wall es,
    ))
