-- Kind by kind: the elements that a row of the definition finds for a record are those that the pass over the tags finds.
use mathlib.Core.Path.{◌≡◌, refl, sym, ap, ◌∙◌}
use mathlib.Core.List.{List, [], ◌∷◌, ◌++◌, append_assoc}
use mathlib.Core.Bool.{Bool, true, false, not, cond, ◌&&◌, ◌||◌, false≢true, true≢false}
use Prim.Native.Nat.{ℕ, suc, ◌+◌, ◌-◌}
use native.Mathlib.Omega.{arith}
use lib.Dec.{eqb}
use borrow.Author.Tests.{eqb-true, eq-eqb, not-true}
use Rattle.paper_lower.specs.Lists.{some, every, many, keep, each, lists_open}
use Rattle.paper_lower.proofs.ListLaws.{both, or-none, many-append}
use Rattle.paper_opl.specs.Reading.{Text, text, same, reading_open}
use Rattle.paper_opl.specs.Elements.{Child, elements_of, row_in, elements_open}
use Rattle.paper_opl.specs.Tree.{Given, Elements, Tag, tags_of}
use Rattle.paper_opl.specs.Tree.Elements.{nothing, node}
use Rattle.paper_opl.specs.Naming.{Found, those, insides, in_all, in_each}
use Rattle.paper_opl.specs.Walk.{Context, turn, kinds, kind_in, kind_at, Saying, saying}
use Rattle.paper_opl.proofs.Inversion.{on_test}
use Rattle.paper_opl.proofs.Conforms.{same_true, for_names, name-has, child-has, Fits}
use Rattle.paper_opl.proofs.Groups.{group_test, stands-in, stands-out, turning, still, turns, turns-append, told}

-- ---- Lists.

pub keep_append : {A : Type 0} (p : A → Bool) (xs ys : List A) → keep p (xs ++ ys) ≡ keep p xs ++ keep p ys
unfolding keep
keep_append p [] ys = refl
keep_append p (x ∷ xs) ys = on_test (p x) (λ q. rw (q, keep_append p xs ys)) (λ q. rw (q, keep_append p xs ys))

pub each_append : {A B : Type 0} (f : A → B) (xs ys : List A) → each f (xs ++ ys) ≡ each f xs ++ each f ys
unfolding each
each_append f [] ys = refl
each_append f (x ∷ xs) ys = ap (λ l. f x ∷ l) (each_append f xs ys)

-- What was found for one kind.
unfoldable pub of_kind : ℕ → List Saying → List Found
of_kind k xs = each (λ x. x.found) (keep (λ x. eqb x.kind k) xs)

kind-append : (k : ℕ) (xs ys : List Saying) → of_kind k (xs ++ ys) ≡ of_kind k xs ++ of_kind k ys
unfolding of_kind
kind-append k xs ys =
    ap (each (λ x. x.found)) (keep_append (λ x. eqb x.kind k) xs ys) ∙
    each_append (λ x. x.found) (keep (λ x. eqb x.kind k) xs) (keep (λ x. eqb x.kind k) ys)

-- What one tag yields; its kind is k, or it is not.
abbrev pub said : Context → Tag → List Tag → List Saying
said c t inside = cond (eqb (kind_at c t) 0) [] (saying c t inside ∷ [])

pub hit : (k : ℕ) (c : Context) (t : Tag) (inside : List Tag) → eqb k 0 ≡ false → kind_at c t ≡ k → of_kind k (said c t inside) ≡ (saying c t inside).found ∷ []
unfolding of_kind keep each
hit k c t inside z e = rw (e, z, eq-eqb k k refl)

pub miss : (k : ℕ) (c : Context) (t : Tag) (inside : List Tag) → eqb (kind_at c t) k ≡ false → of_kind k (said c t inside) ≡ []
unfolding of_kind keep each
miss k c t inside e = on_test (eqb (kind_at c t) 0) (λ q. rw q) (λ q. rw (q, e))

pub nothing-told : (k : ℕ) (c : Context) → of_kind k (told c nothing) ≡ []
unfolding of_kind told keep each
nothing-told k c = refl

-- What an element yields has three parts: its own record, those of its content, and those of the elements after it.
pub parts : (k : ℕ) (c : Context) (w : Text) (gs : List Given) (i b : Elements) (x y z : List Found)
    → of_kind k (said c (record { name = w; given = gs }) (tags_of i)) ≡ x
    → of_kind k (told (turn c (record { name = w; given = gs })) i) ≡ y
    → of_kind k (told (turns (turn c (record { name = w; given = gs })) (tags_of i)) b) ≡ z
    → of_kind k (told c (node w gs i b)) ≡ x ++ y ++ z
unfolding told
parts k c w gs i b x y z p q r =
    kind-append k (said c (record { name = w; given = gs }) (tags_of i) ++ told (turn c (record { name = w; given = gs })) i)
    (told (turns (turn c (record { name = w; given = gs })) (tags_of i)) b)
    ∙ ap (λ (l : List Found). l ++ of_kind k (told (turns (turn c (record { name = w; given = gs })) (tags_of i)) b))
    (kind-append k (said c (record { name = w; given = gs }) (tags_of i)) (told (turn c (record { name = w; given = gs })) i))
    ∙ rw (p, q, r)

-- ---- Contexts.

-- Sets of roles have kind 9 or 10.
abbrev pub Sets : Context → Type 0
Sets c = eqb c.sets 9 || eqb c.sets 10 ≡ true

pub turn-sets : (c : Context) (t : Tag) → Sets c → Sets (turn c t)
unfolding turn
turn-sets c t h =
    on_test (same t.name (text "static_separation_of_duty")) (λ q. rw q)
    (λ q. on_test (same t.name (text "dynamic_separation_of_duty")) (λ p. rw (q, p)) (λ p. rw (q, p) h))

pub turns-sets : (c : Context) (ts : List Tag) → Sets c → Sets (turns c ts)
unfolding turns
turns-sets c [] h = h
turns-sets c (t ∷ ts) h = turns-sets (turn c t) ts (turn-sets c t h)

-- ---- Kinds whose elements count wherever they occur.

-- If an entry of the table has the kind k, its name is e.
abbrev pub only : Text → ℕ → Text × ℕ → Bool
only e k x = cond (eqb x.1 k) (same x.0 e) true

only_one : (e : Text) (k : ℕ) (xs : List (Text × ℕ)) (w : Text) → eqb k 0 ≡ false → every (only e k) xs ≡ true → same w e ≡ false → eqb (kind_in xs w) k ≡ false
unfolding kind_in every
only_one e k [] w z h s = on_test (eqb 0 k) (λ q. absurd (true≢false (sym (eq-eqb k 0 (sym (eqb-true 0 k q))) ∙ z))) (λ q. q)
only_one e k (x ∷ xs) w z h s =
    let b = both (only e k x) (every (only e k) xs) h in
    on_test (same w x.0)
    (λ q. rw q (on_test (eqb x.1 k) (λ o. absurd (false≢true (sym s ∙ ap (λ (v : Text). same v e) (same_true w x.0 q) ∙ (rw o at b.0)))) (λ o. o)))
    (λ q. rw q (only_one e k xs w z b.1 s))

-- The kind k belongs to the element e alone, and e counts wherever it occurs.
unfoldable pub simple_test : Text → ℕ → Bool
simple_test e k =
    eqb (kind_in kinds e) k && (not (same e (text "critical_role_set")) &&
    (not (same e (text "hdsodtp_partition")) && (not (same e (text "partition_object")) &&
    (not (eqb k 0) && (not (eqb 9 k) && (not (eqb 10 k) && every (only e k) kinds))))))

-- Another element has another kind.
module _ (k : ℕ) (c : Context) (t : Tag) (e : Text) where
  pub other : Sets c → eqb k 0 ≡ false → eqb 9 k ≡ false → eqb 10 k ≡ false → every (only e k) kinds ≡ true → same t.name e ≡ false →
      eqb (kind_at c t) k ≡ false
  other h z n m o s =
      on_test (same t.name (text "critical_role_set"))
      (λ q. rw q (on_test (eqb c.sets 9) (λ p. rw (eqb-true c.sets 9 p) n) (λ p. rw (eqb-true c.sets 10 (rw p at h)) m)))
      (λ q. rw q (only_one e k kinds t.name z o s))

module _ (e : Text) (k : ℕ) (test : simple_test e k ≡ true) where
  own : (c : Context) (w : Text) (gs : List Given) (i : List Tag) → Sets c
      → of_kind k (said c (record { name = w; given = gs }) i) ≡ cond (same w e) (record { number = 0; given = gs; inside = i } ∷ []) []
  unfolding simple_test
  own c w gs i h =
      let a = both (eqb (kind_in kinds e) k) _ test in
      let b = both (not (same e (text "critical_role_set"))) _ a.1 in
      let d = both (not (same e (text "hdsodtp_partition"))) _ b.1 in
      let l = both (not (same e (text "partition_object"))) _ d.1 in
      let f = both (not (eqb k 0)) _ l.1 in
      let g = both (not (eqb 9 k)) _ f.1 in
      let j = both (not (eqb 10 k)) (every (only e k) kinds) g.1 in
      on_test (same w e)
      (λ q.
      let v = same_true w e q in
      let x : same w (text "critical_role_set") ≡ false = rw v (not-true _ b.0) in
      let y : kind_in kinds w ≡ k = rw v (eqb-true _ _ a.0) in
      let z : same w (text "hdsodtp_partition") ≡ false = rw v (not-true _ d.0) in
      let u : same w (text "partition_object") ≡ false = rw v (not-true _ l.0) in
      hit k c (record { name = w; given = gs }) i (not-true _ f.0) (rw (x, y)) ∙ rw (q, z, u))
      (λ q. miss k c (record { name = w; given = gs }) i
      (other k c (record { name = w; given = gs }) e h (not-true _ f.0) (not-true _ g.0) (not-true _ j.0) j.1 q) ∙ rw q)

  pub simple : (c : Context) → Sets c → (es : Elements) → of_kind k (told c es) ≡ those e 0 es
  unfolding those
  simple c h nothing = nothing-told k c
  simple c h (node w gs i b) =
      parts k c w gs i b _ _ _ (own c w gs (tags_of i) h) (simple (turn c (record { name = w; given = gs })) (turn-sets c (record { name = w; given = gs }) h) i)
      (simple (turns (turn c (record { name = w; given = gs })) (tags_of i))
      (turns-sets (turn c (record { name = w; given = gs })) (tags_of i) (turn-sets c (record { name = w; given = gs }) h)) b)

-- ---- Elements numbered by the element around them: partitions by their partitioning, objects by their block.

each-numbered : (k : ℕ) (w : Text) (xs ys : List Elements) → in_each k w (xs ++ ys) ≡ in_each k w xs ++ in_each (many xs + k) w ys
unfolding in_each many
each-numbered k w [] ys = let z : 0 + k ≡ k = omega arith in rw z
each-numbered k w (x ∷ xs) ys =
    let z : many xs + suc k ≡ suc (many xs) + k = omega arith in
    ap (λ (l : List Found). those w k x ++ l) (each-numbered (suc k) w xs ys ∙ ap (λ (n : ℕ). in_each (suc k) w xs ++ in_each n w ys) z)
    ∙ sym (append_assoc (those w k x) (in_each (suc k) w xs) (in_each (suc (many xs) + k) w ys))

-- Elements `item` of kind k inside elements `outer`. `at` counts the outer elements, `ins` are the names inside them, and `free` holds for names outside.
module _ (k : ℕ) (item outer : Text) (ins : List Text) (at : Context → ℕ) (free : Text → Bool)
    (group : every (group_test (λ w. same w outer) (λ w. some (same w) ins)) (elements_of true) ≡ true)
    (in-still : every (λ w. not (turning w)) ins ≡ true)
    (outer-turns : (w : Text) → turning w ≡ false → same w outer ≡ false)
    (own-item : (c : Context) (w : Text) (gs : List Given) (i : List Tag) → Sets c
    → of_kind k (said c (record { name = w; given = gs }) i) ≡ cond (same w item) (record { number = at c - 1; given = gs; inside = i } ∷ []) [])
    (item_in : (w : Text) → some (same w) ins ≡ false → same w item ≡ false)
    (free-out : (w : Text) → free w ≡ true → some (same w) ins ≡ false)
    (Free-in : (w : Text) → free w ≡ true → same w outer ≡ false → for_names free (row_in (elements_of true) w).children ≡ true)
    (counts : (c : Context) (t : Tag) → free t.name ≡ true → at (turn c t) ≡ cond (same t.name outer) (suc (at c)) (at c))
  where
    -- Elements inside an outer one.
    record Within (c : Context) (es : Elements) : Type 0 where
      found-are : of_kind k (told c es) ≡ those item (at c - 1) es
      turns-not : turns c (tags_of es) ≡ c
      no_other : insides outer es ≡ []

    within : (cs : List Child) → for_names (λ w. some (same w) ins) cs ≡ true → (es : Elements) → Fits cs es → (c : Context) → Sets c → Within c es
    unfolding Fits those insides tags_of turns
    within cs h nothing f c s = record { found-are = nothing-told k c; turns-not = refl; no_other = refl }
    within cs h (node w gs i b) f c s =
        let n : some (same w) ins ≡ true = child-has (λ w. some (same w) ins) cs w h f.0 in
        let q : turning w ≡ false = not-true (turning w) (name-has (λ v. not (turning v)) ins w in-still n) in
        let m : turn c (record { name = w; given = gs }) ≡ c = still c (record { name = w; given = gs }) q in
        let p : same w outer ≡ false = outer-turns w q in
        let x =
        within (row_in (elements_of true) w).children (stands-in (λ w. same w outer) (λ w. some (same w) ins) w group (rw (p, n))) i f.1 c s in
        let y = within cs h b f.2 c s in
        record {
          found-are =
              parts k c w gs i b _ _ _ (own-item c w gs (tags_of i) s) (rw m x.found-are)
              (ap (λ (d : Context). of_kind k (told (turns d (tags_of i)) b)) m ∙ ap (λ (d : Context). of_kind k (told d b)) x.turns-not ∙ y.found-are);
          turns-not =
              ap (λ (d : Context). turns d (tags_of i ++ tags_of b)) m ∙ turns-append c (tags_of i) (tags_of b) ∙
              ap (λ (d : Context). turns d (tags_of b)) x.turns-not ∙
              y.turns-not;
          no_other = rw (p, x.no_other, y.no_other);
        }

    -- Elements elsewhere.
    record Numbered (c : Context) (es : Elements) : Type 0 where
      found-are : of_kind k (told c es) ≡ in_each (at c) item (insides outer es)
      counted : at (turns c (tags_of es)) ≡ many (insides outer es) + at c

    numbered : (cs : List Child) → for_names free cs ≡ true → (es : Elements) → Fits cs es → (c : Context) → Sets c → Numbered c es
    unfolding Fits insides tags_of turns in_each many
    numbered cs h nothing f c s = record { found-are = nothing-told k c; counted = let z : 0 + at c ≡ at c = omega arith in sym z }
    numbered cs h (node w gs i b) f c s =
        on_test (same w outer)
        (λ q.
        let x =
        within (row_in (elements_of true) w).children (stands-in (λ w. same w outer) (λ w. some (same w) ins) w group (rw q)) i f.1 d
        (turn-sets c t s) in
        let y = numbered cs h b f.2 d (turn-sets c t s) in
        let p : at d ≡ suc (at c) = counts c t is_free ∙ rw q in
        let n : suc (at c) - 1 ≡ at c = omega arith in
        let z = y.counted in
        record {
          found-are =
              parts k c w gs i b [] (those item (at c) i) (in_each (suc (at c)) item (insides outer b)) not_own
              (x.found-are ∙ rw (p, n)) (ap (λ (e : Context). of_kind k (told e b)) x.turns-not ∙ y.found-are ∙ rw p)
              ∙ rw (q, x.no_other);
          counted =
              ap at (turns-append d (tags_of i) (tags_of b) ∙ ap (λ (e : Context). turns e (tags_of b)) x.turns-not)
              ∙ rw (q, x.no_other) (omega arith);
        })
        (λ q.
        let x = numbered (row_in (elements_of true) w).children (Free-in w is_free q) i f.1 d (turn-sets c t s) in
        let y = numbered cs h b f.2 (turns d (tags_of i)) (turns-sets d (tags_of i) (turn-sets c t s)) in
        let p : at d ≡ at c = counts c t is_free ∙ rw q in
        let z = y.counted in
        let v = x.counted in
        let o = many-append (insides outer i) (insides outer b) in
        record {
          found-are =
              parts k c w gs i b [] (in_each (at c) item (insides outer i))
              (in_each (many (insides outer i) + at c) item (insides outer b)) not_own (x.found-are ∙ rw p)
              (y.found-are ∙ rw (x.counted, p))
              ∙ rw q (sym (each-numbered (at c) item (insides outer i) (insides outer b)));
          counted = ap at (turns-append d (tags_of i) (tags_of b)) ∙ rw q (omega arith);
        })
      where
        t : Tag
        t = record { name = w; given = gs }

        d : Context
        d = turn c t

        is_free : free w ≡ true
        is_free = child-has free cs w h f.0

        not_own : of_kind k (said c t (tags_of i)) ≡ []
        not_own = own-item c w gs (tags_of i) s ∙ rw (item_in w (free-out w is_free))

    pub numbered-found : (cs : List Child) → for_names free cs ≡ true → (es : Elements) → Fits cs es → (c : Context) → Sets c
        → of_kind k (told c es) ≡ in_each (at c) item (insides outer es)
    numbered-found cs h es f c s = (numbered cs h es f c s).found-are

-- ---- Kind 12: partitions.

abbrev pub partition : Text
partition = text "hdsodtp_partition"

abbrev pub partitioning : Text
partitioning = text "hdsodtp_partitioning"

abbrev pub in_partitioning : Text → Bool
in_partitioning w = some (same w) (partition ∷ text "partition_task" ∷ [])

partitionings-group : every (group_test (λ w. same w partitioning) in_partitioning) (elements_of true) ≡ true
unfolding lists_open reading_open elements_open
partitionings-group = refl

-- Nothing inside a partitioning changes the context.
partition-still : every (λ w. not (turning w)) (partition ∷ text "partition_task" ∷ []) ≡ true
unfolding lists_open reading_open
partition-still = refl

only-partition : every (only partition 12) kinds ≡ true
unfolding lists_open reading_open kinds
only-partition = refl

partition-kind : (c : Context) (w : Text) (gs : List Given) → same w partition ≡ true → kind_at c (record { name = w; given = gs }) ≡ 12
unfolding reading_open kinds kind_in
partition-kind c w gs e = rw (same_true w partition e)

own-partition : (c : Context) (w : Text) (gs : List Given) (i : List Tag) → Sets c
    → of_kind 12 (said c (record { name = w; given = gs }) i) ≡
    cond (same w partition) (record { number = c.partitionings - 1; given = gs; inside = i } ∷ []) []
own-partition c w gs i h =
    on_test (same w partition)
    (λ q. hit 12 c (record { name = w; given = gs }) i refl (partition-kind c w gs q) ∙ rw q)
    (λ q. miss 12 c (record { name = w; given = gs }) i (other 12 c (record { name = w; given = gs }) partition h refl refl refl only-partition q) ∙ rw q)

partitioning-turns : (w : Text) → turning w ≡ false → same w partitioning ≡ false
partitioning-turns w e =
    (or-none (same w partitioning) _ (or-none (same w (text "dynamic_separation_of_duty")) _ (or-none (same w (text "static_separation_of_duty")) _ e).1).1).0

partition-in : (w : Text) → in_partitioning w ≡ false → same w partition ≡ false
unfolding some
partition-in w e = (or-none (same w partition) _ e).0

partitioning-counted : (c : Context) (t : Tag) → (turn c t).partitionings ≡ cond (same t.name partitioning) (suc c.partitionings) c.partitionings
unfolding turn
partitioning-counted c t = refl

pub partitions : (cs : List Child) → for_names (λ v. not (in_partitioning v)) cs ≡ true → (es : Elements) → Fits cs es → (c : Context) → Sets c
    → of_kind 12 (told c es) ≡ in_each c.partitionings partition (insides partitioning es)
partitions =
    numbered-found 12 partition partitioning (partition ∷ text "partition_task" ∷ []) (λ c. c.partitionings) (λ v. not (in_partitioning v))
    partitionings-group partition-still partitioning-turns own-partition partition-in (λ w h. not-true (in_partitioning w) h)
    (λ w h q. stands-out (λ w. same w partitioning) in_partitioning w partitionings-group (rw (q, not-true (in_partitioning w) h)))
    (λ c t h. partitioning-counted c t)

-- ---- Kinds 9 and 10: sets of roles, by the separation in which they occur.

abbrev pub static : Text
static = text "static_separation_of_duty"

abbrev pub dynamic : Text
dynamic = text "dynamic_separation_of_duty"

abbrev pub role_set : Text
role_set = text "critical_role_set"

abbrev pub separation : Text → Bool
separation w = same w static || same w dynamic

unfoldable pub in_separation_names : List Text
in_separation_names = text "critical_role_sets" ∷ role_set ∷ text "critical_roles" ∷ text "critical_role" ∷ []

abbrev pub in_separation : Text → Bool
in_separation w = some (same w) in_separation_names

separations-group : every (group_test separation in_separation) (elements_of true) ≡ true
unfolding lists_open reading_open elements_open in_separation_names
separations-group = refl

separation-still : every (λ w. not (turning w)) in_separation_names ≡ true
unfolding lists_open reading_open in_separation_names
separation-still = refl

outside_set : (w : Text) → in_separation w ≡ false → same w role_set ≡ false
unfolding some in_separation_names
outside_set w e = (or-none (same w role_set) _ (or-none (same w (text "critical_role_sets")) _ e).1).0

no_kind : (k : ℕ) (xs : List (Text × ℕ)) (w : Text) → eqb 0 k ≡ false → every (λ x. not (eqb x.1 k)) xs ≡ true → eqb (kind_in xs w) k ≡ false
unfolding kind_in every
no_kind k [] w z h = z
no_kind k (x ∷ xs) w z h =
    let b = both (not (eqb x.1 k)) (every (λ x. not (eqb x.1 k)) xs) h in
    on_test (same w x.0) (λ q. rw q (not-true (eqb x.1 k) b.0)) (λ q. rw q (no_kind k xs w z b.1))

no-partition : (same role_set partition ≡ false) × (same role_set (text "partition_object") ≡ false)
unfolding reading_open
no-partition = (refl, refl)

all_append : (w : Text) (xs ys : List Elements) → in_all w (xs ++ ys) ≡ in_all w xs ++ in_all w ys
unfolding in_all
all_append w [] ys = refl
all_append w (x ∷ xs) ys = ap (λ (l : List Found). those w 0 x ++ l) (all_append w xs ys) ∙ sym (append_assoc (those w 0 x) (in_all w xs) (in_all w ys))

-- Kind k: the sets of roles inside elements of the name o.
module _ (k : ℕ) (o : Text) (above : (eqb k 0 ≡ false) × (eqb 0 k ≡ false)) (apart : every (λ x. not (eqb x.1 k)) kinds ≡ true)
    (told-apart : (c : Context) (w : Text) (gs : List Given) → separation w ≡ true → eqb (turn c (record { name = w; given = gs })).sets k ≡ same w o)
    (is_one : (w : Text) → separation w ≡ false → same w o ≡ false)
  where
    own-set : (c : Context) (w : Text) (gs : List Given) (i : List Tag)
        → of_kind k (said c (record { name = w; given = gs }) i) ≡
        cond (eqb c.sets k) (cond (same w role_set) (record { number = 0; given = gs; inside = i } ∷ []) []) []
    own-set c w gs i =
        on_test (same w role_set)
        (λ q. on_test (eqb c.sets k)
        (λ p.
        let v : same w partition ≡ false = rw (same_true w role_set q) no-partition.0 in
        let u : same w (text "partition_object") ≡ false = rw (same_true w role_set q) no-partition.1 in
        hit k c (record { name = w; given = gs }) i above.0 (rw q (eqb-true c.sets k p)) ∙ rw (p, q, v, u))
        (λ p. miss k c (record { name = w; given = gs }) i (rw q p) ∙ rw p))
        (λ q. miss k c (record { name = w; given = gs }) i (rw q (no_kind k kinds w above.1 apart)) ∙ on_test (eqb c.sets k) (λ p. rw (p, q)) (λ p. rw p))

    -- Elements inside a separation: if sets of roles have kind k there, each set is found; and the context does not change.
    record InSeparation (c : Context) (es : Elements) : Type 0 where
      found-are : of_kind k (told c es) ≡ cond (eqb c.sets k) (those role_set 0 es) []
      turns-not : turns c (tags_of es) ≡ c
      no_other : insides o es ≡ []

    three : (p : Bool) (x y z : List Found) → cond p x [] ++ cond p y [] ++ cond p z [] ≡ cond p (x ++ y ++ z) []
    three true x y z = refl
    three false x y z = refl

    in-separation : (cs : List Child) → for_names in_separation cs ≡ true → (es : Elements) → Fits cs es → (c : Context) → InSeparation c es
    unfolding Fits those insides tags_of turns
    in-separation cs h nothing f c =
        record { found-are = nothing-told k c ∙ on_test (eqb c.sets k) (λ p. rw p) (λ p. rw p); turns-not = refl; no_other = refl }
    in-separation cs h (node w gs i b) f c =
        let n : in_separation w ≡ true = child-has in_separation cs w h f.0 in
        let q : turning w ≡ false = not-true (turning w) (name-has (λ v. not (turning v)) in_separation_names w separation-still n) in
        let m : turn c (record { name = w; given = gs }) ≡ c = still c (record { name = w; given = gs }) q in
        let u = or-none (same w static) _ q in
        let v = or-none (same w dynamic) _ u.1 in
        let p : separation w ≡ false = rw (u.0, v.0) in
        let x = in-separation (row_in (elements_of true) w).children (stands-in separation in_separation w separations-group (rw (p, n))) i f.1 c in
        let y = in-separation cs h b f.2 c in
        record {
          found-are =
              parts k c w gs i b (cond (eqb c.sets k) (cond (same w role_set) (record { number = 0; given = gs; inside = tags_of i } ∷ []) []) [])
              (cond (eqb c.sets k) (those role_set 0 i) []) (cond (eqb c.sets k) (those role_set 0 b) [])
              (own-set c w gs (tags_of i)) (rw m x.found-are)
              (ap (λ (d : Context). of_kind k (told (turns d (tags_of i)) b)) m ∙ ap (λ (d : Context). of_kind k (told d b)) x.turns-not ∙ y.found-are)
              ∙ three (eqb c.sets k) (cond (same w role_set) (record { number = 0; given = gs; inside = tags_of i } ∷ []) []) (those role_set 0 i)
              (those role_set 0 b);
          turns-not =
              ap (λ (d : Context). turns d (tags_of i ++ tags_of b)) m ∙ turns-append c (tags_of i) (tags_of b) ∙
              ap (λ (d : Context). turns d (tags_of b)) x.turns-not ∙ y.turns-not;
          no_other = rw (is_one w p, x.no_other, y.no_other);
        }

    pub role-sets : (cs : List Child) → for_names (λ v. not (in_separation v)) cs ≡ true → (es : Elements) → Fits cs es → (c : Context) →
        of_kind k (told c es) ≡ in_all role_set (insides o es)
    unfolding Fits insides in_all
    role-sets cs h nothing f c = nothing-told k c
    role-sets cs h (node w gs i b) f c =
        on_test (separation w)
        (λ q.
        let x = in-separation (row_in (elements_of true) w).children (stands-in separation in_separation w separations-group (rw q)) i f.1 d in
        parts k c w gs i b [] (cond (same w o) (those role_set 0 i) []) (in_all role_set (insides o b)) not_own (x.found-are ∙ rw (told-apart c w gs q))
        (role-sets cs h b f.2 (turns d (tags_of i)))
        ∙ on_test (same w o) (λ p. rw (p, x.no_other)) (λ p. rw (p, x.no_other)))
        (λ q.
        parts k c w gs i b [] (in_all role_set (insides o i)) (in_all role_set (insides o b)) not_own
        (role-sets (row_in (elements_of true) w).children (stands-out separation in_separation w separations-group (rw (q, out))) i f.1 d)
        (role-sets cs h b f.2 (turns d (tags_of i)))
        ∙ rw (is_one w q) (sym (all_append role_set (insides o i) (insides o b))))
      where
        d : Context
        d = turn c (record { name = w; given = gs })

        out : in_separation w ≡ false
        out = not-true (in_separation w) (child-has (λ v. not (in_separation v)) cs w h f.0)

        not_own : of_kind k (said c (record { name = w; given = gs }) (tags_of i)) ≡ []
        not_own = own-set c w gs (tags_of i) ∙ rw (outside_set w out) (on_test (eqb c.sets k) (λ p. rw p) (λ p. rw p))
