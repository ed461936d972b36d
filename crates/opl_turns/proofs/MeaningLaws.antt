-- The number that one guess and one comparison find for a name (`element_of`) means what the definitions find by comparing the name.
use Prim.Native.Nat.{ℕ, zero, suc, ◌+◌, ◌*◌, ◌-◌, ◌%◌, ◌≤◌, ◌<◌}
use mathlib.Core.Path.{◌≡◌, refl, sym, ap, ◌∙◌}
use mathlib.Core.Bool.{Bool, true, false, not, ◌&&◌, false≢true}
use mathlib.Core.List.{List, [], ◌∷◌}
use native.Mathlib.Omega.{arith}
use lib.Dec.{eqb, ltb}
use lib.ListN.{length, get_or}
use borrow.Author.Tests.{eqb-true, eqb-false, ltb-true}
use Rattle.paper_lower.specs.Lists.{some, every, lists_open}
use Rattle.paper_lower.proofs.ListLaws.{both}
use Rattle.paper_opl.specs.Reading.{Text, text, same, reading_open}
use Rattle.paper_opl.specs.Elements.{elements_open}
use Rattle.paper_opl.specs.Tree.{Tag}
use Rattle.paper_opl.specs.Walk.{Context, turn, kinds, kind_in, kind_at, inner_names}
use Rattle.paper_opl.proofs.Inversion.{on_test}
use Rattle.paper_opl.proofs.Conforms.{same_true}
use Rattle.opl_table.specs.Numbers.{names, name_of}
use Rattle.opl_turns.specs.declared.TheConstants.{GUESSES, KINDS}
use Rattle.opl_turns.specs.Meaning.{guesses, guess_of, element_of, inners, inner_of, kind_list, kind_by, sets_by, parts_by, walls_by, blocks_by}

-- ---- The tables of the code hold the numbers of the definitions.
pub guesses-held : GUESSES ≡ guesses
unfolding guesses
guesses-held = refl

pub kinds-held : KINDS ≡ kind_list
unfolding kind_list
kinds-held = refl

-- ---- The tables, checked by computation.

-- Two truth values are equal.
alike : Bool → Bool → Bool
alike true b = b
alike false b = not b

alike_is : (a b : Bool) → alike a b ≡ true → a ≡ b
unfolding alike
alike_is true true e = refl
alike_is true false e = absurd (false≢true e)
alike_is false true e = absurd (false≢true e)
alike_is false false e = refl

-- The element with number g has the name w if and only if g is k.
abbrev named : ℕ → Text → ℕ → Bool
named g w k = alike (same (name_of g) w) (eqb g k)

-- The numbers below n.
count_to : ℕ → List ℕ
count_to zero = []
count_to (suc n) = n ∷ count_to n

below_at : (p : ℕ → Bool) (n k : ℕ) → every p (count_to n) ≡ true → k < n → p k ≡ true
unfolding every count_to
below_at p zero k h a = absurd (omega arith)
below_at p (suc n) k h a =
    let b = both (p n) (every p (count_to n)) h in
    on_test (eqb k n) (λ q. let e = eqb-true k n q in rw e b.0) (λ q. let e = eqb-false k n q in below_at p n k b.1 (omega (arith, e)))

-- A test of an element's number: what the tables have for it is what the definitions find for its name.
tells : ℕ → Bool
tells g =
    ltb g 128
    && (ltb (get_or kind_list g 0) 19
    && (eqb (kind_in kinds (name_of g)) (get_or kind_list g 0)
    && (named g (text "critical_role_set") 23
    && (named g (text "static_separation_of_duty") 20
    && (named g (text "dynamic_separation_of_duty") 21 && (named g (text "hdsodtp_partitioning") 38 && (named g (text "hdsodtp_partition") 39
    && (named g (text "module_chinese_wall_policy") 69 && (named g (text "cw_partition") 71 && named g (text "partition_object") 72)))))))))

guesses-tell : every (λ h. tells (get_or guesses h 0)) (count_to 64) ≡ true
unfolding lists_open reading_open elements_open kinds kind_in names name_of kind_list guesses tells alike count_to
guesses-tell = refl

-- The guess for this name is right.
abbrev guessed : Text → Bool
guessed w = same w (name_of (guess_of w))

kinds-guessed : every (λ x. guessed x.0) kinds ≡ true
unfolding lists_open reading_open elements_open kinds names name_of guesses guess_of
kinds-guessed = refl

others-guessed : (guessed (text "critical_role_set") ≡ true) × (guessed (text "static_separation_of_duty") ≡ true) ×
    (guessed (text "dynamic_separation_of_duty") ≡ true) × (guessed (text "hdsodtp_partitioning") ≡ true) × (guessed (text "hdsodtp_partition") ≡ true) ×
    (guessed (text "module_chinese_wall_policy") ≡ true) × (guessed (text "cw_partition") ≡ true) × (guessed (text "partition_object") ≡ true)
unfolding lists_open reading_open elements_open names name_of guesses guess_of
others-guessed = (refl, refl, refl, refl, refl, refl, refl, refl)

-- ---- Any name.

mod-lt : (n : ℕ) → n % 64 < 64
mod-lt n = omega arith

guess-tells : (w : Text) → tells (guess_of w) ≡ true
unfolding guess_of
guess-tells w = below_at (λ h. tells (get_or guesses h 0)) 64 _ guesses-tell (mod-lt (length w + 47 * get_or w (length w - 1) 0 + 3 * get_or w 0 0))

unlike : (x w : Text) → guessed x ≡ true → guessed w ≡ false → same w x ≡ false
unlike x w g f = on_test (same w x) (λ q. absurd (false≢true (sym f ∙ ap (λ (v : Text). guessed v) (same_true w x q) ∙ g))) (λ q. q)

kind-none : (xs : List (Text × ℕ)) (w : Text) → every (λ x. guessed x.0) xs ≡ true → guessed w ≡ false → kind_in xs w ≡ 0
unfolding every kind_in
kind-none [] w h f = refl
kind-none (x ∷ xs) w h f =
    let b = both (guessed x.0) (every (λ x. guessed x.0) xs) h in
    rw (unlike x.0 w b.0 f) (kind-none xs w b.1 f)

-- What the definitions find for the name w is what the tables have for the number id.
pub record Meant (w : Text) (id : ℕ) : Type 0 where
  pub low : id < 128
  pub small : get_or kind_list id 0 < 19
  pub kind : kind_in kinds w ≡ get_or kind_list id 0
  pub set : same w (text "critical_role_set") ≡ eqb id 23
  pub static : same w (text "static_separation_of_duty") ≡ eqb id 20
  pub dynamic : same w (text "dynamic_separation_of_duty") ≡ eqb id 21
  pub partitioning : same w (text "hdsodtp_partitioning") ≡ eqb id 38
  pub partition : same w (text "hdsodtp_partition") ≡ eqb id 39
  pub wall : same w (text "module_chinese_wall_policy") ≡ eqb id 69
  pub block : same w (text "cw_partition") ≡ eqb id 71
  pub object : same w (text "partition_object") ≡ eqb id 72

by_number : (g : ℕ) → tells g ≡ true → Meant (name_of g) g
unfolding tells
by_number g h =
    let y = both (ltb g 128) _ h in
    let z = both (ltb (get_or kind_list g 0) 19) _ y.1 in
    let a = both (eqb (kind_in kinds (name_of g)) (get_or kind_list g 0)) _ z.1 in
    let b = both (named g (text "critical_role_set") 23) _ a.1 in
    let c = both (named g (text "static_separation_of_duty") 20) _ b.1 in
    let d = both (named g (text "dynamic_separation_of_duty") 21) _ c.1 in
    let e = both (named g (text "hdsodtp_partitioning") 38) _ d.1 in
    let f = both (named g (text "hdsodtp_partition") 39) _ e.1 in
    let i = both (named g (text "module_chinese_wall_policy") 69) _ f.1 in
    let j = both (named g (text "cw_partition") 71) (named g (text "partition_object") 72) i.1 in
    record {
      low = ltb-true _ _ y.0;
      small = ltb-true _ _ z.0;
      kind = eqb-true _ _ a.0;
      set = alike_is _ _ b.0;
      static = alike_is _ _ c.0;
      dynamic = alike_is _ _ d.0;
      partitioning = alike_is _ _ e.0;
      partition = alike_is _ _ f.0;
      wall = alike_is _ _ i.0;
      block = alike_is _ _ j.0;
      object = alike_is _ _ j.1;
    }

unguessed : (w : Text) → guessed w ≡ false → Meant w 127
unfolding kind_list
unguessed w f =
    record {
      low = omega arith;
      small = omega arith;
      kind = kind-none kinds w kinds-guessed f;
      set = unlike _ w others-guessed.0 f;
      static = unlike _ w others-guessed.1 f;
      dynamic = unlike _ w others-guessed.2 f;
      partitioning = unlike _ w others-guessed.3 f;
      partition = unlike _ w others-guessed.4 f;
      wall = unlike _ w others-guessed.5 f;
      block = unlike _ w others-guessed.6 f;
      object = unlike _ w others-guessed.7 f;
    }

pub meant : (w : Text) → Meant w (element_of w)
unfolding element_of
meant w =
    on_test (guessed w)
    (λ q. let e = same_true w (name_of (guess_of w)) q in rw q (rw (← e) at (by_number (guess_of w) (guess-tells w))))
    (λ q. rw q (unguessed w q))

pub no_name : (w : Text) → length w ≡ 0 → 127 ≡ guess_of w
unfolding guesses guess_of
no_name [] e = refl
no_name (b ∷ w) e = absurd (omega (arith, e))

-- ---- The elements that declare names, 12 to 16 and 72, and those that occur inside one that yields a record.

-- The numbers of all these elements.
sought : List ℕ
sought = 12 ∷ 13 ∷ 14 ∷ 15 ∷ 16 ∷ 24 ∷ 25 ∷ 36 ∷ 40 ∷ 72 ∷ []

guesses-sought : every (λ h. every (λ e. named (get_or guesses h 0) (name_of e) e) sought) (count_to 64) ≡ true
unfolding lists_open reading_open elements_open names name_of guesses alike sought count_to
guesses-sought = refl

sought-guessed : every (λ e. guessed (name_of e)) sought ≡ true
unfolding lists_open reading_open elements_open names name_of guesses guess_of sought
sought-guessed = refl

every-at : (p : ℕ → Bool) (es : List ℕ) (e : ℕ) → every p es ≡ true → some (eqb e) es ≡ true → p e ≡ true
unfolding every some
every-at p [] e h a = absurd (false≢true a)
every-at p (d ∷ es) e h a =
    let b = both (p d) (every p es) h in
    on_test (eqb e d) (λ q. let z = eqb-true e d q in rw z b.0) (λ q. every-at p es e b.1 (rw q at a))

guess-sought : (w : Text) → every (λ e. named (guess_of w) (name_of e) e) sought ≡ true
unfolding guess_of
guess-sought w =
    below_at (λ h. every (λ e. named (get_or guesses h 0) (name_of e) e) sought) 64 _ guesses-sought (mod-lt (length w + 47 * get_or w (length w - 1) 0 + 3 * get_or w 0 0))

unguessed-other : (e : ℕ) → some (eqb e) sought ≡ true → eqb 127 e ≡ false
unfolding some sought
unguessed-other e h = on_test (eqb 127 e) (λ q. let z = eqb-true 127 e q in absurd (false≢true (rw (← z) at h))) (λ q. q)

named_by : (w : Text) (e : ℕ) → some (eqb e) sought ≡ true → same w (name_of e) ≡ eqb (element_of w) e
unfolding element_of
named_by w e h =
    on_test (guessed w)
    (λ q.
    let z = same_true w (name_of (guess_of w)) q in
    rw q (ap (λ (v : Text). same v (name_of e)) z ∙ alike_is _ _ (every-at (λ e. named (guess_of w) (name_of e) e) sought e (guess-sought w) h)))
    (λ q. rw q (unlike (name_of e) w (every-at (λ e. guessed (name_of e)) sought e sought-guessed h) q ∙ sym (unguessed-other e h)))

declarers-sought : (i : ℕ) → i < 5 → some (eqb (12 + i)) sought ≡ true
unfolding lists_open sought
declarers-sought zero h = refl
declarers-sought (suc zero) h = refl
declarers-sought (suc (suc zero)) h = refl
declarers-sought (suc (suc (suc zero))) h = refl
declarers-sought (suc (suc (suc (suc zero)))) h = refl
declarers-sought (suc (suc (suc (suc (suc i))))) h = absurd (omega arith)

pub declares-by : (w : Text) (i : ℕ) → i < 5 → same w (name_of (12 + i)) ≡ eqb (element_of w) (12 + i)
declares-by w i h = named_by w (12 + i) (declarers-sought i h)

pub objects-by : (w : Text) → same w (name_of 72) ≡ eqb (element_of w) 72
unfolding lists_open sought
objects-by w = named_by w 72 refl

inners-sought : every (λ e. some (eqb e) sought) inners ≡ true
unfolding lists_open sought
inners-sought = refl

pub stands_by : (w : Text) (e : ℕ) → inner_of e ≡ true → same w (name_of e) ≡ eqb (element_of w) e
unfolding inner_of
stands_by w e h = named_by w e (every-at (λ e. some (eqb e) sought) inners e inners-sought h)

pub inner-by : (w : Text) → some (same w) inner_names ≡ inner_of (element_of w)
unfolding lists_open reading_open elements_open names name_of inner_names inner_of
inner-by w = rw (stands_by w 15 refl, stands_by w 16 refl, stands_by w 24 refl, stands_by w 25 refl, stands_by w 36 refl, stands_by w 40 refl)

-- ---- The tag of an element: its kind of record, and the context after it.

module _ (c : Context) (t : Tag) where
  pub kind-is : kind_at c t ≡ kind_by c.sets (element_of t.name)
  unfolding kind_by
  kind-is = let m = meant t.name in rw (m.set, m.kind)

  pub turn_is : turn c t ≡ record {
    sets = sets_by c.sets (element_of t.name);
    partitionings = parts_by c.partitionings (element_of t.name);
    walls = walls_by c.walls (element_of t.name);
    blocks = blocks_by c.walls c.blocks (element_of t.name);
  }
  unfolding turn
  turn_is =
      let m = meant t.name in
      let x : suc c.partitionings ≡ c.partitionings + 1 = omega arith in
      let y : suc c.walls ≡ c.walls + 1 = omega arith in
      let z : suc c.blocks ≡ c.blocks + 1 = omega arith in
      rw (m.static, m.dynamic, m.partitioning, m.wall, m.block, x, y, z)

pub kind-small : (sets : ℕ) (w : Text) → sets ≤ 10 → kind_by sets (element_of w) < 19
unfolding kind_by
kind-small sets w h = on_test (eqb (element_of w) 23) (λ q. rw q (omega arith)) (λ q. rw q (meant w).small)
