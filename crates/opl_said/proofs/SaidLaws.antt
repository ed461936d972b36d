-- The record of each kind is made of the fields that the code looks up for it.
use Prim.Native.Nat.{ℕ, ◌%◌}
use Prim.Native.String.{String}
use mathlib.Core.Path.{◌≡◌, refl, sym, ap, ◌∙◌}
use mathlib.Core.Bool.{true, false, true≢false}
use mathlib.Core.List.{List, [], ◌∷◌, ◌++◌}
use lib.Dec.{eqb}
use Rattle.std.specs.Prelude.{Option, None}
use borrow.Author.Tests.{eqb-true, ne_eqb}
use Rattle.paper_lower.specs.Lists.{Maybe, some, every, keep, each, lists_open}
use Rattle.paper_lower.specs.Lists.Maybe.{none, just}
use Rattle.paper_lower.specs.Records.{Record}
use Rattle.paper_opl.specs.Reading.{Text, text, same}
use Rattle.paper_opl.specs.Elements.{elements}
use Rattle.paper_opl.specs.Tree.{Given, Tag, if-found}
use Rattle.paper_opl.specs.Naming.{Found, Row, Names, of_first, rows_first, last_rows}
use Rattle.paper_opl.specs.Walk.{leading, row_of, record_said}
use Rattle.paper_lower.proofs.ListLaws.{both}
use Rattle.paper_opl.proofs.Inversion.{on_test}
use Rattle.paper_opl.proofs.SaidBy.{fields, said-1, said-2, said-3, said-4, said-5, said-7, said-8, said-9, said-10, said-11, said-12, said-13, said-14, said-15, said-16, said-17, said-18}
use Rattle.opl_table.specs.Numbers.{names, name_of}
use Rattle.opl_tags.specs.Tags.{given_at, walk_at}
use Rattle.opl_turns.specs.Turning.{saying_at}
use Rattle.opl_said.specs.Said.{space_at, cardinality_at, a_record_of, SaysIt}
use Rattle.opl_said.specs.Forms.{number_by, inside_at, head_of, first_by, set_by, one_said, two_said, three_said, set_said, partitioning_of, wall_of, FieldsAre}
use Rattle.opl_said.specs.declared.Fields.{Fields}

-- ---- Records by their number of names.
says-by : (k : ℕ) (want r : Option Fields) (said : Maybe Record) → FieldsAre want r → a_record_of k want ≡ said → SaysIt k said r
says-by k want r said h e = record { says = ap (a_record_of k) h.fields-are ∙ e; fits = h.fits }

module _ (k : ℕ) (r : Option Fields) (said : Maybe Record) where
  one-says : (n : ℕ) (x : Maybe ℕ) → said ≡ if-found x none (λ a. fields k n a 0 0 0) → FieldsAre (one_said n x) r → SaysIt k said r
  one-says n x e h = says-by k (one_said n x) r said h (go x ∙ sym e)
    where
      go : (x : Maybe ℕ) → a_record_of k (one_said n x) ≡ if-found x none (λ a. fields k n a 0 0 0)
      go none = refl
      go (just a) = refl

  two-say : (x y : Maybe ℕ) → said ≡ if-found x none (λ a. if-found y none (λ b. fields k 0 a b 0 0)) → FieldsAre (two_said x y) r → SaysIt k said r
  two-say x y e h = says-by k (two_said x y) r said h (go x y ∙ sym e)
    where
      go : (x y : Maybe ℕ) → a_record_of k (two_said x y) ≡ if-found x none (λ a. if-found y none (λ b. fields k 0 a b 0 0))
      go none y = refl
      go (just a) none = refl
      go (just a) (just b) = refl

  three-say : (x y z : Maybe ℕ) → said ≡ if-found x none (λ a. if-found y none (λ b. if-found z none (λ c. fields k 0 a b c 0))) →
      FieldsAre (three_said x y z) r → SaysIt k said r
  three-say x y z e h = says-by k (three_said x y z) r said h (go x y z ∙ sym e)
    where
      go : (x y z : Maybe ℕ) → a_record_of k (three_said x y z) ≡ if-found x none (λ a. if-found y none (λ b. if-found z none (λ c. fields k 0 a b c 0)))
      go none y z = refl
      go (just a) none z = refl
      go (just a) (just b) none = refl
      go (just a) (just b) (just c) = refl

  set_says : (n : ℕ) (x m : Maybe ℕ) → said ≡ if-found x none (λ a. if-found m none (λ m. fields k n a 0 0 m)) → FieldsAre (set_said n x m) r → SaysIt k said r
  set_says n x m e h = says-by k (set_said n x m) r said h (go x m ∙ sym e)
    where
      go : (x m : Maybe ℕ) → a_record_of k (set_said n x m) ≡ if-found x none (λ a. if-found m none (λ m. fields k n a 0 0 m))
      go none m = refl
      go (just a) none = refl
      go (just a) (just m) = refl

-- ---- The elements inside an element, as the definition has them.
abbrev member_of : Tag → Found
member_of t = record { number = 0; given = t.given; inside = [] }

all-members : (f : List Given → Maybe ℕ) (ts : List Tag) → each (λ y. f y.given) (each member_of ts) ≡ each f (each (λ t. t.given) ts)
unfolding each
all-members f [] = refl
all-members f (t ∷ ts) = ap (λ ks. f t.given ∷ ks) (all-members f ts)

first_of : (f : List Given → Maybe ℕ) (ts : List Tag) → of_first (λ y. f y.given) (each member_of ts) ≡ head_of (each f (each (λ t. t.given) ts))
unfolding each
first_of f [] = refl
first_of f (t ∷ ts) = refl

-- ---- Kind by kind.
module _ (ns : Names) (s : Text) (number end : ℕ) (r : Option Fields) where
  abbrev x : Found
  x = record { number = number; given = given_at s end; inside = leading (walk_at s end) }

  abbrev Says : ℕ → Type 0
  Says k = SaysIt k (record_said ns (saying_at s k number end)) r

  abbrev by : ℕ → ℕ → Maybe ℕ
  by id i = number_by ns id i (given_at s end)

  pub says-1 : FieldsAre (one_said 0 (by 53 0)) r → Says 1
  unfolding space_at name_of names elements each
  says-1 = one-says 1 r (record_said ns (saying_at s 1 number end)) 0 (by 53 0) (said-1 ns x)

  pub says-2 : FieldsAre (one_said 0 (by 54 1)) r → Says 2
  unfolding space_at name_of names elements each
  says-2 = one-says 2 r (record_said ns (saying_at s 2 number end)) 0 (by 54 1) (said-2 ns x)

  pub says-13 : FieldsAre (one_said 0 (by 62 6)) r → Says 13
  unfolding space_at name_of names elements each
  says-13 = one-says 13 r (record_said ns (saying_at s 13 number end)) 0 (by 62 6) (said-13 ns x)

  pub says-14 : FieldsAre (one_said (cardinality_at s end) (by 61 5)) r → Says 14
  unfolding space_at name_of names elements each
  says-14 = one-says 14 r (record_said ns (saying_at s 14 number end)) (cardinality_at s end) (by 61 5) (said-14 ns x)

  pub says-4 : FieldsAre (two_said (by 53 0) (by 54 1)) r → Says 4
  unfolding space_at name_of names elements each
  says-4 = two-say 4 r (record_said ns (saying_at s 4 number end)) (by 53 0) (by 54 1) (said-4 ns x)

  pub says-5 : FieldsAre (two_said (by 54 1) (by 56 2)) r → Says 5
  unfolding space_at name_of names elements each
  says-5 = two-say 5 r (record_said ns (saying_at s 5 number end)) (by 54 1) (by 56 2) (said-5 ns x)

  pub says-7 : FieldsAre (two_said (by 61 5) (by 54 1)) r → Says 7
  unfolding space_at name_of names elements each
  says-7 = two-say 7 r (record_said ns (saying_at s 7 number end)) (by 61 5) (by 54 1) (said-7 ns x)

  pub says-8 : FieldsAre (two_said (by 61 5) (by 56 2)) r → Says 8
  unfolding space_at name_of names elements each
  says-8 = two-say 8 r (record_said ns (saying_at s 8 number end)) (by 61 5) (by 56 2) (said-8 ns x)

  pub says-15 : FieldsAre (two_said (by 61 5) (by 63 5)) r → Says 15
  unfolding space_at name_of names elements each
  says-15 = two-say 15 r (record_said ns (saying_at s 15 number end)) (by 61 5) (by 63 5) (said-15 ns x)

  pub says-16 : FieldsAre (two_said (by 64 5) (by 61 5)) r → Says 16
  unfolding space_at name_of names elements each
  says-16 = two-say 16 r (record_said ns (saying_at s 16 number end)) (by 64 5) (by 61 5) (said-16 ns x)

  pub says-17 : FieldsAre (two_said (by 74 1) (by 75 1)) r → Says 17
  unfolding space_at name_of names elements each
  says-17 = two-say 17 r (record_said ns (saying_at s 17 number end)) (by 74 1) (by 75 1) (said-17 ns x)

  pub says-18 : FieldsAre (three_said (wall_of number) (just (number % 16)) (by 58 4)) r → Says 18
  unfolding space_at name_of names elements each
  says-18 = three-say 18 r (record_said ns (saying_at s 18 number end)) (wall_of number) (just (number % 16)) (by 58 4) (said-18 ns x)

  abbrev inside : String → List Tag
  inside e = keep (λ t. same t.name (text e)) (leading (walk_at s end))

  pub says-3 : FieldsAre (three_said (by 56 2) (first_by ns 57 3 (inside_at s 15 end)) (first_by ns 58 4 (inside_at s 16 end))) r → Says 3
  unfolding space_at name_of names elements each
  says-3 =
      three-say 3 r (record_said ns (saying_at s 3 number end)) (by 56 2) (first_by ns 57 3 (inside_at s 15 end)) (first_by ns 58 4 (inside_at s 16 end))
      (said-3 ns x ∙ rw (first_of (number_by ns 57 3) (inside "operation"), first_of (number_by ns 58 4) (inside "object")))

  pub says-9 : FieldsAre (set_said (cardinality_at s end) (just 0) (set_by ns 54 1 (inside_at s 25 end))) r → Says 9
  unfolding space_at name_of names elements each
  says-9 =
      set_says 9 r (record_said ns (saying_at s 9 number end)) (cardinality_at s end) (just 0) (set_by ns 54 1 (inside_at s 25 end))
      (said-9 ns x ∙ rw (all-members (number_by ns 54 1) (inside "critical_role")))

  pub says-10 : FieldsAre (set_said (cardinality_at s end) (just 0) (set_by ns 54 1 (inside_at s 25 end))) r → Says 10
  unfolding space_at name_of names elements each
  says-10 =
      set_says 10 r (record_said ns (saying_at s 10 number end)) (cardinality_at s end) (just 0) (set_by ns 54 1 (inside_at s 25 end))
      (said-10 ns x ∙ rw (all-members (number_by ns 54 1) (inside "critical_role")))

  pub says-11 : FieldsAre (set_said (cardinality_at s end) (just 0) (set_by ns 61 5 (inside_at s 36 end))) r → Says 11
  unfolding space_at name_of names elements each
  says-11 =
      set_says 11 r (record_said ns (saying_at s 11 number end)) (cardinality_at s end) (just 0) (set_by ns 61 5 (inside_at s 36 end))
      (said-11 ns x ∙ rw (all-members (number_by ns 61 5) (inside "critical_task")))

  pub says-12 : FieldsAre (set_said 0 (partitioning_of number) (set_by ns 61 5 (inside_at s 40 end))) r → Says 12
  unfolding space_at name_of names elements each
  says-12 =
      set_says 12 r (record_said ns (saying_at s 12 number end)) 0 (partitioning_of number) (set_by ns 61 5 (inside_at s 40 end))
      (said-12 ns x ∙ rw (all-members (number_by ns 61 5) (inside "partition_task")))

-- ---- No other kind has a row in the table of the definition.

-- k is none of these numbers, tested from the last to the first.
abbrev pub Beside : List ℕ → ℕ → Type 0
Beside [] k = Unit {0}
Beside (n ∷ ns) k = Beside ns k × (k ≡ n → ⊥)

abbrev pub kinds_back : List ℕ
kinds_back = 18 ∷ 17 ∷ 16 ∷ 15 ∷ 14 ∷ 13 ∷ 12 ∷ 11 ∷ 10 ∷ 9 ∷ 8 ∷ 7 ∷ 5 ∷ 4 ∷ 3 ∷ 2 ∷ 1 ∷ []

beside-is : (ns : List ℕ) (k : ℕ) → Beside ns k → some (eqb k) ns ≡ false
unfolding some
beside-is [] k b = refl
beside-is (n ∷ ns) k b = rw (ne_eqb k n b.1, beside-is ns k b.0)

rows-there : every (λ r. some (eqb r.kind) kinds_back) (rows_first ++ last_rows) ≡ true
unfolding lists_open rows_first last_rows
rows-there = refl

no_row : (rs : List Row) (k : ℕ) → every (λ r. some (eqb r.kind) kinds_back) rs ≡ true → some (eqb k) kinds_back ≡ false → row_of rs k ≡ none
unfolding every row_of
no_row [] k h b = refl
no_row (r ∷ rs) k h b =
    let p = both (some (eqb r.kind) kinds_back) (every (λ r. some (eqb r.kind) kinds_back) rs) h in
    on_test (eqb r.kind k)
    (λ e. absurd (true≢false (sym p.0 ∙ ap (λ (j : ℕ). some (eqb j) kinds_back) (eqb-true r.kind k e) ∙ b)))
    (λ e. rw e (no_row rs k p.1 b))

pub says_nothing : (ns : Names) (s : Text) (k number end : ℕ) → Beside kinds_back k → SaysIt k (record_said ns (saying_at s k number end)) None
unfolding record_said
says_nothing ns s k number end b =
    let e : row_of (rows_first ++ last_rows) k ≡ none = no_row (rows_first ++ last_rows) k rows-there (beside-is kinds_back k b) in
    record { says = rw e; fits = tt }
