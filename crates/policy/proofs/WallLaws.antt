-- Rows of walls: their words, adding a row, and the search by object.
use Prim.Native.Nat.{ℕ, ◌+◌, ◌*◌, ◌/◌, ◌%◌, ◌<◌}
use mathlib.Core.Bool.{Bool, true, false, not, cond, ◌&&◌}
use mathlib.Core.List.{List}
use mathlib.Core.Path.{◌≡◌, refl, sym, ap, ◌∙◌}
use native.Mathlib.Omega.{arith}
use borrow.Author.Tests.{ne_eqb, eqb-true, eqb-false, not-true, not-false}
use lib.Dec.{eqb}
use lib.ListN.{get_or}
use Rattle.paper_lower.specs.Sets.{Set, has, plus}
use Rattle.paper_lower.specs.Lists.{upd, add}
use Rattle.paper_lower.specs.Tables.{Walled}
use Rattle.paper_lower.proofs.ListLaws.{and-false, upd_same, upd_other}
use Rattle.sets.proofs.SetLaws.{has_new, has_other}
use Rattle.replies.specs.Cells.{rows}
use Rattle.replies.proofs.CellLaws.{column-at}
use Rattle.replies.proofs.RowLaws.{rows_same, rows_more}
use Rattle.policy.specs.Layout.{table_in, walled_of, walled_table, wall_bucket_table, wall_word, lists_row, listed_row, no_object, walled_at, wall_rows, walled_is}

and-true : (a : Bool) → a && true ≡ a
and-true true = refl
and-true false = refl

-- ---- The word of a row.
pub walled-word : (wall block object : ℕ) → wall < 16 → block < 16 → object < 65536 →
    walled_of (wall + 16 * block + 256 * object) ≡ record { wall = wall; block = block; object = object }
unfolding walled_of
walled-word wall block object h k m =
    let w = wall + 16 * block + 256 * object in
    let first : w % 16 ≡ wall = omega arith in
    let rest : w / 16 ≡ block + 16 * object = omega arith in
    let second : (block + 16 * object) % 16 ≡ block = omega arith in
    let high : w / 256 ≡ object = omega arith in
    let third : object % 65536 ≡ object = omega arith in
    simp (first, rest, second, high, third)

-- ---- Adding a row: it is added to the bucket of its object, and the rows before it stay the same.
module _ (rows₀ : ℕ → Walled) (buckets : ℕ → Set) (x : Walled) (k : ℕ) where
  -- The buckets with row k added to that of its object.
  abbrev more : ℕ → Set
  more = upd buckets (wall_word x.object (k / 64)) (plus (buckets (wall_word x.object (k / 64))) (k % 64))

  lists-new : lists_row more x.object k ≡ true
  unfolding lists_row
  lists-new =
      let at = wall_word x.object (k / 64) in
      ap (λ m. has m (k % 64)) (upd_same buckets at at (plus (buckets at) (k % 64)) refl) ∙ has_new (buckets at) (k % 64)

  lists-old : (object i : ℕ) → i < k → k < 256 → lists_row more object i ≡ lists_row buckets object i
  unfolding lists_row
  lists-old object i low high = at (eqb (wall_word object (i / 64)) (wall_word x.object (k / 64))) refl
    where
      at : (t : Bool) → eqb (wall_word object (i / 64)) (wall_word x.object (k / 64)) ≡ t →
          has (more (wall_word object (i / 64))) (i % 64) ≡ has (buckets (wall_word object (i / 64))) (i % 64)
      at true e =
          let one = eqb-true (wall_word object (i / 64)) (wall_word x.object (k / 64)) e in
          ap (λ m. has m (i % 64))
          (upd_same buckets (wall_word x.object (k / 64)) (wall_word object (i / 64)) (plus (buckets (wall_word x.object (k / 64))) (k % 64)) one)
          ∙ has_other (buckets (wall_word x.object (k / 64))) (k % 64) (i % 64) (λ same. omega arith)
          ∙ ap (λ j. has (buckets j) (i % 64)) (sym one)
      at false e =
          ap (λ m. has m (i % 64)) (upd_other buckets (wall_word x.object (k / 64)) (wall_word object (i / 64))
          (plus (buckets (wall_word x.object (k / 64))) (k % 64)) (eqb-false _ _ e))

  pub walled-added : k < 256 → rows (λ i. listed_row more i (upd rows₀ k x i)) (k + 1) ≡ add (rows (λ i. listed_row buckets i (rows₀ i)) k) x
  unfolding listed_row
  walled-added high =
      rows_more (λ i. listed_row more i (upd rows₀ k x i)) k
      ∙ (λ z. add (rows_same (λ i. listed_row more i (upd rows₀ k x i)) (λ i. listed_row buckets i (rows₀ i)) k before z) (here z))
    where
      before : (i : ℕ) → i < k → listed_row more i (upd rows₀ k x i) ≡ listed_row buckets i (rows₀ i)
      before i low =
          ap (listed_row more i) (upd_other rows₀ k i x (omega arith))
          ∙ ap (λ t. record { wall = (rows₀ i).wall; block = (rows₀ i).block; object = cond t (rows₀ i).object no_object })
          (lists-old (rows₀ i).object i low high)

      here : listed_row more k (upd rows₀ k x k) ≡ x
      here =
          ap (listed_row more k) (upd_same rows₀ k k x refl)
          ∙ ap (λ t. record { wall = x.wall; block = x.block; object = cond t x.object no_object }) lists-new

-- ---- The search by object: a row is about the object exactly if the object's bucket has it and its word has the object.
pub walled-for : (l : List ℕ) (object k : ℕ) → object < 65536 →
    eqb (walled_at l k).object object ≡ has (wall_rows l object (k / 64)) (k % 64) && walled_is l object k
unfolding walled_at listed_row lists_row wall_rows walled_is
walled-for l object k small = at (eqb (table_in walled_table l k).object object) refl
  where
    buckets : ℕ → Set
    buckets = table_in wall_bucket_table l

    its : ℕ
    its = (table_in walled_table l k).object

    other : (t : Bool) → eqb its object ≡ false → eqb (cond t its no_object) object ≡ false
    other true e = e
    other false e = ne_eqb no_object object (omega arith)

    same : (t : Bool) → eqb its object ≡ true → eqb (cond t its no_object) object ≡ t
    same true e = e
    same false e = ne_eqb no_object object (omega arith)

    at : (t : Bool) → eqb its object ≡ t →
        eqb (cond (has (buckets (wall_word its (k / 64))) (k % 64)) its no_object) object ≡ has (buckets (wall_word object (k / 64))) (k % 64) && t
    at true e =
        let one = eqb-true its object e in
        same (has (buckets (wall_word its (k / 64))) (k % 64)) e
        ∙ (λ z. has (buckets (wall_word (one z) (k / 64))) (k % 64))
        ∙ sym (and-true (has (buckets (wall_word object (k / 64))) (k % 64)))
    at false e =
        other (has (buckets (wall_word its (k / 64))) (k % 64)) e
        ∙ sym (and-false (has (buckets (wall_word object (k / 64))) (k % 64)))

-- ---- The object of a row, as the getter finds it.
module _ (l : List ℕ) (k : ℕ) (room : k < 256) {m : Set} {t : Bool} (rows_are : m ≡ wall_rows l (get_or l (walled_table.first + k) 0 / 256 % 65536) (k / 64))
    (test : t ≡ has m (k % 64)) where
  object-is : (walled_at l k).object ≡ cond t (get_or l (walled_table.first + k) 0 / 256 % 65536) no_object
  unfolding walled_at listed_row lists_row wall_rows walled_of
  object-is =
      ap (λ (x : Walled). cond (has (table_in wall_bucket_table l (wall_word x.object (k / 64))) (k % 64)) x.object no_object)
      (column-at walled_of (walled_of 0) walled_table.first 256 l k room)
      ∙ sym (ap (λ u. cond u (get_or l (walled_table.first + k) 0 / 256 % 65536) no_object) (test ∙ ap (λ m. has m (k % 64)) rows_are))

  pub object-listed : not t ≡ false → get_or l (walled_table.first + k) 0 / 256 % 65536 ≡ (walled_at l k).object
  object-listed e = sym (object-is ∙ ap (λ u. cond u (get_or l (walled_table.first + k) 0 / 256 % 65536) no_object) (not-false t e))

  pub object-none : not t ≡ true → no_object ≡ (walled_at l k).object
  object-none e = sym (object-is ∙ ap (λ u. cond u (get_or l (walled_table.first + k) 0 / 256 % 65536) no_object) (not-true t e))
