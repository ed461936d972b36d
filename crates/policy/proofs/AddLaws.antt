-- Adding a rule or a row of a wall: its words are stored after the rows kept, and the number of rows kept is stored one higher.
use Prim.Native.Nat.{ℕ, ◌+◌, ◌*◌, ◌≤◌, ◌<◌, ◌/◌, ◌%◌, min}
use mathlib.Core.Bool.{Bool, true, false, cond}
use mathlib.Core.List.{List, [], ◌∷◌}
use mathlib.Core.Path.{◌≡◌, refl, sym, ap, ◌∙◌}
use native.Mathlib.Omega.{arith}
use borrow.Author.Tests.{eqb-true, eqb-false}
use lib.Dec.{eqb}
use lib.ListN.{length, get_or, set, length-set}
use lib.Seq.{get_or-set_same}
use Rattle.paper_lower.specs.Sets.{plus}
use Rattle.paper_lower.specs.Lists.{upd, add, Every}
use Rattle.paper_lower.specs.Tables.{Limit, Block, Pair, Walled, with_rules, with_walls}
use Rattle.paper_lower.proofs.ListLaws.{upd_same, upd_other}
use Rattle.replies.specs.Cells.{rows}
use Rattle.replies.proofs.RowLaws.{rows_same, rows_more}
use Rattle.policy.specs.Layout.{policy_words, same, Table, behind, table_in, limits_kept, blocks_kept, pairs_kept, limit_table, member_table, limit_count, limit_at, limits_in, partitioning_table, block_table, block_count, block_at, blocks_in, pair_table, pair_count, pair_at, pairs_in, walls_kept, walled_table, wall_bucket_table, wall_word, listed_row, wall_count, walled_at, wall_rows, walls_in}
use Rattle.policy.specs.Reading.{rules_in, policy_of, with_limits, with_pairs, limit_added, block_added, pair_added, wall_added}
use Rattle.policy.proofs.TableLaws.{InRules, table_same, table-off, limits-off, blocks-off, pairs-off, in-rules, in-walls}
use Rattle.policy.proofs.WallLaws.{walled-word, walled-added}
use Rattle.policy.proofs.RuleLaws.{limits-are, pairs-are}

-- ---- Several stores, one after the other: each of a value at a word.
abbrev stores : List (ℕ × ℕ) → List ℕ → List ℕ
stores [] l = l
stores (w ∷ ws) l = stores ws (set l w.0 w.1)

-- What each store leaves unchanged, all of them leave unchanged.
keeps : {A : Type 0} {read : List ℕ → A} {Off : ℕ → Type 0} → ((l : List ℕ) (j v : ℕ) → Off j → read (set l j v) ≡ read l) → (ws : List (ℕ × ℕ)) →
    Every (λ w. Off w.0) ws → (l : List ℕ) → read (stores ws l) ≡ read l
keeps law [] h l = refl
keeps law (w ∷ ws) h l = keeps law ws h.1 (set l w.0 w.1) ∙ law l w.0 w.1 h.0

only-rules : (ws : List (ℕ × ℕ)) → Every (λ w. InRules w.0) ws → (l : List ℕ) → policy_of (stores ws l) ≡ with_rules (policy_of l) (rules_in (stores ws l))
unfolding policy_of
only-rules [] h l = refl
only-rules (w ∷ ws) h l =
    only-rules ws h.1 (set l w.0 w.1)
    ∙ ap (λ t. with_rules t (rules_in (stores ws (set l w.0 w.1)))) (in-rules l w.0 w.1 h.0)

-- The rules after the stores, kind by kind.
rules-are : (ws : List (ℕ × ℕ)) → Every (λ w. InRules w.0) ws → (l : List ℕ) (limits : ℕ → List Limit) (blocks : List Block) (pairs : ℕ → List Pair)
    → ((w : ℕ) → w < 3 → limits_in w (stores ws l) ≡ limits w) → blocks_in (stores ws l) ≡ blocks → ((w : ℕ) → w < 2 → pairs_in w (stores ws l) ≡ pairs w)
    → policy_of (stores ws l) ≡
    with_rules (policy_of l) (record { statics = limits 0; dynamics = limits 1; task_sets = limits 2; blocks = blocks; bindings = pairs 0; befores = pairs 1 })
unfolding rules_in
rules-are ws h l limits blocks pairs p q r =
    only-rules ws h l
    ∙ ap (with_rules (policy_of l)) (λ x.
    record {
      statics = p 0 (omega arith) x;
      dynamics = p 1 (omega arith) x;
      task_sets = p 2 (omega arith) x;
      blocks = q x;
      bindings = r 0 (omega arith) x;
      befores = r 1 (omega arith) x;
    })

-- Of the kinds that are chosen by a number, one has the new list, and the others are unchanged.
by_kind : {A : Type 0} (rules_of : ℕ → List ℕ → List A) (which : ℕ) (l next : List ℕ) (xs : List A) → rules_of which next ≡ xs → (w : ℕ) →
    ((w ≡ which → ⊥) → rules_of w next ≡ rules_of w l) → rules_of w next ≡ cond (eqb w which) xs (rules_of w l)
by_kind rules_of which l next xs same w other = at (eqb w which) refl
  where
    at : (here : Bool) → eqb w which ≡ here → rules_of w next ≡ cond here xs (rules_of w l)
    at true e = rw (eqb-true w which e) same
    at false e = other (eqb-false w which e)

-- ---- A row added to two tables, with the number of rows kept one higher.
rows-added : {A : Type 0} (make : ℕ → ℕ → A) (f g : ℕ → ℕ) (k u v : ℕ) →
    rows (λ i. make (upd f k u i) (upd g k v i)) (k + 1) ≡ add (rows (λ i. make (f i) (g i)) k) (make u v)
rows-added make f g k u v =
    rows_more (λ i. make (upd f k u i) (upd g k v i)) k
    ∙ (λ x. add (rows_same (λ i. make (upd f k u i) (upd g k v i)) (λ i. make (f i) (g i)) k
    (λ i h. rw (upd_other f k i u (omega arith), upd_other g k i v (omega arith))) x) (make (upd_same f k k u refl x) (upd_same g k k v refl x)))

one_more : {A : Type 0} (make : ℕ → ℕ → A) (s t : Table ℕ) (c most : ℕ) (l next : List ℕ) (k u v : ℕ) → k < most → k ≡ min (get_or l c 0) most
    → table_in s next ≡ upd (table_in s l) k u → table_in t next ≡ upd (table_in t l) k v → get_or next c 0 ≡ k + 1
    → rows (λ i. make (table_in s next i) (table_in t next i)) (min (get_or next c 0) most) ≡
    add (rows (λ i. make (table_in s l i) (table_in t l i)) (min (get_or l c 0) most)) (make u v)
one_more make s t c most l next k u v free kept p q up =
    let count : min (get_or next c 0) most ≡ k + 1 = omega arith in
    (λ x. rows (λ i. make (p x i) (q x i)) (count x))
    ∙ rows-added make (table_in s l) (table_in t l) k u v
    ∙ ap (λ j. add (rows (λ i. make (table_in s l i) (table_in t l i)) j) (make u v)) kept

-- The stores of a row in two tables, and of the number kept.
abbrev two_words : Table ℕ → Table ℕ → ℕ → ℕ → ℕ → ℕ → List (ℕ × ℕ)
two_words s t c k u v = (s.first + k, u) ∷ (t.first + k, v) ∷ (c, k + 1) ∷ []

-- The number kept at word c, the table s and the table t come in this order in the buffer, and both tables have a row k.
record Following (c : ℕ) (s t : Table ℕ) (k : ℕ) : Type 0 where
  row : k < s.height
  again : k < t.height
  first : c < s.first
  next : behind s ≤ t.first
  last : behind t ≤ policy_words

two-more : {A : Type 0} (make : ℕ → ℕ → A) (s t : Table ℕ) (c most : ℕ) (l : List ℕ) → length l ≡ policy_words → (k u v : ℕ) → k < most →
    k ≡ min (get_or l c 0) most → Following c s t k
    → rows (λ i. make (table_in s (stores (two_words s t c k u v) l) i) (table_in t (stores (two_words s t c k u v) l) i))
    (min (get_or (stores (two_words s t c k u v) l) c 0) most) ≡
    add (rows (λ i. make (table_in s l i) (table_in t l i)) (min (get_or l c 0) most)) (make (s.read u) (t.read v))
two-more make s t c most l room k u v free kept h =
    let l₁ = set l (s.first + k) u in
    let l₂ = set l₁ (t.first + k) v in
    let room₁ : length l₁ ≡ policy_words = rw length-set room in
    let room₂ : length l₂ ≡ policy_words = rw length-set room₁ in
    one_more make s t c most l (set l₂ c (k + 1)) k (s.read u) (t.read v) free kept
    (table-off s l₂ c (k + 1) (omega arith) ∙ table-off s l₁ (t.first + k) v (omega arith) ∙ table_same s l k u (omega arith) (omega arith))
    (table-off t l₂ c (k + 1) (omega arith) ∙ table_same t l₁ k v (omega arith) (omega arith) ∙
    ap (λ f. upd f k (t.read v)) (table-off t l (s.first + k) u (omega arith)))
    (get_or-set_same l₂ c (k + 1) 0 (omega arith))

-- ---- Sets with a limit.
abbrev limit_words : ℕ → ℕ → ℕ → ℕ → List (ℕ × ℕ)
limit_words which = two_words (limit_table which) (member_table which) (limits_kept which)

module _ (l : List ℕ) (room : length l ≡ policy_words) (which k n m : ℕ) (small : which < 3) (free : k < 32) (kept : k ≡ limit_count which l) where
  limits-more : limits_in which (stores (limit_words which k n m) l) ≡ add (limits_in which l) (record { n = n; members = m })
  unfolding limit_at limit_count
  limits-more =
      two-more (λ n m. record { n = n; members = m }) (limit_table which) (member_table which) (limits_kept which) 32 l room k n m free kept (omega arith)

  pub limit-added : policy_of (stores (limit_words which k n m) l) ≡ limit_added (policy_of l) which n m
  unfolding policy_of rules_in
  limit-added =
      rules-are (limit_words which k n m) (omega arith) l _ _ (λ w. pairs_in w l)
      (λ w h. by_kind limits_in which l (stores (limit_words which k n m) l) _ limits-more w
      (λ other. keeps (limits-off w) (limit_words which k n m) (omega arith) l))
      (keeps blocks-off (limit_words which k n m) (omega arith) l)
      (λ w h. keeps (pairs-off w) (limit_words which k n m) (omega arith) l)
      ∙ ap (λ xs. with_rules (policy_of l) (with_limits (policy_of l).rules which (add xs (record { n = n; members = m })))) (sym (limits-are l which small))

-- ---- Blocks.
abbrev block_words : ℕ → ℕ → ℕ → List (ℕ × ℕ)
block_words = two_words partitioning_table block_table blocks_kept

module _ (l : List ℕ) (room : length l ≡ policy_words) (k a m : ℕ) (small : a < 16) (free : k < 64) (kept : k ≡ block_count l) where
  blocks_more : blocks_in (stores (block_words k a m) l) ≡ add (blocks_in l) (record { partitioning = a; tasks = m })
  unfolding block_at block_count
  blocks_more =
      let low : a % 16 ≡ a = omega arith in
      two-more (λ a m. record { partitioning = a; tasks = m }) partitioning_table block_table blocks_kept 64 l room k a m free kept (omega arith)
      ∙ ap (λ a. add (blocks_in l) (record { partitioning = a; tasks = m })) low

  pub block-added : policy_of (stores (block_words k a m) l) ≡ block_added (policy_of l) a m
  unfolding policy_of rules_in
  block-added =
      rules-are (block_words k a m) (omega arith) l (λ w. limits_in w l) _ (λ w. pairs_in w l)
      (λ w h. keeps (limits-off w) (block_words k a m) (omega arith) l)
      blocks_more
      (λ w h. keeps (pairs-off w) (block_words k a m) (omega arith) l)

-- ---- Pairs: both tasks are in one word.
abbrev pair_words : ℕ → ℕ → ℕ → ℕ → List (ℕ × ℕ)
pair_words which k a b = ((pair_table which same).first + k, a + 64 * b) ∷ (pairs_kept which, k + 1) ∷ []

module _ (l : List ℕ) (room : length l ≡ policy_words) (which k a b : ℕ) (small : which < 2) (first : a < 64) (second : b < 64) (free : k < 64)
    (kept : k ≡ pair_count which l) where
  pair_row : (read : ℕ → ℕ) (x : ℕ) → read (a + 64 * b) ≡ x →
      table_in (pair_table which read) (stores (pair_words which k a b) l) ≡ upd (table_in (pair_table which read) l) k x
  pair_row read x e =
      table-off (pair_table which read) (set l ((pair_table which same).first + k) (a + 64 * b)) (pairs_kept which) (k + 1) (omega arith)
      ∙ table_same (pair_table which read) l k (a + 64 * b) free (omega arith)
      ∙ ap (upd (table_in (pair_table which read) l) k) e

  pairs-more : pairs_in which (stores (pair_words which k a b) l) ≡ add (pairs_in which l) (record { a = a; b = b })
  unfolding pair_at pair_count
  pairs-more =
      let room₁ : length (set l ((pair_table which same).first + k) (a + 64 * b)) ≡ policy_words = rw length-set room in
      one_more (λ a b. record { a = a; b = b }) (pair_table which (λ w. w % 64)) (pair_table which (λ w. w / 64 % 64)) (pairs_kept which) 64 l
      (stores (pair_words which k a b) l) k a b free kept
      (pair_row (λ w. w % 64) a (omega arith))
      (pair_row (λ w. w / 64 % 64) b (omega arith))
      (get_or-set_same (set l ((pair_table which same).first + k) (a + 64 * b)) (pairs_kept which) (k + 1) 0 (omega arith))

  pub pair-added : policy_of (stores (pair_words which k a b) l) ≡ pair_added (policy_of l) which a b
  unfolding policy_of rules_in
  pair-added =
      rules-are (pair_words which k a b) (omega arith) l (λ w. limits_in w l) _ _
      (λ w h. keeps (limits-off w) (pair_words which k a b) (omega arith) l)
      (keeps blocks-off (pair_words which k a b) (omega arith) l)
      (λ w h. by_kind pairs_in which l (stores (pair_words which k a b) l) _ pairs-more w (λ other. keeps (pairs-off w) (pair_words which k a b) (omega arith) l))
      ∙ ap (λ xs. with_rules (policy_of l) (with_pairs (policy_of l).rules which (add xs (record { a = a; b = b })))) (sym (pairs-are l which small))

-- ---- Walls: the row, its bit in the bucket of its object, and the number of rows kept.
only-walls : (ws : List (ℕ × ℕ)) → Every (λ w. walls_kept ≤ w.0) ws → (l : List ℕ) → policy_of (stores ws l) ≡ with_walls (policy_of l) (walls_in (stores ws l))
unfolding policy_of
only-walls [] h l = refl
only-walls (w ∷ ws) h l =
    only-walls ws h.1 (set l w.0 w.1)
    ∙ ap (λ t. with_walls t (walls_in (stores ws (set l w.0 w.1)))) (in-walls l w.0 w.1 h.0)

-- The stores of a row of a wall.
abbrev wall_words : ℕ → ℕ → ℕ → ℕ → ℕ → List (ℕ × ℕ)
wall_words k wall block object m =
    (walled_table.first + k, wall + 16 * block + 256 * object) ∷ (wall_bucket_table.first + wall_word object (k / 64), m) ∷ (walls_kept, k + 1) ∷ []

module _ (l : List ℕ) (room : length l ≡ policy_words) (k wall block object m : ℕ) (first : wall < 16) (second : block < 16) (third : object < 65536)
    (free : k < 256) (kept : k ≡ wall_count l) (bit : m ≡ plus (wall_rows l object (k / 64)) (k % 64)) where
  walls-more : walls_in (stores (wall_words k wall block object m) l) ≡ add (walls_in l) (record { wall = wall; block = block; object = object })
  unfolding walled_at wall_count wall_rows
  walls-more =
      let w = wall + 16 * block + 256 * object in
      let at = wall_word object (k / 64) in
      let new : Walled = record { wall = wall; block = block; object = object } in
      let l₁ = set l (walled_table.first + k) w in
      let l₂ = set l₁ (wall_bucket_table.first + at) m in
      let room₁ : length l₁ ≡ policy_words = rw length-set room in
      let room₂ : length l₂ ≡ policy_words = rw length-set room₁ in
      let inside : at < 256 = omega arith in
      let row : table_in walled_table (set l₂ walls_kept (k + 1)) ≡ upd (table_in walled_table l) k new =
      table-off walled_table l₂ walls_kept (k + 1) (omega arith)
      ∙ table-off walled_table l₁ (wall_bucket_table.first + at) m (omega arith)
      ∙ table_same walled_table l k w free (omega arith)
      ∙ ap (upd (table_in walled_table l) k) (walled-word wall block object first second third) in
      let buckets : table_in wall_bucket_table (set l₂ walls_kept (k + 1)) ≡ upd (table_in wall_bucket_table l) at (plus (table_in wall_bucket_table l at) (k % 64)) =
      table-off wall_bucket_table l₂ walls_kept (k + 1) (omega arith)
      ∙ table_same wall_bucket_table l₁ at m inside (omega arith)
      ∙ (λ x. upd (table-off wall_bucket_table l (walled_table.first + k) w (omega arith) x) at (bit x)) in
      let stored : get_or (set l₂ walls_kept (k + 1)) walls_kept 0 ≡ k + 1 = get_or-set_same l₂ walls_kept (k + 1) 0 (omega arith) in
      let count : min (get_or (set l₂ walls_kept (k + 1)) walls_kept 0) 256 ≡ k + 1 = omega arith in
      (λ x. rows (λ i. listed_row (buckets x) i (row x i)) (count x))
      ∙ walled-added (table_in walled_table l) (table_in wall_bucket_table l) new k free
      ∙ ap (λ j. add (rows (λ i. listed_row (table_in wall_bucket_table l) i (table_in walled_table l i)) j) new) kept

  pub wall-added : policy_of (stores (wall_words k wall block object m) l) ≡ wall_added (policy_of l) wall block object
  unfolding policy_of
  wall-added = only-walls (wall_words k wall block object m) (omega arith) l ∙ ap (with_walls (policy_of l)) walls-more
