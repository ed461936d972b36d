-- The records of a policy buffer in the order in which they are written: kind after kind, and row after row within a kind.
use Rattle.std.specs.Prelude.{ℕ, ◌%◌, cond, List, [], ◌∷◌, eqb}
use Rattle.paper_lower.specs.Sets.{Set, has}
use Rattle.paper_lower.specs.Tables.{Limit, Block, Pair, Walled}
use Rattle.paper_lower.specs.Records.{Record}
use Rattle.paper_lower.specs.Written.{in_turn, when, of_there, row}
use Rattle.policy.specs.Layout.{limit_count, limit_at, block_count, block_at, pair_count, pair_at, wall_count, walled_at}
use Rattle.policy.specs.Reading.{policy_of}

-- A kind: its number of rows, and the records of each row.
pub record Line : Type 0 where
  pub kind : ℕ
  pub height : ℕ
  pub cells : ℕ → List Record

-- The kind with these parts.
abbrev line : ℕ → ℕ → (ℕ → List Record) → Line
line kind height cells = record { kind = kind; height = height; cells = cells }

-- ---- The records of a row.

-- A record (a, b) for each member b of the set m.
abbrev pub spread : ℕ → ℕ → Set → List Record
spread kind a m = in_turn 64 (λ b. when (has m b) (row kind 0 a b 0 0))

-- A record (a, b) for each permission b whose set has a.
abbrev pub across : ℕ → ℕ → (ℕ → Set) → List Record
across kind a sets = in_turn 256 (λ b. when (has (sets b) a) (row kind 0 a b 0 0))

-- The record of a rule.
abbrev pub limit_row : ℕ → Limit → Record
limit_row kind x = row kind (x.n % 256) 0 0 0 x.members

abbrev pub block_row : Block → Record
block_row x = row 12 0 x.partitioning 0 0 x.tasks

abbrev pub row_of_pair : ℕ → Pair → Record
row_of_pair kind x = row kind 0 x.a x.b 0 0

abbrev pub wall_row : Walled → Record
wall_row x = row 18 0 x.wall x.block x.object 0

-- ---- All kinds.
unfoldable pub lines_in : List ℕ → List Line
lines_in l =
    line 1 1024 (λ a. when ((policy_of l).people.users a) (row 1 0 a 0 0 0))
    ∷ line 2 64 (λ a. when (has (policy_of l).people.roles a) (row 2 0 a 0 0 0))
    ∷ line 3 256 (λ a. of_there (λ x. row 3 0 a x.operation x.object 0) ((policy_of l).permissions.declared a))
    ∷ line 4 1024 (λ a. spread 4 a ((policy_of l).people.assigned a))
    ∷ line 5 64 (λ a. across 5 a (policy_of l).permissions.holders)
    ∷ line 6 64 (λ a. of_there (λ j. row 6 0 a j 0 0) ((policy_of l).tasks.template a))
    ∷ line 7 64 (λ a. spread 7 a ((policy_of l).tasks.open_to a))
    ∷ line 8 64 (λ a. across 8 a (policy_of l).permissions.carriers)
    ∷ line 9 (limit_count 0 l) (λ k. limit_row 9 (limit_at 0 l k) ∷ [])
    ∷ line 10 (limit_count 1 l) (λ k. limit_row 10 (limit_at 1 l k) ∷ [])
    ∷ line 11 (limit_count 2 l) (λ k. limit_row 11 (limit_at 2 l k) ∷ [])
    ∷ line 12 (block_count l) (λ k. block_row (block_at l k) ∷ [])
    ∷ line 13 16 (λ a. when ((policy_of l).tasks.banned a) (row 13 0 a 0 0 0))
    ∷ line 14 64 (λ a. of_there (λ n. row 14 n a 0 0 0) ((policy_of l).tasks.most a))
    ∷ line 15 (pair_count 0 l) (λ k. row_of_pair 15 (pair_at 0 l k) ∷ [])
    ∷ line 16 (pair_count 1 l) (λ k. row_of_pair 16 (pair_at 1 l k) ∷ [])
    ∷ line 17 64 (λ a. spread 17 a ((policy_of l).seniority.juniors a))
    ∷ line 18 (wall_count l) (λ k. wall_row (walled_at l k) ∷ [])
    ∷ []

-- A kind that is not written has no rows.
abbrev pub line_missing : ℕ → Line
line_missing k = line k 0 (λ _. [])

-- The kind with number k.
unfoldable pub line_of : List Line → ℕ → Line
line_of [] k = line_missing k
line_of (x ∷ xs) k = cond (eqb x.kind k) x (line_of xs k)

-- The number of rows of a kind.
abbrev pub height_in : List ℕ → ℕ → ℕ
height_in l kind = (line_of (lines_in l) kind).height

-- The records of row a of a kind.
abbrev pub row_in : List ℕ → ℕ → ℕ → List Record
row_in l kind a = (line_of (lines_in l) kind).cells a

-- All records of a kind.
unfoldable pub kind_in : List ℕ → ℕ → List Record
kind_in l kind = in_turn (height_in l kind) (row_in l kind)

-- The roles that have permission b (kind 5) or the tasks that carry it (kind 8).
unfoldable pub side_in : List ℕ → ℕ → ℕ → Set
side_in l kind b = cond (eqb kind 5) ((policy_of l).permissions.holders b) ((policy_of l).permissions.carriers b)
