-- The layout of the policy buffer: where each table is, and how one word of it reads. Every word reads as something.
use Rattle.std.specs.Prelude.{ℕ, ◌+◌, ◌-◌, ◌*◌, ◌/◌, ◌%◌, min, Bool, false, not, cond, ◌||◌, List, eqb, get_or}
use Rattle.paper_lower.specs.Lists.{Maybe, holds}
use Rattle.paper_lower.specs.Lists.Maybe.{none, just}
use Rattle.paper_lower.specs.Sets.{Set, empty, has, plus}
use Rattle.paper_lower.specs.Tables.{Permission, Limit, Block, Pair, Walled}
use Rattle.paper_lower.specs.Policy.{is_for}
use Rattle.replies.specs.Cells.{column, rows}

-- ---- How a word reads.

-- A number or a set is the word itself.
abbrev pub same : ℕ → ℕ
same w = w

-- A flag is set if the word is odd.
abbrev pub flag_of : ℕ → Bool
flag_of w = eqb (w % 2) 1

-- A permission if the upper half is 1: the operation is in bits 0 to 15, the object in bits 16 to 31.
unfoldable pub permission_of : ℕ → Maybe Permission
permission_of w = cond (eqb (w / 4294967296) 1) (just (record { operation = w % 65536; object = w / 65536 % 65536 })) none

-- A template if bit 4 is set: its number is in bits 0 to 3.
unfoldable pub template_of : ℕ → Maybe ℕ
template_of w = cond (eqb (w / 16 % 2) 1) (just (w % 16)) none

-- A count limit in bits 0 to 7; 0 means no limit.
unfoldable pub most_of : ℕ → Maybe ℕ
most_of w = cond (not (eqb (w % 256) 0)) (just (w % 256)) none

-- ---- A table: its first word, its number of rows (one word each), how a word reads, and the value of rows past the last.
pub record Table (A : Type 0) : Type 0 where
  pub first : ℕ
  pub height : ℕ
  pub read : ℕ → A
  pub past : A

-- The first word after the table, where the next table starts.
abbrev pub behind : {A : Type 0} → Table A → ℕ
behind t = t.first + t.height

-- The table as a function from the row number.
abbrev pub table_in : {A : Type 0} → Table A → List ℕ → ℕ → A
table_in t l = column t.read t.past t.first t.height l

-- ---- Single words: the declared roles, the numbers of rules kept of each kind, and the roles that have a role below them.
abbrev pub roles_word : ℕ
roles_word = 0

abbrev pub limits_kept : ℕ → ℕ
limits_kept which = 1 + which

abbrev pub blocks_kept : ℕ
blocks_kept = 4

abbrev pub pairs_kept : ℕ → ℕ
pairs_kept which = 5 + which

abbrev pub seniors_word : ℕ
seniors_word = 7

-- ---- The tables, one after the other. A new table goes at the end, so that it moves no other.

-- Whether each user is declared.
abbrev pub user_table : Table Bool
user_table = record { first = 8; height = 1024; read = flag_of; past = false }

-- The roles assigned to each user.
abbrev pub assigned_table : Table Set
assigned_table = record { first = behind user_table; height = 1024; read = same; past = empty }

-- The pair of each permission.
abbrev pub permission_table : Table (Maybe Permission)
permission_table = record { first = behind assigned_table; height = 256; read = permission_of; past = none }

-- The roles that have each permission.
abbrev pub holder_table : Table Set
holder_table = record { first = behind permission_table; height = 256; read = same; past = empty }

-- The tasks that carry each permission.
abbrev pub carrier_table : Table Set
carrier_table = record { first = behind holder_table; height = 256; read = same; past = empty }

-- The template of each task.
abbrev pub template_table : Table (Maybe ℕ)
template_table = record { first = behind carrier_table; height = 64; read = template_of; past = none }

-- The roles that each task is open to.
abbrev pub open_to_table : Table Set
open_to_table = record { first = behind template_table; height = 64; read = same; past = empty }

-- The count limit of each task.
abbrev pub most_table : Table (Maybe ℕ)
most_table = record { first = behind open_to_table; height = 64; read = most_of; past = none }

-- Whether each template is banned for lone workers.
abbrev pub banned_table : Table Bool
banned_table = record { first = behind most_table; height = 16; read = flag_of; past = false }

-- ---- The rules. Each kind has a number of rows kept, which is capped at its limit, and the rows.

-- The n of each set. Kinds of sets by number: static sets 0, dynamic sets 1, task sets 2.
abbrev pub limit_table : ℕ → Table ℕ
limit_table which = record { first = behind banned_table + 64 * which; height = 32; read = same; past = 0 }

-- The members of each set.
abbrev pub member_table : ℕ → Table Set
member_table which = record { first = behind (limit_table 0) + 64 * which; height = 32; read = same; past = empty }

-- The number of sets of a kind.
unfoldable pub limit_count : ℕ → List ℕ → ℕ
limit_count which l = min (get_or l (limits_kept which) 0) 32

-- Set k of a kind.
unfoldable pub limit_at : ℕ → List ℕ → ℕ → Limit
limit_at which l k = record { n = table_in (limit_table which) l k; members = table_in (member_table which) l k }

-- The partitioning of each block.
abbrev pub partitioning_table : Table ℕ
partitioning_table = record { first = behind (member_table 2); height = 64; read = λ w. w % 16; past = 0 }

-- The tasks of each block.
abbrev pub block_table : Table Set
block_table = record { first = behind partitioning_table; height = 64; read = same; past = empty }

-- The number of blocks.
unfoldable pub block_count : List ℕ → ℕ
block_count l = min (get_or l blocks_kept 0) 64

-- Block k.
unfoldable pub block_at : List ℕ → ℕ → Block
block_at l k = record { partitioning = table_in partitioning_table l k; tasks = table_in block_table l k }

-- The pairs of tasks of a kind: bindings 0, prerequisites 1. Both tasks are in one word, a in bits 0 to 5 and b in bits 6 to 11; `read` takes one of them.
abbrev pub pair_table : ℕ → (ℕ → ℕ) → Table ℕ
pair_table which read = record { first = behind block_table + 64 * which; height = 64; read = read; past = 0 }

-- The number of pairs of a kind.
unfoldable pub pair_count : ℕ → List ℕ → ℕ
pair_count which l = min (get_or l (pairs_kept which) 0) 64

-- Pair k of a kind.
unfoldable pub pair_at : ℕ → List ℕ → ℕ → Pair
pair_at which l k = record { a = table_in (pair_table which (λ w. w % 64)) l k; b = table_in (pair_table which (λ w. w / 64 % 64)) l k }

-- ---- The rules of each kind, in policy order.
abbrev pub limits_in : ℕ → List ℕ → List Limit
limits_in which l = rows (limit_at which l) (limit_count which l)

abbrev pub blocks_in : List ℕ → List Block
blocks_in l = rows (block_at l) (block_count l)

abbrev pub pairs_in : ℕ → List ℕ → List Pair
pairs_in which l = rows (pair_at which l) (pair_count which l)

-- ---- Permissions by their pair of operation and object. Each pair has one of 1,024 buckets. A bucket's word lists two permissions by number and others in
-- groups of eight: group t is the permissions 8 t to 8 t + 7.
abbrev pub bucket_table : Table ℕ
bucket_table = record { first = behind (pair_table 1 same); height = 1024; read = same; past = 0 }

-- The bucket of a pair: a multiplicative hash, which spreads neighbouring pairs over all buckets.
unfoldable pub bucket_of : ℕ → ℕ → ℕ
bucket_of operation object = (operation + 65536 * object) * 2654435761 / 4194304 % 1024

-- ---- A bucket's word has the two numbers in its lowest 16 bits and the set of groups in its upper half.
abbrev pub first_in : ℕ → ℕ
first_in w = w % 256

abbrev pub second_in : ℕ → ℕ
second_in w = w / 256 % 256

abbrev pub eights_in : ℕ → Set
eights_in w = w / 4294967296

-- ---- The word with another first number, with another second number, and with the group of permission a added.
abbrev pub first_anew : ℕ → ℕ → ℕ
first_anew w a = w - first_in w + a

abbrev pub second_anew : ℕ → ℕ → ℕ
second_anew w a = w - 256 * second_in w + 256 * a

abbrev pub eights_anew : ℕ → ℕ → ℕ
eights_anew w a = w % 4294967296 + 4294967296 * plus (eights_in w) (a / 8)

-- Whether a bucket's word lists permission b.
unfoldable pub among : ℕ → ℕ → Bool
among w b = (eqb (first_in w) b || eqb (second_in w) b) || has (eights_in w) (b / 8)

-- Whether bucket h lists permission b.
unfoldable pub lists : (ℕ → ℕ) → ℕ → ℕ → Bool
lists buckets h b = among (buckets h) b

-- Permission b: its row, if the bucket of the row's pair lists b. Therefore a pair is looked for only in its bucket, whatever the buffer contains.
unfoldable pub listed : (ℕ → Maybe Permission) → (ℕ → ℕ) → ℕ → Maybe Permission
listed rows buckets b = cond (holds (λ x. lists buckets (bucket_of x.operation x.object) b) (rows b)) (rows b) none

-- The word of the pair's bucket.
unfoldable pub listing_for : List ℕ → ℕ → ℕ → ℕ
listing_for l operation object = table_in bucket_table l (bucket_of operation object)

-- Whether row b has this pair.
unfoldable pub row_holds : List ℕ → ℕ → ℕ → ℕ → Bool
row_holds l operation object b = holds (is_for operation object) (table_in permission_table l b)

-- Whether a row has a pair and the pair has bucket h.
unfoldable pub in_bucket : ℕ → Maybe Permission → Bool
in_bucket h r = holds (λ x. eqb (bucket_of x.operation x.object) h) r

-- The row, emptied if its pair has bucket h.
unfoldable pub unless_in : ℕ → Maybe Permission → Maybe Permission
unless_in h r = cond (in_bucket h r) none r

-- The row, emptied if its pair has bucket h and the bucket does not list it.
abbrev pub unless_stray : ℕ → Bool → Maybe Permission → Maybe Permission
unless_stray h found r = cond found r (unless_in h r)

-- ---- Senior roles (02, Ask 7). For each role: the roles that records put below it, and all roles below it.
abbrev pub junior_table : Table Set
junior_table = record { first = behind bucket_table; height = 64; read = same; past = empty }

-- All roles below each role.
abbrev pub below_table : Table Set
below_table = record { first = behind junior_table; height = 64; read = same; past = empty }

-- The roles that have a role below them.
unfoldable pub seniors_in : List ℕ → Set
seniors_in l = get_or l seniors_word 0

-- All roles below role r. The row of a role that is not in `seniors_in` is not read, so that one test can tell that no role of a set has a role below it.
unfoldable pub below_in : List ℕ → ℕ → Set
below_in l r = cond (has (seniors_in l) r) (table_in below_table l r) empty

-- ---- Walls (02, Ask 11): the number of rows kept, which is capped at its limit; the rows; and the rows that each object's bucket has.
abbrev pub walls_kept : ℕ
walls_kept = behind below_table

-- A row: the wall is in bits 0 to 3, the block in bits 4 to 7, the object in bits 8 to 23.
unfoldable pub walled_of : ℕ → Walled
walled_of w = record { wall = w % 16; block = w / 16 % 16; object = w / 256 % 65536 }

-- The rows of walls.
abbrev pub walled_table : Table Walled
walled_table = record { first = walls_kept + 1; height = 256; read = walled_of; past = walled_of 0 }

-- The buckets of objects: four words for each of 64 buckets, one bit per row.
abbrev pub wall_bucket_table : Table Set
wall_bucket_table = record { first = behind walled_table; height = 256; read = same; past = empty }

-- The index of the word of an object's bucket that has the rows 64 part to 64 part + 63.
abbrev pub wall_word : ℕ → ℕ → ℕ
wall_word object part = 4 * (object % 64) + part

-- Whether the object's bucket has row k.
unfoldable pub lists_row : (ℕ → Set) → ℕ → ℕ → Bool
lists_row buckets object k = has (buckets (wall_word object (k / 64))) (k % 64)

-- The object of a row that its object's bucket does not have: 65,536, a number that no record can name. Therefore an object is looked for only in its bucket,
-- whatever the buffer contains, and every row keeps its place.
abbrev pub no_object : ℕ
no_object = 65536

-- Row k as it counts.
unfoldable pub listed_row : (ℕ → Set) → ℕ → Walled → Walled
listed_row buckets k x = record { wall = x.wall; block = x.block; object = cond (lists_row buckets x.object k) x.object no_object }

-- The number of rows.
unfoldable pub wall_count : List ℕ → ℕ
wall_count l = min (get_or l walls_kept 0) 256

-- Row k.
unfoldable pub walled_at : List ℕ → ℕ → Walled
walled_at l k = listed_row (table_in wall_bucket_table l) k (table_in walled_table l k)

-- The rows of the object's bucket among the rows 64 part to 64 part + 63.
unfoldable pub wall_rows : List ℕ → ℕ → ℕ → Set
wall_rows l object part = table_in wall_bucket_table l (wall_word object part)

-- Whether row k has this object.
unfoldable pub walled_is : List ℕ → ℕ → ℕ → Bool
walled_is l object k = eqb (table_in walled_table l k).object object

-- The rows in policy order.
abbrev pub walls_in : List ℕ → List Walled
walls_in l = rows (walled_at l) (wall_count l)

-- ---- The length of the buffer: it ends with the last table.
abbrev pub policy_words : ℕ
policy_words = behind wall_bucket_table
