-- How a program writes the records in the order of the tags: each record goes to the next free place of its kind, after the places of all lower kinds.
use Rattle.std.specs.Prelude.{ℕ, zero, suc, ◌+◌, cond, List, [], ◌∷◌, eqb}
use Rattle.paper_lower.specs.Sets.{Set, plus}
use Rattle.paper_lower.specs.Lists.{Maybe, upd, many, keep}
use Rattle.paper_lower.specs.Lists.Maybe.{none, just}
use Rattle.paper_lower.specs.Records.{Bytes, Record, put_at}
use Rattle.paper_opl.specs.Tree.{Tag, if-found}
use Rattle.paper_opl.specs.Naming.{Line, Names, task_record}
use Rattle.paper_opl.specs.Walk.{Context, turn, kind_at, leading, Saying, saying, record_said}

-- The record, or one of zeros if there is none; it is used only if there is one.
abbrev pub valued : Maybe Record → Record
valued m = if-found m (record { kind = 0; n = 0; a = 0; b = 0; c = 0; m = 0 }) (λ r. r)

-- Writes the records of task lines, from place p on.
unfoldable pub fill_lines : Names → ℕ → List Line → Bytes → Bytes
fill_lines ns p [] out = out
fill_lines ns p (l ∷ ls) out = fill_lines ns (suc p) ls (put_at out p (valued (task_record ns l)))

-- Writes the records of tags, each at the next place of its kind.
unfoldable pub fill : Names → Context → (ℕ → ℕ) → List Tag → Bytes → Bytes
fill ns c next [] out = out
fill ns c next (t ∷ ts) out =
    cond (eqb (kind_at c t) 0) (fill ns (turn c t) next ts out)
    (fill ns (turn c t) (upd next (kind_at c t) (suc (next (kind_at c t)))) ts (put_at out (next (kind_at c t)) (valued (record_said ns (saying c t (leading ts))))))

-- The number of records of a kind.
abbrev pub count_of : List Saying → List Line → ℕ → ℕ
count_of xs ls k = cond (eqb k 6) (many ls) (many (keep (λ x. eqb x.kind k) xs))

-- The number of records of lower kinds: the first place of a kind.
unfoldable pub start_of : List Saying → List Line → ℕ → ℕ
start_of xs ls zero = 0
start_of xs ls (suc zero) = 0
start_of xs ls (suc (suc k)) = start_of xs ls (suc k) + count_of xs ls (suc k)

-- The set m together with some numbers, from left to right; absent if one of them is.
unfoldable pub set_from : Set → List (Maybe ℕ) → Maybe Set
set_from m [] = just m
set_from m (k ∷ ks) = if-found k none (λ i. set_from (plus m i) ks)

-- The number of records of each kind that tags yield, added to the counts f.
unfoldable pub tally : Context → (ℕ → ℕ) → List Tag → ℕ → ℕ
tally c f [] = f
tally c f (t ∷ ts) = cond (eqb (kind_at c t) 0) (tally (turn c t) f ts) (tally (turn c t) (upd f (kind_at c t) (suc (f (kind_at c t)))) ts)
