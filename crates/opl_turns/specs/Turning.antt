-- A pass over the tags of a text: a cursor is an index in the text, with the context that the tags before it determine.
use Rattle.std.specs.Prelude.{ℕ, suc, ◌≤◌, ◌<◌, ◌≡◌, Bool, cond, List, [], ◌∷◌, eqb, length, Option, Some, None}
use Rattle.paper_lower.specs.Lists.{upd, Every}
use Rattle.paper_lower.specs.Records.{Bytes, put_at}
use Rattle.paper_opl.specs.Reading.{Text, text}
use Rattle.paper_opl.specs.Tree.{Tag, decimal}
use Rattle.paper_opl.specs.Naming.{Names, value_of}
use Rattle.paper_opl.specs.Walk.{Context, few_from, leading, Saying, sayings, record_said}
use Rattle.paper_opl.specs.Filling.{valued, fill, tally}
use Rattle.opl_tags.specs.Tags.{given_at, walk_at}
use Rattle.opl_turns.specs.Meaning.{kind_by, sets_by, parts_by, walls_by, blocks_by, number_by}
use Rattle.opl_turns.specs.Listing.{Leads}
use Rattle.opl_turns.specs.declared.Cursor.{Cursor}
use Rattle.opl_turns.specs.declared.Turned.{Turned}
use Rattle.opl_turns.specs.declared.Turned.TheVariants.{Says, Silent}

-- The context of a cursor.
abbrev pub context_of : Cursor → Context
context_of c = record { sets = c.sets; partitionings = c.parts; walls = c.walls; blocks = c.blocks }

-- The start tags from a cursor on.
abbrev pub tags_at : Text → Cursor → List Tag
tags_at s c = walk_at s c.at

-- The cursor after the tag of an element.
abbrev pub behind : ℕ → Cursor → ℕ → ℕ → Cursor
behind id c end entry = record {
  at = end;
  entry = entry;
  sets = sets_by c.sets id;
  parts = parts_by c.parts id;
  walls = walls_by c.walls id;
  blocks = blocks_by c.walls c.blocks id;
}

-- The result of going over that tag.
abbrev pub turned_by : ℕ → Cursor → ℕ → ℕ → Turned
turned_by id c end entry = cond (eqb (kind_by c.sets id) 0) (Silent (behind id c end entry)) (Says (kind_by c.sets id) (number_by c.parts c.blocks id) end (behind id c end entry))

-- The cardinality of a tag, if it has one, is at most 255.
abbrev pub SmallTag : Tag → Type 0
SmallTag t = decimal 0 (value_of (text "cardinality") t.given) ≤ 255

-- The same for the start tag whose name ends at `end`.
abbrev pub Cardinal : Text → ℕ → Type 0
Cardinal s end = decimal 0 (value_of (text "cardinality") (given_at s end)) ≤ 255

-- The record that the start tag whose name ends at `end` yields.
abbrev pub saying_at : Text → ℕ → ℕ → ℕ → Saying
saying_at s kind number end = record { kind = kind; found = record { number = number; given = given_at s end; inside = leading (walk_at s end) } }

-- A cursor is not past the end, and all tags after it have small cardinalities.
pub record Stood (s : Text) (c : Cursor) : Type 0 where
  pub inside : c.at ≤ length s
  pub low : c.sets ≤ 10
  pub small : Every SmallTag (tags_at s c)

-- The list has the start tags from the cursor on.
abbrev pub Led : Text → List ℕ → Cursor → Type 0
Led s l c = Leads s l c.entry c.at

-- Whether the counts are within their limits here and after each further tag.
abbrev pub few_at : Text → Cursor → Bool
few_at s c = few_from (context_of c) (tags_at s c)

-- One step from a cursor to the next.
pub record Steps (s : Text) (c n : Cursor) : Type 0 where
  pub past : c.at < n.at
  pub stood : Stood s n
  pub fews : few_at s c ≡ few_at s n

-- The step goes over a tag that yields no record.
pub record Passes (s : Text) (c n : Cursor) : Type 0 where
  pub steps : Steps s c n
  pub says : sayings (context_of c) (tags_at s c) ≡ sayings (context_of n) (tags_at s n)
  pub tallies : (f : ℕ → ℕ) → tally (context_of c) f (tags_at s c) ≡ tally (context_of n) f (tags_at s n)
  pub fills : (ns : Names) (f : ℕ → ℕ) (out : Bytes) → fill ns (context_of c) f (tags_at s c) out ≡ fill ns (context_of n) f (tags_at s n) out

-- The step goes over a tag that yields a record.
pub record Tells (s : Text) (c : Cursor) (kind number end : ℕ) (n : Cursor) : Type 0 where
  pub steps : Steps s c n
  pub ends : n.at ≡ end
  pub cardinal : Cardinal s end
  pub some : 0 < kind
  pub small : kind < 19
  pub says : sayings (context_of c) (tags_at s c) ≡ saying_at s kind number end ∷ sayings (context_of n) (tags_at s n)
  pub tallies : (f : ℕ → ℕ) → tally (context_of c) f (tags_at s c) ≡ tally (context_of n) (upd f kind (suc (f kind))) (tags_at s n)
  pub fills : (ns : Names) (f : ℕ → ℕ) (out : Bytes)
      → fill ns (context_of c) f (tags_at s c) out
      ≡ fill ns (context_of n) (upd f kind (suc (f kind))) (tags_at s n) (put_at out (f kind) (valued (record_said ns (saying_at s kind number end))))

-- The contract of `turn`.
abbrev pub Turns : Text → List ℕ → Cursor → Option Turned → Type 0
Turns s l c (Some (Says kind number end n)) = Tells s c kind number end n × Led s l n
Turns s l c (Some (Silent n)) = Passes s c n × Led s l n
Turns s l c None = tags_at s c ≡ []
