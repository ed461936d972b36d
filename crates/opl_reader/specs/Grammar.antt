-- What the results of the readers of attributes, tags, elements and contents mean in paper_opl's definitions. The code only judges; it keeps nothing.
use Rattle.std.specs.Prelude.{ℕ, zero, suc, ◌-◌, ◌/◌, ◌%◌, ◌≤◌, ◌≡◌, Bool, cond, List, [], eqb, length, drop, Result, Ok, Err}
use Rattle.paper_opl.specs.Reading.{Text, text, Read, after, same, starts, expect, space, misc, equals, value}
use Rattle.paper_opl.specs.Reading.Read.{got, bad}
use Rattle.paper_opl.specs.Elements.{Class, Attribute, Child, elements_of, row_in}
use Rattle.paper_opl.specs.Tree.{Opened, fits, without, attribute, attributes, opening, content, body, element, is_version, is_encoding, is_standalone, doctype}
use Rattle.opl_table.specs.Numbers.{name_of, left_of, list_of}
use Rattle.opl_text.specs.declared.BadByte.{BadByte}
use Rattle.opl_reader.specs.declared.Taken.{Taken}
use Rattle.opl_reader.specs.declared.Start.{Start}
use Rattle.opl_reader.specs.declared.Part.{Part}
use Rattle.opl_reader.specs.declared.Part.TheVariants.{Version, Encoding, Standalone}

-- A result without the value that was read.
abbrev pub forget : {A : Type 0} → Read A → Read (Unit {0})
forget (got x r) = got tt r
forget (bad r) = bad r

-- ---- An attribute: the attributes that may still be given after it.

-- Reads an attribute of those in `left`.
unfoldable pub remaining : List Attribute → Text → Read (List Attribute)
remaining left s = after (attribute left s) (λ g r. got (without g.name left) r)

-- Reads a value of this class; `more` is the result.
unfoldable pub classed : Class → List Attribute → Text → Read (List Attribute)
classed class more s = after (value s) (λ v r. cond (fits class v) (got more r) (bad (drop 1 s)))

-- The same with the "=" before the value.
unfoldable pub valued : Class → List Attribute → Text → Read (List Attribute)
valued class more s = after (equals s) (λ _ r. classed class more r)

-- Reads "=" and a value after a name that is not allowed, which begins the text t; always a refusal.
unfoldable pub strange : Text → Text → Read (List Attribute)
strange t s = after (equals s) (λ _ u. after (value u) (λ _ _. bad t))

-- Reads all attributes of a start tag.
unfoldable pub attributes_read : List Attribute → Text → Read (Unit {0})
attributes_read left s = forget (attributes (length s) left s)

-- The meaning of a result with a `Taken`.
abbrev pub taken_of : Text → Result Taken BadByte → Read (List Attribute)
taken_of s (Ok taken) = got (list_of taken.list) (drop taken.next s)
taken_of s (Err e) = bad (drop e.at s)

-- The index in it.
abbrev pub taken_at : Result Taken BadByte → ℕ
taken_at (Ok taken) = taken.next
taken_at (Err e) = e.at

-- The code's result means what the definition reads, and its index is not past the end.
pub record Takes (s : Text) (read : Read (List Attribute)) (r : Result Taken BadByte) : Type 0 where
  pub read_is : taken_of s r ≡ read
  pub inside : taken_at r ≤ length s

-- ---- The start of an element.

-- The meaning of a result with a `Start`.
abbrev pub opened_of : Text → Result Start BadByte → Read Opened
opened_of s (Ok start) = got (record { name = name_of start.id; left = left_of start.left }) (drop start.end s)
opened_of s (Err e) = bad (drop e.at s)

-- The index in it.
abbrev pub start_at : Result Start BadByte → ℕ
start_at (Ok start) = start.end
start_at (Err e) = e.at

-- The code's result means what the definition reads, and its index is not past the end.
pub record Opens (s : Text) (read : Read Opened) (r : Result Start BadByte) : Type 0 where
  pub read_is : opened_of s r ≡ read
  pub inside : start_at r ≤ length s

-- The code passes the depth that is still allowed and the choice of the call as one number: twice the depth, plus one for the wider call.
abbrev pub wider_by : ℕ → Bool
wider_by n = eqb (n % 2) 1

-- The depth in that number.
abbrev pub deep_by : ℕ → ℕ
deep_by n = n / 2

-- The number at the root of a document; and two less, the number inside its root element.
pub record Deepest (all : Bool) (n : ℕ) : Type 0 where
  pub wider : wider_by n ≡ all
  pub deep : deep_by n ≡ 8
  pub wider-in : wider_by (n - 2) ≡ all
  pub deep_in : deep_by (n - 2) ≡ 7

-- Reads the rest of a start tag, of an element with at most this depth of nesting.
unfoldable pub tagged : Bool → ℕ → Opened → Text → Read Opened
tagged all zero c s = bad s
tagged all (suc d) c s = after (attributes (length s) (row_in (elements_of all) c.name).attributes s) (λ _ r. got c r)

-- The same, by the numbers of the name and of the state after it.
unfoldable pub tagged_in : Bool → ℕ → ℕ → ℕ → Text → Read Opened
tagged_in all d id more s = tagged all d (record { name = name_of id; left = left_of more }) s

-- The same, by the code's number for depth and call.
abbrev pub tagged_read : ℕ → ℕ → ℕ → Text → Read Opened
tagged_read n id more s = tagged_in (wider_by n) (deep_by n) id more s

-- Reads a whole start tag.
unfoldable pub start_in : Bool → ℕ → List Child → Text → Read Opened
start_in all d left s = after (opening left s) (λ c r. tagged all d c r)

-- The same, by the code's number for depth and call.
abbrev pub start_read : ℕ → List Child → Text → Read Opened
start_read n left s = start_in (wider_by n) (deep_by n) left s

-- ---- An element from the end of its start tag on, and the content of an element.

-- Reads an element from the end of its start tag on.
unfoldable pub element_in : Bool → ℕ → ℕ → Text → Read (Unit {0})
element_in all d id s = forget (body (element (elements_of all) d) (row_in (elements_of all) (name_of id)) [] s)

-- The same, by the code's number for depth and call.
abbrev pub element_read : ℕ → ℕ → Text → Read (Unit {0})
element_read n id s = element_in (wider_by n) (deep_by n) id s

-- Reads the content of an element, including its end tag.
unfoldable pub content_in : Bool → ℕ → ℕ → ℕ → Text → Read (Unit {0})
content_in all d id left s = forget (content (element (elements_of all) d) (suc (length s)) (name_of id) (left_of left) s)

-- The same, by the code's number for depth and call.
abbrev pub content_read : ℕ → ℕ → ℕ → Text → Read (Unit {0})
content_read n id left s = content_in (wider_by n) (deep_by n) id left s

-- ---- The prolog and the document.

-- Reads white space and a literal.
unfoldable pub spaced_read : Text → Text → Read (Unit {0})
spaced_read w s = after (space s) (λ _ r. expect w r)

-- Whether a value is allowed in this part of the XML declaration.
abbrev pub may_stand : Part → Text → Bool
may_stand Version = is_version
may_stand Encoding = is_encoding
may_stand Standalone = is_standalone

-- Reads an optional DOCTYPE, and the white space and comments after it.
unfoldable pub typed_read : Text → Read (Unit {0})
typed_read s = cond (starts (text "<!DOCTYPE") s) (after (doctype (drop 9 s)) (λ _ r. misc (length r) r)) (got tt s)

-- Reads the root element from the end of its start tag on, and the end of the text after it.
unfoldable pub root_in : Bool → ℕ → ℕ → Text → Read (Unit {0})
root_in all d id s = after (element_in all d id s) (λ _ r. after (misc (length r) r) (λ _ u. cond (same u []) (got tt u) (bad u)))

-- The same, by the code's number for depth and call.
abbrev pub root_read : ℕ → ℕ → Text → Read (Unit {0})
root_read n id s = root_in (wider_by n) (deep_by n) id s
