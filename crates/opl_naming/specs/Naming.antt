-- The names of all seven spaces in the scratch buffer, by one pass over the tags and the task lines; and the list of the tags, by the same pass.
use Rattle.std.specs.Prelude.{ℕ, ◌-◌, ◌≤◌, ◌<◌, ◌≡◌, true, false, cond, List, [], eqb, ltb, length, Some, None, Result, Ok, Err}
use Rattle.paper_lower.specs.Lists.{every}
use Rattle.paper_opl.specs.Reading.{Text}
use Rattle.paper_opl.specs.Walk.{tags}
use Rattle.opl_names.specs.Table.{names_in, Sound, Emptied}
use Rattle.opl_table.specs.Numbers.{PARTITION-OBJECT}
use Rattle.opl_spaces.specs.Spaces.{limit_of, table_of, list_of}
use Rattle.opl_line_names.specs.Names.{declared_at, short, tag_names, line_names, filled, Walked}
use Rattle.opl_line_names.specs.declared.LongName.{LongName as TooLong}
use Rattle.opl_said.specs.Said.{all_names, Held}
use Rattle.opl_turns.specs.Listing.{count_in, Leads, Listing}

-- The space in which an element declares a name; 5 if it declares none.
abbrev pub space_by : ℕ → ℕ
space_by e = cond (eqb e PARTITION-OBJECT) 4 (cond (ltb e 12) 5 (cond (ltb 16 e) 5 (e - 12)))

-- ---- One tag, for each of the five spaces.

-- One step in space i: the final names and the answer to whether all are short stay the same.
pub record Keeps (s : Text) (i at n : ℕ) (l l' : List ℕ) : Type 0 where
  pub sound : Sound s (limit_of i) (table_of i l')
  pub fills : filled (limit_of i) (names_in s (table_of i l)) (tag_names s i at) ≡ filled (limit_of i) (names_in s (table_of i l')) (tag_names s i n)
  pub shorts : every short (tag_names s i at) ≡ every short (tag_names s i n)

-- One step in all five spaces; the other two tables stay, and the list grows with the tags.
pub record Onwards (s : Text) (at n : ℕ) (l l' : List ℕ) : Type 0 where
  pub past : at < n
  pub inside : n ≤ length s
  pub room : length l' ≡ length l
  pub keeps : (i : ℕ) → i < 5 → Keeps s i at n l l'
  pub others : (j : ℕ) → 4 < j → j < 7 → table_of j l' ≡ table_of j l
  pub lists : (from : ℕ) → Listing s from (list_of l) at → Listing s from (list_of l') n

-- Some name from an index on is too long.
pub record LongFrom (s : Text) (at : ℕ) : Type 0 where
  pub space : ℕ
  pub of-tags : space < 5
  pub long : every short (tag_names s space at) ≡ false

-- The contract of `declare_tag`.
abbrev pub Goes : Text → ℕ → List ℕ → List ℕ → Walked → Type 0
Goes s at l l' (Ok (Some n)) = Onwards s at n l l'
Goes s at l l' (Err e) = LongFrom s at
Goes s at l l' (Ok None) = ((i : ℕ) → i < 5 → tag_names s i at ≡ []) × (l' ≡ l)

-- Each of the five tables is consistent.
abbrev pub AllSound : Text → List ℕ → Type 0
AllSound s l = (i : ℕ) → i < 5 → Sound s (limit_of i) (table_of i l)

-- ---- All tags from an index on.

-- Space i holds the names that the tags declare, and all of them are short.
pub record Filled (s : Text) (i from : ℕ) (l l' : List ℕ) : Type 0 where
  pub shorts : every short (tag_names s i from) ≡ true
  pub sound : Sound s (limit_of i) (table_of i l')
  pub names : names_in s (table_of i l') ≡ filled (limit_of i) (names_in s (table_of i l)) (tag_names s i from)

-- The same for all five spaces; the other two tables stay, and the list has the tags.
pub record AllFilled (s : Text) (from : ℕ) (l l' : List ℕ) : Type 0 where
  pub room : length l' ≡ length l
  pub each-space : (i : ℕ) → i < 5 → Filled s i from l l'
  pub others : (j : ℕ) → 4 < j → j < 7 → table_of j l' ≡ table_of j l
  pub lists : count_in (list_of l) ≡ 0 → Leads s (list_of l') 0 from

-- The contract of `declare_tags`.
abbrev pub Fills : Text → ℕ → List ℕ → List ℕ → Result (Unit {0}) TooLong → Type 0
Fills s from l l' (Ok u) = AllFilled s from l l'
Fills s from l l' (Err e) = LongFrom s from

-- ---- The contract of `empty_all`: no names in any space, and no tags in the list.
pub record AllEmptied (l l' : List ℕ) : Type 0 where
  pub room : length l' ≡ length l
  pub emptied : (i : ℕ) → i < 7 → Emptied (limit_of i) (table_of i l')
  pub unlisted : count_in (list_of l') ≡ 0

-- ---- Both texts.

-- The names that the two texts declare in a space.
abbrev pub declared_of : Text → Text → ℕ → List Text
declared_of s t i = cond (ltb i 5) (declared_at i (tags s)) (line_names t i 0)

-- Some name of the two texts is too long.
pub record LongName (s t : Text) : Type 0 where
  pub space : ℕ
  pub of-seven : space < 7
  pub long : every short (declared_of s t space) ≡ false

-- The contract of `name_all`; the tags of the first text begin at `from`.
abbrev pub Names : Text → Text → ℕ → List ℕ → Result (Unit {0}) TooLong → Type 0
Names s t from l (Ok u) = Held s t (all_names s t) l × Leads s (list_of l) 0 from
Names s t from l (Err e) = LongName s t
