-- The trees that the grammar allows, and the ways to write a tree as text: white space, comments, quotes, one or two tags for an empty element, a byte order
-- mark, a declaration and a DOCTYPE. `ReadExactly` (Promises) is stated over them; it fails for a reader that refuses or misreads a correct text.
use Rattle.std.specs.Prelude.{ℕ, ◌≡◌, Bool, true, false, not, ◌&&◌, ◌||◌, cond, List, [], ◌∷◌, ◌++◌, eqb}
use Rattle.paper_lower.specs.Lists.{Maybe, some, every, each}
use Rattle.paper_lower.specs.Lists.Maybe.{none, just}
use Rattle.paper_opl.specs.Reading.{Text, text, same, starts, white, control, in_value}
use Rattle.paper_opl.specs.Elements.{Attribute, Child, elements_of, row_in, one, next, may_end}
use Rattle.paper_opl.specs.Tree.{Given, Elements, if-found, fits, required, find, without, is_version, is_encoding, is_standalone, byte_order_mark}
use Rattle.paper_opl.specs.Tree.Elements.{nothing, node}
use Rattle.paper_opl.specs.Naming.{Line, in_line}

-- ---- The trees that the grammar allows.

-- Whether attributes fit a row: each is one of the row's, is given once and has a value that fits, and no required one is missing.
unfoldable pub attributes_fit : List Attribute → List Given → Bool
attributes_fit left [] = not (some (λ a. required a.class) left)
attributes_fit left (g ∷ gs) = if-found (find left g.name) false (λ a. fits a.class g.value && attributes_fit (without g.name left) gs)

-- Whether elements fit the table of the call: each is allowed at its place, and no child that must occur is missing.
unfoldable pub elements_fit : Bool → List Child → Elements → Bool
elements_fit all left nothing = may_end left
elements_fit all left (node w gs inside behind) =
    if-found (next left w) false (λ cs.
    attributes_fit (row_in (elements_of all) w).attributes gs && elements_fit all (row_in (elements_of all) w).children inside && elements_fit all cs behind)

-- Whether a tree is a policy object that fits the table.
abbrev pub in_grammar : Bool → Elements → Bool
in_grammar all es = elements_fit all (one "policy_object" ∷ []) es

-- ---- How a tree is written. A layout determines its text; each function below puts that text in front of the rest.

-- Whether a text is white space, possibly none.
abbrev pub blank : Text → Bool
blank s = every white s

-- Whether a text is white space of at least one byte.
abbrev pub some_blank : Text → Bool
some_blank s = blank s && not (same s [])

-- Whether a text may occur in a comment: no two hyphens in a row, no hyphen at the end, no control byte.
unfoldable pub calm : Text → Bool
calm [] = true
calm (b ∷ s) = not (control b) && not (eqb 45 b && (same s [] || starts (text "-") s)) && calm s

-- White space and comments between tags.
pub data Gap : Type 0 where
  space : Text → Gap
  comment : Text → Text → Gap → Gap

-- Its text.
unfoldable pub gap : Gap → Text → Text
gap (space s) rest = s ++ rest
gap (comment s body g) rest = s ++ (text "<!--" ++ (body ++ (text "-->" ++ gap g rest)))

-- Whether it is well formed.
unfoldable pub gap_fits : Gap → Bool
gap_fits (space s) = blank s
gap_fits (comment s body g) = blank s && calm body && gap_fits g

-- A value in quotes after "=", with the white space around "=".
pub record Value : Type 0 where
  pub left : Text
  pub right : Text
  pub quote : ℕ
  pub value : Text

-- A value between quotes q.
abbrev pub quoted : ℕ → Text → Text → Text
quoted q v rest = q ∷ (v ++ (q ∷ rest))

-- Whether q is a quote, and the value may occur between such quotes.
abbrev pub quote_fits : ℕ → Text → Bool
quote_fits q v = (eqb q 34 || eqb q 39) && every (in_value q) v

-- The text from the white space before "=" to the closing quote.
abbrev pub value_text : Value → Text → Text
value_text v rest = v.left ++ (text "=" ++ (v.right ++ quoted v.quote v.value rest))

-- Whether it is well formed.
abbrev pub value_fits : Value → Bool
value_fits v = blank v.left && blank v.right && quote_fits v.quote v.value

-- An attribute with the white space before it.
pub record Attributed : Type 0 where
  pub before : Text
  pub name : Text
  pub value : Value

-- The text of attributes.
unfoldable pub attributes_text : List Attributed → Text → Text
attributes_text [] rest = rest
attributes_text (a ∷ xs) rest = a.before ++ (a.name ++ value_text a.value (attributes_text xs rest))

-- Whether they are well formed.
abbrev pub attributes_laid : List Attributed → Bool
attributes_laid xs = every (λ a. some_blank a.before && value_fits a.value) xs

-- The attributes without their layout.
abbrev pub given_by : List Attributed → List Given
given_by xs = each (λ a. record { name = a.name; value = a.value.value }) xs

-- Elements: `last` is what comes before the enclosing end; `short` is an element written as one tag, and the elements after it; `long` is an element written
-- as two tags, with its content, and the elements after it. The plain texts are the name, and the white space before the end of a tag.
pub data Layout : Type 0 where
  last : Gap → Layout
  short : Gap → Text → List Attributed → Text → Layout → Layout
  long : Gap → Text → List Attributed → Text → Layout → Text → Layout → Layout

-- The text of elements.
unfoldable pub layout_text : Layout → Text → Text
layout_text (last g) rest = gap g rest
layout_text (short g w xs s behind) rest = gap g (text "<" ++ (w ++ attributes_text xs (s ++ (text "/>" ++ layout_text behind rest))))
layout_text (long g w xs s inside e behind) rest =
    gap g (text "<" ++ (w ++ attributes_text xs (s ++ (text ">" ++ layout_text inside (text "</" ++ (w ++ (e ++ (text ">" ++ layout_text behind rest))))))))

-- Whether it is well formed.
unfoldable pub layout_fits : Layout → Bool
layout_fits (last g) = gap_fits g
layout_fits (short g w xs s behind) = gap_fits g && attributes_laid xs && blank s && layout_fits behind
layout_fits (long g w xs s inside e behind) = gap_fits g && attributes_laid xs && blank s && layout_fits inside && blank e && layout_fits behind

-- The tree that is written in this way.
unfoldable pub tree_of : Layout → Elements
tree_of (last g) = nothing
tree_of (short g w xs s behind) = node w (given_by xs) nothing (tree_of behind)
tree_of (long g w xs s inside e behind) = node w (given_by xs) (tree_of inside) (tree_of behind)

-- ---- The document.

-- The text of an optional literal with its value, after white space.
unfoldable pub optional_text : Text → Maybe (Text × Value) → Text → Text
optional_text w none rest = rest
optional_text w (just e) rest = e.0 ++ (w ++ value_text e.1 rest)

-- Whether it is well formed, and its value satisfies `may`.
abbrev pub optional_fits : (Text → Bool) → Maybe (Text × Value) → Bool
optional_fits may none = true
optional_fits may (just e) = some_blank e.0 && (value_fits e.1 && may e.1.value)

-- The parts of an XML declaration.
pub record Declaration : Type 0 where
  pub before : Text
  pub version : Value
  pub encoding : Maybe (Text × Value)
  pub standalone : Maybe (Text × Value)
  pub last : Text

-- The text of a declaration after "<?xml".
abbrev pub declaration_rest : Declaration → Text → Text
declaration_rest d rest =
    d.before ++ (text "version" ++ value_text d.version (optional_text (text "encoding") d.encoding (optional_text (text "standalone") d.standalone (d.last ++ (text "?>" ++ rest)))))

-- The text of an optional declaration.
unfoldable pub declaration_text : Maybe Declaration → Text → Text
declaration_text none rest = rest
declaration_text (just d) rest = text "<?xml" ++ declaration_rest d rest

-- Whether it is well formed.
abbrev pub declaration_fits : Maybe Declaration → Bool
declaration_fits none = true
declaration_fits (just d) =
    some_blank d.before && (value_fits d.version && (is_version d.version.value && (optional_fits is_encoding d.encoding && (optional_fits is_standalone d.standalone && blank d.last))))

-- The parts of a DOCTYPE, with the white space and comments before it.
pub record Doctype : Type 0 where
  pub gap : Gap
  pub first : Text
  pub second : Text
  pub third : Text
  pub quote : ℕ
  pub value : Text
  pub last : Text

-- The text of an optional DOCTYPE.
unfoldable pub doctype_text : Maybe Doctype → Text → Text
doctype_text none rest = rest
doctype_text (just d) rest =
    gap d.gap (text "<!DOCTYPE" ++ (d.first ++ (text "policy_object" ++ (d.second ++ (text "SYSTEM" ++ (d.third ++ quoted d.quote d.value (d.last ++ (text ">" ++ rest))))))))

-- Whether it is well formed.
abbrev pub doctype_fits : Maybe Doctype → Bool
doctype_fits none = true
doctype_fits (just d) = gap_fits d.gap && (some_blank d.first && (some_blank d.second && (some_blank d.third && (quote_fits d.quote d.value && blank d.last))))

-- The text with or without a byte order mark in front.
unfoldable pub mark_text : Bool → Text → Text
mark_text mark rest = cond mark (byte_order_mark ++ rest) rest

-- The parts of a document.
pub record Document : Type 0 where
  pub mark : Bool
  pub declaration : Maybe Declaration
  pub doctype : Maybe Doctype
  pub root : Layout

-- The text of a document.
unfoldable pub document_text : Document → Text
document_text x = mark_text x.mark (declaration_text x.declaration (doctype_text x.doctype (layout_text x.root [])))

-- Whether it is well formed.
abbrev pub document_fits : Document → Bool
document_fits x = declaration_fits x.declaration && (doctype_fits x.doctype && layout_fits x.root)

-- The text s is a way to write the tree es, which the grammar allows.
pub record WrittenFrom (all : Bool) (es : Elements) (s : Text) : Type 0 where
  pub layout : Document
  pub fits : document_fits layout ≡ true
  pub tree_is : tree_of layout.root ≡ es
  pub in-grammar : in_grammar all es ≡ true
  pub text-is : s ≡ document_text layout

-- ---- The task lines.

-- How a line ends: `bare`, with the end of the text; `feed`, with a line feed; `return`, with a carriage return and a line feed.
pub data End : Type 0 where
  bare : End
  feed : End
  return : End

-- The bytes of a line's end.
unfoldable pub end_text : End → Text
end_text bare = []
end_text feed = text "\n"
end_text return = text "\r\n"

-- A line and how it ends.
pub record LaidLine : Type 0 where
  pub line : Line
  pub end : End

-- The text of lines.
unfoldable pub tasks_text : List LaidLine → Text
tasks_text [] = []
tasks_text (x ∷ xs) = x.line.task ++ (text " " ++ (x.line.template ++ (end_text x.end ++ tasks_text xs)))

-- Whether a line may end in this way: only the last line may end with the end of the text.
abbrev pub end_fits : End → List LaidLine → Bool
end_fits bare [] = true
end_fits bare (x ∷ xs) = false
end_fits feed xs = true
end_fits return xs = true

-- Whether a line has two names, each of one byte at least and without a space or a control byte.
abbrev pub line_fits : Line → Bool
line_fits l = every in_line l.task && (not (same l.task []) && (every in_line l.template && not (same l.template [])))

-- Whether lines are well formed.
unfoldable pub lines_suit : List LaidLine → Bool
lines_suit [] = true
lines_suit (x ∷ xs) = line_fits x.line && (end_fits x.end xs && lines_suit xs)

-- The text t is a way to write these lines, with or without a byte order mark in front. Without a mark, the first name must not begin with those three bytes.
pub record LinesFrom (ls : List Line) (t : Text) : Type 0 where
  pub mark : Bool
  pub layout : List LaidLine
  pub fit : lines_suit layout ≡ true
  pub unmarked : not mark && starts byte_order_mark (tasks_text layout) ≡ false
  pub lines_are : each (λ x. x.line) layout ≡ ls
  pub text-is : t ≡ mark_text mark (tasks_text layout)

-- Opens the definitions of this page together, for computing an example.
unfoldable pub layout_open : Unit {0}
unfolding attributes_fit elements_fit calm gap gap_fits attributes_text layout_text layout_fits tree_of optional_text declaration_text doctype_text mark_text document_text end_text tasks_text lines_suit
layout_open = tt
