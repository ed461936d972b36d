-- What is proved about the records that an accepted text yields, and about which texts are accepted. It holds for both calls: Ask 4's (`all` is false) and the
-- wider one.
use Rattle.std.specs.Prelude.{ℕ, ◌<◌, ◌≤◌, ◌*◌, ◌≡◌, ◌↔◌, Bool, true, false, cond, List, [], ◌∷◌, ◌++◌, length, drop}
use Rattle.paper_lower.specs.Lists.{some, many, Every}
use Rattle.paper_lower.specs.Lists.Maybe.{none, just}
use Rattle.paper_lower.specs.Checks.{GRANTED, first}
use Rattle.paper_lower.specs.Records.{Bytes, Record, encode}
use Rattle.paper_lower.specs.Forms.{policy_forms, form_checks}
use Rattle.paper_opl.specs.Reading.{Text, Read, after, same, misc}
use Rattle.paper_opl.specs.Reading.Read.{got, bad}
use Rattle.paper_opl.specs.Elements.{elements_of, one}
use Rattle.paper_opl.specs.Dtd.{printed, table, accepted}
use Rattle.paper_opl.specs.Tree.{Elements, opening, element, prolog, DEPTH, document_in}
use Rattle.paper_opl.specs.Tree.Elements.{nothing, node}
use Rattle.paper_opl.specs.Naming.{Line, task_lines, Space, Names, distinct, place_of, number_in, names_of, records_of, written, translate_in}
use Rattle.paper_opl.specs.Layout.{WrittenFrom, LinesFrom}

-- ---- "Accepted text always yields a policy of well-shaped records that says what the elements say".

-- A record is encoded as sixteen bytes, which pass SHAPE and RANGE in a load.
pub record WellShaped (r : Record) : Type 0 where
  pub sixteen : length (encode r) ≡ 16
  pub bytes-are : Every (λ b. b < 256) (encode r)
  pub passes : first (form_checks policy_forms (encode r)) ≡ GRANTED

-- "Records go by kind rising": no record has a lower kind than the one before it
unfoldable pub RisingFrom : ℕ → List Record → Type 0
RisingFrom k [] = Unit {0}
RisingFrom k (r ∷ rs) = (k ≤ r.kind) × RisingFrom r.kind rs

-- What an accepted policy text and its task lines yield.
pub record Yield (all : Bool) (s t : Text) (out : Bytes) : Type 0 where
  pub elements : Elements
  pub line_list : List Line
  pub records : List Record
  pub text-is : document_in all s ≡ got elements []
  pub lines_are : task_lines t ≡ got line_list []
  pub says : records_of elements line_list ≡ just records
  pub well-shaped : Every WellShaped records
  pub kinds-rise : RisingFrom 1 records
  pub sixteen-each : length (written records) ≡ 16 * many records
  pub answer-is :
      translate_in all s t out ≡ record { reply = GRANTED; place = 0; which = 0; count = many records; output = written records ++ drop (length (written records)) out }

-- ---- "NAMES (22) for a name too long, undeclared or above a limit"

-- A space gives numbers to names of up to 64 bytes, and to n of them. `place_of` gives the index of a name among the declared ones.
pub record HoldsNames (n : ℕ) (sp : Space) : Type 0 where
  pub accepted : (w : Text) (k : ℕ) → place_of 0 w sp.declared ≡ just k → length w ≤ 64 → k < n → number_in sp w ≡ just k
  pub too_many : (w : Text) (k : ℕ) → place_of 0 w sp.declared ≡ just k → n ≤ k → number_in sp w ≡ none
  pub too_long : (w : Text) → 64 < length w → number_in sp w ≡ none
  pub undeclared : (w : Text) → place_of 0 w sp.declared ≡ none → number_in sp w ≡ none

-- ---- "down to depth 8"

-- The reader of the document with another limit of depth.
unfoldable pub document_to : Bool → ℕ → Text → Read Elements
document_to all depth s =
    after (prolog s) (λ _ r. after (opening (one "policy_object" ∷ []) r) (λ c u. after (element (elements_of all) depth c.name u) (λ e z.
    after (misc (length z) z) (λ _ y. cond (same y []) (got (node c.name e.given e.elements nothing) y) (bad y)))))

-- ---- The statements.

-- The tables of elements are what document 000 prints, without sssod, ssodp and the sections that the call does not read.
abbrev pub ElementsAsPrinted : Type 0
ElementsAsPrinted = (all : Bool) → accepted all (table printed) ≡ just (elements_of all)

-- "Accepted text always yields a policy of well-shaped records that says what the elements say"
abbrev pub AcceptedYields : Type 0
AcceptedYields = (all : Bool) (s t : Text) (out : Bytes) → (translate_in all s t out).reply ≡ GRANTED → Yield all s t out

-- "Refusals, nothing written"
abbrev pub RefusalsWriteNothing : Type 0
RefusalsWriteNothing = (all : Bool) (s t : Text) (out : Bytes) → ((translate_in all s t out).reply ≡ GRANTED → ⊥) → (translate_in all s t out).output ≡ out

-- The accepted texts are exactly those that write a tree of the grammar, with any white space and comments where these are allowed; and they are read as that
-- tree.
abbrev pub ReadExactly : Type 0
ReadExactly = (all : Bool) (s : Text) (es : Elements) → document_in all s ≡ got es [] ↔ WrittenFrom all es s

-- A text that Ask 4's call reads is read as the same tree by the wider call.
abbrev pub ReadAlike : Type 0
ReadAlike = (s : Text) (es : Elements) → document_in false s ≡ got es [] → document_in true s ≡ got es []

-- What Ask 4's call accepts gets the same answer from the wider call.
abbrev pub AnsweredAlike : Type 0
AnsweredAlike = (s t : Text) (out : Bytes) → (translate_in false s t out).reply ≡ GRANTED → translate_in true s t out ≡ translate_in false s t out

-- The same for the task lines: "lines of task name, one space and template name".
abbrev pub LinesReadExactly : Type 0
LinesReadExactly = (t : Text) (ls : List Line) → task_lines t ≡ got ls [] ↔ LinesFrom ls t

-- "down to depth 8": this limit never changes how a text is read
abbrev pub DepthNeverBites : Type 0
DepthNeverBites = (all : Bool) (d : ℕ) (s : Text) → DEPTH ≤ d → document_to all d s ≡ document_in all s

-- The limits of the name spaces. "Users 0 to 1,023. Roles 0 to 63. Permissions 0 to 255. Tasks 0 to 63. Templates 0 to 15." "Operations and objects: any
-- 16-bit number."
pub record Limits (ns : Names) : Type 0 where
  pub users : HoldsNames 1024 ns.users
  pub roles : HoldsNames 64 ns.roles
  pub permissions : HoldsNames 256 ns.permissions
  pub operations : HoldsNames 65536 ns.operations
  pub objects : HoldsNames 65536 ns.objects
  pub tasks : HoldsNames 64 ns.tasks
  pub templates : HoldsNames 16 ns.templates

-- The names of every text and its task lines have these limits.
abbrev pub LimitsOfNames : Type 0
LimitsOfNames = (es : Elements) (ls : List Line) → Limits (names_of es ls)

-- "Names up to 64 bytes get numbers in order of first declaration": a name's number is the count of different names declared before it
abbrev pub NumbersInOrder : Type 0
NumbersInOrder = (w : Text) (us vs : List Text) → some (same w) us ≡ false → place_of 0 w (distinct [] (us ++ (w ∷ vs))) ≡ just (many (distinct [] us))

-- Two different names never have the same number.
abbrev pub NumbersDiffer : Type 0
NumbersDiffer = (sp : Space) (v w : Text) (k : ℕ) → number_in sp v ≡ just k → number_in sp w ≡ just k → v ≡ w
