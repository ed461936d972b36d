-- The contracts between the parts of the call.
use Rattle.std.specs.Prelude.{ℕ, ◌≤◌, ◌≡◌, true, cond, List, eqb, length}
use Rattle.paper_lower.specs.Lists.{Every}
use Rattle.paper_lower.specs.Checks.{ROOM}
use Rattle.paper_lower.specs.Records.{Bytes}
use Rattle.paper_opl.specs.Reading.{Text}
use Rattle.paper_opl.specs.Tree.{if-found, document_in}
use Rattle.paper_opl.specs.Naming.{lines, NAMES, Answer as Translated, refused, writes}
use Rattle.paper_opl.specs.Walk.{tags, records_in}
use Rattle.opl_lines.specs.Lines.{lines_in}
use Rattle.opl_spaces.specs.Spaces.{scratch_words, list_of}
use Rattle.opl_tags.specs.Tags.{walk_at}
use Rattle.opl_line_names.specs.Names.{accepted}
use Rattle.opl_said.specs.Said.{all_names, Held}
use Rattle.opl_turns.specs.Listing.{Leads}
use Rattle.opl_turns.specs.Turning.{SmallTag}
use Rattle.opl.specs.Call.{Answer, answered}

-- ---- Two accepted texts. What Ask 4's call accepts, the wider one accepts too.

-- Both texts are accepted.
pub record Accepts (s t : Text) : Type 0 where
  pub policy : accepted (document_in true s) ≡ true
  pub task-lines : accepted (lines (length t) t) ≡ true

-- The answer, by the pass over the tags.
unfoldable pub records_answer : Text → Text → Bytes → Translated
records_answer s t out = if-found (records_in (tags s) (lines_in t)) (refused NAMES 0 0 out) (λ rs. writes rs out)

-- The same, with the check of the scratch buffer's length.
unfoldable pub accepted_answer : ℕ → Text → Text → Bytes → Translated
accepted_answer words s t out = cond (eqb words scratch_words) (records_answer s t out) (refused ROOM 0 0 out)

-- The code's answer is this one, and the output keeps its length.
pub record Gives (a : Translated) (out out' : Bytes) (r : Answer) : Type 0 where
  pub answer-is : answered r out' ≡ a
  pub room : length out' ≡ length out

-- The names are in the scratch buffer, the tags begin at `from`, and the list has them.
pub record Ready (s t : Text) (l : List ℕ) (from : ℕ) : Type 0 where
  pub held : Held s t (all_names s t) l
  pub leads : Leads s (list_of l) 0 from
  pub inside : from ≤ length s
  pub tags-are : tags s ≡ walk_at s from
  pub small : Every SmallTag (walk_at s from)
  pub task-lines : accepted (lines (length t) t) ≡ true
