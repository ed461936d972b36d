-- The refusals of the call (a text that is refused, a scratch buffer of a wrong length, a name that is too long), and the statements about the call: its answer
-- is the defined one, no second answer fits, and a refusal writes nothing.
use Prim.Native.Nat.{ℕ, zero, suc, ◌+◌, ◌-◌, ◌≤◌, ◌<◌}
use mathlib.Core.Path.{◌≡◌, refl, sym, ap, ◌∙◌}
use mathlib.Core.Bool.{Bool, true, false, cond, false≢true, true≢false}
use mathlib.Core.List.{List, [], ◌∷◌}
use native.Mathlib.Omega.{arith}
use Rattle.std.specs.Prelude.{Result, Ok, Err}
use lib.Dec.{eqb, leb}
use lib.ListN.{length, drop, length-drop}
use borrow.Author.Tests.{eq-eqb, ne_eqb}
use Rattle.paper_lower.specs.Lists.{every, Every}
use Rattle.paper_lower.specs.Checks.{GRANTED}
use Rattle.paper_lower.specs.Records.{Bytes}
use Rattle.paper_opl.specs.Reading.{Text, Read, starts}
use Rattle.paper_opl.specs.Reading.Read.{got, bad}
use Rattle.paper_opl.specs.Tree.{Tag, Elements, byte_order_mark, behind_mark, prolog, document_in}
use Rattle.paper_opl.specs.Naming.{lines, task_lines, records_of, written, translate_in, Answer as Translated}
use Rattle.paper_opl.specs.Walk.{records_in, tags}
use Rattle.paper_opl.proofs.Inversion.{on, on_test, on-found, bad≢got}
use Rattle.paper_opl.proofs.Accepted.{document-end}
use Rattle.paper_opl.proofs.DocumentLaid.{read_alike}
use Rattle.paper_opl.proofs.Cardinalities.{value-small}
use Rattle.paper_opl.proofs.LeftToRight.{walk-gives}
use Rattle.paper_opl.proofs.ShortNames.{ShortNames, short-names}
use Rattle.opl_text.specs.Steps.{Reads, step_of}
use Rattle.opl_text.specs.declared.BadByte.{BadByte}
use Rattle.opl_reader.specs.Grammar.{forget}
use Rattle.opl_lines.specs.Lines.{lines_in, forget as forget_lines}
use Rattle.opl_spaces.specs.Spaces.{scratch_words}
use Rattle.opl_tags.specs.Tags.{walk_at}
use Rattle.opl_tags.proofs.Walked.{tags-met}
use Rattle.opl_line_names.specs.Names.{short, accepted}
use Rattle.opl_line_names.proofs.FilledLaws.{users-are, roles-are, permissions-are, operations-are, objects-are}
use Rattle.opl_line_names.proofs.LineNames.{tasks-are, templates-are}
use Rattle.opl_said.proofs.HeldLaws.{AllCardinal, all-cardinal}
use Rattle.opl_turns.specs.Turning.{SmallTag}
use Rattle.opl_naming.specs.Naming.{declared_of, LongName, Names}
use Rattle.opl.specs.declared.Refused.{Refused}
use Rattle.opl.specs.declared.Refused.TheVariants.{Policy, Lines, Names as Unnamed, Room}
use Rattle.opl.specs.Call.{answer, Answer, answered, Answers, inside_one, Exported, AnswersAsDefined, OneAnswer, CallsAlike, RefusalsKeep}
use Rattle.opl.specs.Steps.{Accepts, records_answer, accepted_answer, Gives, Ready}
use Rattle.opl.proofs.JoinLaws.{unnamed}

-- ---- An accepted reading.
reads_on : {A R : Type 0} (x : Read A) → accepted x ≡ true → ((v : A) (z : Text) → x ≡ got v z → R) → R
reads_on (got v z) e f = f v z refl
reads_on (bad z) e f = absurd (false≢true e)

rest_of : Read (Unit {0}) → Text
rest_of (got x y) = y
rest_of (bad y) = y

bad-rest : {x y : Text} → ◌≡◌ {A = Read (Unit {0})} (bad x) (bad y) → x ≡ y
unfolding rest_of
bad-rest p = ap rest_of p

-- A text that Ask 4's call accepts is accepted by the wider call too, as the same elements.
alike : (s : Text) (es : Elements) (z : Text) → document_in false s ≡ got es z → document_in true s ≡ got es z
alike s es z e =
    let r = document-end false s es z e in
    rw r (read_alike s es (rw r at e))

wider : (all : Bool) (s : Text) → accepted (document_in all s) ≡ true → accepted (document_in true s) ≡ true
wider true s e = e
wider false s e = reads_on (document_in false s) e (λ es z x. rw (alike s es z x))

pub calls-alike : CallsAlike
unfolding answer
calls-alike words s t out e = reads_on (document_in false s) e (λ es z x. rw (x, alike s es z x))

-- ---- The policy text is refused or accepted.
place_is : (s : Text) (i : ℕ) → i ≤ length s → suc (length s - length (drop i s)) ≡ i + 1
place_is s i h = omega (arith, length-drop i s)

module _ (all : Bool) (s t : Text) (words : ℕ) (out : Bytes) where
  module _ (e : BadByte) (reads : Reads s (step_of s) (forget (document_in all s)) (Err e)) where
    bad-policy : Answers all s t words out out (Err (Policy (e.at + 1)))
    unfolding answer
    bad-policy =
        on (document_in all s)
        (λ es z q. absurd (bad≢got (reads.read_is ∙ ap forget q)))
        (λ z q.
        let w : ◌≡◌ {A = Read (Unit {0})} (bad (drop e.at s)) (bad z) = reads.read_is ∙ ap forget q in
        record { answer-is = rw (q, ← bad-rest w, place_is s e.at reads.inside); room = refl })

    pub bad-number : (n : ℕ) → n ≡ inside_one (answered (Err (Policy (e.at + 1))) []) → Exported all s t words out out n
    bad-number n q =
        let a = bad-policy in
        record { number_is = q ∙ ap inside_one a.answer-is; output-is = ap (λ (x : Translated). x.output) a.answer-is }

  module _ (j : ℕ) (reads : Reads s (step_of s) (forget (document_in all s)) (Ok j)) where
    policy-good : accepted (document_in all s) ≡ true
    policy-good =
        on (document_in all s) (λ es z q. rw q) (λ z q. absurd (bad≢got (sym (ap forget q) ∙ sym reads.read_is)))

    pub policy-wider : accepted (document_in true s) ≡ true
    policy-wider = wider all s policy-good

    -- For a text that this call accepts, the number of the wider call is its number too.
    pub as-wider : (out' : Bytes) (n : ℕ) → Exported true s t words out out' n → Exported all s t words out out' n
    as-wider out' n x = go all policy-good
      where
        go : (all : Bool) → accepted (document_in all s) ≡ true → Exported all s t words out out' n
        go true g = x
        go false g =
            let e = calls-alike words s t out g in
            record { number_is = x.number_is ∙ ap inside_one e; output-is = x.output-is ∙ ap (λ (a : Translated). a.output) e }

-- ---- After an accepted policy text: the task lines are refused or accepted.
module _ (s t : Text) (words : ℕ) (out : Bytes) (good : accepted (document_in true s) ≡ true) (u : Text) (behind : u ≡ behind_mark t) where
  no_longer : length u ≤ length t
  unfolding behind_mark
  no_longer = rw behind (on_test (starts byte_order_mark t) (λ c. rw c (omega (arith, length-drop 3 t))) (λ c. rw c (omega arith)))

  module _ (e : BadByte) (reads : Reads u (step_of u) (forget_lines (lines (length u) u)) (Err e)) where
    pub line-inside : (length u ≤ length t) × (length t - length u + e.at ≤ length t)
    line-inside = (no_longer, omega (arith, no_longer, reads.inside))

    pub bad-lines : Answers true s t words out out (Err (Lines (length t - length u + e.at + 1)))
    unfolding answer task_lines
    bad-lines =
        reads_on (document_in true s) good (λ es z x. on (lines (length u) u)
        (λ ls y v. absurd (bad≢got (reads.read_is ∙ ap forget_lines v)))
        (λ y v.
        let w : ◌≡◌ {A = Read (Unit {0})} (bad (drop e.at u)) (bad y) = reads.read_is ∙ ap forget_lines v in
        let h : e.at ≤ length u = reads.inside in
        let p : suc (length t - length (drop e.at u)) ≡ length t - length u + e.at + 1 = omega (arith, no_longer, length-drop e.at u) in
        record { answer-is = rw (x, ← behind, v, ← bad-rest w, p); room = refl }))

  pub both-accepted : (i : ℕ) → Reads u (step_of u) (forget_lines (lines (length u) u)) (Ok i) → Accepts s u
  both-accepted i reads =
      record {
        policy = good;
        task-lines = on (lines (length u) u) (λ ls z v. rw v) (λ z v. absurd (bad≢got (sym (ap forget_lines v) ∙ sym reads.read_is)));
      }

module _ (s t u : Text) (behind : u ≡ behind_mark t) (words : ℕ) (out : Bytes) (a : Accepts s u) where
  by-walk : answer true words s t out ≡ accepted_answer words s u out
  unfolding answer accepted_answer records_answer lines_in task_lines
  by-walk =
      reads_on (document_in true s) a.policy
      (λ es z x. reads_on (lines (length u) u) a.task-lines (λ ls y v. rw (x, ← behind, v, walk-gives true s es z ls x)))

  pub accepted-is : (out' : Bytes) (r : Answer) → Gives (accepted_answer words s u out) out out' r → Answers true s t words out out' r
  accepted-is out' r g = record { answer-is = g.answer-is ∙ sym by-walk; room = g.room }

-- ---- Two accepted texts.
module _ (s t : Text) (words : ℕ) (out : Bytes) where
  pub no-scratch : (words ≡ scratch_words → ⊥) → Gives (accepted_answer words s t out) out out (Err Room)
  unfolding accepted_answer
  no-scratch n = record { answer-is = rw (ne_eqb words scratch_words n); room = refl }

  pub with-scratch : (out' : Bytes) (r : Answer) → words ≡ scratch_words → Gives (records_answer s t out) out out' r →
      Gives (accepted_answer words s t out) out out' r
  unfolding accepted_answer
  with-scratch out' r e g = record { answer-is = g.answer-is ∙ rw (eq-eqb words scratch_words e); room = g.room }

module _ (s t : Text) (a : Accepts s t) where
  pub never-begun : (e : BadByte) → Reads s (step_of s) (prolog s) (Err e) → {R : Type 0} → R
  unfolding document_in
  never-begun e reads = let z = reads.read_is in absurd (false≢true (rw (← z) at a.policy))

  module _ (from : ℕ) (reads : Reads s (step_of s) (prolog s) (Ok from)) where
    pub begins-inside : from ≤ length s
    begins-inside = reads.inside

    pub begins-there : tags s ≡ walk_at s from
    begins-there = reads_on (document_in true s) a.policy (λ es z u. tags-met true s es z (drop from s) u (sym reads.read_is))

    smalls : (ts : List Tag) → AllCardinal ts → Every SmallTag ts
    smalls [] h = tt
    smalls (t ∷ ts) h = (value-small t.given h.0, smalls ts h.1)

    pub ready : (l : List ℕ) → Names s t from l (Ok tt) → Ready s t l from
    ready l h =
        record {
          held = h.0;
          leads = h.1;
          inside = begins-inside;
          tags-are = begins-there;
          small = reads_on (document_in true s) a.policy (λ es z u. rw begins-there at (smalls (tags s) (all-cardinal true s es z u)));
          task-lines = a.task-lines;
        }

-- ---- A name that is too long.
all_short : (s t : Text) (i : ℕ) → i < 7 → ShortNames (tags s) (lines_in t) → every short (declared_of s t i) ≡ true
all_short s t zero h n = ap (every short) (users-are (tags s)) ∙ n.users
all_short s t (suc zero) h n = ap (every short) (roles-are (tags s)) ∙ n.roles
all_short s t (suc (suc zero)) h n = ap (every short) (permissions-are (tags s)) ∙ n.permissions
all_short s t (suc (suc (suc zero))) h n = ap (every short) (operations-are (tags s)) ∙ n.operations
all_short s t (suc (suc (suc (suc zero)))) h n = ap (every short) (objects-are (tags s)) ∙ n.objects
all_short s t (suc (suc (suc (suc (suc zero))))) h n = ap (every short) (tasks-are t) ∙ n.tasks
all_short s t (suc (suc (suc (suc (suc (suc zero)))))) h n = ap (every short) (templates-are t) ∙ n.templates
all_short s t (suc (suc (suc (suc (suc (suc (suc i))))))) h n = absurd (omega arith)

pub too_long : (s t : Text) (out : Bytes) → Accepts s t → LongName s t → Gives (records_answer s t out) out out (Err Unnamed)
too_long s t out a n =
    unnamed s t out (on-found (records_in (tags s) (lines_in t))
    (λ rs q. reads_on (document_in true s) a.policy
    (λ es z u. absurd (true≢false (sym (all_short s t n.space n.of-seven (short-names true s es z (lines_in t) rs u q)) ∙ n.long))))
    (λ q. q))

-- ---- The statements.
pub answers-as-defined : AnswersAsDefined
unfolding answer translate_in
answers-as-defined all s t out = refl

-- The code's answer, from what it means.
read_back : Translated → Answer
read_back a =
    cond (eqb a.reply 0) (Ok a.count) (cond (eqb a.reply 1) (Err Room) (cond (eqb a.reply 22) (Err Unnamed)
    (cond (eqb a.which 1) (Err (Policy a.place)) (Err (Lines a.place)))))

reads-back : (r : Answer) (out : Bytes) → read_back (answered r out) ≡ r
unfolding read_back
reads-back (Ok count) out = refl
reads-back (Err (Policy place)) out = refl
reads-back (Err (Lines place)) out = refl
reads-back (Err Unnamed) out = refl
reads-back (Err Room) out = refl

output-of : (r : Answer) (out : Bytes) → (answered r out).output ≡ out
output-of (Ok count) out = refl
output-of (Err (Policy place)) out = refl
output-of (Err (Lines place)) out = refl
output-of (Err Unnamed) out = refl
output-of (Err Room) out = refl

fields-are : (r₁ r₂ : Answer) (out₁ out₂ : Bytes) → answered r₁ out₁ ≡ answered r₂ out₂ → (r₁ ≡ r₂) × (out₁ ≡ out₂)
fields-are r₁ r₂ out₁ out₂ e = (
  sym (reads-back r₁ out₁) ∙ ap read_back e ∙ reads-back r₂ out₂,
  sym (output-of r₁ out₁) ∙ ap (λ (a : Translated). a.output) e ∙ output-of r₂ out₂,
)

-- No second answer fits.
pub one_answer : OneAnswer
one_answer all s t words out out₁ out₂ r₁ r₂ a b = fields-are r₁ r₂ out₁ out₂ (a.answer-is ∙ sym b.answer-is)

refusal-keeps : (all : Bool) (words : ℕ) (s t : Text) (out : Bytes) → ((answer all words s t out).reply ≡ GRANTED → ⊥) → (answer all words s t out).output ≡ out
unfolding answer
refusal-keeps all words s t out n =
    on (document_in all s)
    (λ es z u. on (task_lines t)
    (λ ls y v. on_test (eqb words scratch_words)
    (λ q. on-found (records_of es ls)
    (λ rs p. on_test (leb (length (written rs)) (length out)) (λ f. absurd (n (rw (u, v, q, p, f)))) (λ f. rw (u, v, q, p, f)))
    (λ p. rw (u, v, q, p)))
    (λ q. rw (u, v, q)))
    (λ y v. rw (u, v)))
    (λ z u. rw u)

pub refusals-keep : RefusalsKeep
refusals-keep all s t words out out' r a n =
    sym (output-of r out') ∙ ap (λ (x : Translated). x.output) a.answer-is
    ∙ refusal-keeps all words s t out (λ e. n (ap (λ (x : Translated). x.reply) a.answer-is ∙ e))

-- ---- The answer as one number.
-- The number does not depend on the output.
same-number : (r : Answer) (out : Bytes) → inside_one (answered r []) ≡ inside_one (answered r out)
same-number (Ok count) out = refl
same-number (Err (Policy place)) out = refl
same-number (Err (Lines place)) out = refl
same-number (Err Unnamed) out = refl
same-number (Err Room) out = refl

pub exported : (all : Bool) (s t : Text) (words : ℕ) (out out' : Bytes) (r : Answer) (n : ℕ) → Answers all s t words out out' r →
    n ≡ inside_one (answered r []) → Exported all s t words out out' n
exported all s t words out out' r n a q =
    record {
      number_is = q ∙ same-number r out' ∙ ap inside_one a.answer-is;
      output-is = sym (output-of r out') ∙ ap (λ (x : Translated). x.output) a.answer-is;
    }
