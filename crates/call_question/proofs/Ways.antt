-- The ways in which a question returns, each with its contract: refused by a check that needs no table, UNKNOWN on the empty engine, or answered by its kind.
use Prim.Native.Nat.{ℕ}
use mathlib.Core.Bool.{Bool, true, false, not, cond, true≢false}
use mathlib.Core.List.{List, [], ◌∷◌, ◌++◌, append_assoc}
use mathlib.Core.Path.{◌≡◌, refl, sym, ap, subst, ◌∙◌}
use borrow.Author.Tests.{eqb-true, eqb-false, eq-eqb, ne_eqb, not-false}
use lib.Dec.{eqb, T}
use lib.ListN.{length}
use Rattle.paper_lower.specs.Lists.{some, Every}
use Rattle.paper_lower.specs.Checks.{Check, first, granted, ROOM, SHAPE, UNKNOWN}
use Rattle.paper_lower.specs.Records.{Bytes, Record as PaperRecord, decode}
use Rattle.paper_lower.specs.Forms.{request_forms, form_checks}
use Rattle.paper_lower.specs.Kinds.{chosen, reply_to, answer, Answer}
use Rattle.paper_lower.proofs.CheckLaws.{Numbered, passed, first_stops, none-applies}
use Rattle.paper_upper.specs.Orders.{Engine}
use Rattle.paper_upper.specs.Requests.{upper_kinds}
use Rattle.paper_upper.specs.Questions.{figures_of, figure_words, answer_words, padded, question_numbers, asks, answered, answer_to}
use Rattle.paper_upper.specs.Engine.{request_kinds, request}
use Rattle.std.specs.Prelude.{Ok}
use Rattle.replies.specs.Replies.{Reply, number_of, refusal_number}
use Rattle.replies.specs.declared.Refusal.{Refusal}
use Rattle.replies.specs.declared.Refusal.TheVariants.{Unknown}
use Rattle.replies.proofs.ReplyLaws.{not-granted}
use Rattle.replies.proofs.DoneLaws.{granted-old}
use Rattle.records.specs.Reading.{paper_of, Decoded}
use Rattle.records.specs.Calls.{settled}
use Rattle.records.specs.Limits.{Limits}
use Rattle.records.specs.declared.Record.{Record}
use Rattle.records.proofs.Passing.{sized, passed as within-limits, passed-answer}
use Rattle.records.proofs.Span.{Rest, one_each, others}
use Rattle.policy.specs.Layout.{policy_words}
use Rattle.order_links.specs.Chains.{orders_words, sound_of}
use Rattle.order_entries.specs.Reading.{orders_of}
use Rattle.order_entries.specs.Acts.{Ready}
use Rattle.order_requests.specs.Promises.{FiguresJudged}
use Rattle.engine.specs.Buffers.{Buffers, tables_of, fit}
use Rattle.engine.proofs.Ways.{fit-lengths, tables-sound, tables-broken}
use Rattle.engine.proofs.EmptyLaws.{all-unknown}
use Rattle.call_question.specs.Question.{question_checks, question_reply, question_of}
use Rattle.call_question.specs.Promises.{FiguresAnswered, StuckAnswered, Answered, Questioned}

-- The first check that applies in one list, or else in a second list, is the first that applies in both lists together.
in-layers : (xs ys : List Check) → Numbered xs → granted (first xs) (first ys) (first xs) ≡ first (xs ++ ys)
in-layers [] ys n = refl
in-layers (x ∷ xs) ys n = go x.0 (in-layers xs ys n.1)
  where
    go : (b : Bool) → granted (first xs) (first ys) (first xs) ≡ first (xs ++ ys)
        → granted (cond b x.1 (first xs)) (first ys) (cond b x.1 (first xs)) ≡ cond b x.1 (first (xs ++ ys))
    go true e = sym (granted-old (first ys) x.1 x.1 (λ z. absurd (subst (λ (k : ℕ). T (not (eqb k 0))) z n.0)))
    go false e = e

-- A question is not of kind 32, the one kind that the empty engine grants.
asks-no-user : (k : ℕ) → asks k ≡ true → k ≡ 32 → ⊥
unfolding asks some
asks-no-user k h e = absurd (true≢false (sym h ∙ ap asks e))

-- A kind that is a question has its own branch in the code, so the code never reaches its default.
no_other : (ks : List ℕ) (k : ℕ) → Every (λ n. eqb n k ≡ false) ks → some (eqb k) ks ≡ false
unfolding some
no_other [] k h = refl
no_other (n ∷ ks) k h = rw (ne_eqb k n (λ e. eqb-false n k h.0 (sym e))) (no_other ks k h.1)

pub no-other-question : (k : ℕ) → asks k ≡ true → Rest (one_each question_numbers) k → ⊥
unfolding asks
no-other-question k h r = true≢false (sym h ∙ no_other question_numbers k (others question_numbers k r))

-- ---- Kind 58, the figures of an order.
module _ {o : List ℕ} {a : ℕ} {old : List ℕ} where
  pub figured : {u : Unit {0}} → FiguresJudged o a (Ok u) → (new : List ℕ) → new ≡ padded (figure_words (figures_of a (orders_of o).entries))
      → FiguresAnswered o a old new (Ok u)
  figured judged new w = record { replies = judged; written = w }

pub of-figures : (p o : List ℕ) (r : Record) {old new : List ℕ} {y : Reply} → r.kind ≡ 58 → FiguresAnswered o r.a old new y → Answered p o r old new y
unfolding chosen request_kinds upper_kinds answer_to answered
of-figures p o r k d = record { replies = λ s. rw k (d.replies p s); written = λ s. rw k d.written }

-- ---- Kind 60, the stuck tasks of a template.
pub of-stuck : (p o : List ℕ) (r : Record) {old new : List ℕ} {y : Reply} → r.kind ≡ 60 → StuckAnswered p r.a old new y → Answered p o r old new y
unfolding chosen request_kinds upper_kinds answer_to answered
of-stuck p o r k d = record { replies = λ s. rw k d.replies; written = λ s. rw k d.written }

-- ---- The whole call.
pub as_number : {bytes : Bytes} {old new : List ℕ} {x : Buffers} {k n : ℕ} → Questioned bytes old new x k → n ≡ k → Questioned bytes old new x n
as_number d e = record { replies = e ∙ d.replies; written = d.written }

module _ (bytes : Bytes) (old : List ℕ) (x : Buffers) where
  -- The checks of the call: of lengths and kind, then of the form, then of the request on the tables.
  abbrev before : List Check
  before = question_checks (fit x) old bytes

  abbrev formed : List Check
  formed = form_checks request_forms bytes

  abbrev behind : Engine → List Check
  behind t = (chosen request_kinds (decode bytes).kind).checks t (decode bytes)

  reply-is : (t : Engine) → question_reply (fit x) t bytes old ≡ first (before ++ formed ++ behind t)
  unfolding question_reply question_checks request answer reply_to
  reply-is t = in-layers before (formed ++ behind t) (tt, (tt, (tt, tt))) ∙ ap first (sym (append_assoc before formed (behind t)))

  -- ---- `judge`: each law gives the reply when one check applies and those before it do not.
  pub no-state : fit x ≡ false → ROOM ≡ first (before ++ formed)
  unfolding question_checks
  no-state h = rw h

  module _ (f : fit x ≡ true) where
    pub no_room : (length old ≡ answer_words → ⊥) → ROOM ≡ first (before ++ formed)
    unfolding question_checks
    no_room h = rw (f, ne_eqb (length old) answer_words h)

    module _ (l : length old ≡ answer_words) where
      pub another-length : (length bytes ≡ 16 → ⊥) → SHAPE ≡ first (before ++ formed)
      unfolding question_checks form_checks
      another-length h = rw (f, eq-eqb (length old) answer_words l, ne_eqb (length bytes) 16 h) (go (asks (decode bytes).kind))
        where
          go : (b : Bool) → SHAPE ≡ cond (not b) SHAPE SHAPE
          go true = refl
          go false = refl

      module _ {d : Record} (is : Decoded bytes d) where
        pub no-question : asks d.kind ≡ false → SHAPE ≡ first (before ++ formed)
        unfolding question_checks
        no-question h = let k : asks (decode bytes).kind ≡ false = ap (λ (p : PaperRecord). asks p.kind) (sym is.reads) ∙ h in
            rw (f, eq-eqb (length old) answer_words l, k)

        pub as-request : asks d.kind ≡ true → first formed ≡ first (before ++ formed)
        unfolding question_checks
        as-request h = let k : asks (decode bytes).kind ≡ true = ap (λ (p : PaperRecord). asks p.kind) (sym is.reads) ∙ h in
            rw (f, eq-eqb (length old) answer_words l, k)

  -- ---- What follows from the reply of `judge`.
  pub refused : (e : Refusal) → refusal_number e ≡ first (before ++ formed) → Questioned bytes old old x (refusal_number e)
  unfolding question_of
  refused e judged =
      let z = not-granted e in
      let q : refusal_number e ≡ question_reply (fit x) (tables_of x) bytes old
      = judged ∙ sym (first_stops (before ++ formed) (behind (tables_of x)) (λ y. z (judged ∙ y))) ∙ sym (reply-is (tables_of x)) in
      record { replies = q; written = granted-old _ old _ (λ y. z (q ∙ y)) }

  module _ (judged : 0 ≡ first (before ++ formed)) where
    none : (not (fit x) ≡ false) × ((not (eqb (length old) answer_words) ≡ false) × ((not (asks (decode bytes).kind) ≡ false) × (first formed ≡ 0)))
    unfolding question_checks form_checks
    none =
        let p = passed (before ++ formed) (tt, (tt, (tt, (tt, (tt, tt))))) (sym judged) in
        (p.0, (p.1.0, (p.1.1.0, none-applies formed p.1.1.1)))

    fitting : fit x ≡ true
    fitting = not-false _ none.0

    pub words : (length x.policy ≡ policy_words) × (length x.orders ≡ orders_words)
    words = ((fit-lengths x fitting).0, (fit-lengths x fitting).1.1)

    pub room : length old ≡ answer_words
    room = eqb-true _ _ (not-false _ none.1.0)

    asked : asks (decode bytes).kind ≡ true
    asked = not-false _ none.1.1.0

    well-formed : 0 ≡ first formed
    well-formed = sym none.1.1.1

    pub sixteen : length bytes ≡ 16
    sixteen = sized request_forms bytes well-formed

    module _ {d : Record} (is : Decoded bytes d) where
      asked-kind : asks d.kind ≡ true
      asked-kind = ap (λ (p : PaperRecord). asks p.kind) is.reads ∙ asked

      pub ready : sound_of x.orders ≡ true
          → Ready x.orders × (Limits request_forms d × (asks d.kind ≡ true))
      ready h = ((words.1, h), (within-limits request_forms bytes well-formed is, asked-kind))

      by_kind : (t : Engine) → question_reply (fit x) t bytes old ≡ first ((chosen request_kinds d.kind).checks t (paper_of d))
      unfolding question_reply question_checks request settled
      by_kind t =
          rw (fitting, eq-eqb _ _ room, asked)
          (ap (λ (y : Answer Engine). y.reply) (passed-answer request_forms bytes well-formed is request_kinds t))

      pub to_none : sound_of x.orders ≡ false → Questioned bytes old old x (refusal_number Unknown)
      unfolding question_of
      to_none h =
          let e : question_reply (fit x) (tables_of x) bytes old ≡ UNKNOWN
          = by_kind (tables_of x) ∙ ap (λ (t : Engine). first ((chosen request_kinds d.kind).checks t (paper_of d))) (tables-broken x h)
          ∙ all-unknown (paper_of d) (within-limits request_forms bytes well-formed is).known (λ k m. asks-no-user d.kind asked-kind k) in
          record { replies = sym e; written = rw e }

      pub by-its-kind : {answer' : List ℕ} {y : Reply} → sound_of x.orders ≡ true → Answered x.policy x.orders d old answer' y →
          Questioned bytes old answer' x (number_of y)
      unfolding question_of
      by-its-kind {answer'} {y} h a =
          let t = tables-sound x h in
          let e : number_of y ≡ question_reply (fit x) (tables_of x) bytes old
          = a.replies x.sessions ∙ sym (by_kind (tables_of x) ∙ ap (λ (t : Engine). first ((chosen request_kinds d.kind).checks t (paper_of d))) t) in
          record { replies = e; written = a.written x.sessions ∙ rw (e, t, is.reads) }
