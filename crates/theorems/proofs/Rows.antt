-- From kinds to calls: what holds for every kind of a list (`Rows`) holds for every answer and every run of requests.
use Prim.Native.Nat.{ℕ, zero, suc}
use mathlib.Core.Path.{◌≡◌, refl, ap, ◌∙◌}
use mathlib.Core.Bool.{false, true≢false}
use mathlib.Core.List.{List, [], ◌∷◌}
use Rattle.paper_lower.specs.Lists.{Every}
use Rattle.paper_lower.specs.Checks.{granted}
use Rattle.paper_lower.specs.Records.{Bytes, Record, decode}
use Rattle.paper_lower.specs.Forms.{Form, lower_forms, upper_forms, request_forms, form_of, out_of_range, form_checks}
use Rattle.paper_lower.specs.Kinds.{Kind, chosen, reply_to, Answer, answer, run, after}
use Rattle.paper_lower.specs.Roles.{role_kinds}
use Rattle.paper_lower.specs.Sessions.{session_kinds, lower_kinds}
use Rattle.paper_lower.proofs.CheckLaws.{Passed}
use Rattle.paper_lower.proofs.KindLaws.{of-chosen, reply-passed}
use Rattle.paper_lower.proofs.ListLaws.{every-both, ◌⨾◌}
use Rattle.paper_upper.specs.Orders.{Engine, with_lower}
use Rattle.paper_upper.specs.Requests.{upper_kinds}
use Rattle.paper_upper.specs.Engine.{widened, request_kinds}
use Rattle.theorems.specs.Replies.{InOrder}
use Rattle.theorems.specs.Outside.{followed}
use Rattle.theorems.proofs.Replies.{of-both, numbered}

-- ---- One record.
module _ {T : Type 0} (fs : List Form) where
  -- P holds for every kind of the list: for the tables before, a record within its limits that no check of the kind refuses, and the tables after it.
  abbrev pub Rows : (ℕ → T → Record → T → Type 0) → List (Kind T) → Type 0
  Rows P ks =
      Every (λ k. (t : T) (r : Record) → out_of_range (form_of fs k.kind) r ≡ false → Passed (k.checks t r) → P k.kind t r (k.next t r)) ks

  pub of-rows : (P : ℕ → T → Record → T → Type 0) (ks : List (Kind T)) → Rows P ks
      → (t : T) (r : Record) → out_of_range (form_of fs r.kind) r ≡ false → Passed ((chosen ks r.kind).checks t r)
      → P r.kind t r ((chosen ks r.kind).next t r)
  unfolding chosen
  of-rows P ks rows t r g p =
      of-chosen (λ n k. (t : T) (r : Record) → out_of_range (form_of fs n) r ≡ false → Passed (k.checks t r) → P n t r (k.next t r)) ks rows
      (λ n t r g p. absurd (true≢false p.0)) r.kind t r g p

  -- If a call is granted, P holds for its kind; if it is refused, the tables stay the same.
  pub answer-rows : (P : ℕ → T → Record → T → Type 0) (ks : List (Kind T)) → InOrder ks → Rows P ks → (t : T) (s : Bytes) (Q : ℕ → T → Type 0)
      → ((x : T) → P (decode s).kind t (decode s) x → Q 0 x) → ((q : ℕ) → Q (suc q) t) → Q (answer fs ks t s).reply (answer fs ks t s).tables
  unfolding answer form_checks
  answer-rows P ks order rows t s Q passes stops = go (reply_to fs ks t s) refl
    where
      go : (q : ℕ) → reply_to fs ks t s ≡ q → Q q (granted q ((chosen ks (decode s).kind).next t (decode s)) t)
      go zero e = let p = reply-passed fs ks (numbered ks order) t s e in passes _ (of-rows P ks rows t (decode s) p.0.1.0 p.1)
      go (suc q) e = stops q

-- ---- Runs of requests.
module _ {T : Type 0} (fs : List Form) (ks : List (Kind T)) (order : InOrder ks) where
  -- What every kind keeps, every run keeps.
  pub run-keeps : (I : T → Type 0) → Rows fs (λ n t r x. I t → I x) ks → (t : T) (ss : List Bytes) → I t → I (after (answer fs ks) t ss)
  unfolding after
  run-keeps I rows t [] i = i
  run-keeps I rows t (s ∷ ss) i =
      run-keeps I rows (answer fs ks t s).tables ss
      (answer-rows fs (λ n t r x. I t → I x) ks order rows t s (λ q x. I x) (λ x f. f i) (λ q. i))

  -- A value that is computed beside the tables, and that every kind keeps related to them as long as the invariant I holds.
  pub run-follows : {X : Type 0} (I : T → Type 0) (R : T → X → Type 0) (f : ℕ → X → Record → X)
      → Rows fs (λ n t r x. I t → I x) ks → Rows fs (λ n t r x. I t → (y : X) → R t y → R x (f n y r)) ks
      → (t : T) (y : X) (ss : List Bytes) → I t → R t y → R (after (answer fs ks) t ss) (followed (λ y r. f r.kind y r) y (run (answer fs ks) t ss))
  unfolding after run followed
  run-follows I R f keeps rows t y [] i h = h
  run-follows I R f keeps rows t y (s ∷ ss) i h =
      run-follows I R f keeps rows (answer fs ks t s).tables _ ss
      (answer-rows fs (λ n t r x. I t → I x) ks order keeps t s (λ q x. I x) (λ x g. g i) (λ q. i))
      (answer-rows fs (λ n t r x. I t → (y : _) → R t y → R x (f n y r)) ks order rows t s
      (λ q x. R x (granted q (f (decode s).kind y (decode s)) y)) (λ x g. g i y h) (λ q. h))

-- If two calls give the same answers as long as an invariant holds, and keep it, their runs are the same.
pub alike_runs : {T : Type 0} (ask ask' : T → Bytes → Answer T) (I : T → Type 0) → ((t : T) → I t → (s : Bytes) → (ask t s ≡ ask' t s) × I (ask t s).tables)
    → (t : T) → I t → (ss : List Bytes) → (run ask t ss ≡ run ask' t ss) × (after ask t ss ≡ after ask' t ss)
unfolding run after
alike_runs ask ask' I one t i [] = (refl, refl)
alike_runs {T} ask ask' I one t i (s ∷ ss) =
    let q = one t i s in
    let rest = alike_runs ask ask' I one (ask t s).tables q.1 ss in (
      ap (λ xs. record { request = s; reply = (ask t s).reply } ∷ xs) rest.0
          ∙ ap (λ (x : Answer T). record { request = s; reply = x.reply } ∷ run ask' x.tables ss) q.0,
      rest.1 ∙ ap (λ (x : Answer T). after ask' x.tables ss) q.0,
    )

-- ---- The kinds of the whole engine: those of the upper part, and those of the lower part with the orders unchanged.
same-forms : Every (λ k. form_of request_forms k.kind ≡ form_of lower_forms k.kind) lower_kinds
unfolding lower_kinds role_kinds session_kinds request_forms lower_forms upper_forms form_of
same-forms = refl ⨾ refl ⨾ refl ⨾ refl ⨾ refl ⨾ refl ⨾ refl ⨾ refl ⨾ refl ⨾ refl ⨾ refl ⨾ refl ⨾ tt

pub engine-rows : (P : ℕ → Engine → Record → Engine → Type 0) → Rows request_forms P upper_kinds
    → Every (λ k. (t : Engine) (r : Record) → out_of_range (form_of lower_forms k.kind) r ≡ false → Passed (k.checks t.lower r)
    → P k.kind t r (with_lower t (k.next t.lower r))) lower_kinds
    → Rows request_forms P request_kinds
unfolding widened
engine-rows P upper lower =
    of-both (λ k. (t : Engine) (r : Record) → out_of_range (form_of request_forms k.kind) r ≡ false → Passed (k.checks t r) → P k.kind t r (k.next t r))
    upper
    (every-both lower_kinds (λ k e h t r g p. h t r (rw e at g) p) same-forms lower)
