-- The reply of `quick` to a check (kind 56) is the reply of a request of the whole engine that changes nothing.
use Prim.Native.Nat.{ℕ}
use mathlib.Core.Bool.{true}
use mathlib.Core.Path.{◌≡◌, refl, sym, ap, subst, ◌∙◌}
use native.Mathlib.Omega.{arith}
use Rattle.paper_lower.specs.Lists.{keep, each}
use Rattle.paper_lower.specs.Checks.{first}
use Rattle.paper_lower.specs.Records.{Bytes, Record as PaperRecord}
use Rattle.paper_lower.specs.Forms.{request_forms}
use Rattle.paper_lower.specs.Kinds.{chosen}
use Rattle.paper_lower.specs.Roles.{role_kinds}
use Rattle.paper_lower.specs.Sessions.{check_checks, session_kinds, lower_kinds}
use Rattle.paper_upper.specs.Orders.{Engine}
use Rattle.paper_upper.specs.Requests.{upper_kinds}
use Rattle.paper_upper.specs.Engine.{widened, shared_kinds, request_kinds, request, place_of}
use Rattle.std.specs.Prelude.{Option, Some, None}
use Rattle.replies.specs.Replies.{Reply, number_of, plain}
use Rattle.records.specs.Reading.{paper_of, Decoded}
use Rattle.records.specs.Calls.{settled}
use Rattle.records.specs.Check.{is_check}
use Rattle.records.specs.declared.Record.{Record}
use Rattle.records.proofs.Passing.{passed-answer}
use Rattle.records.proofs.Checking.{check-fields, check-passes}
use Rattle.sessions.specs.Lower.{lower_tables}
use Rattle.engine.specs.Buffers.{Buffers, product_of, tables_of, fit as fitting}
use Rattle.engine.specs.Step.{Step, StepOf, AnyStep}
use Rattle.session_subjects.specs.Promises.{QuickJudged}
use Rattle.engine.specs.Settling.{SettledRequest, QuickRequest}
use Rattle.engine.proofs.Lifts.{any_step, of_none}
use Rattle.engine.proofs.PlaceLaws.{no-claim}
use Rattle.engine.proofs.EmptyLaws.{sound-step}
use Rattle.engine.proofs.Ways.{same-lengths, answered}
use Rattle.engine.proofs.SettleLaws.{settled-step}

-- ---- The row of kind 56: its checks are those of the lower part, and it leaves the tables as they are.
row-checks : (t : Engine) (r : PaperRecord) → first ((chosen request_kinds 56).checks t r) ≡ first (check_checks t.lower r.a r.b r.c)
unfolding chosen request_kinds upper_kinds shared_kinds widened lower_kinds role_kinds session_kinds keep each
row-checks t r = refl

row_next : (t : Engine) (r : PaperRecord) → (chosen request_kinds 56).next t r ≡ t
unfolding chosen request_kinds upper_kinds shared_kinds widened lower_kinds role_kinds session_kinds keep each
row_next t r = refl

module _ (x : Buffers) (d : Record) (r : Reply) (kind : d.kind ≡ 56)
    (told : number_of r ≡ first (check_checks (lower_tables x.policy x.sessions) d.a d.b d.c)) where
  checks-step : StepOf (product_of x) (product_of x) d x x (plain r)
  checks-step =
      let t = product_of x in
      let p = paper_of d in
      let reply = first ((chosen request_kinds d.kind).checks t p) in
      let e : number_of r ≡ reply = told ∙ sym (row-checks t p) ∙ ap (λ (k : ℕ). first ((chosen request_kinds k).checks t p)) (sym kind) in
      let n : t ≡ (chosen request_kinds d.kind).next t p = sym (row_next t p) ∙ ap (λ (k : ℕ). (chosen request_kinds k).next t p) (sym kind) in
      subst (λ (u : Engine). Step t t reply (place_of t p reply) u x x (plain r)) n
      (of_none r refl (no-claim t p reply (λ q. let z : ⊥ = omega arith in z)) e)

  quick-step : AnyStep d x x (plain r)
  quick-step = any_step r refl (λ _. refl) (λ s. (checks-step, s))

-- If r is the reply that the rules define for the decoded check, then r without a place is the result of a settled request that changes nothing.
pub quick-request : (bytes : Bytes) (x : Buffers) (d : Record) (r : Reply) → fitting x ≡ true → is_check bytes ≡ true → Decoded bytes d
    → number_of r ≡ first (check_checks (lower_tables x.policy x.sessions) d.a d.b d.c) → SettledRequest bytes x x (plain r)
unfolding request settled
quick-request bytes x d r fit check is told =
    let kind : d.kind ≡ 56 = ap (λ (y : PaperRecord). y.kind) is.reads ∙ (check-fields bytes check).0.0 in
    let l = same-lengths refl refl refl in
    settled-step bytes x x d fit l (quick-step x d r kind told)
    (λ g s.
    answered fit (passed-answer request_forms bytes (check-passes bytes check) is request_kinds (tables_of x)) is.reads
    (sound-step d x x s g) (λ _. g.1) l)

-- The same of what `quick` returns: without a reply it promises nothing.
pub quick-any : (bytes : Bytes) (x : Buffers) (d : Record) (r : Option Reply) → fitting x ≡ true → is_check bytes ≡ true → Decoded bytes d
    → QuickJudged x.policy x.sessions d.a d.b d.c r → QuickRequest bytes x r
quick-any bytes x d (Some r) fit check is told = quick-request bytes x d r fit check is told
quick-any bytes x d None fit check is told = tt
