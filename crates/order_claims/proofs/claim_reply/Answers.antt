-- `claim_reply` meets its contract: each return gives the reply of the first check
-- that applies. The rules are judged on what `gather` collected from the entries.
use Prim.Native.Nat.{ℕ}
use mathlib.Core.Bool.{Bool, true}
use mathlib.Core.List.{◌++◌}
use mathlib.Core.Path.{◌≡◌, refl, sym}
use native.Mathlib.Omega.{arith}
use borrow.Author.Tests.{eq-eqb, ne_eqb, le-leb, lt-leb}
use Rattle.std.proofs.lemmas.Result.{err_from_is_err_and}
use Rattle.paper_lower.specs.Sets.{meets}
use Rattle.paper_lower.specs.Policy.{down}
use Rattle.paper_lower.specs.Lists.Maybe.{just}
use Rattle.paper_lower.specs.Checks.{first}
use Rattle.paper_upper.specs.Orders.{Engine}
use Rattle.paper_upper.specs.Rules.{rule_place, gathered_checks}
use Rattle.paper_upper.specs.Requests.{unknown, claim_checks, claim_place}
use Rattle.replies.specs.declared.Refusal.TheVariants.{Unknown, Taken, NoRole, Full}
use Rattle.order_entries.specs.declared.Gathered.{Gathered}
use Rattle.order_entries.specs.Gathering.{gathered_of}
use Rattle.order_rules.proofs.JudgeLaws.{plainly}
use Rattle.order_rules.proofs.PlaceLaws.{judged-place, plain-place}
use Rattle.order_requests.specs.Tables.{engine_tables}
use Rattle.order_claims.specs.Promises.{KnownTemplate}
use Rattle.order_claims.proofs.ClaimLaws.{rules_of, full_of, rules-next, held-is, place-by-entries, by_entries, by-rule, by-room}
use Rattle.order_claims.proofs.claim_reply.Goals as goal

-- After the call of `judge`: the checks before the rules do not apply. `judged` below: the reply of `judge` is that of the rules.
passes : (t : Engine) (a b c : ℕ) {j u : ℕ} {g : Gathered} {m : Bool} → KnownTemplate t a b c j → u ≡ t.lower.sessions.user a
    → g ≡ gathered_of b u c t.orders.entries → (g.held ≡ 1 → ⊥)
    → m ≡ meets (t.lower.policy.tasks.open_to c) (down t.lower.policy.seniority (t.lower.sessions.active a)) → m ≡ true
    → first (claim_checks t a b c) ≡ first (rules_of t a b c ++ full_of t a b c)
passes t a b c known of gathers not_held e has = rules-next t a b c known.known (held-is t a b c of gathers (ne_eqb _ _ not_held)) e has

judged : (t : Engine) (a b c : ℕ) {j u : ℕ} {g : Gathered} (r : ℕ) → KnownTemplate t a b c j → u ≡ t.lower.sessions.user a
    → g ≡ gathered_of b u c t.orders.entries
    → r ≡ first (gathered_checks t.lower.policy.tasks t.lower.policy.rules (just j) g.mine.bits g.done.bits g.others.bits g.times c)
    → r ≡ first (rules_of t a b c)
judged t a b c r known of gathers q = by_entries t a b c of gathers r known.template q

pub returns-in_default : goal.returns-in_default
unfolding claim_checks claim_place rule_place
returns-in_default c =
    let z = c.args in
    let is : unknown (engine_tables z.p.now z.s.now z.o.now) z.a z.b z.c ≡ true = c.in_default.ensures in
    (plain-place c.from.ensures, λ s. plainly Unknown c.from.ensures (simp is) refl)

pub returns-then-g-eq1 : goal.returns-then-g-eq1
unfolding claim_checks claim_place rule_place
returns-then-g-eq1 c =
    let z = c.args in
    let t = engine_tables z.p.now z.s.now z.o.now in (
      plain-place c.from-then-g-eq1.ensures,
      λ s.
          plainly Taken c.from-then-g-eq1.ensures
          (simp (c.in-Some.ensures.known, held-is t z.a z.b z.c c.user-user.ensures.0 (c.gather-g.ensures s) (eq-eqb _ _ c.if-g-eq1.true)))
          refl,
    )

pub returns-then-not-has_role : goal.returns-then-not-has_role
unfolding claim_checks claim_place rule_place
returns-then-not-has_role c =
    let z = c.args in
    let t = engine_tables z.p.now z.s.now z.o.now in (
      plain-place c.from-then-not-has_role.ensures,
      λ s.
          plainly NoRole c.from-then-not-has_role.ensures
          (simp (
            c.in-Some.ensures.known,
            held-is t z.a z.b z.c c.user-user.ensures.0 (c.gather-g.ensures s) (ne_eqb _ _ c.if-g-eq1.false),
            ← c.has_role.ensures,
            c.if-not-has_role.true,
          )) refl,
    )

pub judge-requires : goal.judge-requires
judge-requires c = (c.in-Some.ensures.small, c.requires.1.0)

pub returns-in_err-judge : goal.returns-in_err-judge
returns-in_err-judge c =
    let z = c.args in
    let t = engine_tables z.p.now z.s.now z.o.now in
    let gathered = c.gather-g.result in
    let p = err_from_is_err_and c.from_residual.result c.from_residual.ensures.1 in
    rw (p.1, p.2) (
      judged-place z.p.now gathered.mine.bits gathered.done.bits gathered.others.bits z.c c.in_err-judge.ensures,
      λ s.
          let g = c.gather-g.ensures s in
          let next = passes t z.a z.b z.c c.in-Some.ensures c.user-user.ensures.0 g c.if-g-eq1.false c.has_role.ensures c.if-not-has_role.false in
          let ruled = judged t z.a z.b z.c _ c.in-Some.ensures c.user-user.ensures.0 g c.in_err-judge.ensures.replies in
          record {
            replies = by-rule t z.a z.b z.c next _ ruled;
            places = place-by-entries t z.a z.b z.c c.user-user.ensures.0 g _ c.in_err-judge.ensures.places;
          },
    )

pub returns-then-in_use-ge-MOST : goal.returns-then-in_use-ge-MOST
unfolding claim_place rule_place
returns-then-in_use-ge-MOST c =
    let z = c.args in
    let t = engine_tables z.p.now z.s.now z.o.now in (
      plain-place c.from-then-in_use-ge-MOST.ensures,
      λ s.
          let g = c.gather-g.ensures s in
          let next = passes t z.a z.b z.c c.in-Some.ensures c.user-user.ensures.0 g c.if-g-eq1.false c.has_role.ensures c.if-not-has_role.false in
          let ruled = judged t z.a z.b z.c 0 c.in-Some.ensures c.user-user.ensures.0 g c.in_ok-judge.ensures.replies in
          plainly Full c.from-then-in_use-ge-MOST.ensures (sym (by-room t z.a z.b z.c next ruled (c.in_use.ensures s) (le-leb _ _ c.if-in_use-ge-MOST.true))) refl,
    )

pub returns : goal.returns
unfolding claim_place rule_place
returns c =
    let z = c.args in
    let t = engine_tables z.p.now z.s.now z.o.now in (
      omega arith,
      λ s.
          let g = c.gather-g.ensures s in
          let next = passes t z.a z.b z.c c.in-Some.ensures c.user-user.ensures.0 g c.if-g-eq1.false c.has_role.ensures c.if-not-has_role.false in
          let ruled = judged t z.a z.b z.c 0 c.in-Some.ensures c.user-user.ensures.0 g c.in_ok-judge.ensures.replies in
          record { replies = sym (by-room t z.a z.b z.c next ruled (c.in_use.ensures s) (lt-leb _ _ c.if-in_use-ge-MOST.false)); places = refl },
    )
