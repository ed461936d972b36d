-- The reply to a claim that the checks before BEFORE let pass is that of the first claim rule that the claim would break.
use Prim.Native.Nat.{ℕ}
use mathlib.Core.Path.{◌≡◌, ap, subst, ◌∙◌}
use mathlib.Core.Bool.{not, ◌&&◌}
use mathlib.Core.List.{List, [], ◌∷◌, ◌++◌}
use native.Mathlib.Omega.{arith}
use lib.Dec.{leb}
use Rattle.paper_lower.specs.Sets.{meets}
use Rattle.paper_lower.specs.Lists.{some, many, Every}
use Rattle.paper_lower.specs.Checks.{Check, first, UNKNOWN, TAKEN, NO-ROLE, BEFORE, FULL}
use Rattle.paper_lower.specs.Records.{Bytes, Record, decode}
use Rattle.paper_lower.specs.Forms.{request_forms, form_checks}
use Rattle.paper_lower.specs.Kinds.{chosen, reply_to, answer}
use Rattle.paper_lower.specs.Policy.{down}
use Rattle.paper_lower.proofs.ListLaws.{every-left}
use Rattle.paper_lower.proofs.CheckLaws.{first-passed}
use Rattle.paper_upper.specs.Orders.{Engine, is_held, of_task}
use Rattle.paper_upper.specs.Rules.{gathered_checks, rule_checks}
use Rattle.paper_upper.specs.Requests.{unknown, claim_checks, upper_kinds}
use Rattle.paper_upper.specs.Engine.{request_kinds, request}
use Rattle.theorems.specs.Outside.{telling, hear}
use Rattle.theorems.specs.OverEntries.{claim_rules}
use Rattle.theorems.specs.Theorems.{shown, Reaches, FirstBroken}
use Rattle.theorems.proofs.EntryLaws.{claiming}
use Rattle.theorems.proofs.Meets.{Says, first_says, reaches-passed, first-broken}
use Rattle.theorems.proofs.Sound.{rules-meet}
use Rattle.theorems.proofs.Keeps.{Kept}

module _ (t : Engine) (s : Bytes) (e : (decode s).kind ≡ 50) where
  abbrev r : Record
  r = decode s

  -- The checks of a claim before BEFORE, the six claim rules, and FULL.
  abbrev early : List Check
  early =
      form_checks request_forms s
      ++ ((unknown t r.a r.b r.c, UNKNOWN)
      ∷ (some (λ e. of_task r.b r.c e && is_held e.standing) t.orders.entries, TAKEN)
      ∷ (not (meets (t.lower.policy.tasks.open_to r.c) (down t.lower.policy.seniority (t.lower.sessions.active r.a))), NO-ROLE)
      ∷ [])

  abbrev rules : List Check
  rules =
      rule_checks t.lower.policy.tasks t.lower.policy.rules (t.orders.opened r.b) t.orders.entries r.b
      (t.lower.sessions.user r.a) r.c

  abbrev full : List Check
  full = (leb 2048 (many t.orders.entries), FULL) ∷ []

  claim-reply : (request t s).reply ≡ first (early ++ (rules ++ full))
  unfolding request answer reply_to request_kinds upper_kinds chosen claim_checks form_checks
  claim-reply = ap (λ (n : ℕ). first (form_checks request_forms s ++ (chosen request_kinds n).checks t r)) e

  rule-reply : Reaches BEFORE (request t s).reply → (request t s).reply ≡ first (rules ++ full)
  unfolding form_checks
  rule-reply h =
      claim-reply ∙ first-passed early (rules ++ full)
      (reaches-passed BEFORE early (rules ++ full) (omega arith) (omega arith) (subst (Reaches BEFORE) claim-reply h))

  pub full-reply : Reaches FULL (request t s).reply → (request t s).reply ≡ first full
  unfolding form_checks gathered_checks rule_checks
  full-reply h =
      claim-reply ∙ first-passed (early ++ rules) full
      (reaches-passed FULL (early ++ rules) full (omega arith) (omega arith) (subst (Reaches FULL) claim-reply h))

  -- What the reply says of the check of each rule: those before it do not apply, and its own does.
  pub rules-say : Reaches BEFORE (request t s).reply → Every (Says (request t s).reply) rules
  unfolding gathered_checks rule_checks
  rules-say h = rw (rule-reply h) (every-left (Says (first (rules ++ full))) rules full (first_says 0 (rules ++ full) (omega arith)))

  -- The orders as they would be if the claim were granted.
  pub entered : (hear (shown t) r).orders ≡ claiming t.orders r.a r.b (t.lower.sessions.user r.a) r.c
  unfolding hear telling chosen
  entered = ap (λ (n : ℕ). ((chosen telling n).next (shown t) r).orders) e

  pub first-of-six : (policy : List Record) → Kept policy t → Reaches BEFORE (request t s).reply
      → FirstBroken claim_rules policy (hear (shown t) r).orders (request t s).reply
  unfolding gathered_checks rule_checks
  first-of-six policy k h =
      rw (entered, rule-reply h)
      (first-broken policy _ rules full claim_rules
      (rules-meet policy t.orders k.1 t.lower.policy.tasks t.lower.policy.rules k.0.made k.0.well r.a r.b
      (t.lower.sessions.user r.a) r.c)
      (omega arith) (omega arith))
