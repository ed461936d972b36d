-- `claim` meets its contract: if `claim_reply` refuses, nothing is stored, and otherwise the entry is added, for which there is room.
use mathlib.Core.Path.{◌≡◌, refl, sym, ap, subst, ◌∙◌}
use Rattle.std.proofs.lemmas.Result.{err_from_is_err_and}
use Rattle.paper_lower.specs.Checks.{first}
use Rattle.paper_upper.specs.Orders.{Engine, SameTables}
use Rattle.paper_upper.specs.Requests.{claim_checks, claim_place, claim_next}
use Rattle.paper_upper.proofs.OrderedLaws.{tables-refl}
use Rattle.replies.proofs.ReplyLaws.{not-granted}
use Rattle.replies.proofs.DoneLaws.{granted-old}
use Rattle.order_requests.specs.Tables.{engine_tables}
use Rattle.order_claims.proofs.ClaimLaws.{claim-opened, room}
use Rattle.order_claims.proofs.claim.Goals as goal

pub returns-in_err-claim_reply : goal.returns-in_err-claim_reply
returns-in_err-claim_reply c =
    let reply = c.in_err-claim_reply in
    let p = err_from_is_err_and c.from_residual.result c.from_residual.ensures.1 in
    rw (p.1, p.2) (
      reply.ensures.0,
      record {
        kept = λ _. refl;
        sound = λ s.
            let z = c.args in
            let t = engine_tables z.p.now z.s.now z.o.now in
            let q = reply.ensures.1 s in
            let same = granted-old (claim_next t z.a z.b z.c) t (first (claim_checks t z.a z.b z.c)) (λ n. not-granted _ (q.replies ∙ n)) in
            record {
              replies = q.replies;
              places = q.places ∙ ap (claim_place t z.a z.b z.c) q.replies;
              tables = subst (λ (x : Engine). SameTables t x) same (tables-refl t);
              kept = λ _. refl;
              sound = s;
            };
      },
    )

pub enter-requires : goal.enter-requires
enter-requires c = (c.user-user.ensures.1, c.requires)

pub returns : goal.returns
unfolding claim_next
returns c =
    let reply = c.in_ok-claim_reply in (
      reply.ensures.0,
      record {
        kept = λ h. absurd (h refl);
        sound = λ s.
            let z = c.args in
            let t = engine_tables z.p.now z.s.now z.o.now in
            let q = reply.ensures.1 s in
            let granted : 0 ≡ first (claim_checks t z.a z.b z.c) = q.replies in
            let e = c.enter.ensures.1 s (claim-opened t z.a z.b z.c granted) (room t z.a z.b z.c granted) in
            record {
              replies = granted;
              places = q.places ∙ ap (claim_place t z.a z.b z.c) granted;
              tables = rw (sym granted, ← c.user-user.ensures.0) (record { lower = refl; opened = e.opened; entries = e.entries });
              kept = λ h. absurd (h refl);
              sound = e.sound;
            };
      },
    )
