-- `step` meets its contract: each kind of the upper part is a step of the three buffers; every other kind is a step of the lower part.
use Prim.Native.Nat.{ℕ}
use mathlib.Core.Path.{◌≡◌, refl, ap, ◌∙◌}
use lib.Dec.{T, ltb}
use Rattle.paper_lower.specs.Forms.{request_forms}
use Rattle.paper_lower.specs.Kinds.{chosen}
use Rattle.paper_upper.specs.Requests.{upper_kinds}
use Rattle.paper_upper.specs.Engine.{widened, request_kinds, place_of}
use Rattle.records.specs.Reading.{paper_of}
use Rattle.records.specs.Limits.{Limits, limit_a, limit_b, limit_c, limit_m, limits_open}
use Rattle.records.specs.declared.Record.{Record}
use Rattle.policy.specs.Layout.{policy_words}
use Rattle.sessions.specs.Reading.{sessions_words}
use Rattle.order_links.specs.Chains.{orders_words}
use Rattle.records.proofs.Passing.{below}
use Rattle.order_entries.specs.Acts.{InLimits}
use Rattle.replies.specs.Replies.{plain}
use Rattle.engine.specs.Buffers.{buffers}
use Rattle.engine.proofs.Lifts.{any_step, of-both, of-sessions, of-orders, of-claim, of_none, of-lower}
use Rattle.engine.proofs.PlaceLaws.{no-claim}
use Rattle.engine.proofs.LowerKinds.{lower-row, lower-limits, no-claim-number}
use Rattle.engine.proofs.step.Goals as goal
use Rattle.engine.proofs.step.Goals.{in-33, in-41, in-48, in-49, in-51, in-52, in-57, in-58, in-60, in_default}

-- ---- Kinds 50, 51, 52 and 57: subject, order and task are within their limits.
of-subject : {k : ℕ} {r : Record} → Limits request_forms r → r.kind ≡ k
    → T (ltb (limit_a request_forms k) 128) → T (ltb (limit_b request_forms k) 64) → T (ltb (limit_c request_forms k) 64)
    → InLimits r.b r.c r.a
of-subject l key a b c = (
  below (limit_b request_forms) l.b key 64 b,
  (below (limit_c request_forms) l.c key 64 c, below (limit_a request_forms) l.a key 128 a),
)

pub delete-reply-requires : goal.delete-reply-requires
unfolding limits_open
delete-reply-requires c =
    let pre = c.requires in
    let match = c.in-33 in
    below (limit_a request_forms) pre.a match.is 1024 tt

pub destroy-reply-requires : goal.destroy-reply-requires
unfolding limits_open
destroy-reply-requires c =
    let pre = c.requires in
    below (limit_a request_forms) pre.a c.in-41.is 128 tt

pub open_order-reply-requires : goal.open_order-reply-requires
unfolding limits_open
open_order-reply-requires c =
    let pre = c.requires in
    let match = c.in-48 in
    (below (limit_a request_forms) pre.a match.is 64 tt, below (limit_b request_forms) pre.b match.is 16 tt)

pub end_order-reply-requires : goal.end_order-reply-requires
unfolding limits_open
end_order-reply-requires c =
    let pre = c.requires in
    below (limit_a request_forms) pre.a c.in-49.is 64 tt

pub claim-requires : goal.claim-requires
unfolding limits_open
claim-requires c =
    let pre = c.requires in
    let match = c.in-50 in
    of-subject pre match.is tt tt tt

pub release-reply-requires : goal.release-reply-requires
unfolding limits_open
release-reply-requires c =
    let pre = c.requires in
    let match = c.in-51 in
    of-subject pre match.is tt tt tt

pub finish-reply-requires : goal.finish-reply-requires
unfolding limits_open
finish-reply-requires c =
    let pre = c.requires in
    let match = c.in-52 in
    of-subject pre match.is tt tt tt

pub task_check_reply-reply-requires : goal.task_check_reply-reply-requires
unfolding limits_open
task_check_reply-reply-requires c =
    let pre = c.requires in
    let match = c.in-57 in
    (of-subject pre match.is tt tt tt, below (limit_m request_forms) pre.m match.is 4294967296 tt)

pub figures_reply-reply-requires : goal.figures_reply-reply-requires
unfolding limits_open
figures_reply-reply-requires c =
    let pre = c.requires in
    below (limit_a request_forms) pre.a c.in-58.is 64 tt

pub judge-reply-requires : goal.judge-reply-requires
unfolding limits_open
judge-reply-requires c =
    let pre = c.requires in
    below (limit_a request_forms) pre.a c.in-60.is 16 tt

pub step-reply-requires : goal.step-reply-requires
step-reply-requires c =
    let pre = c.requires in
    lower-limits c.in_default.in_default-own.rest pre

pub returns-in-50 : goal.returns-in-50
unfolding chosen request_kinds upper_kinds place_of
returns-in-50 c =
    let args = c.args in
    let match = c.in-50 in
    let e = c.claim.ensures.1 in
    record {
      kept = λ n. λ i. buffers args.p.now args.s.now (e.kept n i);
      small = c.claim.ensures.0;
      sound = λ w. rw match.is (of-claim (e.sound w), (e.sound w).sound);
    }

pub returns : goal.returns
unfolding chosen request_kinds upper_kinds place_of widened
returns c =
    let z = c.args in
    elim c.match-kind.branch [
      | in-33 w ↦
          let is = c.plain.ensures ∙ ap plain w.reply-is in
          let e = w.delete-reply.ensures in
          rw (w.p-is, w.s-is, w.o-is)
          (any_step _ is (λ n. λ i. buffers ((e.kept n).0 i) ((e.kept n).1 i) z.o.now) (λ h. rw w.in-33.is (of-both _ is refl (e.sound h), h)))
      | in-41 w ↦
          let is = c.plain.ensures ∙ ap plain w.reply-is in
          let e = w.destroy-reply.ensures in
          rw (w.p-is, w.s-is, w.o-is)
          (any_step _ is (λ n. λ i. buffers z.p.now (e.kept n i) z.o.now) (λ h. rw w.in-41.is (of-sessions _ is refl (e.sound h z.p.now), h)))
      | in-48 w ↦
          let is = c.plain.ensures ∙ ap plain w.reply-is in
          let e = w.open_order-reply.ensures in
          rw (w.p-is, w.s-is, w.o-is)
          (any_step _ is (λ n. λ i. buffers z.p.now z.s.now (e.kept n i)) (λ h. rw w.in-48.is (of-orders _ is refl ((e.sound h).0 z.s.now), (e.sound h).1)))
      | in-49 w ↦
          let is = c.plain.ensures ∙ ap plain w.reply-is in
          let e = w.end_order-reply.ensures in
          rw (w.p-is, w.s-is, w.o-is)
          (any_step _ is (λ n. λ i. buffers z.p.now z.s.now (e.kept n i))
          (λ h. rw w.in-49.is (of-orders _ is refl ((e.sound h).0 z.p.now z.s.now), (e.sound h).1)))
      | in-51 w ↦
          let is = c.plain.ensures ∙ ap plain w.reply-is in
          let e = w.release-reply.ensures in
          rw (w.p-is, w.s-is, w.o-is)
          (any_step _ is (λ n. λ i. buffers z.p.now z.s.now (e.kept n i)) (λ h. rw w.in-51.is (of-orders _ is refl (e.sound h).0, (e.sound h).1)))
      | in-52 w ↦
          let is = c.plain.ensures ∙ ap plain w.reply-is in
          let e = w.finish-reply.ensures in
          rw (w.p-is, w.s-is, w.o-is)
          (any_step _ is (λ n. λ i. buffers z.p.now z.s.now (e.kept n i)) (λ h. rw w.in-52.is (of-orders _ is refl (e.sound h).0, (e.sound h).1)))
      | in-57 w ↦
          let is = c.plain.ensures ∙ ap plain w.reply-is in
          rw (w.p-is, w.s-is, w.o-is)
          (any_step _ is (λ _. refl) (λ h. rw w.in-57.is (of_none _ is refl (w.task_check_reply-reply.ensures h), h)))
      | in-58 w ↦
          let is = c.plain.ensures ∙ ap plain w.reply-is in
          rw (w.p-is, w.s-is, w.o-is)
          (any_step _ is (λ _. refl) (λ h. rw w.in-58.is (of_none _ is refl (w.figures_reply-reply.ensures z.p.now z.s.now), h)))
      | in-60 w ↦
          let is = c.plain.ensures ∙ ap plain w.reply-is in
          rw (w.p-is, w.s-is, w.o-is)
          (any_step _ is (λ _. refl) (λ h. rw w.in-60.is (of_none _ is refl w.judge-reply.ensures, h)))
      | in_default w ↦
          let is = c.plain.ensures ∙ ap plain w.reply-is in
          let e = w.step-reply.ensures in
          let rest = w.in_default.in_default-own.rest in
          rw (w.p-is, w.s-is, w.o-is)
          (any_step _ is (λ n. λ i. buffers ((e.kept n).0 i) ((e.kept n).1 i) z.o.now)
          (λ h. rw (lower-row rest) (of-lower _ is (no-claim _ (paper_of z.r) _ (no-claim-number rest)) e, h)))
    ]
