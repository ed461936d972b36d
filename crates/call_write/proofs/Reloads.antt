-- What Ask 8 requires of the engine, from the contract of the call and the theorems about the bytes that the rules define.
use Prim.Native.Nat.{ℕ, ◌*◌, ◌≤◌}
use mathlib.Core.Bool.{Bool, true, false}
use mathlib.Core.Path.{◌≡◌, refl, sym, ap, subst, ◌∙◌}
use native.Mathlib.Omega.{arith}
use lib.ListN.{take, drop}
use lib.Seq.{take_at}
use Rattle.paper_lower.specs.Lists.{many}
use Rattle.paper_lower.specs.Records.{Bytes}
use Rattle.paper_lower.specs.Tables.{Policy, Lower}
use Rattle.paper_lower.specs.Load.{Loaded, load, accepted, records_of}
use Rattle.paper_lower.specs.Written.{records_written, written}
use Rattle.paper_upper.specs.Engine.{engine_of}
use Rattle.policy_writing.proofs.Laws.{joined_length}
use Rattle.engine.specs.Buffers.{Buffers, fit}
use Rattle.theorems.specs.Written.{Running, policy_of, InOrder, most_written}
use Rattle.theorems.proofs.Written.{loads-again, bytes-tell}
use Rattle.theorems.proofs.WrittenOrder.{written-in-order}
use Rattle.theorems.proofs.WrittenMost.{never-more-written}
use Rattle.demands.specs.Calls.{fitting, asked}
use Rattle.demands.proofs.Demands.{demand-one, demand-two}
use Rattle.call_write.specs.Promises.{policy_in}
use Rattle.call_write.specs.Reloads.{Reached, Out, WrittenOut}
use Rattle.call_write.proofs.Statements.{writes-as-defined, refused-for-room}

-- The bytes written are those that the rules define for the policy.
out-is : (z : Buffers) (bytes : Bytes) → Out z bytes → bytes ≡ written (policy_in z)
unfolding written
out-is z bytes o =
    let d = writes-as-defined z _ _ _ _ o.wrote o.granted in
    let n = joined_length (records_written (policy_in z)) in
    o.front ∙ ap (take (16 * o.records)) d.1
    ∙ take_at (written (policy_in z)) (drop (16 * o.records) o.output) (16 * o.records) (n ∙ ap (λ (k : ℕ). 16 * k) (sym d.0))

module _ {z : Buffers} (r : Reached z) where
  fits : fit r.x ≡ true
  fits = go (fit r.x) refl
    where
      go : (b : Bool) → fit r.x ≡ b → b ≡ true
      go true e = refl
      go false e = let m = (demand-one.misfit-load e r.loaded).0 in let g = r.granted in absurd (omega arith)

  running : Running
  running =
      record {
        policy = r.policy;
        bytes = r.bytes;
        loads = sym (demand-two.loads fits r.loaded).0 ∙ r.granted;
        requests = asked (λ a. a.said) (fitting (λ a. a.said) r.said);
      }

  running-is : policy_in z ≡ policy_of running
  unfolding running
  running-is = ap (λ (l : Lower). l.policy) (demand-two.runs fits r.loaded r.requests).1.lower

  loads-as : load (written (policy_in z)) ≡ accepted (policy_in z)
  loads-as = subst (λ (p : Policy). load (written p) ≡ accepted p) (sym running-is) (loads-again running)

pub written_out : WrittenOut
written_out =
    record {
      again = λ {z} {u} {v} {bytes} {reply} r o f l.
          let e : load bytes ≡ accepted (policy_in z) = ap load (out-is z bytes o) ∙ loads-as r in
          let d = demand-two.loads f l in
          (d.0 ∙ ap (λ (x : Loaded). x.reply) e, d.1 ∙ ap (λ (x : Loaded). engine_of x.tables) e);
      ordered = λ {z} {bytes} r o.
          subst (λ (s : Bytes). InOrder (policy_in z) (records_of s)) (sym (out-is z bytes o))
          (subst (λ (p : Policy). InOrder p (records_of (written p))) (sym (running-is r)) (written-in-order (running r)));
      enough = λ {z} r f w l.
          let n = subst (λ (p : Policy). many (records_written p) ≤ most_written) (sym (running-is r)) (never-more-written (running r)) in
          (refused-for-room z _ _ _ _ w).0 f (omega arith);
      tell = λ {z} {u} {a} {b} r s o p.
          let t = bytes-tell (running r) (running s) in
          let x = running-is r in
          let y = running-is s in
          let m = out-is z a o in
          let n = out-is u b p in (
            λ e. m ∙ ap written x ∙ t.0 (sym x ∙ e ∙ y) ∙ sym (n ∙ ap written y),
            λ e. x ∙ t.1 (sym (ap written x) ∙ sym m ∙ e ∙ n ∙ ap written y) ∙ sym y,
          );
    }
