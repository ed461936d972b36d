-- What Ask 8 requires of the lower part, from the contract of mishantral_lower_write and the theorems about the bytes that the rules define.
use Prim.Native.Nat.{ℕ, ◌*◌, ◌/◌, ◌%◌}
use mathlib.Core.Bool.{Bool, ◌&&◌}
use mathlib.Core.List.{◌++◌}
use mathlib.Core.Path.{◌≡◌, sym, ap, subst, ◌∙◌}
use native.Mathlib.Omega.{arith}
use lib.Dec.{leb}
use lib.ListN.{length, take, drop}
use lib.Seq.{take_at}
use Rattle.paper_lower.specs.Records.{Bytes}
use Rattle.paper_lower.specs.Tables.{Policy, Lower}
use Rattle.paper_lower.specs.Load.{Loaded, load, accepted}
use Rattle.paper_lower.specs.Sessions.{lower_of}
use Rattle.paper_lower.specs.Written.{records_written, written}
use Rattle.policy_writing.specs.Answers.{answer, records_of, write_of, Exported}
use Rattle.policy_writing.specs.Answers as writing
use Rattle.policy_writing.proofs.Laws.{joined_length}
use Rattle.theorems.specs.Written.{Running, lower_policy_of}
use Rattle.theorems.proofs.Written.{dealers-write}
use Rattle.demands.specs.Dealers.{Buffers, tables_of}
use Rattle.demands.proofs.Dealers.{loads, accepted as accepted-load, ss, ran}
use Rattle.call_write.specs.Dealers.{Reached, Out, WrittenOut}
use Rattle.call_write.proofs.Statements.{small-reply, granted-is}

-- The exported number, split into reply and number of records.
from-number : (f : Bool) (p : Policy) {output output' : Bytes} (n : ℕ) → Exported f p output output' n → answer (n % 256) (n / 256) output' ≡ write_of f p output
unfolding write_of
from-number f p {output} n d =
    let l = small-reply (f && leb (16 * records_of p) (length output)) p output in
    let e = d.answers in
    let reply : n % 256 ≡ (write_of f p output).reply = omega arith in
    let records : n / 256 ≡ (write_of f p output).records = omega arith in
    λ i. answer (reply i) (records i) (d.bytes i)

-- The first 16 bytes for each record written are the bytes that the rules define.
front-is : (p : Policy) (records : ℕ) (output after : Bytes) → records ≡ records_of p → after ≡ written p ++ drop (16 * records_of p) output
    → take (16 * records) after ≡ written p
unfolding written
front-is p records output after n e =
    let l = joined_length (records_written p) in
    ap (λ (k : ℕ). take (16 * k) after) n ∙ ap (take (16 * records_of p)) e ∙ take_at (written p) (drop (16 * records_of p) output) (16 * records_of p) l

module _ {z : Buffers} (r : Reached z) where
  running : Running
  running =
      record {
        policy = r.policy;
        bytes = r.bytes;
        loads = accepted-load r.loaded r.granted r.requests;
        requests = ss r.loaded r.granted r.requests;
      }

  running-is : (tables_of z).policy ≡ lower_policy_of running
  unfolding running
  running-is = ap (λ (t : Lower). t.policy) (ran r.loaded r.granted r.requests).1

  out-is : {bytes : Bytes} → Out z bytes → bytes ≡ written (tables_of z).policy
  unfolding write_of
  out-is o =
      let p = (tables_of z).policy in
      let d = granted-is (writing.fit z.policy z.sessions && leb (16 * records_of p) (length o.output)) p o.output
      (from-number (writing.fit z.policy z.sessions) p o.number o.wrote) o.granted in
      o.front ∙ front-is p (o.number / 256) o.output o.after d.0 d.1

  loads-as : load (written (tables_of z).policy) ≡ accepted (tables_of z).policy
  loads-as = subst (λ (p : Policy). load (written p) ≡ accepted p) (sym running-is) (dealers-write.again running)

pub written_out : WrittenOut
written_out =
    record {
      again = λ {z} {u} {v} {bytes} {reply} r o f l.
          let e : load bytes ≡ accepted (tables_of z).policy = ap load (out-is r o) ∙ loads-as r in
          let d = loads l f in
          (d.0 ∙ ap (λ (x : Loaded). x.reply) e, d.1 ∙ ap (λ (x : Loaded). lower_of x.tables) e);
      tell = λ {z} {u} {a} {b} r s o p.
          let t = dealers-write.tell (running r) (running s) in
          let x = running-is r in
          let y = running-is s in
          let m = out-is r o in
          let n = out-is s p in (
            λ e. m ∙ ap written x ∙ t.0 (sym x ∙ e ∙ y) ∙ sym (n ∙ ap written y),
            λ e. x ∙ t.1 (sym (ap written x) ∙ sym m ∙ e ∙ n ∙ ap written y) ∙ sym y,
          );
    }
