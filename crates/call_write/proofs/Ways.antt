-- The ways in which `write` returns, each with its contract: a length is wrong, the links are not sound, or the policy buffer is written out.
use mathlib.Core.Bool.{true, false}
use mathlib.Core.Path.{◌≡◌, sym, ◌∙◌}
use native.Mathlib.Omega.{arith}
use borrow.Author.Tests.{eq-eqb}
use lib.Dec.{eqb}
use lib.ListN.{length}
use Rattle.paper_lower.specs.Records.{Bytes}
use Rattle.paper_lower.specs.Tables.{no_policy}
use Rattle.paper_lower.specs.Sessions.{lower_of}
use Rattle.paper_upper.specs.Engine.{engine_of}
use Rattle.std.specs.Prelude.{Ok, Err}
use Rattle.replies.specs.declared.Refusal.TheVariants.{Room}
use Rattle.policy.specs.Layout.{policy_words}
use Rattle.policy.specs.Reading.{policy_of}
use Rattle.order_links.specs.Chains.{sound_of}
use Rattle.policy_writing.specs.Answers.{Written, write_of, Wrote}
use Rattle.policy_writing.proofs.Ways.{nothing-out}
use Rattle.engine.specs.Buffers.{Buffers, fit}
use Rattle.engine.proofs.Ways.{fit-lengths, tables-sound, tables-broken}
use Rattle.call_write.specs.Promises.{policy_in, WroteOut}

module _ (x : Buffers) (out : Bytes) where
  pub no-state : fit x ≡ false → WroteOut x out out (Err Room)
  unfolding write_of
  no-state h = record { answers = rw h; few = omega arith }

  module _ (h : fit x ≡ true) where
    pub of_none : sound_of x.orders ≡ false → WroteOut x out out (Ok 0)
    unfolding engine_of lower_of
    of_none b =
        let e : write_of (fit x) (policy_in x) out ≡ write_of true no_policy out = λ i. write_of (h i) (tables-broken x b i).lower.policy out in
        record { answers = nothing-out out ∙ sym e; few = omega arith }

    pub of-policy : {out' : Bytes} {w : Written} → sound_of x.orders ≡ true → Wrote x.policy out out' w → WroteOut x out out' w
    of-policy s d =
        let e : write_of (eqb (length x.policy) policy_words) (policy_of x.policy) out ≡ write_of (fit x) (policy_in x) out
        = λ i. write_of ((eq-eqb _ _ (fit-lengths x h).0 ∙ sym h) i) (sym (tables-sound x s) i).lower.policy out in
        record { answers = d.answers ∙ e; few = d.few }
