-- Every load of the real calls gives the reply and the place that specs/Loads.antt states exactly.
use Prim.Native.Nat.{ℕ}
use mathlib.Core.Path.{◌≡◌, sym, subst, ◌∙◌}
use Rattle.paper_lower.specs.Records.{Bytes}
use Rattle.paper_lower.specs.Load.{load}
use Rattle.theorems.specs.Records.{LoadedExactly}
use Rattle.theorems.proofs.Records.{every-load}
use Rattle.demands.specs.Calls.Load.{within}
use Rattle.demands.specs.Loads.{LoadsExactly}
use Rattle.demands.proofs.Demands.{demand-two}

told : (policy : Bytes) (reply place : ℕ) → reply ≡ (load policy).reply → place ≡ (load policy).place → LoadedExactly policy reply place
told policy reply place e f =
    subst (λ (q : ℕ). LoadedExactly policy q place) (sym e) (subst (λ (k : ℕ). LoadedExactly policy (load policy).reply k) (sym f) (every-load policy))

pub loads-exactly : LoadsExactly
loads-exactly = record {
  engine = λ {policy} f d. told policy _ _ (demand-two.loads f (within d)).0 (demand-two.places f d);
  exported = λ {policy} f d. ((load policy).reply, (load policy).place, demand-two.numbers f d, every-load policy);
  dealers = λ {policy} f d. told policy _ _ (d.replies ∙ rw f) (d.places ∙ rw f);
  dealers-exported = λ {policy} f d. ((load policy).reply, (load policy).place, d.answers ∙ rw f, every-load policy);
}
