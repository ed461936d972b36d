-- The ledger and the six claim rules together (`Sound`): every request that changes the orders
-- keeps them, and a claim keeps each rule exactly if the check of that rule does not apply.
use Prim.Native.Nat.{ℕ}
use mathlib.Core.Path.{◌≡◌, refl}
use mathlib.Core.Bool.{true, false, not}
use mathlib.Core.List.{List}
use mathlib.Core.Logic.Iff
use native.Mathlib.Omega.{arith}
use lib.Dec.{leb}
use Rattle.paper_lower.specs.Sets.{empty}
use Rattle.paper_lower.specs.Lists.{there, some, many, keep, Every}
use Rattle.paper_lower.specs.Lists.Maybe.{none, just}
use Rattle.paper_lower.specs.Records.{Record}
use Rattle.paper_lower.specs.Tables.{Tasks, Rules}
use Rattle.paper_lower.specs.Policy.{has_task}
use Rattle.paper_lower.proofs.ListLaws.{every-all, ◌⨾◌}
use Rattle.paper_lower.proofs.CheckLaws.{Passed}
use Rattle.paper_upper.specs.Orders.{Orders, no_orders, are_in_order, held_of, tasks_where, tasks_by}
use Rattle.paper_upper.specs.Rules.{gathered_checks, rule_checks}
use Rattle.theorems.specs.OverEntries.{of_kind, TaskSets, Blocks, LoneWorkers, Bindings, CountLimits, Prerequisites, Rule, claim_rules}
use Rattle.theorems.specs.WellMade.{WellMade, Ledger}
use Rattle.theorems.proofs.EntryLaws.{opening, ending, claiming, releasing, finishing}
use Rattle.theorems.proofs.Made.{Made}
use Rattle.theorems.proofs.Meets.{Meet, meet-passed}
use Rattle.theorems.proofs.UserRules.{users-open, users-claim, users-finish, users-end, users-release}
use Rattle.theorems.proofs.TaskSets.{SetsOf, sets-empty, sets-less, sets-claim}
use Rattle.theorems.proofs.Blocks.{BlocksOf, blocks-empty, blocks-less, blocks-claim}
use Rattle.theorems.proofs.LoneWorkers.{LoneOf, lone-none, lone-less, lone-fresh, lone-claim}
use Rattle.theorems.proofs.Bindings.{bindings-less, bindings-finish, bindings-claim}
use Rattle.theorems.proofs.CountLimits.{counts-less, counts-finish, counts-claim}
use Rattle.theorems.proofs.Prerequisites.{befores-end, befores-release, befores-finish, befores-claim}
use Rattle.theorems.proofs.Ledger.{held_task, ledger-open, ledger-end, ledger-release, ledger-finish, ledger-claim}

module _ (policy : List Record) where
  -- The ledger is sound, and each of the six claim rules holds.
  pub record Sound (o : Orders) : Type 0 where
    pub ledger : Ledger o
    pub befores : Prerequisites policy o
    pub sets : TaskSets policy o
    pub blocks : Blocks policy o
    pub lone : LoneWorkers policy o
    pub bindings : Bindings policy o
    pub counts : CountLimits policy o

  pub kept : (o : Orders) → Sound o → Every (λ k. k.Kept policy o) claim_rules
  kept o h = h.befores ⨾ h.sets ⨾ h.blocks ⨾ h.lone ⨾ h.bindings ⨾ h.counts ⨾ tt

  pub sound-start : Sound no_orders
  unfolding no_orders tasks_by tasks_where many keep
  sound-start = record {
    ledger = record { open-orders = tt; one-holder = λ i t. omega arith; room = omega arith };
    befores = every-all (of_kind 16 policy) (λ r. tt);
    sets = λ i u. sets-empty policy none;
    blocks = λ i u. blocks-empty policy none;
    lone = λ i u. lone-none policy empty;
    bindings = every-all (of_kind 15 policy) (λ r. tt);
    counts = λ i. every-all (of_kind 14 policy) (λ r. omega arith);
  }

  module _ (o : Orders) (h : Sound o) where
    pub sound-end : (a : ℕ) → Sound (ending o a)
    sound-end a = record {
      ledger = ledger-end o h.ledger a;
      befores = befores-end policy o h.befores a;
      sets = users-end (SetsOf policy) (sets-less policy) (λ m d x. x) o a h.sets;
      blocks = users-end (BlocksOf policy) (blocks-less policy) (λ m d x. x) o a h.blocks;
      lone = users-end (LoneOf policy) (lone-less policy) (λ m d x. lone-none policy d) o a h.lone;
      bindings = bindings-less policy o h.bindings (ending o a).opened (λ e. not (are_in_order a e));
      counts = counts-less policy o h.counts (ending o a).opened (λ e. not (are_in_order a e));
    }

    pub sound-release : (a b c : ℕ) → Sound (releasing o a b c)
    sound-release a b c = record {
      ledger = ledger-release o h.ledger a b c;
      befores = befores-release policy o h.befores a b c;
      sets = users-release (SetsOf policy) (sets-less policy) o a b c h.sets;
      blocks = users-release (BlocksOf policy) (blocks-less policy) o a b c h.blocks;
      lone = users-release (LoneOf policy) (lone-less policy) o a b c h.lone;
      bindings = bindings-less policy o h.bindings o.opened (λ e. not (held_of b c a e));
      counts = counts-less policy o h.counts o.opened (λ e. not (held_of b c a e));
    }

    pub sound-finish : (a b c : ℕ) → Sound (finishing o a b c)
    sound-finish a b c = record {
      ledger = ledger-finish o h.ledger a b c;
      befores = befores-finish policy o h.befores a b c;
      sets = users-finish (SetsOf policy) o a b c h.sets;
      blocks = users-finish (BlocksOf policy) o a b c h.blocks;
      lone = users-finish (LoneOf policy) o a b c h.lone;
      bindings = bindings-finish policy o h.bindings a b c;
      counts = counts-finish policy o h.counts a b c;
    }

    module _ (k : Tasks) (ru : Rules) (made : Made policy k ru) (well : WellMade k.template k.most ru) where
      pub sound-open : (a b : ℕ) → has_task k b ≡ true → there (o.opened a) ≡ false → Sound (opening o a b)
      sound-open a b some new = record {
        ledger = ledger-open o h.ledger a b;
        befores = h.befores;
        sets = users-open (SetsOf policy) o a b h.ledger.open-orders new (sets-empty policy (just b)) h.sets;
        blocks = users-open (BlocksOf policy) o a b h.ledger.open-orders new (blocks-empty policy (just b)) h.blocks;
        lone = users-open (LoneOf policy) o a b h.ledger.open-orders new (lone-fresh policy k ru made well b some) h.lone;
        bindings = h.bindings;
        counts = h.counts;
      }

      -- The checks of a claim and the rules over the orders with the claim's entry added.
      pub rules-meet : (a b u c : ℕ) → Meet (λ x. x.Kept policy (claiming o a b u c)) (rule_checks k ru (o.opened b) o.entries b u c) claim_rules
      unfolding gathered_checks rule_checks
      rules-meet a b u c =
          let m = o.opened b in
          let d = tasks_by b u o.entries in
          (refl, befores-claim policy o h.befores k ru made a b u c)
          ⨾ (refl, Iff.trans (sets-claim policy k ru made m d c (h.sets b u)) (users-claim (SetsOf policy) o a b u c h.sets))
          ⨾ (refl, Iff.trans (blocks-claim policy k ru made well m d c (h.blocks b u)) (users-claim (BlocksOf policy) o a b u c h.blocks))
          ⨾ (refl, Iff.trans (lone-claim policy k ru made well m d c) (users-claim (LoneOf policy) o a b u c h.lone))
          ⨾ (refl, bindings-claim policy o h.bindings k ru made a b u c)
          ⨾ (refl, counts-claim policy o h.counts k ru made a b u c)
          ⨾ tt

      pub sound-claim : (a b u c : ℕ) → there (o.opened b) ≡ true → some (held_task b c) o.entries ≡ false → leb 2048 (many o.entries) ≡ false
          → Passed (rule_checks k ru (o.opened b) o.entries b u c) → Sound (claiming o a b u c)
      sound-claim a b u c stands free room p =
          let K : Rule → Type 0 = λ x. x.Kept policy (claiming o a b u c) in
          let r = meet-passed K (rule_checks k ru (o.opened b) o.entries b u c) claim_rules (rules-meet a b u c) p in
          record {
            ledger = ledger-claim o h.ledger a b u c stands free room;
            befores = r.0;
            sets = r.1.0;
            blocks = r.1.1.0;
            lone = r.1.1.1.0;
            bindings = r.1.1.1.1.0;
            counts = r.1.1.1.1.1.0;
          }
