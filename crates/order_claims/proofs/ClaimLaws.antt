-- Laws for the proofs of this crate: what `known` says of an instance, the checks of a claim after its first ones, and what follows if a claim is granted.
use Prim.Native.Nat.{ℕ, ◌<◌}
use mathlib.Core.Bool.{Bool, true, false, not, cond, ◌&&◌, ◌||◌, false≢true}
use mathlib.Core.List.{List, [], ◌∷◌, ◌++◌}
use mathlib.Core.Path.{◌≡◌, refl, sym, ◌∙◌}
use borrow.Author.Tests.{not-false, leb-false}
use lib.Dec.{eqb, leb}
use Rattle.std.specs.Bool.{then_some}
use Rattle.paper_lower.specs.Sets.{meets}
use Rattle.paper_lower.specs.Lists.{Maybe, holds, there, is, some, many}
use Rattle.paper_lower.specs.Lists.Maybe.{none, just}
use Rattle.paper_lower.specs.Checks.{Check, first, FULL}
use Rattle.paper_lower.specs.Policy.{down}
use Rattle.paper_lower.proofs.ListLaws.{or-none}
use Rattle.paper_lower.proofs.CheckLaws.{Numbered, passed}
use Rattle.paper_upper.specs.Orders.{Engine, is_held, of_task}
use Rattle.paper_upper.specs.Rules.{gathered_checks, rule_checks, rule_place}
use Rattle.paper_upper.specs.Requests.{unknown, claim_checks, claim_place}
use Rattle.replies.specs.Replies.{refusal_number}
use Rattle.replies.specs.declared.Refusal.{Refusal}
use Rattle.replies.proofs.DoneLaws.{stops, goes_on}
use Rattle.order_entries.specs.Gathering.{gathered_of}
use Rattle.order_entries.specs.declared.Gathered.{Gathered}
use Rattle.order_entries.proofs.TableLaws.{gathered-mine, gathered-done, gathered-others, gathered-times, gathered-held}
use Rattle.order_claims.specs.Promises.{Known}

holds-there : {A : Type 0} (p : A → Bool) (x : Maybe A) → holds p x ≡ true → there x ≡ true
unfolding holds
holds-there p none h = absurd (false≢true h)
holds-there p (just y) h = refl

module _ (t : Engine) (a b c : ℕ) where
  -- The last checks of a claim: the claim rules, and FULL.
  abbrev pub rules_of : List Check
  rules_of = rule_checks t.lower.policy.tasks t.lower.policy.rules (t.orders.opened b) t.orders.entries b (t.lower.sessions.user a) c

  abbrev pub full_of : List Check
  full_of = (leb 2048 (many t.orders.entries), FULL) ∷ []

  -- What `known` returns: nothing of a closed instance, and otherwise what its tests say.
  pub closed-unknown : none ≡ t.orders.opened b → unknown t a b c ≡ true
  unfolding unknown holds
  closed-unknown e = rw (← e) (go (t.lower.sessions.live a))
    where
      go : (live : Bool) → not live || true ≡ true
      go true = refl
      go false = refl

  pub template-known : (j : ℕ) {live of : Bool} → just j ≡ t.orders.opened b → j < 16 → live ≡ t.lower.sessions.live a
      → of ≡ is j (t.lower.policy.tasks.template c) → Known t a b c (then_some (live && of) j)
  unfolding unknown holds
  template-known j {live} {of} e small l o = go live of (rw (← l, ← e, ← o))
    where
      go : (live of : Bool) → unknown t a b c ≡ not live || not of → Known t a b c (then_some (live && of) j)
      go true true u = record { known = u; template = sym e; small = small }
      go true false u = u
      go false of u = u

  pub rules-next : {m : Bool} → unknown t a b c ≡ false
      → some (λ e. of_task b c e && is_held e.standing) t.orders.entries ≡ false
      → m ≡ meets (t.lower.policy.tasks.open_to c) (down t.lower.policy.seniority (t.lower.sessions.active a)) → m ≡ true
      → first (claim_checks t a b c) ≡ first (rules_of ++ full_of)
  unfolding claim_checks
  rules-next h i e j = rw (h, i, ← e, j)

  -- What follows if a claim is granted: there is room, and instance b is open.
  pub room : 0 ≡ first (claim_checks t a b c) → many t.orders.entries < 2048
  unfolding claim_checks gathered_checks rule_checks
  room z = leb-false _ _ (passed (claim_checks t a b c) (tt, (tt, (tt, (tt, (tt, (tt, (tt, (tt, (tt, (tt, tt)))))))))) (sym z)).1.1.1.1.1.1.1.1.1.0

  -- If nothing is unknown, instance b is open.
  pub not-unknown : unknown t a b c ≡ false → there (t.orders.opened b) ≡ true
  unfolding unknown
  not-unknown h =
      let of : ℕ → Bool = λ j. is j (t.lower.policy.tasks.template c) in
      holds-there of (t.orders.opened b)
      (not-false (holds of (t.orders.opened b)) (or-none (not (t.lower.sessions.live a)) (not (holds of (t.orders.opened b))) h).1)

  pub claim-opened : 0 ≡ first (claim_checks t a b c) → there (t.orders.opened b) ≡ true
  unfolding claim_checks gathered_checks rule_checks
  claim-opened z = not-unknown (passed (claim_checks t a b c) (tt, (tt, (tt, (tt, (tt, (tt, (tt, (tt, (tt, (tt, tt)))))))))) (sym z)).0

  rules-numbered : Numbered rules_of
  unfolding gathered_checks rule_checks
  rules-numbered = (tt, (tt, (tt, (tt, (tt, (tt, tt))))))

  -- What `gather` collected from the entries gives what the definitions compute from them.
  module _ {u : ℕ} {g : Gathered} (of : u ≡ t.lower.sessions.user a) (gathers : g ≡ gathered_of b u c t.orders.entries) where
    pub held-is : {x : Bool} → eqb g.held 1 ≡ x → some (λ e. of_task b c e && is_held e.standing) t.orders.entries ≡ x
    held-is h = sym (gathered-held b u c t.orders.entries gathers) ∙ h

    pub place-by-entries : (n : ℕ) {x : ℕ} → x ≡ rule_place t.lower.policy.rules g.mine.bits g.done.bits g.others.bits c n →
        x ≡ claim_place t a b c n
    unfolding claim_place
    place-by-entries n q =
        let es = t.orders.entries in
        (rw (gathered-mine b u c es gathers, gathered-done b u c es gathers, gathered-others b u c es gathers) at q) ∙ rw of

    pub by_entries : {j : ℕ} (r : ℕ) → t.orders.opened b ≡ just j
        → r ≡ first (gathered_checks t.lower.policy.tasks t.lower.policy.rules (just j) g.mine.bits g.done.bits g.others.bits g.times c) → r ≡ first rules_of
    unfolding rule_checks
    by_entries r e q =
        let es = t.orders.entries in
        (rw (← e, gathered-mine b u c es gathers, gathered-done b u c es gathers, gathered-others b u c es gathers, gathered-times b u c es gathers) at q)
        ∙ rw of

  -- After the other checks: a claim rule refuses, or FULL decides.
  module _ (next : first (claim_checks t a b c) ≡ first (rules_of ++ full_of)) where
    pub by-rule : (e : Refusal) → refusal_number e ≡ first rules_of → refusal_number e ≡ first (claim_checks t a b c)
    by-rule e judged = stops rules_of full_of e judged ∙ sym next

    pub by-room : 0 ≡ first rules_of → {n : ℕ} {y : Bool} → n ≡ many t.orders.entries → leb 2048 n ≡ y → first (claim_checks t a b c) ≡ cond y FULL 0
    by-room judged e f = next ∙ goes_on rules_of full_of rules-numbered judged ∙ rw (← e, f)
