-- The place of a rule that refuses is at most 64, whatever was gathered from the entries, because a policy buffer has at most 64 rules of a kind.
use Prim.Native.Nat.{ℕ, zero, suc, ◌+◌, ◌≤◌}
use mathlib.Core.Bool.{Bool, true, false, cond}
use mathlib.Core.List.{List, [], ◌∷◌}
use mathlib.Core.Path.{◌≡◌}
use native.Mathlib.Omega.{arith}
use lib.Dec.{eqb}
use Rattle.paper_lower.specs.Sets.{Set}
use Rattle.paper_lower.specs.Lists.{some, many, place_from, place, first_of}
use Rattle.paper_lower.specs.Checks.{Check, BEFORE, SEPARATION, BLOCK, BOUND}
use Rattle.paper_lower.specs.Tables.{Rules}
use Rattle.paper_upper.specs.Rules.{before, separation, own, strange, block_within, block, bound, rule_place}
use Rattle.replies.specs.Replies.{Outcome, outcome_place, placeless}
use Rattle.replies.specs.declared.Refusal.{Refusal}
use Rattle.replies.specs.declared.Refused.{Refused}
use Rattle.policy.specs.Layout.{limit_count, block_count, pair_count}
use Rattle.policy.specs.Reading.{policy_of}
use Rattle.policy.proofs.RuleLaws.{limits-many, blocks-many, pairs-many}
use Rattle.order_rules.specs.Judging.{Verdict}

from-within : {A : Type 0} (k : ℕ) (p : A → Bool) (xs : List A) → place_from (suc k) p xs ≤ k + many xs
unfolding place_from many
from-within k p [] = omega arith
from-within k p (x ∷ xs) = go (p x) (from-within (suc k) p xs)
  where
    go : (b : Bool) → place_from (suc (suc k)) p xs ≤ suc k + many xs → cond b (suc k) (place_from (suc (suc k)) p xs) ≤ k + suc (many xs)
    go true h = omega arith
    go false h = omega arith

place-within : {A : Type 0} (n : ℕ) (p : A → Bool) (xs : List A) → many xs ≤ n → place p xs ≤ n
unfolding place
place-within n p xs l = let h = from-within 0 p xs in omega arith

pub either-within : (n : ℕ) (b : Bool) (x y : ℕ) → x ≤ n → y ≤ n → cond b x y ≤ n
either-within n true x y h k = h
either-within n false x y h k = k

first-within : (n k count : ℕ) (f : ℕ → ℕ) → ((q : ℕ) → f q ≤ n) → first_of k count f ≤ n
unfolding first_of
first-within n k zero f h = omega arith
first-within n k (suc count) f h = either-within n (eqb (f k) 0) _ _ (first-within n (suc k) count f h) (h k)

pub rule-place-within : (n : ℕ) (ru : Rules) → many ru.befores ≤ n → many ru.task_sets ≤ n → many ru.blocks ≤ n → many ru.bindings ≤ n
    → (d finished others : Set) (t reply : ℕ) → rule_place ru d finished others t reply ≤ n
unfolding rule_place before separation block block_within bound
rule-place-within n ru a b c e d finished others t reply =
    either-within n (eqb reply BEFORE) _ _ (place-within n _ ru.befores a)
    (either-within n (eqb reply SEPARATION) _ _ (place-within n _ ru.task_sets b)
    (either-within n (eqb reply BLOCK) _ _
    (first-within n 0 16 (block_within ru d t) (λ q. either-within n (some (own q t) ru.blocks) _ 0 (place-within n (strange q d t) ru.blocks c) (omega arith)))
    (either-within n (eqb reply BOUND) _ 0 (place-within n _ ru.bindings e) (omega arith))))

-- "Rules per policy: .. 64 blocks, 64 bindings, 64 prerequisites"
pub policy-place : (p : List ℕ) (d finished others : Set) (t reply : ℕ) → rule_place (policy_of p).rules d finished others t reply ≤ 64
unfolding limit_count block_count pair_count
policy-place p d finished others t reply =
    let a = limits-many p 2 (omega arith) in
    let b = blocks-many p in
    let c = pairs-many p 0 (omega arith) in
    let e = pairs-many p 1 (omega arith) in
    rule-place-within 64 (policy_of p).rules (omega arith) (omega arith) (omega arith) (omega arith) d finished others t reply

pub judged-place : (p : List ℕ) {cs : List Check} (d finished others : Set) (t : ℕ) {j : Outcome} →
    Verdict cs (rule_place (policy_of p).rules d finished others t) j → outcome_place j ≤ 64
judged-place p d finished others t v = rw v.places (policy-place p d finished others t _)

pub plain-place : {e : Refusal} {x : Refused} → x ≡ placeless e → x.place ≤ 64
plain-place is = rw is (omega arith)
