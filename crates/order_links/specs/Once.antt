-- What sound links are, in the words of 02, Ask 9.
use Rattle.std.specs.Prelude.{ℕ, ◌≤◌, List, ◌≡◌}
use Rattle.paper_lower.specs.Lists.{Every}
use Rattle.order_links.specs.Chains.{mark_of, head_of, count_of, chain_word, numbers_in, Fine, MetOnce}
use Rattle.order_links.specs.Stacks.{step_to}

-- "The links never cross, never loop and reach every entry once."
pub record ReachedOnce (l : List ℕ) : Type 0 where
  -- "never loop": a chain, followed from its newest entry, ends after as many entries as its word says. 0 is no entry.
  pub ends : (i : ℕ) → i ≤ 65 → step_to l (head_of (chain_word l i)) (count_of (chain_word l i)) ≡ 0
  -- "never cross": the entries of a chain are entries up to the mark whose words name this chain, and so no other.
  pub own : (i : ℕ) → i ≤ 65 → Every (Fine l i (mark_of l)) (numbers_in l i)
  -- "reach every entry once"
  pub once : MetOnce l
