-- A refusal that no rule gives: its place is 0.
use Prim.Native.Nat.{ℕ}
use mathlib.Core.List.{List}
use mathlib.Core.Path.{◌≡◌}
use Rattle.std.specs.Prelude.{Err}
use Rattle.paper_lower.specs.Checks.{Check, first}
use Rattle.replies.specs.Replies.{refusal_number, placeless}
use Rattle.replies.specs.declared.Refusal.{Refusal}
use Rattle.replies.specs.declared.Refused.{Refused}
use Rattle.order_rules.specs.Judging.{Verdict}

pub plainly : {cs : List Check} {f : ℕ → ℕ} {x : Refused} (e : Refusal) → x ≡ placeless e → refusal_number e ≡ first cs → 0 ≡ f (refusal_number e) → Verdict cs f (Err x)
plainly e is m g = rw is (record { replies = m; places = g })
