-- The test for STATIC of kind 17 on a single user.
use Rattle.std.specs.Prelude.{ℕ, Bool, ◌&&◌}
use Rattle.paper_lower.specs.Lists.{some}
use Rattle.paper_lower.specs.Tables.{Policy}
use Rattle.paper_lower.specs.Policy.{down, breaks, raised}

-- Whether user u is declared and would break a static set if role a were put above role b.
abbrev pub would_break : Policy → ℕ → ℕ → ℕ → Bool
would_break t a b u = t.people.users u && some (breaks (down (raised t.seniority a b) (t.people.assigned u))) t.rules.statics
