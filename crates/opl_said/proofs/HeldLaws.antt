-- In an accepted text each cardinality is small; and tables filled with all declared names hold the names of the two texts (`Held`).
use Prim.Native.Nat.{ℕ, zero, suc, ◌<◌}
use mathlib.Core.Path.{◌≡◌}
use mathlib.Core.Bool.{Bool}
use mathlib.Core.List.{List, []}
use native.Mathlib.Omega.{arith}
use lib.ListN.{length}
use Rattle.paper_lower.specs.Lists.{Every}
use Rattle.paper_lower.proofs.ListLaws.{every_append}
use Rattle.paper_opl.specs.Reading.{Text}
use Rattle.paper_opl.specs.Reading.Read.{got}
use Rattle.paper_opl.specs.Tree.{Tag, Elements, tags_of, document_in}
use Rattle.paper_opl.specs.Tree.Elements.{nothing, node}
use Rattle.paper_opl.specs.Naming.{space_of}
use Rattle.paper_opl.specs.Walk.{tags, names_in}
use Rattle.paper_opl.proofs.Cardinalities.{Small, AllSmall, document-small}
use Rattle.paper_opl.proofs.Tags.{tags-are}
use Rattle.opl_names.specs.Table.{Sound, names_in as names_held}
use Rattle.opl_spaces.specs.Spaces.{limit_of, scratch_words, table_of}
use Rattle.opl_line_names.specs.Names.{declared_at, line_names, filled}
use Rattle.opl_line_names.proofs.FilledLaws.{numbers-are, users-are, roles-are, permissions-are, operations-are, objects-are}
use Rattle.opl_line_names.proofs.LineNames.{tasks-are, templates-are}
use Rattle.opl_said.specs.Said.{space_at, all_names, Held}

-- ---- Cardinalities.
abbrev pub AllCardinal : List Tag → Type 0
AllCardinal ts = Every (λ t. Every Small t.given) ts

tree-cardinal : (es : Elements) → AllSmall es → AllCardinal (tags_of es)
unfolding AllSmall tags_of
tree-cardinal nothing h = tt
tree-cardinal (node w gs inside behind) h =
    (h.0, every_append (λ t. Every Small t.given) (tags_of inside) (tags_of behind) (tree-cardinal inside h.1) (tree-cardinal behind h.2))

pub all-cardinal : (all : Bool) (s : Text) (es : Elements) (r : Text) → document_in all s ≡ got es r → AllCardinal (tags s)
all-cardinal all s es r e = rw (tags-are all s es r e) (tree-cardinal es (document-small all s es r e))

-- ---- The spaces.
module _ (s t : Text) where
  tag-space : (i : ℕ) → i < 5 → space_at (all_names s t) i ≡ space_of (limit_of i) (declared_at i (tags s))
  unfolding space_at names_in limit_of
  tag-space zero h = rw (users-are (tags s))
  tag-space (suc zero) h = rw (roles-are (tags s))
  tag-space (suc (suc zero)) h = rw (permissions-are (tags s))
  tag-space (suc (suc (suc zero))) h = rw (operations-are (tags s))
  tag-space (suc (suc (suc (suc zero)))) h = rw (objects-are (tags s))
  tag-space (suc (suc (suc (suc (suc i))))) h = absurd (omega arith)

  line-space : (i : ℕ) → 4 < i → i < 7 → space_at (all_names s t) i ≡ space_of (limit_of i) (line_names t i 0)
  unfolding space_at names_in limit_of
  line-space zero l h = absurd (omega arith)
  line-space (suc zero) l h = absurd (omega arith)
  line-space (suc (suc zero)) l h = absurd (omega arith)
  line-space (suc (suc (suc zero))) l h = absurd (omega arith)
  line-space (suc (suc (suc (suc zero)))) l h = absurd (omega arith)
  line-space (suc (suc (suc (suc (suc zero))))) l h = rw (tasks-are t)
  line-space (suc (suc (suc (suc (suc (suc zero)))))) l h = rw (templates-are t)
  line-space (suc (suc (suc (suc (suc (suc (suc i))))))) l h = absurd (omega arith)

  -- Tables that were filled with all declared names.
  module _ (l : List ℕ) (room : length l ≡ scratch_words)
      (tag-tables : (i : ℕ) → i < 5 → Sound s (limit_of i) (table_of i l) × (names_held s (table_of i l) ≡ filled (limit_of i) [] (declared_at i (tags s))))
      (line-tables : (i : ℕ) → 4 < i → i < 7 → Sound t (limit_of i) (table_of i l) × (names_held t (table_of i l) ≡ filled (limit_of i) [] (line_names t i 0))) where
    pub held : Held s t (all_names s t) l
    held = record {
      room = room;
      tags-sound = λ i h. (tag-tables i h).0;
      lines-sound = λ i k h. (line-tables i k h).0;
      tag-numbers = λ i h w. rw (tag-space i h) (numbers-are s w i l (declared_at i (tags s)) (tag-tables i h).1);
      line-numbers = λ i k h w. rw (line-space i k h) (numbers-are t w i l (line_names t i 0) (line-tables i k h).1);
    }
