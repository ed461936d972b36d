-- How each word of the sessions buffer reads: the row of each table in terms of the words, for every content of the buffer.
use Prim.Native.Nat.{ℕ, ◌+◌, ◌<◌, ◌/◌, ◌%◌}
use mathlib.Core.Bool.{false}
use mathlib.Core.List.{List}
use mathlib.Core.Path.{◌≡◌, ap₂, ◌∙◌}
use native.Mathlib.Nat.{zero-add}
use native.Mathlib.Omega.{arith}
use lib.Dec.{eqb}
use lib.ListN.{get_or}
use Rattle.paper_lower.specs.Sets.{union}
use Rattle.paper_lower.specs.Roles.{subject_of}
use Rattle.replies.proofs.CellLaws.{column-at, two-parts}
use Rattle.blocks.specs.Reading.{blocks_in}
use Rattle.sessions.specs.Reading.{sessions_of, live_in, user_in, same}

module _ (l : List ℕ) (a : ℕ) (h : a < 128) where
  pub live_at : (sessions_of l).live a ≡ live_in (get_or l a 0)
  unfolding sessions_of
  live_at = column-at live_in false 0 128 l a h ∙ rw zero-add

  pub user-at : (sessions_of l).user a ≡ user_in (get_or l a 0)
  unfolding sessions_of
  user-at = column-at user_in 0 0 128 l a h ∙ rw zero-add

  pub active-at : (sessions_of l).active a ≡ get_or l (128 + a) 0
  unfolding sessions_of
  active-at = column-at same 0 128 128 l a h

  pub had-at : (sessions_of l).had a ≡ union (get_or l (256 + a) 0) (get_or l (128 + a) 0)
  unfolding sessions_of
  had-at = ap₂ union (column-at same 0 256 128 l a h) (column-at same 0 128 128 l a h)

  pub of-user-at : (u : ℕ) → u < 1024 → eqb (get_or l a 0 % 2048) (1024 + u) ≡ subject_of (sessions_of l) u a
  unfolding subject_of
  of-user-at u k =
      let w = get_or l a 0 in
      two-parts (w % 2048) (1024 + u) (w / 1024 % 2) 1 (w % 1024) u (omega arith) (omega arith) ∙ rw (live_at, user-at)

pub bound_at : (l : List ℕ) (u : ℕ) → u < 1024 → (sessions_of l).bound_to u ≡ blocks_in (get_or l (384 + u) 0) (get_or l (1408 + u) 0)
unfolding sessions_of
bound_at l u h = ap₂ blocks_in (column-at same 0 384 1024 l u h) (column-at same 0 1408 1024 l u h)
