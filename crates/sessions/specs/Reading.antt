-- How the sessions buffer of 2,432 words reads as tables. Word a: whether subject a is live, and its user. Word 128 + a: its active roles. Word 256 + a: the
-- roles that it has had active, to which the active ones always belong. Word 384 + u: the walls in which user u is bound. Word 1,408 + u: the blocks in those
-- walls. Every content reads as some tables.
use Rattle.std.specs.Prelude.{ℕ, ◌/◌, ◌%◌, Bool, false, List, ◌≡◌, eqb, length, get_or}
use Rattle.paper_lower.specs.Sets.{union}
use Rattle.paper_lower.specs.Lists.{Maybe, upd}
use Rattle.paper_lower.specs.Tables.{Sessions, no_sessions, with_active, with_had, with_bound_to}
use Rattle.replies.specs.Cells.{column}
use Rattle.blocks.specs.Reading.{blocks_in}

-- The length of the buffer in words.
abbrev pub sessions_words : ℕ
sessions_words = 2432

-- A subject is live if bit 10 is set.
abbrev pub live_in : ℕ → Bool
live_in w = eqb (w / 1024 % 2) 1

-- Its user is in bits 0 to 9.
abbrev pub user_in : ℕ → ℕ
user_in w = w % 1024

-- A set is the word itself.
abbrev pub same : ℕ → ℕ
same w = w

-- The tables of the buffer.
unfoldable pub sessions_of : List ℕ → Sessions
sessions_of l =
    record {
      live = column live_in false 0 128 l;
      user = column user_in 0 0 128 l;
      active = column same 0 128 128 l;
      had = λ a. union (column same 0 256 128 l a) (column same 0 128 128 l a);
      bound_to = λ u. blocks_in (column same 0 384 1024 l u) (column same 0 1408 1024 l u);
    }

-- The sessions with other roles for subject a: the active ones, and those that it has had active.
abbrev pub roles_anew : Sessions → ℕ → ℕ → ℕ → Sessions
roles_anew s a active had = with_had (with_active s (upd s.active a active)) (upd s.had a (union had active))

-- The sessions with other blocks for user u.
abbrev pub bound_anew : Sessions → ℕ → (ℕ → Maybe ℕ) → Sessions
bound_anew s u blocks = with_bound_to s (upd s.bound_to u blocks)

-- The buffer after it was cleared: no subject is live, nobody is bound, and every word is 0.
pub record Cleared (l : List ℕ) : Type 0 where
  pub tables : sessions_of l ≡ no_sessions
  pub words : length l ≡ sessions_words
  pub zeros : (i : ℕ) → get_or l i 0 ≡ 0
