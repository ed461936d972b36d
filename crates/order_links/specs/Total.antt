-- The contracts of the functions on links. Each says something about any content of the right length, and more about sound links.
use Rattle.std.specs.Prelude.{ℕ, ◌%◌, ◌≤◌, ◌<◌, Bool, false, List, ◌≡◌, eqb, length}
use Rattle.paper_lower.specs.Lists.{some}
use Rattle.order_links.specs.Chains.{head_of, count_of, chain_word}
use Rattle.order_links.specs.Stacks.{payloads_in, step_to, before_to, Woven, Cut, Carried, Freed, Sifted, Turned, Emptied}

-- The length stays the same, and k is at most the number of the last entry.
pub record Safe (l l' : List ℕ) (k : ℕ) : Type 0 where
  pub room : length l' ≡ length l
  pub reach : k ≤ 2048

-- Entry k comes after the first `kept` entries of chain i, and q is the last of these.
abbrev pub Stands : List ℕ → ℕ → ℕ → ℕ → ℕ → Type 0
Stands l i kept q k =
    (kept < count_of (chain_word l i)) × ((k ≡ step_to l (head_of (chain_word l i)) kept) × (q ≡ before_to l (head_of (chain_word l i)) kept))

-- The contract of `cut`.
abbrev pub Cuts : List ℕ → List ℕ → ℕ → ℕ → ℕ → ℕ → Type 0
Cuts l l' i kept q k = (length l' ≡ length l) × (Woven l → Stands l i kept q k → Cut l l' i kept k)

-- The contract of `free`.
abbrev pub Frees : List ℕ → List ℕ → ℕ → ℕ → ℕ → ℕ → Type 0
Frees l l' i kept q k = (length l' ≡ length l) × (Woven l → Stands l i kept q k → Freed l l' i kept k)

-- The contract of `drop_one`.
abbrev pub Drops : ℕ → List ℕ → List ℕ → ℕ → Type 0
Drops i l l' p = (length l' ≡ length l) × (Woven l → 0 < count_of (chain_word l i) → Carried l l' i 64 p p)

-- The contract of `drop_all`.
abbrev pub Empties : ℕ → List ℕ → List ℕ → Type 0
Empties i l l' = (length l' ≡ length l) × (Woven l → Emptied i l l')

-- Whether some entry of chain i fits the key.
abbrev pub any_fits : ℕ → List ℕ → ℕ → Bool
any_fits key l i = some (λ p. eqb (p % 16384) key) (payloads_in l i)

-- The contract of `sift`: no word changes if nothing fits the key, and r says whether something does.
pub record Sifts (i key : ℕ) (l l' : List ℕ) (r : Bool) : Type 0 where
  pub room : length l' ≡ length l
  pub kept : r ≡ false → l' ≡ l
  pub sound : Woven l → Sifted i key l l' × (r ≡ any_fits key l i)

-- The contract of `turn`, in the same way.
pub record Turns (i key : ℕ) (l l' : List ℕ) (r : Bool) : Type 0 where
  pub room : length l' ≡ length l
  pub kept : r ≡ false → l' ≡ l
  pub sound : Woven l → Turned i key l l' × (r ≡ any_fits key l i)
