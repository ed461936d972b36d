-- Moving the newest entry of one chain to another, as taking it and then putting it; and repeating this until a chain is empty.
use Prim.Native.Nat.{ℕ, suc, ◌≤◌, ◌<◌}
use mathlib.Core.List.{List, [], ◌∷◌}
use mathlib.Core.Path.{◌≡◌, refl, sym, ap, ◌∙◌}
use native.Mathlib.Omega.{arith}
use Rattle.paper_lower.specs.Lists.{many}
use Rattle.order_links.specs.Chains.{count_of, chain_word, word_at}
use Rattle.order_links.specs.Stacks.{payload_of, payloads_in, Woven, Popped, Pushed, Carried, Still, Emptied}
use Rattle.order_links.proofs.EntryLaws.{many-payloads}

pub carried : (l l₁ l₂ : List ℕ) (i j k p q : ℕ) → i ≤ 65 → j ≤ 65 → (i ≡ j → ⊥) → p ≡ payload_of (word_at l₁ k) → Popped l l₁ i k → Pushed l₁ l₂ j q →
    Carried l l₂ i j p q
carried l l₁ l₂ i j k p q hi hj d e a b =
    record {
      woven = b.woven;
      beside = record {
        room = b.beside.room ∙ a.beside.room;
        opens = b.beside.opens ∙ a.beside.opens;
        templates = λ x h. b.beside.templates x h ∙ a.beside.templates x h;
        dones = λ x h. b.beside.dones x h ∙ a.beside.dones x h;
      };
      from = a.top ∙ (λ x. sym e x ∷ sym (b.others i hi d) x);
      to = b.top ∙ ap (◌∷◌ q) (a.others j hj (λ z. d (sym z)));
      others = λ x h y z. b.others x h z ∙ a.others x h y;
    }

pub still-refl : (i : ℕ) (l : List ℕ) → Woven l → Still i l l
still-refl i l w = record { woven = w; beside = record { room = refl; opens = refl; templates = λ x h. refl; dones = λ x h. refl }; others = λ j h d. refl }

pub still-step : (i a b p q : ℕ) (l₀ l l' : List ℕ) → ((x : ℕ) → x < 64 → (x ≡ i → ⊥) → (x ≡ a → ⊥) × (x ≡ b → ⊥)) → Still i l₀ l → Carried l l' a b p q →
    Still i l₀ l'
still-step i a b p q l₀ l l' off s c =
    record {
      woven = c.woven;
      beside = record {
        room = c.beside.room ∙ s.beside.room;
        opens = c.beside.opens ∙ s.beside.opens;
        templates = λ x h. c.beside.templates x h ∙ s.beside.templates x h;
        dones = λ x h. c.beside.dones x h ∙ s.beside.dones x h;
      };
      others = λ x h d. c.others x (omega arith) (off x h d).0 (off x h d).1 ∙ s.others x h d;
    }

pub count-step : (i j p q : ℕ) (l l' : List ℕ) → Carried l l' i j p q → count_of (chain_word l i) ≡ suc (count_of (chain_word l' i))
unfolding many
count-step i j p q l l' c = sym (many-payloads l i) ∙ ap many c.from ∙ ap suc (many-payloads l' i)

pub none_left : (l : List ℕ) (i : ℕ) → count_of (chain_word l i) ≡ 0 → payloads_in l i ≡ []
unfolding many
none_left l i e = go (payloads_in l i) (many-payloads l i ∙ e)
  where
    go : (xs : List ℕ) → many xs ≡ 0 → xs ≡ []
    go [] h = refl
    go (x ∷ xs) h = let z : ⊥ = omega arith in absurd z

-- ---- All entries of a chain were made free.
pub off-free : (i x : ℕ) → x < 64 → (x ≡ i → ⊥) → (x ≡ i → ⊥) × (x ≡ 64 → ⊥)
off-free i x h d = (d, λ e. omega arith)

pub emptied : (i : ℕ) (l₀ l : List ℕ) → Still i l₀ l → payloads_in l 65 ≡ payloads_in l₀ 65 → count_of (chain_word l i) ≡ 0 → Emptied i l₀ l
emptied i l₀ l s a e = record { still = s; aside = a; own = none_left l i e }
