use Rattle.std.proofs.Common.{ℕ, ◌+◌, ◌≡◌, ◌∙◌, List, get_or, nat_eq, cond, refl, ap, arith, add-one}
use Rattle.scripts.specs.Lines.{digit_more, space_more, spaces_in, number_in}
use Rattle.scripts.proofs.number.Goals as goal

spaces_more : (line : List ℕ) (i : ℕ) {n m : ℕ} → n ≡ spaces_in line i → m ≡ space_more n (get_or line i 0) → m ≡ spaces_in line (i + 1)
unfolding spaces_in
spaces_more line i e f = rw (add-one i) (f ∙ ap (λ (y : ℕ). space_more y (get_or line i 0)) e)

number_more : (k : ℕ) (line : List ℕ) (i : ℕ) {n m x y : ℕ} → n ≡ spaces_in line i → x ≡ number_in k line i → m ≡ space_more n (get_or line i 0)
    → y ≡ cond (nat_eq m k) (digit_more x (get_or line i 0)) x → y ≡ number_in k line (i + 1)
unfolding spaces_in number_in
number_more k line i e f g h =
    let m = g ∙ ap (λ (y : ℕ). space_more y (get_or line i 0)) e in
    rw (add-one i) (h ∙ (λ z. cond (nat_eq (m z) k) (digit_more (f z) (get_or line i 0)) (f z)))

pub loop-b-init : goal.loop-b-init
unfolding spaces_in number_in
loop-b-init c = record { counted = refl; value = refl }

pub loop-b-preserved : goal.loop-b-preserved
loop-b-preserved c =
    let line = c.args.line.now in
    let x = c.loop-b in
    record {
      counted = spaces_more line x.b-index x.invariant.counted c.spaces_with-spaces.ensures;
      value = number_more c.args.k line x.b-index x.invariant.counted x.invariant.value c.spaces_with-spaces.ensures c.if_word-x.ensures;
    }
