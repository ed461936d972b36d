-- Laws about the attributes of a start tag: how one is read, how all of them are read one by one, and how a value is found among them.
use Prim.Native.Nat.{ℕ, zero, suc, ◌+◌, ◌-◌, ◌≤◌, ◌<◌}
use mathlib.Core.Path.{◌≡◌, refl, sym, ap, ◌∙◌}
use mathlib.Core.Bool.{Bool, true, false, ◌||◌}
use mathlib.Core.List.{List, [], ◌∷◌}
use native.Mathlib.Omega.{arith}
use lib.ListN.{length, take, drop, length-drop, drop_of_length-le}
use Rattle.paper_lower.specs.Lists.{Maybe}
use Rattle.paper_lower.specs.Lists.Maybe.{none, just}
use Rattle.paper_opl.specs.Reading.{Text, text, Read, after, same, starts, white, behind, skip, space, in_name, name, word, value, equals}
use Rattle.paper_opl.specs.Reading.Read.{got, bad}
use Rattle.paper_opl.specs.Tree.{Given, if-found}
use Rattle.paper_opl.specs.Naming.{value_of as value_in}
use Rattle.paper_opl.specs.Walk.{plain, givens}
use Rattle.paper_opl.proofs.Inversion.{on, on_test, bad≢got, got-rest, got-value}
use Rattle.paper_opl.proofs.Counts.{below_of, word-strict, space-strict, equals-below}
use Rattle.paper_opl.proofs.Tags.{plain-below}
use Rattle.std.specs.Prelude.{Ok, Err}
use Rattle.opl_text.specs.declared.BadByte.{BadByte}
use Rattle.opl_text.specs.Steps.{Reads, step_of, word_of, value_of}
use Rattle.opl_text.proofs.Laws.{onward, no_word, a_word}
use Rattle.opl_text.proofs.Literals.{value_room}
use Rattle.opl_tags.specs.Tags.{placeless, given, Stands, ReadsAttribute, collected_on, collected, given_at, Valued}
use Rattle.opl_tags.specs.declared.Attribute.{Attribute}
use Rattle.opl_tags.specs.declared.Attribute.TheVariants.{Pair, Done, Stop}

-- ---- One attribute: its name, "=" and its value.
module _ (s : Text) (at : ℕ) where
  pub plain_unnamed : (e : BadByte) → Reads s (word_of s at) (name (drop at s)) (Err e) → ReadsAttribute s at (after (plain (drop at s)) (λ g u. got (just g) u)) Stop
  unfolding plain
  plain_unnamed e reads = record { read_is = rw (← reads.read_is); stands = tt }

  module _ (end : ℕ) (named : Reads s (word_of s at) (name (drop at s)) (Ok end)) where
    pub name-past : at < end
    name-past = omega (arith, below_of (sym named.read_is) (word-strict in_name (drop at s)), length-drop at s, length-drop end s)

    pub plain_unequal : (e : BadByte) → Reads s (step_of s) (equals (drop end s)) (Err e) → ReadsAttribute s at (after (plain (drop at s)) (λ g u. got (just g) u)) Stop
    unfolding plain
    plain_unequal e reads = record { read_is = rw (← named.read_is, ← reads.read_is); stands = tt }

    module _ (quote : ℕ) (sign : Reads s (step_of s) (equals (drop end s)) (Ok quote)) where
      quote-past : end ≤ quote
      quote-past =
          omega (arith, below_of (sym sign.read_is) (equals-below (drop end s)), length-drop end s, length-drop quote s, sign.inside, named.inside)

      pub plain_unvalued : (e : BadByte) → Reads s (value_of s (quote + 1)) (value (drop quote s)) (Err e) →
          ReadsAttribute s at (after (plain (drop at s)) (λ g u. got (just g) u)) Stop
      unfolding plain
      plain_unvalued e reads = record { read_is = rw (← named.read_is, ← sign.read_is, ← reads.read_is); stands = tt }

      module _ (close : ℕ) (closes : Reads s (value_of s (quote + 1)) (value (drop quote s)) (Ok close)) where
        pub pair_room : (quote + 1 ≤ close) × (close + 1 ≤ length s)
        pair_room = value_room s quote (Ok close) closes close refl sign.inside

        pub plain_pair : ReadsAttribute s at (after (plain (drop at s)) (λ g u. got (just g) u)) (Pair at end (quote + 1) close)
        unfolding plain
        plain_pair =
            record {
              read_is = rw (← named.read_is, ← sign.read_is, ← closes.read_is);
              stands = record { behind = omega arith; name = name-past; apart = omega (arith, quote-past); order = pair_room.0; inside = pair_room.1 };
            }

-- ---- The next attribute of a start tag, after white space up to index i.
earlier : (s : Text) (at i : ℕ) → at ≤ i → (r : Attribute) → Stands s i r → Stands s at r
earlier s at i h (Pair from end value close) w =
    record { behind = omega (arith, w.behind); name = w.name; apart = w.apart; order = w.order; inside = w.inside }
earlier s at i h (Done k) w = (omega (arith, w.0), w.1)
earlier s at i h Stop w = tt

module _ (s : Text) (at i : ℕ) (h : at ≤ length s) (to : drop i s ≡ behind white (drop at s)) (inside : i ≤ length s) (a b : Bool)
    (ends : a ≡ starts (62 ∷ []) (drop i s)) (empty : b ≡ starts (47 ∷ []) (drop i s)) where
  pub given_done : a || b ≡ true → ReadsAttribute s at (given (drop at s)) (Done i)
  unfolding given text
  given_done q = record { read_is = rw (← to, ← ends, ← empty, q); stands = (onward white s at i h to inside, inside) }

  module _ (q : a || b ≡ false) where
    pub given_unspaced : i ≡ at → ReadsAttribute s at (given (drop at s)) Stop
    unfolding given text
    given_unspaced e = record { read_is = rw (← to, ← ends, ← empty, q, ← no_word white s at i h to inside e); stands = tt }

    given_is : (i ≡ at → ⊥) → given (drop at s) ≡ after (plain (drop i s)) (λ g u. got (just g) u)
    unfolding given text
    given_is e = rw (← to, ← ends, ← empty, q, ← a_word white s at i h to inside e)

    pub given_plain : (i ≡ at → ⊥) → (r : Attribute) → ReadsAttribute s i (after (plain (drop i s)) (λ g u. got (just g) u)) r →
        ReadsAttribute s at (given (drop at s)) r
    given_plain e r x =
        record { read_is = x.read_is ∙ sym (ap placeless (given_is e)); stands = earlier s at i (onward white s at i h to inside) r x.stands }

-- ---- All attributes, one by one. They do not depend on the count in the definition if it is at least the length of the text.
shrinks : (s : Text) (g : Given) (r : Text) → given s ≡ got (just g) r → length r < length s
unfolding given
shrinks s g r e =
    on_test (starts (text ">") (skip s) || starts (text "/") (skip s)) (λ q. absurd (none_found (rw q at e))) (λ q.
    on (space s) (λ _ x p. on (plain x) (λ k u t.
    let z : u ≡ r = got-rest (rw (q, p, t) at e) in
    let l = below_of p (space-strict s) in
    let m = below_of t (plain-below x) in
    let o = ap (λ (y : Text). length y) z in
    omega arith) (λ u t. absurd (bad≢got (rw (q, p, t) at e)))) (λ x p. absurd (bad≢got (rw (q, p) at e))))
  where
    none_found : {x y : Text} → got none x ≡ got (just g) y → ⊥
    none_found d = let z : ◌≡◌ {A = ℕ} 0 1 = cc in omega arith

none-given : given [] ≡ bad []
unfolding given starts text behind word
none-given = refl

pub collected-enough : (n m : ℕ) (s : Text) → length s ≤ n → length s ≤ m → collected n s ≡ collected m s
unfolding collected
collected-enough zero zero s h l = refl
collected-enough zero (suc m) [] h l = rw none-given
collected-enough zero (suc m) (b ∷ s) h l = absurd (omega arith)
collected-enough (suc n) zero [] h l = rw none-given
collected-enough (suc n) zero (b ∷ s) h l = absurd (omega arith)
collected-enough (suc n) (suc m) s h l = go (given s) refl (collected-enough n m)
  where
    go : (x : Read (Maybe Given)) → given s ≡ x → ((r : Text) → length r ≤ n → length r ≤ m → collected n r ≡ collected m r) →
        collected_on x (λ r. collected n r) ≡ collected_on x (λ r. collected m r)
    go (got none r) e rest = refl
    go (got (just g) r) e rest = let k = shrinks s g r e in ap (λ y. g ∷ y) (rest r (omega arith) (omega arith))
    go (bad r) e rest = refl

-- If the code's result is an attribute or an end, the definition has read the same.
pub placed : {A : Type 0} (x : Read A) (g : A) (r : Text) → got g r ≡ placeless x → x ≡ got g r
placed (got y u) g r e = sym e
placed (bad u) g r e = absurd (bad≢got (sym e))

-- The attributes from an index on, with a count that is always enough.
module _ (s : Text) (i : ℕ) where
  collected-done : (n j : ℕ) → ReadsAttribute s i (given (drop i s)) (Done j) → collected n (drop i s) ≡ []
  unfolding collected
  collected-done zero j reads = refl
  collected-done (suc n) j reads = let q = placed (given (drop i s)) none (drop j s) reads.read_is in rw q

  collected-stop : (n : ℕ) → ReadsAttribute s i (given (drop i s)) Stop → collected n (drop i s) ≡ []
  unfolding collected
  collected-stop zero reads = refl
  collected-stop (suc n) reads = go (given (drop i s)) reads.read_is
    where
      go : (x : Read (Maybe Given)) → bad [] ≡ placeless x → collected_on x (λ z. collected n z) ≡ []
      go (got g z) q = absurd (bad≢got q)
      go (bad z) q = refl

  pub collected_none : (n : ℕ) (r : Attribute) → ReadsAttribute s i (given (drop i s)) r →
      ((from end value close : ℕ) → r ≡ Pair from end value close → ⊥) → collected n (drop i s) ≡ []
  collected_none n (Pair from end value close) reads h = absurd (h from end value close refl)
  collected_none n (Done j) reads h = collected-done n j reads
  collected_none n Stop reads h = collected-stop n reads

  module _ (from end value close : ℕ) (reads : ReadsAttribute s i (given (drop i s)) (Pair from end value close)) where
    given-is-pair : given (drop i s) ≡
        got (just (record { name = take (end - from) (drop from s); value = take (close - value) (drop value s) })) (drop (close + 1) s)
    given-is-pair = placed (given (drop i s)) _ _ reads.read_is

    pub collected-pair : (n : ℕ) → length s ≤ n →
        collected n (drop i s) ≡
        record { name = take (end - from) (drop from s); value = take (close - value) (drop value s) } ∷ collected n (drop (close + 1) s)
    unfolding collected
    collected-pair zero h = let w = reads.stands in absurd (omega (arith, w.inside))
    collected-pair (suc n) h =
        let w = reads.stands in
        rw (
          given-is-pair,
          collected-enough n (suc n) (drop (close + 1) s) (omega (arith, length-drop (close + 1) s, w.inside))
              (omega (arith, length-drop (close + 1) s, w.inside)),
        )

-- ---- The value of an attribute.
module _ (s : Text) (at i : ℕ) (w : Text) (left : value_in w (given_at s at) ≡ value_in w (collected (length s) (drop i s))) where
  pub value_none : collected (length s) (drop i s) ≡ [] → Valued s (value_in w (given_at s at)) (record { from = 0; to = 0 })
  unfolding value_in
  value_none e = record { value = sym (left ∙ ap (value_in w) e); order = omega arith; inside = omega arith }

  pub value_end : length s ≤ i → Valued s (value_in w (given_at s at)) (record { from = 0; to = 0 })
  unfolding collected
  value_end h = value_none (let z : drop i s ≡ [] = drop_of_length-le s h in rw z (go (length s)))
    where
      go : (n : ℕ) → collected n [] ≡ []
      go zero = refl
      go (suc n) = rw none-given

  module _ (from end value close : ℕ) (reads : ReadsAttribute s i (given (drop i s)) (Pair from end value close)) (b : Bool)
      (is : b ≡ same (take (end - from) (drop from s)) w) where
    pub value_here : b ≡ true → Valued s (value_in w (given_at s at)) (record { from = value; to = close })
    unfolding value_in
    value_here q =
        let z = reads.stands in
        record {
          value = sym (left ∙ rw (collected-pair s i from end value close reads (length s) (omega arith), ← is, q));
          order = z.order;
          inside = omega (arith, z.inside);
        }

    pub value_later : b ≡ false → value_in w (given_at s at) ≡ value_in w (collected (length s) (drop (close + 1) s))
    unfolding value_in
    value_later q = left ∙ rw (collected-pair s i from end value close reads (length s) (omega arith), ← is, q)

-- ---- The attributes that are collected without judging are those that paper_opl's `givens` reads.
by-given : (n : ℕ) (s : Text) → givens (suc n) s ≡ after (given s) (λ m u. if-found m (got [] u) (λ g. after (givens n u) (λ gs z. got (g ∷ gs) z)))
unfolding givens given
by-given n s =
    on_test (starts (text ">") (skip s) || starts (text "/") (skip s)) (λ q. rw q)
    (λ q. rw q (on (space s) (λ _ r e. rw e (on (plain r) (λ g u d. rw d) (λ u d. rw d))) (λ r e. rw e)))

-- If `givens` can read all attributes, they are the collected ones.
pub collected-is : (n : ℕ) (s : Text) (gs : List Given) (r : Text) → givens n s ≡ got gs r → collected n s ≡ gs
unfolding givens collected
collected-is zero s gs r e = absurd (bad≢got e)
collected-is (suc n) s gs r e = go (given s) refl (sym (by-given n s) ∙ e) (collected-is n)
  where
    more : (g : Given) (x : Read (List Given)) (y : List Given) → after x (λ hs z. got (g ∷ hs) z) ≡ got gs r →
        ((hs : List Given) (u : Text) → x ≡ got hs u → y ≡ hs) → g ∷ y ≡ gs
    more g (got hs u) y q f = ap (λ k. g ∷ k) (f hs u refl) ∙ got-value q
    more g (bad u) y q f = absurd (bad≢got q)

    go : (x : Read (Maybe Given)) → given s ≡ x → after (given s) (λ m u. if-found m (got [] u) (λ g. after (givens n u) (λ gs z. got (g ∷ gs) z))) ≡ got gs r →
        ((u : Text) (hs : List Given) (z : Text) → givens n u ≡ got hs z → collected n u ≡ hs) → collected_on x (λ u. collected n u) ≡ gs
    go (got none u) p q rest = got-value (rw p at q)
    go (got (just g) u) p q rest = more g (givens n u) (collected n u) (rw p at q) (rest u)
    go (bad u) p q rest = absurd (bad≢got (rw p at q))
