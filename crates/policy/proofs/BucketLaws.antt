-- Permissions and their buckets: a row counts if the bucket of its pair lists it. Rows that are
-- emptied because no bucket lists them, and the word by which a bucket lists one more permission.
use Prim.Native.Nat.{ℕ, ◌+◌, ◌*◌, ◌/◌, ◌%◌, ◌<◌}
use mathlib.Core.Bool.{Bool, true, false, cond, ◌&&◌, ◌||◌, false≢true}
use mathlib.Core.List.{List}
use mathlib.Core.Path.{◌≡◌, refl, sym, ap, ◌∙◌, fun_ext}
use native.Mathlib.Omega.{arith}
use borrow.Author.Tests.{eq-eqb, ne_eqb, eqb-true, eqb-false}
use lib.Dec.{eqb}
use lib.ListN.{get_or}
use Rattle.paper_lower.specs.Sets.{Set, has, plus}
use Rattle.paper_lower.specs.Lists.{Maybe, upd, holds, there}
use Rattle.paper_lower.specs.Lists.Maybe.{none, just}
use Rattle.paper_lower.specs.Tables.{Permission}
use Rattle.paper_lower.specs.Policy.{is_for}
use Rattle.paper_lower.proofs.ListLaws.{both, or-true, and-false, upd_same, upd_other}
use Rattle.sets.proofs.SetLaws.{has_new, has_other}
use Rattle.replies.proofs.CellLaws.{column-at}
use Rattle.policy.specs.Layout.{permission_of, table_in, permission_table, bucket_table, bucket_of, first_in, second_in, eights_in, first_anew, second_anew, eights_anew, among, lists, listed, listing_for, row_holds, in_bucket, unless_in, unless_stray}
use Rattle.policy.specs.Reading.{permissions_in, policy_of, value_of}
use Rattle.policy.proofs.WordLaws.{permission-holds, permission-is, permission-value}

-- The bucket of a permission's pair.
abbrev its : Permission → ℕ
its x = bucket_of x.operation x.object

-- Row k as it counts with these buckets.
abbrev counted : (ℕ → ℕ) → ℕ → Maybe Permission → Maybe Permission
counted buckets k r = cond (holds (λ x. lists buckets (its x) k) r) r none

-- ---- Whether a row counts, and for which pair.
module _ (rows : ℕ → Maybe Permission) (buckets : ℕ → ℕ) (b : ℕ) where
  listed-there : there (listed rows buckets b) ≡ holds (λ x. lists buckets (its x) b) (rows b)
  unfolding listed holds
  listed-there = go (rows b)
    where
      at : (x : Permission) (t : Bool) → there (cond t (just x) none) ≡ t
      at x true = refl
      at x false = refl

      go : (r : Maybe Permission) → there (counted buckets b r) ≡ holds (λ x. lists buckets (its x) b) r
      go none = refl
      go (just x) = at x (lists buckets (its x) b)

  -- A row that counts reads as it is stored.
  listed-row : there (listed rows buckets b) ≡ true → listed rows buckets b ≡ rows b
  unfolding listed holds
  listed-row = go (holds (λ x. lists buckets (its x) b) (rows b))
    where
      go : (t : Bool) → there (cond t (rows b) none) ≡ true → cond t (rows b) none ≡ rows b
      go true h = refl
      go false h = absurd (false≢true h)

  module _ (operation object : ℕ) where
    listed-for : holds (is_for operation object) (listed rows buckets b) ≡ lists buckets (bucket_of operation object) b && holds (is_for operation object) (rows b)
    unfolding listed holds is_for
    listed-for = go (rows b)
      where
        same : (x : Permission) → is_for operation object x ≡ true → lists buckets (its x) b ≡ lists buckets (bucket_of operation object) b
        same x e =
            let are = both (eqb x.operation operation) (eqb x.object object) e in
            λ z. lists buckets (bucket_of (eqb-true x.operation operation are.0 z) (eqb-true x.object object are.1 z)) b

        at : (x : Permission) (q : Bool) → is_for operation object x ≡ q → (t : Bool) → lists buckets (its x) b ≡ t →
            holds (is_for operation object) (cond t (just x) none) ≡ lists buckets (bucket_of operation object) b && q
        at x true e true f = e ∙ sym (ap (λ u. u && true) (sym (same x e) ∙ f))
        at x true e false f = sym (ap (λ u. u && true) (sym (same x e) ∙ f))
        at x false e true f = e ∙ sym (and-false (lists buckets (bucket_of operation object) b))
        at x false e false f = sym (and-false (lists buckets (bucket_of operation object) b))

        go : (r : Maybe Permission) →
            holds (is_for operation object) (counted buckets b r) ≡ lists buckets (bucket_of operation object) b && holds (is_for operation object) r
        go none = sym (and-false (lists buckets (bucket_of operation object) b))
        go (just x) = at x (is_for operation object x) refl (lists buckets (its x) b) refl

-- A permission is for the pair exactly if the word of the pair's bucket lists it and its row has the pair.
pub declared-for : (l : List ℕ) (operation object b : ℕ) →
    holds (is_for operation object) ((policy_of l).permissions.declared b) ≡ among (listing_for l operation object) b && row_holds l operation object b
unfolding policy_of permissions_in listing_for row_holds lists
declared-for l operation object b = listed-for (table_in permission_table l) (table_in bucket_table l) b operation object

-- ---- What the getters read.
pub lists-word : (buckets : ℕ → ℕ) (h b : ℕ) {bucket w : ℕ} {t : Bool} → bucket ≡ h → w ≡ buckets bucket → t ≡ among w b → t ≡ lists buckets h b
unfolding lists
lists-word buckets h b p q r = r ∙ (λ z. among (q z) b) ∙ (λ z. among (buckets (p z)) b)

pub among-splits : (w b : ℕ) → among w b ≡ (eqb (first_in w) b || eqb (second_in w) b) || has (eights_in w) (b / 8)
unfolding among
among-splits w b = refl

module _ (l : List ℕ) (b : ℕ) (room : b < 256) where
  pub declared-there : {t : Bool} →
      t ≡ lists (table_in bucket_table l) (bucket_of (get_or l (permission_table.first + b) 0 % 65536) (get_or l (permission_table.first + b) 0 / 65536 % 65536)) b
      → eqb (get_or l (permission_table.first + b) 0 / 4294967296) 1 && t ≡ there ((permissions_in l).declared b)
  unfolding permissions_in
  declared-there e =
      ap (◌&&◌ (eqb (get_or l (permission_table.first + b) 0 / 4294967296) 1)) e
      ∙ permission-holds (get_or l (permission_table.first + b) 0) (λ x. lists (table_in bucket_table l) (its x) b)
      ∙ sym (listed-there (table_in permission_table l) (table_in bucket_table l) b ∙
      ap (holds (λ x. lists (table_in bucket_table l) (its x) b)) (column-at permission_of none permission_table.first 256 l b room))

  -- The numbers of a row that counts are those of its word.
  pub declared-value : (f : Permission → ℕ) → there ((permissions_in l).declared b) ≡ true
      → f (record { operation = get_or l (permission_table.first + b) 0 % 65536; object = get_or l (permission_table.first + b) 0 / 65536 % 65536 }) ≡
      value_of f ((permissions_in l).declared b)
  unfolding permissions_in
  declared-value f h =
      let row : (permissions_in l).declared b ≡ permission_of (get_or l (permission_table.first + b) 0)
      = listed-row (table_in permission_table l) (table_in bucket_table l) b h ∙ column-at permission_of none permission_table.first 256 l b room in
      permission-value (get_or l (permission_table.first + b) 0) f (sym (ap there row) ∙ h) ∙ sym (ap (value_of f) row)

  pub row_word : (operation object : ℕ) → operation < 65536 → object < 65536 →
      eqb (get_or l (permission_table.first + b) 0) (4294967296 + operation + 65536 * object) ≡ row_holds l operation object b
  unfolding row_holds
  row_word operation object h k =
      permission-is (get_or l (permission_table.first + b) 0) operation object h k ∙
      sym (ap (holds (is_for operation object)) (column-at permission_of none permission_table.first 256 l b room))

-- ---- A row that is emptied.
module _ (h : ℕ) where
  pub emptied-out : (r : Maybe Permission) → in_bucket h (unless_in h r) ≡ false
  unfolding in_bucket unless_in holds
  emptied-out none = refl
  emptied-out (just x) = at (eqb (its x) h) refl
    where
      at : (t : Bool) → eqb (its x) h ≡ t → holds (λ y. eqb (its y) h) (cond t none (just x)) ≡ false
      at true e = refl
      at false e = e

  module _ (w : ℕ) where
    pub word_in : bucket_of (w % 65536) (w / 65536 % 65536) ≡ h → unless_in h (permission_of w) ≡ none
    unfolding permission_of in_bucket unless_in holds
    word_in e = at (eqb (w / 4294967296) 1)
      where
        at : (t : Bool) → unless_in h (cond t (just (record { operation = w % 65536; object = w / 65536 % 65536 })) none) ≡ none
        at true = rw (eq-eqb _ _ e)
        at false = refl

    pub word_out : (bucket_of (w % 65536) (w / 65536 % 65536) ≡ h → ⊥) → unless_in h (permission_of w) ≡ permission_of w
    unfolding permission_of in_bucket unless_in holds
    word_out n = at (eqb (w / 4294967296) 1)
      where
        at : (t : Bool) →
            unless_in h (cond t (just (record { operation = w % 65536; object = w / 65536 % 65536 })) none) ≡
            cond t (just (record { operation = w % 65536; object = w / 65536 % 65536 })) none
        at true = rw (ne_eqb _ _ n)
        at false = refl

  -- Emptying a row that the bucket does not list changes nothing, because the row did not count.
  pub listed-emptied : (rows : ℕ → Maybe Permission) (buckets : ℕ → ℕ) (b : ℕ) (found : Bool) → found ≡ among (buckets h) b →
      listed (upd rows b (unless_stray h found (rows b))) buckets ≡ listed rows buckets
  unfolding listed lists holds in_bucket unless_in
  listed-emptied rows buckets b found is = fun_ext (λ k. at k (eqb k b) refl)
    where
      row : (x : Permission) (t : Bool) → among (buckets h) b ≡ false → eqb (its x) h ≡ t →
          counted buckets b (cond t none (just x)) ≡ counted buckets b (just x)
      row x true out e = sym (ap (λ t. cond t (just x) none) ((λ z. among (buckets (eqb-true (its x) h e z)) b) ∙ out))
      row x false out e = refl

      here : (t : Bool) → t ≡ among (buckets h) b → (r : Maybe Permission) → counted buckets b (unless_stray h t r) ≡ counted buckets b r
      here true e r = refl
      here false e none = refl
      here false e (just x) = row x (eqb (its x) h) (sym e) refl

      at : (k : ℕ) (t : Bool) → eqb k b ≡ t → counted buckets k (upd rows b (unless_stray h found (rows b)) k) ≡ counted buckets k (rows k)
      at k true e = let one = eqb-true k b e in ap (counted buckets k) (upd_same rows b k (unless_stray h found (rows b)) one) ∙ rw one (here found is (rows b))
      at k false e = ap (counted buckets k) (upd_other rows b k (unless_stray h found (rows b)) (eqb-false k b e))

-- ---- A row that is stored and listed: the bucket of its pair gets the word w, which lists
-- it, and which lists of the other rows of that bucket those that were listed before.
module _ (rows : ℕ → Maybe Permission) (buckets : ℕ → ℕ) (x : Permission) (a w : ℕ) (own : among w a ≡ true)
    (others : (b : ℕ) → (b ≡ a → ⊥) → in_bucket (its x) (rows b) ≡ true → among w b ≡ among (buckets (its x)) b) where
  new-listed : lists (upd buckets (its x) w) (its x) a ≡ true
  unfolding lists
  new-listed = ap (λ v. among v a) (upd_same buckets (its x) (its x) w refl) ∙ own

  old-listed : (y : Permission) (k : ℕ) → (k ≡ a → ⊥) → rows k ≡ just y → lists (upd buckets (its x) w) (its y) k ≡ lists buckets (its y) k
  unfolding lists in_bucket holds
  old-listed y k other is = at (eqb (its y) (its x)) refl
    where
      at : (t : Bool) → eqb (its y) (its x) ≡ t → among (upd buckets (its x) w (its y)) k ≡ among (buckets (its y)) k
      at true e =
          ap (λ v. among v k) (upd_same buckets (its x) (its y) w (eqb-true (its y) (its x) e))
          ∙ others k other (ap (in_bucket (its x)) is ∙ e)
          ∙ (λ z. among (buckets (sym (eqb-true (its y) (its x) e) z)) k)
      at false e = ap (λ v. among v k) (upd_other buckets (its x) (its y) w (eqb-false (its y) (its x) e))

  pub listed-set : listed (upd rows a (just x)) (upd buckets (its x) w) ≡ upd (listed rows buckets) a (just x)
  unfolding listed holds
  listed-set = fun_ext (λ k. at k (eqb k a) refl)
    where
      kept : (k : ℕ) → (k ≡ a → ⊥) → (r : Maybe Permission) → rows k ≡ r → counted (upd buckets (its x) w) k r ≡ counted buckets k r
      kept k other none is = refl
      kept k other (just y) is = ap (λ t. cond t (just y) none) (old-listed y k other is)

      at : (k : ℕ) (t : Bool) → eqb k a ≡ t → listed (upd rows a (just x)) (upd buckets (its x) w) k ≡ upd (listed rows buckets) a (just x) k
      at k true e =
          let one = eqb-true k a e in
          ap (counted (upd buckets (its x) w) k) (upd_same rows a k (just x) one)
          ∙ ap (λ t. cond t (just x) none) (ap (lists (upd buckets (its x) w) (its x)) one ∙ new-listed)
          ∙ sym (upd_same (listed rows buckets) a k (just x) one)
      at k false e =
          let other = eqb-false k a e in
          ap (counted (upd buckets (its x) w) k) (upd_other rows a k (just x) other)
          ∙ kept k other (rows k) refl
          ∙ sym (upd_other (listed rows buckets) a k (just x) other)

-- ---- The word by which a bucket lists one more permission: with another first number, with another second number, or with one more group of eight.
any-first : (x y z : Bool) → x ≡ true → (x || y) || z ≡ true
any-first x y z e = λ i. (e i || y) || z

any-second : (x y z : Bool) → y ≡ true → (x || y) || z ≡ true
any-second true y z e = refl
any-second false y z e = λ i. e i || z

any_last : (x y z : Bool) → z ≡ true → (x || y) || z ≡ true
any_last x y z e = ap (λ t. (x || y) || t) e ∙ or-true (x || y)

or_same : (x : Bool) → x || x ≡ x
or_same true = refl
or_same false = refl

module _ (w a : ℕ) (room : a < 256) where
  first-first : first_in (first_anew w a) ≡ a
  first-first = omega arith

  first-second : second_in (first_anew w a) ≡ second_in w
  first-second = omega arith

  first-eights : eights_in (first_anew w a) ≡ eights_in w
  first-eights = omega arith

  second-first : first_in (second_anew w a) ≡ first_in w
  second-first = omega arith

  second-second : second_in (second_anew w a) ≡ a
  second-second = omega arith

  second-eights : eights_in (second_anew w a) ≡ eights_in w
  second-eights = omega arith

  eights-first : first_in (eights_anew w a) ≡ first_in w
  eights-first = omega arith

  eights-second : second_in (eights_anew w a) ≡ second_in w
  eights-second = omega arith

  eights-eights : eights_in (eights_anew w a) ≡ plus (eights_in w) (a / 8)
  eights-eights = omega arith

  pub first-own : among (first_anew w a) a ≡ true
  unfolding among
  first-own = any-first (eqb (first_in (first_anew w a)) a) (eqb (second_in (first_anew w a)) a) (has (eights_in (first_anew w a)) (a / 8)) (eq-eqb _ _ first-first)

  pub second-own : among (second_anew w a) a ≡ true
  unfolding among
  second-own =
      any-second (eqb (first_in (second_anew w a)) a) (eqb (second_in (second_anew w a)) a) (has (eights_in (second_anew w a)) (a / 8)) (eq-eqb _ _ second-second)

  pub eights-own : among (eights_anew w a) a ≡ true
  unfolding among
  eights-own =
      any_last (eqb (first_in (eights_anew w a)) a) (eqb (second_in (eights_anew w a)) a) (has (eights_in (eights_anew w a)) (a / 8))
      (ap (λ m. has m (a / 8)) eights-eights ∙ has_new (eights_in w) (a / 8))

  module _ (k : ℕ) (other : k ≡ a → ⊥) where
    pub first-others : first_in w ≡ second_in w → among (first_anew w a) k ≡ among w k
    unfolding among
    first-others e =
        let gone : eqb (first_in (first_anew w a)) k ≡ false = ne_eqb _ _ (λ z. other (sym z ∙ first-first)) in
        (λ z. (gone z || eqb (first-second z) k) || has (first-eights z) (k / 8))
        ∙ sym ((λ z. (eqb (e z) k || eqb (second_in w) k) || has (eights_in w) (k / 8)) ∙ ap (λ t. t || has (eights_in w) (k / 8)) (or_same (eqb (second_in w) k)))

    pub second-others : (k ≡ second_in w → ⊥) → among (second_anew w a) k ≡ among w k
    unfolding among
    second-others n =
        let new : eqb (second_in (second_anew w a)) k ≡ false = ne_eqb _ _ (λ z. other (sym z ∙ second-second)) in
        let old : eqb (second_in w) k ≡ false = ne_eqb _ _ (λ z. n (sym z)) in
        (λ z. (eqb (second-first z) k || new z) || has (second-eights z) (k / 8)) ∙ sym (λ z. (eqb (first_in w) k || old z) || has (eights_in w) (k / 8))

    -- A row of the same group is listed now; this changes nothing if it was listed before.
    pub eights-others : (k / 8 ≡ a / 8 → among w k ≡ true) → among (eights_anew w a) k ≡ among w k
    unfolding among
    eights-others same =
        (λ z. (eqb (eights-first z) k || eqb (eights-second z) k) || has (eights-eights z) (k / 8)) ∙ at (eqb (k / 8) (a / 8)) refl
      where
        at : (t : Bool) → eqb (k / 8) (a / 8) ≡ t → (eqb (first_in w) k || eqb (second_in w) k) || has (plus (eights_in w) (a / 8)) (k / 8) ≡
            (eqb (first_in w) k || eqb (second_in w) k) || has (eights_in w) (k / 8)
        at true e =
            let one = eqb-true (k / 8) (a / 8) e in
            any_last (eqb (first_in w) k) (eqb (second_in w) k) (has (plus (eights_in w) (a / 8)) (k / 8))
            (ap (has (plus (eights_in w) (a / 8))) one ∙ has_new (eights_in w) (a / 8)) ∙ sym (same one)
        at false e =
            ap (λ t. (eqb (first_in w) k || eqb (second_in w) k) || t) (has_other (eights_in w) (a / 8) (k / 8) (eqb-false (k / 8) (a / 8) e))

-- The first number is b, or the second number or an eight decides.
pub among_first : (w b : ℕ) {f : ℕ} → f ≡ first_in w → f ≡ b → true ≡ among w b
unfolding among
among_first w b p e = sym (rw (eq-eqb (first_in w) b (sym p ∙ e)))

pub among-rest : (w b : ℕ) {f s : ℕ} {m : Set} {t : Bool} → f ≡ first_in w → (f ≡ b → ⊥) → s ≡ second_in w → m ≡ eights_in w → t ≡ has m (b / 8) →
    eqb s b || t ≡ among w b
unfolding among
among-rest w b p n q r e = rw (ne_eqb (first_in w) b (λ h. n (p ∙ h))) (λ z. eqb (q z) b || (e ∙ ap (λ m. has m (b / 8)) r) z)

pub in-word : (w h : ℕ) {r : ℕ} → r ≡ bucket_of (w % 65536) (w / 65536 % 65536) → eqb (w / 4294967296) 1 && eqb r h ≡ in_bucket h (permission_of w)
unfolding in_bucket
in-word w h e = ap (λ k. eqb (w / 4294967296) 1 && eqb k h) e ∙ permission-holds w (λ x. eqb (its x) h)

-- ---- A row that is kept if it is listed, and otherwise emptied if it has a pair of the bucket.
module _ (h : ℕ) (r : Maybe Permission) where
  pub stray-kept : {t : Bool} → t ≡ true → r ≡ unless_stray h t r
  stray-kept e = sym (λ z. cond (e z) r (unless_in h r))

  pub stray-gone : {t : Bool} → t ≡ false → unless_in h r ≡ unless_stray h t r
  stray-gone e = sym (λ z. cond (e z) r (unless_in h r))

pub bucket-small : (operation object : ℕ) → bucket_of operation object < 1024
unfolding bucket_of
bucket-small operation object = omega arith
