-- From the change of one instance to the tables: what the functions of order_links
-- leave of one instance (`Leaves`) gives the tables of all orders (`Acts`, `Enters`).
use Prim.Native.Nat.{ℕ, ◌<◌}
use mathlib.Core.Bool.{Bool, true, false, not, cond}
use mathlib.Core.List.{List, [], ◌∷◌}
use mathlib.Core.Path.{◌≡◌, refl, sym, ap, ◌∙◌, fun_ext}
use borrow.Author.Tests.{eqb-true, eqb-false, ltb-true, ltb-false}
use lib.Dec.{eqb, ltb}
use Rattle.paper_lower.specs.Sets.{has}
use Rattle.paper_lower.specs.Lists.{Maybe, there, upd, add, keep, each, Every}
use Rattle.paper_lower.specs.Lists.Maybe.{none, just}
use Rattle.paper_lower.proofs.ListLaws.{every_map}
use Rattle.paper_upper.specs.Orders.{Standing, Entry, entry, are_in_order, of_order, held_of}
use Rattle.paper_upper.specs.Orders.Standing.{held}
use Rattle.paper_upper.specs.Requests.{turned}
use Rattle.order_links.specs.Chains.{open_of, template_at, entries_in, joined}
use Rattle.order_links.specs.Stacks.{Woven, rev_onto}
use Rattle.order_links.specs.Acts.{Leaves}
use Rattle.order_links.proofs.ReadLaws.{there-open}
use Rattle.order_links.proofs.SameLaws.{keep-joined, each-joined}
use Rattle.order_links.proofs.EntryLaws.{keep-turned, each-turned, turned-add, held-other, turned-other}
use Rattle.order_links.proofs.ActLaws.{whole}
use Rattle.order_entries.specs.Reading.{orders_of, with_instance}
use Rattle.order_entries.specs.Acts.{after_enter, after_release, after_finish, after_end, Acts, Enters}
use Rattle.order_entries.proofs.OwnLaws.{entries-own, entries-other, joined_same}
use Rattle.order_entries.proofs.FigureLaws.{order-own, order-none}

-- ---- The open instances and their templates.
pub opened-there : (l : List ℕ) (i : ℕ) (b : Bool) → i < 64 → there ((orders_of l).opened i) ≡ b → has (open_of l) i ≡ b
unfolding orders_of
opened-there l i b h e = sym (there-open l i h) ∙ e

opened-new : (i : ℕ) (template : Maybe ℕ) (es : List Entry) (l l' : List ℕ) → Leaves i template es l l' →
    (orders_of l').opened ≡ upd (orders_of l).opened i template
unfolding orders_of upd
opened-new i template es l l' v = fun_ext (λ j. go j (eqb j i) refl)
  where
    go : (j : ℕ) (b : Bool) → eqb j i ≡ b → template_at l' j ≡ cond (eqb j i) template (template_at l j)
    go j true e = let same = eqb-true j i e in rw e (rw same v.opened)
    go j false e = rw e (v.others j (eqb-false j i e))

opened-kept : (i : ℕ) (es : List Entry) (l l' : List ℕ) → Leaves i (template_at l i) es l l' → (orders_of l').opened ≡ (orders_of l).opened
unfolding orders_of
opened-kept i es l l' v = fun_ext (λ j. go j (eqb j i) refl)
  where
    go : (j : ℕ) (b : Bool) → eqb j i ≡ b → template_at l' j ≡ template_at l j
    go j true e = let same = eqb-true j i e in rw same v.opened
    go j false e = v.others j (eqb-false j i e)

whole-tables : (l : List ℕ) (opened : ℕ → Maybe ℕ) (es : List Entry) → (orders_of l).opened ≡ opened → (orders_of l).entries ≡ es →
    orders_of l ≡ record { opened = opened; entries = es }
unfolding orders_of
whole-tables l opened es a b = λ x. record { opened = a x; entries = b x }

-- ---- The entries. f changes the entries of instance i and leaves those of other instances unchanged.
module _ (i : ℕ) (hi : i < 64) (template : Maybe ℕ) (l l' : List ℕ) (s : Woven l) (f : List Entry → List Entry)
    (apart : (g : ℕ → List Entry) (n : ℕ) → f (joined g n) ≡ joined (λ j. f (g j)) n) (turns : (es : List Entry) → rev_onto (f es) [] ≡ f (rev_onto es []))
    (alone : (es : List Entry) → Every (λ e. are_in_order i e ≡ false) es → f es ≡ es) (v : Leaves i template (f (entries_in l i)) l l') where
  each-instance : (j : ℕ) → j < 64 → entries_in l' j ≡ f (entries_in l j)
  each-instance j h = go (eqb j i) refl
    where
      go : (b : Bool) → eqb j i ≡ b → entries_in l' j ≡ f (entries_in l j)
      go true e = let same = eqb-true j i e in rw same v.entries
      go false e = let other = eqb-false j i e in v.orders j h other ∙ sym (alone (entries_in l j) (entries-other l s i j h other))

  all-entries : (orders_of l').entries ≡ f (orders_of l).entries
  unfolding orders_of
  all-entries =
      ap (λ (es : List Entry). rev_onto es []) (joined_same (entries_in l') (λ j. f (entries_in l j)) 64 each-instance ∙ sym (apart (entries_in l) 64))
      ∙ turns (joined (entries_in l) 64)

  pub acts : (opened : ℕ → Maybe ℕ) → (orders_of l').opened ≡ opened → Acts (record { opened = opened; entries = f (orders_of l).entries }) l'
  acts opened e = record { room = v.room; sound = v.sound; tables = whole-tables l' opened (f (orders_of l).entries) e all-entries }

keep_all : (q : Entry → Bool) (es : List Entry) → Every (λ e. q e ≡ true) es → keep q es ≡ es
unfolding keep
keep_all q [] h = refl
keep_all q (e ∷ es) h = rw h.0 (ap (◌∷◌ e) (keep_all q es h.1))

keep-none : (q : Entry → Bool) (es : List Entry) → Every (λ e. q e ≡ false) es → keep q es ≡ []
unfolding keep
keep-none q [] h = refl
keep-none q (e ∷ es) h = rw h.0 (keep-none q es h.1)

each_all : (g : Entry → Entry) (es : List Entry) → Every (λ e. g e ≡ e) es → each g es ≡ es
unfolding each
each_all g [] h = refl
each_all g (e ∷ es) h = λ x. h.0 x ∷ each_all g es h.1 x

-- ---- The changes: opening an instance, a release, done, the end of an instance.
module _ (i : ℕ) (hi : i < 64) (l l' : List ℕ) (s : Woven l) where
  pub opens : (j : ℕ) → entries_in l i ≡ [] → Leaves i (just j) [] l l' → Acts (with_instance (orders_of l) i (just j)) l'
  opens j bare v =
      let v' : Leaves i (just j) (entries_in l i) l l' = rw bare v in
      acts i hi (just j) l l' s (λ es. es) (λ g n. refl) (λ es. refl) (λ es h. refl) v' (upd (orders_of l).opened i (just j)) (opened-new i (just j) [] l l' v)

  pub releases : (t a : ℕ) → Leaves i (template_at l i) (keep (λ e. not (held_of i t a e)) (entries_in l i)) l l' → Acts (after_release (orders_of l) i t a) l'
  releases t a v =
      acts i hi (template_at l i) l l' s (keep (λ e. not (held_of i t a e))) (keep-joined (λ e. not (held_of i t a e))) (keep-turned (λ e. not (held_of i t a e)))
      (λ es h. keep_all (λ e. not (held_of i t a e)) es (every_map es (λ e q. ap not (held-other i t a e q)) h)) v (orders_of l).opened (opened-kept i _ l l' v)

  pub finishes : (t a : ℕ) → Leaves i (template_at l i) (each (turned i t a) (entries_in l i)) l l' → Acts (after_finish (orders_of l) i t a) l'
  finishes t a v =
      acts i hi (template_at l i) l l' s (each (turned i t a)) (each-joined (turned i t a)) (each-turned (turned i t a))
      (λ es h. each_all (turned i t a) es (every_map es (λ e q. turned-other i t a e q) h)) v (orders_of l).opened (opened-kept i _ l l' v)

  pub ends : Leaves i none [] l l' → Acts (after_end (orders_of l) i) l'
  ends v =
      let gone = keep-none (λ e. not (are_in_order i e)) (entries_in l i) (every_map (entries_in l i) (λ e q. ap not q) (entries-own l s i hi)) in
      let v' : Leaves i none (keep (λ e. not (are_in_order i e)) (entries_in l i)) l l' = rw gone v in
      acts i hi none l l' s (keep (λ e. not (are_in_order i e))) (keep-joined (λ e. not (are_in_order i e))) (keep-turned (λ e. not (are_in_order i e)))
      (λ es h. keep_all (λ e. not (are_in_order i e)) es (every_map es (λ e q. ap not q) h)) v' (upd (orders_of l).opened i none) (opened-new i none [] l l' v)

  -- A new entry, the newest of its instance.
  module _ (u t : ℕ) (x : Standing) (v : Leaves i (template_at l i) (add (entries_in l i) (entry i u t x)) l l') (j : ℕ) where
    newer : Woven l'
    newer = (whole l' v.sound).woven

    newest : of_order j (orders_of l').entries ≡ of_order j (entry i u t x ∷ (orders_of l).entries)
    unfolding keep are_in_order
    newest = go (eqb i j) refl (ltb j 64) refl
      where
        go : (b : Bool) → eqb i j ≡ b → (c : Bool) → ltb j 64 ≡ c
            → of_order j (orders_of l').entries ≡ cond (eqb i j) (entry i u t x ∷ of_order j (orders_of l).entries) (of_order j (orders_of l).entries)
        go true q c less =
            let is = eqb-true i j q in
            rw (q, ← is)
            (order-own l' newer i hi ∙ ap (λ (es : List Entry). rev_onto es []) v.entries ∙ turned-add (entries_in l i) (entry i u t x) ∙
            ap (◌∷◌ (entry i u t x)) (sym (order-own l s i hi)))
        go false q true less =
            let n = eqb-false i j q in
            let h = ltb-true j 64 less in
            rw q (order-own l' newer j h ∙ ap (λ (es : List Entry). rev_onto es []) (v.orders j h (λ d. n (sym d))) ∙ sym (order-own l s j h))
        go false q false less = let h = ltb-false j 64 less in rw q (order-none l' newer j h ∙ sym (order-none l s j h))

  pub enters : (u t a : ℕ) → Leaves i (template_at l i) (add (entries_in l i) (entry i u t (held a))) l l' → Enters (after_enter (orders_of l) i u t a) l'
  enters u t a v =
      record {
        room = v.room;
        sound = v.sound;
        opened = opened-kept i _ l l' v;
        entries = newest u t (held a) v;
      }
