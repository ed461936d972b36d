-- A buffer of zeros reads as the empty policy.
use Prim.Native.Nat.{ℕ}
use mathlib.Core.List.{List, []}
use mathlib.Core.Bool.{Bool, true, false, cond}
use mathlib.Core.Path.{◌≡◌, refl, ap, ◌∙◌, fun_ext}
use native.Mathlib.Omega.{arith}
use lib.ListN.{length, get_or, replicate}
use Rattle.paper_lower.specs.Sets.{empty, has}
use Rattle.paper_lower.specs.Lists.{holds}
use Rattle.paper_lower.specs.Lists.Maybe.{none}
use Rattle.paper_lower.specs.Tables.{no_policy}
use Rattle.replies.specs.Cells.{rows}
use Rattle.replies.proofs.CellLaws.{column-zeros, zeros-at}
use Rattle.replies.proofs.RowLaws.{rows_end}
use Rattle.policy.specs.Layout.{policy_words, permission_of, template_of, most_of, Table, table_in, roles_word, limits_kept, blocks_kept, pairs_kept, user_table, assigned_table, permission_table, holder_table, carrier_table, template_table, open_to_table, most_table, banned_table, bucket_table, junior_table, below_table, seniors_word, seniors_in, below_in, listed, limit_count, limits_in, block_count, blocks_in, pair_count, pairs_in, walls_kept, wall_count, walls_in}
use Rattle.policy.specs.Reading.{people_in, seniority_in, permissions_in, tasks_in, rules_in, policy_of, Cleared}

table-zeros : {A : Type 0} (t : Table A) (n : ℕ) → t.read 0 ≡ t.past → table_in t (replicate n 0) ≡ (λ i. t.past)
table-zeros t n e = rw (← e) (column-zeros t.read t.first t.height n)

rows_none : {A : Type 0} (f : ℕ → A) (n : ℕ) → n ≡ 0 → rows f n ≡ []
rows_none f n e = rw e (rows_end f 0 0 (omega arith))

module _ (n : ℕ) where
  limits-zeros : (which : ℕ) → limits_in which (replicate n 0) ≡ []
  unfolding limit_count
  limits-zeros which = rows_none _ _ (omega (arith, zeros-at n (limits_kept which)))

  blocks-zeros : blocks_in (replicate n 0) ≡ []
  unfolding block_count
  blocks-zeros = rows_none _ _ (omega (arith, zeros-at n blocks_kept))

  pairs-zeros : (which : ℕ) → pairs_in which (replicate n 0) ≡ []
  unfolding pair_count
  pairs-zeros which = rows_none _ _ (omega (arith, zeros-at n (pairs_kept which)))

  walls-zeros : walls_in (replicate n 0) ≡ []
  unfolding wall_count
  walls-zeros = rows_none _ _ (omega (arith, zeros-at n walls_kept))

  listed-zeros : (permissions_in (replicate n 0)).declared ≡ (λ b. none)
  unfolding permissions_in permission_of
  listed-zeros = ap (λ rows. listed rows (table_in bucket_table (replicate n 0))) (table-zeros permission_table n refl) ∙ unfold listed holds in refl

  below-zeros : below_in (replicate n 0) ≡ (λ r. empty)
  unfolding below_in seniors_in
  below-zeros = (λ x r. cond (has (zeros-at n seniors_word x) r) (table-zeros below_table n refl x r) empty) ∙ fun_ext (λ r. same (has 0 r))
    where
      same : (t : Bool) → cond t empty empty ≡ empty
      same true = refl
      same false = refl

  policy-zeros : policy_of (replicate n 0) ≡ no_policy
  unfolding policy_of people_in seniority_in permissions_in tasks_in rules_in permission_of template_of most_of no_policy
  policy-zeros = λ x.
      record {
        people = record { users = table-zeros user_table n refl x; roles = zeros-at n roles_word x; assigned = table-zeros assigned_table n refl x };
        seniority = record { juniors = table-zeros junior_table n refl x; below = below-zeros x };
        permissions =
            record {
              declared = listed-zeros x;
              holders = table-zeros holder_table n refl x;
              carriers = table-zeros carrier_table n refl x;
            };
        tasks =
            record {
              template = table-zeros template_table n refl x;
              open_to = table-zeros open_to_table n refl x;
              banned = table-zeros banned_table n refl x;
              most = table-zeros most_table n refl x;
            };
        rules =
            record {
              statics = limits-zeros 0 x;
              dynamics = limits-zeros 1 x;
              task_sets = limits-zeros 2 x;
              blocks = blocks-zeros x;
              bindings = pairs-zeros 0 x;
              befores = pairs-zeros 1 x;
            };
        walls = walls-zeros x;
      }

-- The result of `clear`, which stores zeros in all words.
pub cleared : (p : List ℕ) (n : ℕ) → length p ≡ policy_words → p ≡ replicate n 0 → Cleared p
cleared p n room e = record { tables = ap policy_of e ∙ policy-zeros n; words = room; zeros = λ i. ap (λ l. get_or l i 0) e ∙ zeros-at n i }
