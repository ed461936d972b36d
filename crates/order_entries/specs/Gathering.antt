-- What a claim of task t by user u in instance i needs to know of the entries, collected in one pass.
use Rattle.std.specs.Prelude.{ℕ, ◌+◌, Bool, not, cond, ◌&&◌, List, eqb}
use Rattle.paper_lower.specs.Sets.{plus}
use Rattle.paper_lower.specs.Lists.{some, many, keep}
use Rattle.paper_upper.specs.Orders.{Entry, is_held, of_task, tasks_by, tasks_done, tasks_others}
use Rattle.paper_upper.specs.Questions.{Figures as PaperFigures}
use Rattle.sets.specs.declared.Set.{Set}
use Rattle.order_links.specs.Chains.{user_of, task_of, done_bit}
use Rattle.order_entries.specs.declared.Gathered.{Gathered}
use Rattle.order_entries.specs.declared.Figures.{Figures}

-- A Boolean as a number.
abbrev pub digit : Bool → ℕ
digit b = cond b 1 0

-- The code's set with these bits.
abbrev pub set_of : ℕ → Set
set_of tasks = record { bits = tasks }

-- What such a claim needs to know of the entries.
unfoldable pub gathered_of : ℕ → ℕ → ℕ → List Entry → Gathered
gathered_of i u t es =
    record {
      mine = set_of (tasks_by i u es);
      done = set_of (tasks_done i es);
      others = set_of (tasks_others i u es);
      times = many (keep (of_task i t) es);
      held = digit (some (λ e. of_task i t e && is_held e.standing) es);
    }

-- The same with one more entry of the instance, given by its user, its task and whether it is done. The set of done tasks is already complete.
unfoldable pub taken_within : ℕ → ℕ → ℕ → ℕ → Bool → Gathered → Gathered
taken_within u t user task finished g =
    record {
      mine = set_of (cond (eqb user u) (plus g.mine.bits task) g.mine.bits);
      done = g.done;
      others = set_of (cond (not (eqb user u)) (plus g.others.bits task) g.others.bits);
      times = cond (eqb task t) (g.times + 1) g.times;
      held = cond (eqb task t && not finished) 1 g.held;
    }

-- The step of the loop for the word w.
abbrev pub take_in : ℕ → ℕ → ℕ → ℕ → Gathered → Gathered
take_in u t h w g = taken_within u t (user_of w) (task_of w) (done_bit w) g

-- The figures of an instance, in the form of the code.
abbrev pub kept : PaperFigures → Figures
kept f = record { entries = f.entries; done = set_of f.done }
