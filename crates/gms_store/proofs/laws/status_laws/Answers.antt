-- Its number and its text each determine how a solve may end.
use Rattle.std.proofs.Common.{◌≡◌, ℕ, ◌≤◌, List, [], ◌==◌, if◌then◌else◌, get_or, length, refl, sym, ap, ◌∙◌, arith}
use Rattle.gms_store.specs.declared.status.SolveStatus.{SolveStatus}
use Rattle.gms_store.specs.declared.status.SolveStatus.TheVariants.{Unsolved, Optimal, Unbounded, Infeasible, Intermediate, Feasible, Unanswered}
use Rattle.gms_store.specs.Statuses.{model_number, model_text, solver_number}
use Rattle.gms_store.proofs.laws.status_laws.Goals as goal

-- the status with a number
with_number : ℕ → SolveStatus
with_number n =
    if n == 0 then Unsolved else (if n == 1 then Optimal else (if n == 3 then Unbounded else (if n == 4 then Infeasible else (if n == 6 then Intermediate else (if n == 7 then Feasible else Unanswered)))))

number_back : (status : SolveStatus) → with_number (model_number status) ≡ status
unfolding with_number
number_back Unsolved = refl
number_back Optimal = refl
number_back Unbounded = refl
number_back Infeasible = refl
number_back Intermediate = refl
number_back Feasible = refl
number_back Unanswered = refl

-- the status whose text has this length, this first byte and this byte after the first word
abbrev of_text : ℕ → ℕ → ℕ → SolveStatus
of_text long first next =
    if long == 7 then Optimal else (if long == 9 then Unbounded else (if long == 17 then Unanswered else (if long == 10 then (if first == 78 then Unsolved else Infeasible) else (if next == 73 then Intermediate else Feasible))))

abbrev with_text : List ℕ → SolveStatus
with_text text = of_text (length text) (get_or text 0 0) (get_or text 13 0)

text_back : (status : SolveStatus) → with_text (model_text status) ≡ status
text_back Unsolved = refl
text_back Optimal = refl
text_back Unbounded = refl
text_back Infeasible = refl
text_back Intermediate = refl
text_back Feasible = refl
text_back Unanswered = refl

small : (status : SolveStatus) → model_number status ≤ 13
small Unsolved = omega arith
small Optimal = omega arith
small Unbounded = omega arith
small Infeasible = omega arith
small Intermediate = omega arith
small Feasible = omega arith
small Unanswered = omega arith

small_solver : (status : SolveStatus) → solver_number status ≤ 13
small_solver Unsolved = omega arith
small_solver Optimal = omega arith
small_solver Unbounded = omega arith
small_solver Infeasible = omega arith
small_solver Intermediate = omega arith
small_solver Feasible = omega arith
small_solver Unanswered = omega arith

pub returns : goal.returns
returns c = record {
  one_number = λ one other e. sym (number_back one) ∙ ap with_number e ∙ number_back other;
  one_text = λ one other e. sym (text_back one) ∙ ap with_text e ∙ text_back other;
  small = small;
  small_solver = small_solver;
}
