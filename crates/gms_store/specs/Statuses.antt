-- How the last solve of a model ended: the numbers that `.modelstat` and `.solvestat` have, and the
-- texts of a listing (GAMS User's Guide, "GAMS Output", model status and solver status).
use Rattle.std.specs.Prelude.{ℕ, List, [], ◌∷◌, codes}
use Rattle.gms_store.specs.declared.status.SolveStatus.{SolveStatus}
use Rattle.gms_store.specs.declared.status.SolveStatus.TheVariants.{Unsolved, Optimal, Unbounded, Infeasible, Intermediate, Feasible, Unanswered}

-- the number of the model's status, `.modelstat`, after a solve that ended so, or before any solve
-- (`Unsolved`). The limit of pivots ends a solve before a feasible point (`Intermediate`) or at one
-- that need not be optimal (`Feasible`). `Unanswered` means that the solver gave up
abbrev pub model_number : SolveStatus → ℕ
model_number Unsolved = 0
model_number Optimal = 1
model_number Unbounded = 3
model_number Infeasible = 4
model_number Intermediate = 6
model_number Feasible = 7
model_number Unanswered = 13

-- the number of the solver's status, `.solvestat`, after a solve that ended so, or before any solve
-- (`Unsolved`). The limit of pivots ends a solve before a feasible point (`Intermediate`) or at one
-- that need not be optimal (`Feasible`). `Unanswered` means that the solver gave up
abbrev pub solver_number : SolveStatus → ℕ
solver_number Unsolved = 0
solver_number Optimal = 1
solver_number Unbounded = 1
solver_number Infeasible = 1
solver_number Intermediate = 2
solver_number Feasible = 2
solver_number Unanswered = 4

-- the text of the model's status in a listing, after a solve that ended so, or before any solve
-- (`Unsolved`)
abbrev pub model_text : SolveStatus → List ℕ
model_text Unsolved = codes "Not Solved"
model_text Optimal = codes "Optimal"
model_text Unbounded = codes "Unbounded"
model_text Infeasible = codes "Infeasible"
model_text Intermediate = codes "Intermediate Infeasible"
model_text Feasible = codes "Intermediate Nonoptimal"
model_text Unanswered = codes "Error No Solution"

-- the text of the solver's status in a listing, after a solve that ended so, or before any solve
-- (`Unsolved`)
abbrev pub solver_text : SolveStatus → List ℕ
solver_text Unsolved = codes "Not Run"
solver_text Optimal = codes "Normal Completion"
solver_text Unbounded = codes "Normal Completion"
solver_text Infeasible = codes "Normal Completion"
solver_text Intermediate = codes "Iteration Interrupt"
solver_text Feasible = codes "Iteration Interrupt"
solver_text Unanswered = codes "Terminated By Solver"

-- all ways in which a solve may end, and `Unsolved` before any solve. The limit of pivots ends a
-- solve before it has a feasible point (`Intermediate`) or at a feasible point that need not be
-- optimal (`Feasible`). `Unanswered` means that the solver gave up
abbrev pub all_statuses : List SolveStatus
all_statuses = Unsolved ∷ Optimal ∷ Unbounded ∷ Infeasible ∷ Intermediate ∷ Feasible ∷ Unanswered ∷ []
