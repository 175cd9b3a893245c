-- What a solve shows, piece by piece: the statuses, the counts, the levels if they are requested,
-- and the whole.
use Rattle.std.proofs.Common.{◌≡◌, ℕ, ◌+◌, ◌++◌, ◌∙◌, Bool, true, false, List, [], ◌∷◌, length, map, sum, sum_by, codes, decimal, refl, sym, ap, ap₂, if◌then◌else◌, Option, Some, None, option_map}
use Rattle.std.proofs.lemmas.List.{append_assoc, length-map}
use Rattle.std.proofs.lemmas.List.Sums.{sum_by-cons, sum-map}
use Rattle.gq_number.specs.Number.{Number}
use Rattle.lp_core.specs.declared.answer.Answer.{Answer}
use Rattle.lp_core.specs.declared.program.Row.{Row}
use Rattle.lp_core.specs.Numbers.{lp_numbers, row_numbers, column_numbers, end_numbers, entries_numbers, answer_numbers}
use Rattle.gms_store.specs.declared.status.SolveStatus.{SolveStatus}
use Rattle.gms_store.specs.Statuses.{model_number, model_text, solver_number, solver_text}
use Rattle.gms_event.specs.Endings.{solve_status}
use Rattle.lp_core.specs.declared.answer.End.{End}
use Rattle.lp_core.specs.declared.answer.End.TheVariants.{Optimal, Infeasible, Unbounded, Interrupted, Refused}
use Rattle.gms_list.specs.declared.solution.Solution.{Solution as OwnSolution}
use Rattle.gms_list.specs.declared.solves.Solved.{Solved as OwnSolved}
use Rattle.gms_list.specs.Amounts.{line_of}
use Rattle.gms_list.specs.SolveText.{Solution, amount, head_text, rows_listing, columns_listing, solver_status_text, model_status_text, summary_text, solution_text, solution_of, proof_text, solve_text}
use Rattle.gms_list.specs.InnerSolves.{solution_in, solved_in, status_lines}
use Rattle.gms_list.proofs.Shapes.{statuses, summary_lines}
use Rattle.gms_list.proofs.AppendedPieces.{Traversed, traversal}

-- the numbers of an end count as it does
status-numbers : {F : Type 0} (value : F → Number) (end : End F) → solve_status (end_numbers value end) ≡ solve_status end
status-numbers value (Optimal levels row_levels duals reduced) = refl
status-numbers value (Unbounded levels row_levels ray) = refl
status-numbers value (Infeasible duals crossed) = refl
status-numbers value (Interrupted phase levels row_levels) = refl
status-numbers value (Refused name) = refl

-- the line of the solver's status, of an end that counts so
pub solver_line_of : {F : Type 0} (value : F → Number) (end : End F) (made : List ℕ) (status : SolveStatus) → status ≡ solve_status end →
    made ≡ line_of (codes "SOLVER STATUS " ++ decimal (solver_number status) ++ codes " " ++ solver_text status) → made ≡ line_of (solver_status_text (end_numbers value end))
solver_line_of value end made status is e =
    e ∙ ap (λ (s : SolveStatus). line_of (codes "SOLVER STATUS " ++ decimal (solver_number s) ++ codes " " ++ solver_text s)) (is ∙ sym (status-numbers value end))

-- the line of the model's status, likewise
pub model_line_of : {F : Type 0} (value : F → Number) (end : End F) (made : List ℕ) (status : SolveStatus) → status ≡ solve_status end →
    made ≡ line_of (codes "MODEL STATUS " ++ decimal (model_number status) ++ codes " " ++ model_text status) → made ≡ line_of (model_status_text (end_numbers value end))
model_line_of value end made status is e =
    e ∙ ap (λ (s : SolveStatus). line_of (codes "MODEL STATUS " ++ decimal (model_number s) ++ codes " " ++ model_text s)) (is ∙ sym (status-numbers value end))

-- the statuses of an answer with `pivots` pivots
pub statuses_of : {F : Type 0} (value : F → Number) (answer : Answer F) (made solver model level : List ℕ) (x : Number) (pivots most : ℕ) →
    made ≡ codes " PIVOTS " ++ (decimal pivots ++ (codes " LIMIT " ++ (decimal most ++ (codes "\n" ++ (solver ++ (model ++ (codes "OBJECTIVE " ++ (level ++ codes "\n")))))))) →
    solver ≡ line_of (solver_status_text (end_numbers value answer.end)) → model ≡ line_of (model_status_text (end_numbers value answer.end)) → level ≡ amount x → pivots ≡ length answer.pivots →
    made ≡ status_lines most x (answer_numbers value answer)
statuses_of value answer made solver model level x pivots most e f g h n =
    statuses made solver model level _ _ _ pivots most e f g h
    ∙ ap (λ k. line_of (codes " PIVOTS " ++ decimal k ++ codes " LIMIT " ++ decimal most) ++ (line_of (solver_status_text (end_numbers value answer.end)) ++ (line_of (model_status_text (end_numbers value answer.end)) ++ line_of (codes "OBJECTIVE " ++ amount x)))) n

-- the entries of rows are as many as those of the rows with the numbers that they mean
entries_counted_by : {F : Type 0} (value : F → Number) (rows : List (Row F)) → sum_by (λ (row : Row F). length row.entries) rows ≡ sum_by (λ (row : Row Number). length row.entries) (map (row_numbers value) rows)
entries_counted_by value [] = refl
entries_counted_by {F} value (row ∷ rows) =
    let one : length row.entries ≡ length (entries_numbers value row.entries) = sym (length-map row.entries (λ (e : ℕ × F). (e.0, value e.1))) in
    sum_by-cons (λ (row : Row F). length row.entries) row rows ∙ ap₂ (λ a b. a + b) one (entries_counted_by value rows)
    ∙ sym (sum_by-cons (λ (row : Row Number). length row.entries) (row_numbers value row) (map (row_numbers value) rows))

pub entries_counted : {F : Type 0} (value : F → Number) (rows : List (Row F)) → sum (map (λ (row : Row F). length row.entries) rows) ≡ sum (map (λ (row : Row Number). length row.entries) (map (row_numbers value) rows))
entries_counted {F} value rows =
    sum-map (λ (row : Row F). length row.entries) rows ∙ entries_counted_by value rows ∙ sym (sum-map (λ (row : Row Number). length row.entries) (map (row_numbers value) rows))

-- the line of the counts up to the name of the solver, of the same counts
counts_same : (a b c d e f : ℕ) → a ≡ d → b ≡ e → c ≡ f →
    codes "ROWS " ++ (decimal a ++ (codes " COLUMNS " ++ (decimal b ++ (codes " NONZEROS " ++ (decimal c ++ codes "\nSOLVER "))))) ≡ codes "ROWS " ++ (decimal d ++ (codes " COLUMNS " ++ (decimal e ++ (codes " NONZEROS " ++ (decimal f ++ codes "\nSOLVER ")))))
counts_same a b c d e f g h i = rw (g, h, i) refl

-- the counts and the statuses
pub summary_of : {F : Type 0} (value : F → Number) (place : ℕ) (s : OwnSolved F) (answer : Answer F) (counts made : List ℕ) (rows columns nonzeros : ℕ) →
    counts ≡ codes "ROWS " ++ (decimal rows ++ (codes " COLUMNS " ++ (decimal columns ++ (codes " NONZEROS " ++ (decimal nonzeros ++ codes "\nSOLVER "))))) →
    rows ≡ length s.lp.now.rows → columns ≡ length s.lp.now.columns → nonzeros ≡ sum (map (λ (row : Row F). length row.entries) s.lp.now.rows) →
    made ≡ status_lines s.settings.iterlim (value s.objective_level) (answer_numbers value answer) →
    counts ++ (s.solver.now ++ made) ≡ summary_text (solved_in value place s) (answer_numbers value answer)
summary_of value place s answer counts made rows columns nonzeros e f g h m =
    summary_lines counts s.solver.now _ _ _ made (length (map (row_numbers value) s.lp.now.rows)) (length (map (column_numbers value) s.lp.now.columns)) (sum (map (λ (row : Row Number). length row.entries) (map (row_numbers value) s.lp.now.rows))) (length answer.pivots) s.settings.iterlim
    (e ∙ counts_same rows columns nonzeros _ _ _ (f ∙ sym (length-map s.lp.now.rows (row_numbers value))) (g ∙ sym (length-map s.lp.now.columns (column_numbers value))) (h ∙ entries_counted value s.lp.now.rows)) m

-- the levels are requested, and there are some
pub levels_shown : {F : Type 0} (value : F → Number) (text : Option Solution → List ℕ) (asked : Bool) (own : Option (OwnSolution F)) (found : Option Solution) (s : OwnSolution F) →
    asked ≡ true → option_map (solution_in value) own ≡ found → own ≡ Some s → text (Some (solution_in value s)) ≡ (if asked then text found else [])
levels_shown value text asked own found s a f e = ap (λ o. text (option_map (solution_in value) o)) (sym e) ∙ ap text f ∙ ap (λ b. if b then text found else []) (sym a)

-- the levels are requested, and there are none
pub levels_missing : {F : Type 0} (value : F → Number) (text : Option Solution → List ℕ) (asked : Bool) (own : Option (OwnSolution F)) (found : Option Solution) →
    text None ≡ [] → asked ≡ true → option_map (solution_in value) own ≡ found → own ≡ None → [] ≡ (if asked then text found else [])
levels_missing value text asked own found n a f e = sym n ∙ ap (λ o. text (option_map (solution_in value) o)) (sym e) ∙ ap text f ∙ ap (λ b. if b then text found else []) (sym a)

-- the levels are not requested
pub levels_left : (text : List ℕ) (asked : Bool) → asked ≡ false → [] ≡ (if asked then text else [])
levels_left text asked a = ap (λ b. if b then text else []) (sym a)

-- six pieces
six : (a b c d e f : List ℕ) → a ++ (b ++ (c ++ (d ++ (e ++ f)))) ≡ a ++ b ++ c ++ d ++ e ++ f
six a b c d e f = simp append_assoc

-- a solve, before its first piece
pub solve_begun : {F : Type 0} (names labels : List (List ℕ)) (limit : ℕ) (value : F → Number) (place : ℕ) (s : OwnSolved F) (answer : Answer F) (old : List ℕ) →
    Traversed old (solve_text names labels limit (solved_in value place s) (answer_numbers value answer)) old
    (head_text names labels limit (solved_in value place s)
    ++ (rows_listing names labels limit (lp_numbers value s.lp.now) s.settings.limrow s.equations.now
    ++ (columns_listing names labels limit (lp_numbers value s.lp.now) s.settings.limcol
    ++ (summary_text (solved_in value place s) (answer_numbers value answer)
    ++ ((if s.settings.solprint then solution_text names labels limit (lp_numbers value s.lp.now) s.equations.now (solution_of s.lp.now.objective (end_numbers value answer.end)) else [])
    ++ proof_text names labels limit (lp_numbers value s.lp.now) (length answer.pivots) (end_numbers value answer.end))))))
solve_begun names labels limit value place s answer old =
    traversal _
    (six (head_text names labels limit (solved_in value place s)) (rows_listing names labels limit (lp_numbers value s.lp.now) s.settings.limrow s.equations.now) (columns_listing names labels limit (lp_numbers value s.lp.now) s.settings.limcol)
    (summary_text (solved_in value place s) (answer_numbers value answer))
    (if s.settings.solprint then solution_text names labels limit (lp_numbers value s.lp.now) s.equations.now (solution_of s.lp.now.objective (end_numbers value answer.end)) else [])
    (proof_text names labels limit (lp_numbers value s.lp.now) (length answer.pivots) (end_numbers value answer.end)))
