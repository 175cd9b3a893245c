-- What a solve shows: rows and columns, counts and statuses, levels and marginals, and the proof,
-- which is the answer's certificate (GAMS User's Guide, "GAMS Output"). The form of the lines, and
-- the proof, are this project's own.
use Rattle.std.specs.Prelude.{ℕ, ◌+◌, ◌-◌, ◌==◌, nat_lt, pos, negsuc, ℤ, Bool, true, false, not, max, List, [], ◌∷◌, ◌++◌, length, map, flat_map, filter, take, slice_get, slice_index_or, sum, Option, Some, None, option_to_list, codes, decimal, if◌then◌else◌}
use Rattle.std.specs.List.{fold, enumerate_from}
use Rattle.gq_number.specs.Number.{Number, whole, neg_ℚ}
use Rattle.gms_store.specs.State.{same_number}
use Rattle.gms_event.specs.Events.{Solved}
use Rattle.gms_fmt.specs.Columns.{right_in, left_in}
use Rattle.gms_fmt.specs.ElementTexts.{label_in_table, element_text}
use Rattle.lp_check.specs.BoundSteps.{steps_of_bound, objective_bound}
use Rattle.lp_check.specs.Partials.{first_unfit}
use Rattle.gms_store.specs.Statuses.{model_number, model_text, solver_number, solver_text}
use Rattle.gms_event.specs.Endings.{solve_status}
use Rattle.lp_core.specs.declared.answer.Answer.{Answer}
use Rattle.lp_core.specs.declared.answer.End.{End}
use Rattle.lp_core.specs.declared.answer.End.TheVariants.{Optimal, Infeasible, Unbounded, Interrupted, Refused}
use Rattle.lp_core.specs.declared.answer.StepName.{StepName}
use Rattle.lp_core.specs.declared.answer.StepName.TheVariants as step
use Rattle.lp_core.specs.declared.program.Column.{Column}
use Rattle.lp_core.specs.declared.program.Row.{Row}
use Rattle.lp_core.specs.declared.program.Lp.{Lp}
use Rattle.lp_core.specs.declared.program.Sense.{Sense}
use Rattle.lp_core.specs.declared.program.Sense.TheVariants as sense
use Rattle.lp_core.specs.DualBound.{row_lower, row_upper, objective_costs, no_costs}
use Rattle.lp_form.specs.declared.key.Key.{Key}
use Rattle.gq_text.specs.ExactText.{exact_text}
use Rattle.gms_list.specs.Amounts.{line_of, rounded_text}

-- ---- numbers

-- the text of a number with three decimals
abbrev pub amount : Number → List ℕ
amount x = rounded_text 3 x

-- the text of a bound: with three decimals, or for an infinite bound the word `none`, which is -INF
-- or +INF
abbrev pub rounded_bound_text : List ℕ → Option Number → List ℕ
rounded_bound_text none None = none
rounded_bound_text none (Some x) = amount x

-- whether a number is 0
abbrev pub is_zero_amount : Number → Bool
is_zero_amount x = same_number x (whole (pos 0))

-- whether an integer is below 0
abbrev pub is_negative : ℤ → Bool
is_negative (pos n) = false
is_negative (negsuc n) = true

-- the absolute value of a number
abbrev pub number_magnitude : Number → Number
number_magnitude x = if is_negative x.numerator then neg_ℚ x else x

-- the text of a number in a column of a table: a blank, and the number with three decimals,
-- right-aligned in 12 characters; a number that is exactly 0 is a dot
abbrev pub cell : Number → List ℕ
cell x = codes " " ++ right_in 12 (if is_zero_amount x then codes "." else amount x)

-- the text of a bound in a column of a table: a blank, and the bound with three decimals,
-- right-aligned in 12 characters; 0 is a dot, and an infinite bound is the word `none`, which is
-- -INF or +INF
abbrev pub bound_cell : List ℕ → Option Number → List ℕ
bound_cell none None = codes " " ++ right_in 12 none
bound_cell none (Some x) = cell x

-- the text of a row's sense, the relation between the row's sum and its right side
abbrev pub sense_text : Sense → List ℕ
sense_text sense.E = codes " =E= "
sense_text sense.L = codes " =L= "
sense_text sense.G = codes " =G= "
sense_text sense.N = codes " =N= "

-- ---- statuses

-- the text of the model's status after this end: its number, as in `.modelstat`, and its name
abbrev pub model_status_text : End Number → List ℕ
model_status_text end = codes "MODEL STATUS " ++ decimal (model_number (solve_status end)) ++ codes " " ++ model_text (solve_status end)

-- the text of the solver's status after this end: its number, as in `.solvestat`, and its name
abbrev pub solver_status_text : End Number → List ℕ
solver_status_text end = codes "SOLVER STATUS " ++ decimal (solver_number (solve_status end)) ++ codes " " ++ solver_text (solve_status end)

-- ---- levels and marginals

-- The data of a listed solution: the levels of columns and of rows, the marginals of rows (`duals`)
-- and of columns (`reduced`), and for each column, by its index, the text at the end of its line
-- (`mark`). A list of marginals is empty if there are none; they are then listed as 0.
pub record Solution : Type 0 where
  pub levels : List Number
  pub row_levels : List Number
  pub duals : List Number
  pub reduced : List Number
  pub mark : ℕ → List ℕ

-- the number at an index of the list; 0 past its end
abbrev pub number_at_place : List Number → ℕ → Number
number_at_place numbers place = slice_index_or numbers place (whole (pos 0))

-- the text at the end of the line of column j of an unbounded solution: UNBND if the ray changes
-- the column's value, otherwise empty
abbrev pub ray_mark : List Number → ℕ → List ℕ
ray_mark ray j = if is_zero_amount (number_at_place ray j) then [] else codes " UNBND"

-- the text at the end of the line of column j of an interrupted solution: NOPT if j is the column
-- of the objective, otherwise empty
abbrev pub objective_mark : ℕ → ℕ → List ℕ
objective_mark objective j = if objective == j then codes " NOPT" else []

-- the solution that is listed for an end: an optimum, an unbounded end, or an end that was
-- interrupted in phase 2; None for any other end. `objective` is the index of the objective's
-- column
abbrev pub solution_of : ℕ → End Number → Option Solution
solution_of objective (Optimal levels row_levels duals reduced) =
    Some (record { levels = levels; row_levels = row_levels; duals = duals; reduced = reduced; mark = λ j. [] })
solution_of objective (Unbounded levels row_levels ray) =
    Some (record { levels = levels; row_levels = row_levels; duals = []; reduced = []; mark = ray_mark ray })
solution_of objective (Interrupted phase levels row_levels) =
    if phase == 2 then Some (record { levels = levels; row_levels = row_levels; duals = []; reduced = []; mark = objective_mark objective }) else None
solution_of objective end = None

-- ---- steps

-- The text of the step at which a solver refused, with the numbers that locate it. In `Standard`
-- the row is of the standard form, the column of the program, both from 1. Pivots and other rows,
-- of the dictionary, count from 1. In `Exchange` the row after the last is the objective, column 0
-- the constant, and column v + 1 variable v. In `Recover` `what` is a list of the answer (0: levels
-- of columns, 1: levels of rows, 2: duals, 3: reduced costs, 4: the ray), `index` a position in it,
-- from 0, and `entry`, from 0, an entry of the row if `what` is 1, else 0. In `Check` `part` is the
-- step's number, from 0; elsewhere it is 0 for a product or a quotient, 1 for a sum or a
-- difference.
abbrev pub step_text : StepName → List ℕ
step_text (step.Standard row column part) =
    codes "Standard row " ++ decimal row ++ codes " column " ++ decimal column ++ codes " part " ++ decimal part
step_text (step.Ratio pivot row) = codes "Ratio " ++ decimal pivot ++ codes " row " ++ decimal row
step_text (step.Exchange pivot row column part) =
    codes "Exchange " ++ decimal pivot ++ codes " row " ++ decimal row ++ codes " column " ++ decimal column ++ codes " part " ++ decimal part
step_text (step.Recover what index entry part) =
    codes "Recover " ++ decimal what ++ codes " index " ++ decimal index ++ codes " entry " ++ decimal entry ++ codes " part " ++ decimal part
step_text (step.Check part) = codes "Check part " ++ decimal part

-- ---- the bound that duals give

-- for each step of computing the bound that `duals` prove, whether it fits: no numerator or
-- denominator that it computes exceeds `limit`. If the Bool is true, the bound is that of the
-- objective; if it is false, it is the lower bound of a sum whose costs are all 0
abbrev pub bound_steps_fit : ℕ → Lp Number → List Number → Bool → List Bool
bound_steps_fit limit lp duals true = steps_of_bound (λ x. x) limit lp.maximize (objective_costs lp) lp duals
bound_steps_fit limit lp duals false = steps_of_bound (λ x. x) limit false no_costs lp duals

-- the line of a bound; empty without a bound. If a step of computing the bound has a numerator or
-- denominator above the limit, the first argument is the number of this step, from 0, and the line
-- names it instead
abbrev pub bound_line : Option ℕ → Option Number → List ℕ
bound_line (Some part) bound = line_of (codes "  bound not shown, Check part " ++ decimal part)
bound_line None (Some bound) = line_of (codes "  bound " ++ exact_text bound)
bound_line None None = []

-- the line of the bound that `duals` prove: if `with_objective`, that of the objective, else the
-- lower bound of a sum whose costs are all 0; empty if they prove none. But if a step of computing
-- the bound has a numerator or denominator above `limit`, the line names the first such step
abbrev pub bound_lines : ℕ → Lp Number → List Number → Bool → List ℕ
bound_lines limit lp duals with_objective =
    bound_line (first_unfit (bound_steps_fit limit lp duals with_objective)) (objective_bound (λ x. x) with_objective lp duals)

-- the exact text, after a blank, of a bound of a column whose lower bound is above its upper bound
abbrev pub crossed_text : Number → List ℕ
crossed_text bound = codes " " ++ exact_text bound

-- the numbers of names without repetition, in the order in which they first occur
abbrev pub distinct_names : List ℕ → List ℕ
distinct_names [] = []
distinct_names (n ∷ ns) = n ∷ filter (λ m. not (m == n)) (distinct_names ns)

-- the line that tells how many of `count` rows or columns follow the first `most`; empty if none
-- do. `what` is the word for them, rows or columns
abbrev pub more_text : ℕ → ℕ → List ℕ → List ℕ
more_text most count what =
    if nat_lt most count then line_of (codes " (" ++ decimal (count - most) ++ codes " more " ++ what ++ codes ")") else []

module _ (names labels : List (List ℕ)) where
  -- the line of a row or a column of a solution: its element, left-aligned in `width` characters,
  -- the lower bound, the level, the upper bound and the marginal, and the text `mark`
  abbrev pub point_text : ℕ → Key → Option Number → Number → Option Number → Number → List ℕ → List ℕ
  point_text width key lower level upper marginal mark =
      line_of (codes "  " ++ left_in width (element_text names labels key.symbol key.tuple) ++ bound_cell (codes "-INF") lower ++ cell level ++ bound_cell (codes "+INF") upper ++ cell marginal ++ mark)

  -- the line of a column whose lower bound is above its upper bound: its element and these bounds
  abbrev pub crossed_line : Column Number → List ℕ
  crossed_line column =
      line_of (codes "  crossed " ++ element_text names labels column.key.symbol column.key.tuple ++ flat_map crossed_text (option_to_list column.lower ++ option_to_list column.upper))

module _ (names labels : List (List ℕ)) (limit : ℕ) (lp : Lp Number) where
  -- the text of the element of a row or a column: its name and its labels
  abbrev pub key_text : Key → List ℕ
  key_text key = element_text names labels key.symbol key.tuple

  -- the text of the element of column j; empty if there is no such column
  abbrev pub column_text : ℕ → List ℕ
  column_text j = flat_map (λ (column : Column Number). key_text column.key) (option_to_list (slice_get lp.columns j))

  -- the rows with their indices, from 0
  abbrev pub placed_rows : List (ℕ × Row Number)
  placed_rows = enumerate_from 0 lp.rows

  -- the columns with their indices, from 0
  abbrev pub placed_columns : List (ℕ × Column Number)
  placed_columns = enumerate_from 0 lp.columns

  -- the rows of an equation, each with its index among all rows of the linear program
  abbrev pub rows_of_equation : ℕ → List (ℕ × Row Number)
  rows_of_equation equation = filter (λ (p : ℕ × Row Number). p.1.key.symbol == equation) placed_rows

  -- the columns of a variable, each with its index among all columns of the linear program
  abbrev pub columns_of_variable : ℕ → List (ℕ × Column Number)
  columns_of_variable variable = filter (λ (p : ℕ × Column Number). p.1.key.symbol == variable) placed_columns

  -- the variables that have columns, in the order of their first columns
  abbrev pub variables : List ℕ
  variables = distinct_names (map (λ (column : Column Number). column.key.symbol) lp.columns)

  -- ---- rows and columns

  -- the text of a term of a row, an entry with the column's index and the coefficient: the sign and
  -- the magnitude of the coefficient, and the element of the column
  abbrev pub term_text : ℕ × Number → List ℕ
  term_text entry =
      (if is_negative entry.1.numerator then codes " - " else codes " + ") ++ amount (number_magnitude entry.1) ++ codes "*" ++ column_text entry.0

  -- the text of the terms of a row; 0 if it has none
  abbrev pub terms_text : List (ℕ × Number) → List ℕ
  terms_text [] = codes " 0"
  terms_text (entry ∷ entries) = flat_map term_text (entry ∷ entries)

  -- the line of a row: its element, its terms, its sense and its right side
  abbrev pub row_text : ℕ × Row Number → List ℕ
  row_text p =
      line_of (codes " " ++ key_text p.1.key ++ codes ".." ++ terms_text p.1.entries ++ sense_text p.1.sense ++ amount p.1.right)

  -- the lines of an equation: its name, its first `most` rows, and how many more it has; if it has
  -- no rows, a line that says so follows its name
  abbrev pub equation_text : ℕ → ℕ → List ℕ
  equation_text most equation =
      line_of (codes "EQUATION " ++ label_in_table names equation) ++ flat_map row_text (take most (rows_of_equation equation))
      ++ (if length (rows_of_equation equation) == 0 then line_of (codes " (no rows)") else more_text most (length (rows_of_equation equation)) (codes "rows"))

  -- the line of the coefficient of column j in the row p; none if the row has no term of the column
  abbrev pub column_entry_line : ℕ → ℕ × Row Number → List ℕ
  column_entry_line j p =
      flat_map (λ (e : ℕ × Number). line_of (codes "  " ++ amount e.1 ++ codes " " ++ key_text p.1.key)) (filter (λ (e : ℕ × Number). e.0 == j) p.1.entries)

  -- the lines of a column: its element with its bounds, and its coefficient in each row that has a
  -- term of the column
  abbrev pub column_lines : ℕ × Column Number → List ℕ
  column_lines p =
      line_of (codes " " ++ key_text p.1.key ++ codes " lower " ++ rounded_bound_text (codes "-INF") p.1.lower ++ codes " upper " ++ rounded_bound_text (codes "+INF") p.1.upper)
      ++ flat_map (column_entry_line p.0) placed_rows

  -- the lines of a variable: its name, its first `most` columns, and how many more there are
  abbrev pub variable_text : ℕ → ℕ → List ℕ
  variable_text most variable =
      line_of (codes "VARIABLE " ++ label_in_table names variable) ++ flat_map column_lines (take most (columns_of_variable variable))
      ++ more_text most (length (columns_of_variable variable)) (codes "columns")

  -- the lines of the model's equations, each with its first `most` rows; none if `most` is 0
  abbrev pub rows_listing : ℕ → List ℕ → List ℕ
  rows_listing most equations = if most == 0 then [] else flat_map (equation_text most) equations

  -- the lines of the variables that have columns, each with its first `most` columns; none if
  -- `most` is 0
  abbrev pub columns_listing : ℕ → List ℕ
  columns_listing most = if most == 0 then [] else flat_map (variable_text most) variables

  -- ---- levels and marginals

  -- the length of the longest text of these elements
  abbrev pub longest_element : List Key → ℕ
  longest_element keys = fold (λ width key. max (length (key_text key)) width) 0 keys

  -- the line of a row in a solution, given the row with its index; the text of the row's element is
  -- padded to `width` characters
  abbrev pub row_point : Solution → ℕ → ℕ × Row Number → List ℕ
  row_point solution width p =
      point_text names labels width p.1.key (row_lower p.1.sense p.1.right) (number_at_place solution.row_levels p.0) (row_upper p.1.sense p.1.right) (number_at_place solution.duals p.0) []

  -- the line of a column in a solution, given the column with its index; the text of the column's
  -- element is padded to `width` characters
  abbrev pub column_point : Solution → ℕ → ℕ × Column Number → List ℕ
  column_point solution width p =
      point_text names labels width p.1.key p.1.lower (number_at_place solution.levels p.0) p.1.upper (number_at_place solution.reduced p.0) (solution.mark p.0)

  -- the lines of an equation in a solution: a heading, and a line for each of its rows; empty if it
  -- has no rows
  abbrev pub equation_points : Solution → ℕ → List ℕ
  equation_points solution equation =
      if length (rows_of_equation equation) == 0 then [] else
      line_of (codes "EQU " ++ label_in_table names equation ++ codes " LOWER LEVEL UPPER MARGINAL")
      ++ flat_map (row_point solution (longest_element (map (λ (p : ℕ × Row Number). p.1.key) (rows_of_equation equation)))) (rows_of_equation equation)

  -- the lines of a variable in a solution: a heading, and a line for each of its columns
  abbrev pub variable_points : Solution → ℕ → List ℕ
  variable_points solution variable =
      line_of (codes "VAR " ++ label_in_table names variable ++ codes " LOWER LEVEL UPPER MARGINAL")
      ++ flat_map (column_point solution (longest_element (map (λ (p : ℕ × Column Number). p.1.key) (columns_of_variable variable)))) (columns_of_variable variable)

  -- the lines of a solution: those of the rows of the model's equations, and those of all columns;
  -- none if there is no solution
  abbrev pub solution_text : List ℕ → Option Solution → List ℕ
  solution_text equations None = []
  solution_text equations (Some solution) = flat_map (equation_points solution) equations ++ flat_map (variable_points solution) variables

  -- ---- the proof

  -- the line of one number of a certificate: `word`, which names the part of the certificate, the
  -- element of the number's row or column, and the number x; empty if x is 0
  abbrev pub number_line : List ℕ → Key → Number → List ℕ
  number_line word key x =
      if is_zero_amount x then [] else line_of (codes "  " ++ word ++ codes " " ++ key_text key ++ codes " = " ++ exact_text x)

  -- the lines of the columns' numbers in a certificate, except those that are 0; each line begins
  -- with this word
  abbrev pub column_number_lines : List ℕ → List Number → List ℕ
  column_number_lines word numbers = flat_map (λ (p : ℕ × Column Number). number_line word p.1.key (number_at_place numbers p.0)) placed_columns

  -- the lines of the rows' numbers in a certificate, except those that are 0; each line begins with
  -- this word
  abbrev pub row_number_lines : List ℕ → List Number → List ℕ
  row_number_lines word numbers = flat_map (λ (p : ℕ × Row Number). number_line word p.1.key (number_at_place numbers p.0)) placed_rows

  -- the lines that prove that no point is feasible: for Some j the line of column j, whose bounds
  -- cross; for None a line for each row whose factor in `duals` is not 0, and the lower bound that
  -- the factors prove of a sum whose costs are all 0
  abbrev pub infeasible_text : List Number → Option ℕ → List ℕ
  infeasible_text duals (Some j) = flat_map (crossed_line names labels) (option_to_list (slice_get lp.columns j))
  infeasible_text duals None = row_number_lines (codes "row") duals ++ bound_lines limit lp duals false

  -- the lines of an end: for Optimal, Infeasible and Unbounded the certificate; for Interrupted the
  -- phase, the number of pivots and the levels; for Refused the step that was refused. `pivots` is
  -- how many pivots the solver made
  abbrev pub proof_text : ℕ → End Number → List ℕ
  proof_text pivots (Optimal levels row_levels duals reduced) =
      line_of (codes "PROOF Optimal") ++ column_number_lines (codes "level") levels ++ row_number_lines (codes "marginal") duals
      ++ column_number_lines (codes "marginal") reduced ++ bound_lines limit lp duals true
  proof_text pivots (Infeasible duals crossed) = line_of (codes "PROOF Infeasible") ++ infeasible_text duals crossed
  proof_text pivots (Unbounded levels row_levels ray) =
      line_of (codes "PROOF Unbounded") ++ column_number_lines (codes "point") levels ++ column_number_lines (codes "ray") ray
  proof_text pivots (Interrupted phase levels row_levels) =
      line_of (codes "PROOF Interrupted") ++ line_of (codes "  phase " ++ decimal phase ++ codes " pivots " ++ decimal pivots)
      ++ column_number_lines (codes "point") levels
  proof_text pivots (Refused name) = line_of (codes "PROOF Refused") ++ line_of (codes "  step " ++ step_text name)

-- ---- the whole solve

-- how many coefficients the rows have together
abbrev pub nonzeros : Lp Number → ℕ
nonzeros lp = sum (map (λ (row : Row Number). length row.entries) lp.rows)

-- the text of the direction of the objective
abbrev pub direction_text : Bool → List ℕ
direction_text true = codes " maximizing "
direction_text false = codes " minimizing "

-- the lines between the columns and the solution of a solve: how many rows, columns and nonzeros
-- the program has, the solver with its pivots and their limit, the two statuses, and the level of
-- the objective
abbrev pub summary_text : Solved → Answer Number → List ℕ
summary_text s answer =
    line_of (codes "ROWS " ++ decimal (length s.lp.rows) ++ codes " COLUMNS " ++ decimal (length s.lp.columns) ++ codes " NONZEROS " ++ decimal (nonzeros s.lp))
    ++ line_of (codes "SOLVER " ++ s.solver ++ codes " PIVOTS " ++ decimal (length answer.pivots) ++ codes " LIMIT " ++ decimal s.settings.iterlim)
    ++ line_of (solver_status_text answer.end) ++ line_of (model_status_text answer.end) ++ line_of (codes "OBJECTIVE " ++ amount s.objective_level)

module _ (names labels : List (List ℕ)) (limit : ℕ) where
  -- the first line of a solve: the number of the statement's line, the model, the direction and the
  -- objective
  abbrev pub head_text : Solved → List ℕ
  head_text s =
      line_of (codes "---- " ++ decimal s.line ++ codes " SOLVE " ++ label_in_table names s.model ++ direction_text s.lp.maximize ++ column_text names labels limit s.lp s.lp.objective)

  -- the text of a solve with this answer: its first line; the first `limrow` rows of each equation
  -- and the first `limcol` columns of each variable; the summary; the solution, if `solprint` is
  -- set; and the proof
  abbrev pub solve_text : Solved → Answer Number → List ℕ
  solve_text s answer =
      head_text s
      ++ rows_listing names labels limit s.lp s.settings.limrow s.equations ++ columns_listing names labels limit s.lp s.settings.limcol
      ++ summary_text s answer
      ++ (if s.settings.solprint then solution_text names labels limit s.lp s.equations (solution_of s.lp.objective answer.end) else [])
      ++ proof_text names labels limit s.lp (length answer.pivots) answer.end
