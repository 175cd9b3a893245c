-- The state after a solve was answered (GAMS User's Guide, "Model and Solve Statements", model and
-- solver status, levels and marginals). Which answers do not change levels and marginals is this
-- project's own rule.
use Rattle.std.specs.Prelude.{ℕ, pos, ◌==◌, if◌then◌else◌, List, [], ◌∷◌, ◌++◌, map}
use Rattle.std.specs.List.{fold}
use Rattle.gq_number.specs.Number.{Number, whole}
use Rattle.gms_store.specs.State.{State, attributes_of, after_attributes, after_statuses, with_level, with_marginal}
use Rattle.gms_store.specs.Statuses.{model_number, solver_number}
use Rattle.gms_event.specs.Endings.{solve_status}
use Rattle.lp_core.specs.declared.program.Column.{Column}
use Rattle.lp_core.specs.declared.program.Row.{Row}
use Rattle.lp_core.specs.declared.program.Lp.{Lp}
use Rattle.lp_core.specs.declared.answer.End.{End}
use Rattle.lp_core.specs.declared.answer.End.TheVariants.{Optimal, Unbounded, Interrupted}
use Rattle.lp_form.specs.declared.key.Key.{Key}

-- the number of the model status and that of the solver status after a solve with this end
abbrev pub statuses_of : {F : Type 0} → End F → ℕ × ℕ
statuses_of end = (model_number (solve_status end), solver_number (solve_status end))

-- the first number of a list; 0 if it is empty
abbrev pub first_or_zero : List Number → Number
first_or_zero [] = whole (pos 0)
first_or_zero (x ∷ xs) = x

-- the list without its first number
abbrev pub after_first : List Number → List Number
after_first [] = []
after_first (x ∷ xs) = xs

-- An element of a variable or an equation with its new level and marginal.
pub record Point : Type 0 where
  pub key : Key
  pub level : Number
  pub marginal : Number

-- the elements with their levels and marginals, in order; a missing level or marginal is 0
abbrev pub points : List Key → List Number → List Number → List Point
points [] levels marginals = []
points (key ∷ keys) levels marginals =
    record { key = key; level = first_or_zero levels; marginal = first_or_zero marginals } ∷ points keys (after_first levels) (after_first marginals)

-- the elements of the columns of a linear program, in order
abbrev pub keys_of_columns : Lp Number → List Key
keys_of_columns lp = map (λ (column : Column Number). column.key) lp.columns

-- the key of each row of a linear program, in order: an element of an equation
abbrev pub row_keys : Lp Number → List Key
row_keys lp = map (λ (row : Row Number). row.key) lp.rows

-- the elements with the levels and marginals that an end writes: all columns and rows with both if
-- it is optimal, all with their levels and marginals 0 if it has a feasible point that is not
-- optimal, and otherwise none
abbrev pub points_of : Lp Number → End Number → List Point
points_of lp (Optimal levels row_levels duals reduced) = points (keys_of_columns lp) levels reduced ++ points (row_keys lp) row_levels duals
points_of lp (Unbounded levels row_levels ray) = points (keys_of_columns lp) levels [] ++ points (row_keys lp) row_levels []
points_of lp (Interrupted phase levels row_levels) =
    if phase == 2 then points (keys_of_columns lp) levels [] ++ points (row_keys lp) row_levels [] else []
points_of lp end = []

-- the state in which the element has this level and marginal
abbrev pub with_point : State → Point → State
with_point state point =
    after_attributes state point.key.symbol point.key.tuple (with_marginal (with_level (attributes_of state point.key.symbol point.key.tuple) point.level) point.marginal)

-- the state after a solve of the model whose linear program had this end: the model's two statuses
-- are written, and, if the end has a feasible point, the levels and marginals of columns and rows
-- (`points_of`); all else stays
abbrev pub after_end : State → ℕ → Lp Number → End Number → State
after_end state model lp end =
    fold with_point (after_statuses state model (statuses_of end).0 (statuses_of end).1) (points_of lp end)
