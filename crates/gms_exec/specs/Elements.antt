-- The elements of a linear program in the state of a run. With them the laws state what a solve
-- writes there (GAMS User's Guide, "Model and Solve Statements"; "Variables"; "Equations").
use Rattle.std.specs.Prelude.{◌≡◌, ℕ, ◌<◌, Bool, true, false, not, ◌==◌, List, ◌++◌, length, slice_get, Option, Some, None, if◌then◌else◌}
use Rattle.gq_number.specs.Number.{Number}
use Rattle.gms_tuple.specs.TupleOrder.{same_tuple}
use Rattle.gms_store.specs.State.{State, base_of, symbol_of, has_attributes}
use Rattle.lp_core.specs.declared.program.Lp.{Lp}
use Rattle.lp_core.specs.declared.answer.End.{End}
use Rattle.lp_core.specs.declared.answer.End.TheVariants.{Infeasible, Unbounded, Interrupted, Refused}
use Rattle.lp_form.specs.declared.key.Key.{Key}
use Rattle.gms_exec.specs.Solved.{keys_of_columns, row_keys}

-- A key is that of an element of the state: of a declared variable or equation, with as many labels
-- as that has positions.
pub record IsElement (state : State) (key : Key) : Type 0 where
  pub declared : base_of state key.symbol < length state.symbols
  pub kind : has_attributes (symbol_of state key.symbol).content ≡ true
  pub labels : length key.tuple ≡ length (symbol_of state key.symbol).domain

-- The element of this key is not the one of the name `name` at the tuple `t`.
abbrev pub IsNot : State → Key → ℕ → List ℕ → Type 0
IsNot state key name t = base_of state name ≡ base_of state key.symbol → same_tuple key.tuple t ≡ false

-- The keys are those of elements of variables and equations of the state (`IsElement`), and all
-- different.
pub record AreElements (state : State) (keys : List Key) : Type 0 where
  pub each : (i : ℕ) (key : Key) → slice_get keys i ≡ Some key → IsElement state key
  pub differ : (i j : ℕ) (key other : Key) → slice_get keys i ≡ Some key → slice_get keys j ≡ Some other → (i ≡ j → ⊥) → IsNot state key other.symbol other.tuple

-- the elements of a linear program: those of its columns, followed by those of its rows
abbrev pub program_elements : Lp Number → List Key
program_elements lp = keys_of_columns lp ++ row_keys lp

-- the levels of columns and of rows of an end that is Unbounded, or Interrupted in phase 2: those
-- of its feasible point; None for any other end, also for an optimal one
abbrev pub feasible_levels : End Number → Option (List Number × List Number)
feasible_levels (Unbounded levels row_levels ray) = Some (levels, row_levels)
feasible_levels (Interrupted phase levels row_levels) = if phase == 2 then Some (levels, row_levels) else None
feasible_levels end = None

-- whether an end has no feasible point: none exists, the pivots ended before phase 2, or a number
-- exceeded the limit on the size of numbers
abbrev pub has_no_point : End Number → Bool
has_no_point (Infeasible duals crossed) = true
has_no_point (Interrupted phase levels row_levels) = not (phase == 2)
has_no_point (Refused name) = true
has_no_point end = false
