-- What the statements of a run show (GAMS User's Guide, "GAMS Output", "The Display Statement",
-- "Model and Solve Statements").
use Rattle.std.specs.Prelude.{ℕ, Bool, List, Option}
use Rattle.gq_number.specs.Number.{Number}
use Rattle.gq_extended.specs.Extended.{Extended}
use Rattle.gms_ast.specs.declared.expression.Suffix.{Suffix}
use Rattle.gms_store.specs.declared.kind.SymbolKind.{SymbolKind}
use Rattle.gms_store.specs.declared.settings.Settings.{Settings}
use Rattle.gms_eval.specs.Faults.{Fault}
use Rattle.lp_core.specs.declared.program.Lp.{Lp}

-- What is shown for an item of a `display` or an `abort`: a text, or the values of a symbol.
pub record Shown : Type 0 where
  -- the text, empty for a symbol
  pub text : List ℕ
  -- the symbol, by the number of its name; None for a text
  pub name : Option ℕ
  -- what the symbol is, such as a variable or a parameter
  pub kind : SymbolKind
  -- the suffix whose values are shown, such as `.l` for levels; None for the plain values
  pub suffix : Suffix
  -- whether the symbol has indices
  pub indexed : Bool
  -- the tuples with their values; if the symbol has indices, entries with the value 0 are left out
  pub entries : List (List ℕ × Extended)
  -- the number of decimals with which numbers are shown
  pub decimals : ℕ

-- What a solve shows.
pub record Solved : Type 0 where
  -- the line of the statement
  pub line : ℕ
  -- the model, by the number of its name
  pub model : ℕ
  -- the equations of the model, by the numbers of their names, in order
  pub equations : List ℕ
  -- the linear program
  pub lp : Lp Number
  -- the position of the answer among those of the run, from 0
  pub answer : ℕ
  -- the name of the solver
  pub solver : List ℕ
  -- the settings of the solve, such as its limit of pivots
  pub settings : Settings
  -- the level of the objective after the solve
  pub objective_level : Number

-- What a statement shows, or why the run stops.
pub data Event : Type 0 where
  -- a display: its line number, and what is shown for its items
  displays : ℕ → List Shown → Event
  -- a solve, and what it shows
  solves : Solved → Event
  -- an abort: its line number, and what is shown for its items
  aborts : ℕ → List Shown → Event
  -- the run stops with this fault
  stops : Fault → Event
