-- The errors of a name and its indices, in any context.
use Rattle.std.specs.Prelude.{ℕ, Bool, not, ◌||◌, List, [], ◌∷◌, length}
use Rattle.std.specs.List.{list_any}
use Rattle.gms_ast.specs.Trees.{Indices}
use Rattle.gms_set.specs.declared.fault.SetError.{SetError}
use Rattle.gms_set.specs.declared.fault.SetError.TheVariants.{BadRange, Repeated, Outside, Full}
use Rattle.gms_scope.specs.Names.{has_no_declaration, positions}
use Rattle.gms_check.specs.declared.error.ErrorKind.{ErrorKind}
use Rattle.gms_check.specs.declared.error.ErrorKind.TheVariants.{UnknownName, WrongKind, WrongArity, DomainOfSet, DomainOfLabel, NotOrdered, DataFault}
use Rattle.gms_check.specs.Uses.{index_sets}
use Rattle.gms_check.specs.Past.{Known}
use Rattle.gms_check.specs.Kinds.{has_wrong_set}
use Rattle.gms_check.specs.Domains.{has_unfit_label, has_unfit_set, index_count, is_wrong_count}
use Rattle.gms_check.specs.Controls.{is_ordered, lagged_sets}

-- the compile error for an error of data
abbrev pub kind_of_fault : SetError → ErrorKind
kind_of_fault Outside = DomainOfLabel
kind_of_fault BadRange = DataFault
kind_of_fault Repeated = DataFault
kind_of_fault Full = DataFault

module _ {F : Type 0} where
  -- the possible errors of a name with its indices, each with whether it occurs; `occurs` tells
  -- whether the name's kind fits the context
  abbrev pub index_faults : Known F → ℕ → Bool → Indices F → List (Bool × ErrorKind)
  index_faults known name occurs indices =
      (has_no_declaration known.state name || list_any (has_no_declaration known.state) (index_sets indices), UnknownName) ∷ (not occurs || has_wrong_set known (index_sets indices), WrongKind) ∷ (is_wrong_count (length (positions known.state name)) (index_count indices), WrongArity) ∷ (has_unfit_set known name (positions known.state name) indices, DomainOfSet) ∷ (has_unfit_label known name (positions known.state name) indices, DomainOfLabel) ∷ (list_any (λ index. not (is_ordered known index)) (lagged_sets indices), NotOrdered) ∷ []
