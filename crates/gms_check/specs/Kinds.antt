-- Symbols, values and functions in contexts that do not admit their kind (GAMS User's Guide, "Data
-- Manipulation"; "Variables", attributes; "Equations"; "Model and Solve Statements"; "Display").
-- Which functions there are is this project's own choice.
use Rattle.std.specs.Prelude.{ℕ, Bool, true, false, not, ◌&&◌, ◌||◌, ◌==◌, ◌+◌, nat_lt, List, [], ◌∷◌}
use Rattle.std.specs.List.{list_any}
use Rattle.gms_ast.specs.declared.expression.Function.{Function}
use Rattle.gms_ast.specs.declared.expression.Function.TheVariants as function
use Rattle.gms_ast.specs.declared.expression.Suffix.TheVariants as suffix
use Rattle.gms_ast.specs.Trees.{Tree, number, reference, Parts, no_part, part, Indices, no_index}
use Rattle.gms_store.specs.declared.kind.SymbolKind.{SymbolKind}
use Rattle.gms_store.specs.declared.kind.SymbolKind.TheVariants as kind
use Rattle.gms_check.specs.Contexts.{as_condition, may_occur, may_be_assigned}
use Rattle.gms_check.specs.Uses.{Use, literal, truth, reading, ordinal, cardinal, calling, folding, controlling, stepping, multiplies, divides, raises, logic, assigning, defining, shifting, not_continuous, bounding, first_alias, second_alias, listing, solving, optimizing, showing, index_sets}
use Rattle.gms_check.specs.Past.{Known}
use Rattle.gms_scope.specs.Names.{is_equation, is_index_set, is_model, is_set_name, has_no_declaration, declared_kind, positions}
use Rattle.gms_check.specs.OptionWords.{is_whole}

-- whether a kind is that of a variable
abbrev pub is_variable_kind : SymbolKind → Bool
is_variable_kind kind.Variable = true
is_variable_kind kind = false

-- whether a reference has no indices
abbrev pub has_no_indices : {F : Type 0} → Indices F → Bool
has_no_indices no_index = true
has_no_indices indices = false

-- whether a domain has no positions
abbrev pub is_without_positions : {X : Type 0} → List X → Bool
is_without_positions [] = true
is_without_positions (x ∷ xs) = false

-- the number of operands, arguments or conditions of a node
abbrev pub part_count : {F : Type 0} → Parts F → ℕ
part_count no_part = 0
part_count (part mark tree rest) = part_count rest + 1

-- whether a function may have `count` arguments; a function that this language leaves out takes no
-- number of arguments, not even 0
abbrev pub takes_arguments : Function → ℕ → Bool
takes_arguments function.Abs count = count == 1
takes_arguments function.Max count = nat_lt 1 count
takes_arguments function.Min count = nat_lt 1 count
takes_arguments function.Mod count = count == 2
takes_arguments function.Sqr count = count == 1
takes_arguments function.Power count = count == 2
takes_arguments function.Round count = count == 1
takes_arguments function.Floor count = count == 1
takes_arguments function.Ceil count = count == 1
takes_arguments function.Trunc count = count == 1
takes_arguments function.Sign count = count == 1
takes_arguments function.NotInProfile count = false

-- whether a symbol of this kind may be the amount of a lag on the left of an assignment or a
-- definition: a parameter if it is a scalar (`scalar`). A variable may here: it has another error,
-- Endogenous
abbrev pub may_shift : SymbolKind → Bool → Bool
may_shift kind.Parameter scalar = scalar
may_shift kind.Variable scalar = true
may_shift kind scalar = false

module _ {F : Type 0} where
  -- whether an expression may be the amount of a lag on the left of an assignment or a definition:
  -- a literal integer or a scalar (or a variable without suffix, which has another error,
  -- Endogenous)
  abbrev pub is_target_amount : Known F → Tree F → Bool
  is_target_amount known (number n) = is_whole (known.value n)
  is_target_amount known (reference at name suffix.None indices) =
      may_shift (declared_kind known.state name) (is_without_positions (positions known.state name) && has_no_indices indices)
  is_target_amount known tree = false

  -- whether some of these names is not that of a one-dimensional set
  abbrev pub has_wrong_set : Known F → List ℕ → Bool
  has_wrong_set known names = list_any (λ name. not (is_index_set known.state name)) names

  -- WrongKind: a symbol with its suffix, a number, an infinity, NA, `yes` or `no`, `ord`, `card`, a
  -- function, a fold, a division, a power, a relation, `and`, `or` or `xor` occurs in a context
  -- that does not admit it (a multiplication may occur in any); `ord` or `card` names no set; a
  -- name of an alias is declared before, but is no set; an index, a controlled set or a domain is
  -- no one-dimensional set; an amount of a lag on the left is neither an integer literal nor a
  -- scalar; what is assigned, defined, listed in a model, solved, optimized or displayed is of
  -- another kind than this requires
  abbrev pub wrong_kind : Known F → Use F → Bool
  wrong_kind known (literal context) = not context.numbers
  wrong_kind known (truth context) = not context.membership
  wrong_kind known (reading context controlled name suffix indices) =
      not (may_occur context (declared_kind known.state name) suffix) || has_wrong_set known (index_sets indices)
  wrong_kind known (ordinal context controlled name) = not context.numbers || not (is_set_name known.state name)
  wrong_kind known (cardinal context name) = not context.numbers || not (is_set_name known.state name)
  wrong_kind known (calling context function args) = not context.numbers
  wrong_kind known (folding context op body) = not context.numbers
  wrong_kind known (controlling controlled sets) = has_wrong_set known sets
  wrong_kind known (stepping context multiplies earlier right) = false
  wrong_kind known (stepping context divides earlier right) = not context.numbers
  wrong_kind known (stepping context raises earlier right) = not context.numbers
  wrong_kind known (logic context) = not context.numbers
  wrong_kind known (assigning name suffix indices) =
      not (may_be_assigned (declared_kind known.state name) suffix) || has_wrong_set known (index_sets indices)
  wrong_kind known (defining name indices) = not (is_equation (declared_kind known.state name)) || has_wrong_set known (index_sets indices)
  wrong_kind known (shifting amount) = not (is_target_amount known amount)
  wrong_kind known (bounding name) = not (is_index_set known.state name)
  wrong_kind known (first_alias first second) = not (has_no_declaration known.state first) && not (is_set_name known.state first)
  wrong_kind known (second_alias first second) = not (has_no_declaration known.state second) && not (is_set_name known.state second)
  wrong_kind known (listing name) = not (is_equation (declared_kind known.state name))
  wrong_kind known (solving name) = not (is_model (declared_kind known.state name))
  wrong_kind known (optimizing name) = not (is_variable_kind (declared_kind known.state name))
  wrong_kind known (showing name suffix) = not (may_occur as_condition (declared_kind known.state name) suffix)
  wrong_kind known used = false

  -- Discrete: variables are declared as binary, integer or of a special ordered set
  abbrev pub discrete : Known F → Use F → Bool
  discrete known not_continuous = true
  discrete known used = false

  -- Function: a function is left out of this language, or has a wrong number of arguments
  abbrev pub wrong_function : Known F → Use F → Bool
  wrong_function known (calling context function args) = not (takes_arguments function (part_count args))
  wrong_function known used = false
