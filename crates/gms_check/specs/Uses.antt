-- What a statement uses, piece by piece, each use with its place in the source: names, indices,
-- sets that are controlled, operations, words. A piece has the place that the source gives it, or
-- else that of the smallest piece around it.
use Rattle.std.specs.Prelude.{ℕ, true, false, List, [], ◌∷◌, ◌++◌, Option, Some, None}
use Rattle.gms_labels.specs.declared.place.Place.{Place}
use Rattle.gms_ast.specs.declared.expression.Suffix.{Suffix}
use Rattle.gms_ast.specs.declared.expression.FoldOp.{FoldOp}
use Rattle.gms_ast.specs.declared.expression.Function.{Function}
use Rattle.gms_ast.specs.declared.declaration.DeclKind.{DeclKind}
use Rattle.gms_ast.specs.declared.program.Setting.{Setting}
use Rattle.gms_ast.specs.Trees.{Mark, placed, signed, Tree, number, plus_infinity, not_available, yes, no, reference, place_in_set, size_of_set, call, fold_over, negated, sum, product, power, relation, not_so, all_of, one_of, guarded, Parts, no_part, part, Indices, no_index, label, set, lagged, Control, over, over_where}
use Rattle.gms_set.specs.declared.fault.SetError.{SetError}
use Rattle.gms_check.specs.declared.contexts.Context.{Context}
use Rattle.gms_check.specs.Contexts.{as_number, as_condition, as_part, as_guarded, as_inner, as_denied}

-- An operation between two operands.
pub data Operation : Type 0 where
  multiplies : Operation
  divides : Operation
  raises : Operation

-- What is used at a place in the source. Names are numbers in the program's table. The context of a
-- use is what may occur at its place.
pub data Use (F : Type 0) : Type 0 where
  -- a number, an infinity or NA
  literal : Context → Use F
  -- `yes` or `no`
  truth : Context → Use F
  -- a reference: the sets that are controlled there, its name, suffix and indices
  reading : Context → List ℕ → ℕ → Suffix → Indices F → Use F
  -- `ord` of a set: the sets that are controlled there, and the set
  ordinal : Context → List ℕ → ℕ → Use F
  -- `card` of a set
  cardinal : Context → ℕ → Use F
  -- a call of a function with arguments
  calling : Context → Function → Parts F → Use F
  -- a `sum` or another fold, with this body
  folding : Context → FoldOp → Tree F → Use F
  -- the control of a fold or a loop: the sets that are controlled already, and those of the control
  controlling : List ℕ → List ℕ → Use F
  -- an operation of a product or a power: the operands before it, and its right operand
  stepping : Context → Operation → List (Tree F) → Tree F → Use F
  -- a relation, `and`, `or` or `xor`
  logic : Context → Use F
  -- the left side of an assignment: name, suffix and indices
  assigning : ℕ → Suffix → Indices F → Use F
  -- the equation that a definition defines, with its indices
  defining : ℕ → Indices F → Use F
  -- the amount of a lag on the left of an assignment or a definition
  shifting : Tree F → Use F
  -- a name that a declaration of this kind declares, with its written domain
  naming : DeclKind → ℕ → List (Option ℕ) → Use F
  -- a declaration of discrete variables
  not_continuous : Use F
  -- a set in the written domain of a declaration
  bounding : ℕ → Use F
  -- an item of data: how many positions its name has, and how many the item has
  placing : ℕ → ℕ → Use F
  -- the fault of a list of data
  failing : SetError → Use F
  -- the first name of an alias; the arguments are both names
  first_alias : ℕ → ℕ → Use F
  -- the second name of an alias; the arguments are both names
  second_alias : ℕ → ℕ → Use F
  -- a model that is declared
  modelling : ℕ → Use F
  -- an equation that is listed in a model
  listing : ℕ → Use F
  -- a model that is solved
  solving : ℕ → Use F
  -- the word after `using`
  method : List ℕ → Use F
  -- the variable that is minimized or maximized
  optimizing : ℕ → Use F
  -- a symbol that is displayed, with its suffix
  showing : ℕ → Suffix → Use F
  -- the word of an option
  option_word : List ℕ → Use F
  -- the value of an option, after the option's word
  option_value : List ℕ → Setting F → Use F

-- a list of uses, each with its place in the source
abbrev pub Uses : Type 0 → Type 0
Uses F = List (Place × Use F)

-- the place of an operand or argument in the source: its own if its mark has one, otherwise
-- `around`, that of the smallest piece of the source around it that has one
abbrev pub place_by_mark : Mark → Place → Place
place_by_mark (placed at) around = at
place_by_mark (signed at mark) around = at
place_by_mark mark around = around

-- the operation before an operand of a product or a power, by the operand's mark: in a product a
-- division if the operand divides (`true`), otherwise a multiplication; in a power an
-- exponentiation
abbrev pub operation_of : Mark → Operation
operation_of (signed at true) = divides
operation_of (signed at false) = multiplies
operation_of mark = raises

module _ {F : Type 0} where
  -- the sets of a control
  abbrev pub sets_of_control : Control F → List ℕ
  sets_of_control (over sets) = sets
  sets_of_control (over_where sets condition) = sets

  -- the sets among indices, in order
  abbrev pub index_sets : Indices F → List ℕ
  index_sets no_index = []
  index_sets (label n rest) = index_sets rest
  index_sets (set name rest) = name ∷ index_sets rest
  index_sets (lagged name op at amount rest) = name ∷ index_sets rest

  -- the operations before these operands of a product or a power in a context, one for each, where
  -- `earlier` are the operands that precede them, and `around` is the place of an operand whose
  -- mark has none
  abbrev pub later_steps : Context → Place → List (Tree F) → Parts F → Uses F
  later_steps context around earlier no_part = []
  later_steps context around earlier (part mark tree rest) =
      (place_by_mark mark around, stepping context (operation_of mark) earlier tree) ∷ later_steps context around (earlier ++ tree ∷ []) rest

  -- the operations of a product or a power in a context: one for each operand except the first,
  -- with the operands before it and this operand; it is at the place of the sign before the
  -- operand, which the operand's mark has, or at `around` if the mark has no place
  abbrev pub steps : Context → Place → Parts F → Uses F
  steps context around no_part = []
  steps context around (part mark tree rest) = later_steps context around (tree ∷ []) rest

abbrev mutual
  -- the uses of an expression in a context, where `around` is the place of the smallest piece
  -- around it that has one, and the sets `controlled` are controlled
  pub uses : {F : Type 0} → Context → Place → List ℕ → Tree F → Uses F
  uses context around controlled (number n) = (around, literal context) ∷ []
  uses context around controlled plus_infinity = (around, literal context) ∷ []
  uses context around controlled not_available = (around, literal context) ∷ []
  uses context around controlled yes = (around, truth context) ∷ []
  uses context around controlled no = (around, truth context) ∷ []
  uses context around controlled (reference at name suffix indices) =
      (at, reading context controlled name suffix indices) ∷ amount_uses controlled indices
  uses context around controlled (place_in_set at name) = (at, ordinal context controlled name) ∷ []
  uses context around controlled (size_of_set at name) = (at, cardinal context name) ∷ []
  uses context around controlled (call at function args) =
      (at, calling context function args) ∷ part_uses (as_inner context) at controlled args
  uses context around controlled (fold_over at op control body) =
      (at, folding context op body) ∷ (control_uses at controlled control ++ uses (as_inner context) at (controlled ++ sets_of_control control) body)
  uses context around controlled (negated operand) = uses (as_part context) around controlled operand
  uses context around controlled (sum parts) = part_uses (as_part context) around controlled parts
  uses context around controlled (product parts) = part_uses (as_part context) around controlled parts ++ steps context around parts
  uses context around controlled (power parts) = part_uses (as_part context) around controlled parts ++ steps context around parts
  uses context around controlled (relation parts) = (around, logic context) ∷ part_uses as_number around controlled parts
  uses context around controlled (not_so operand) = uses (as_denied context) around controlled operand
  uses context around controlled (all_of parts) = (around, logic context) ∷ part_uses as_condition around controlled parts
  uses context around controlled (one_of parts) = (around, logic context) ∷ part_uses as_condition around controlled parts
  uses context around controlled (guarded operand guards) =
      uses (as_guarded context) around controlled operand ++ part_uses as_condition around controlled guards

  -- the uses of the operands or arguments of a node in a context, in order, where `around` is the
  -- place of an operand whose mark has none, and the sets `controlled` are controlled
  pub part_uses : {F : Type 0} → Context → Place → List ℕ → Parts F → Uses F
  part_uses context around controlled no_part = []
  part_uses context around controlled (part mark tree rest) =
      uses context (place_by_mark mark around) controlled tree ++ part_uses context around controlled rest

  -- the uses in the amounts of lags among indices, in order, where the sets `controlled` are
  -- controlled
  pub amount_uses : {F : Type 0} → List ℕ → Indices F → Uses F
  amount_uses controlled no_index = []
  amount_uses controlled (label n rest) = amount_uses controlled rest
  amount_uses controlled (set name rest) = amount_uses controlled rest
  amount_uses controlled (lagged name op at amount rest) = uses as_number at controlled amount ++ amount_uses controlled rest

  -- the uses in a control at the place `at`, where the sets `controlled` are controlled before: one
  -- use of all its sets together, and those in its condition, where the sets of the control are
  -- controlled too
  pub control_uses : {F : Type 0} → Place → List ℕ → Control F → Uses F
  control_uses at controlled (over sets) = (at, controlling controlled sets) ∷ []
  control_uses at controlled (over_where sets condition) =
      (at, controlling controlled sets) ∷ uses as_condition at (controlled ++ sets) condition

module _ {F : Type 0} where
  -- the uses of the amounts of lags on the left of an assignment or a definition, where the sets
  -- `controlled` are controlled: for each amount one use of the amount itself, and those in it
  abbrev pub shift_uses : List ℕ → Indices F → Uses F
  shift_uses controlled no_index = []
  shift_uses controlled (label n rest) = shift_uses controlled rest
  shift_uses controlled (set name rest) = shift_uses controlled rest
  shift_uses controlled (lagged name op at amount rest) =
      (at, shifting amount) ∷ (uses as_number at controlled amount ++ shift_uses controlled rest)

  -- the uses of a condition in a statement at the place `at`, where the sets `controlled` are
  -- controlled; none if there is no condition
  abbrev pub condition_uses : Place → List ℕ → Option (Tree F) → Uses F
  condition_uses at controlled None = []
  condition_uses at controlled (Some condition) = uses as_condition at controlled condition
