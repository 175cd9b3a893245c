-- The value of an expression in a state of the run, under the labels of the controlled sets (GAMS
-- User's Guide, "Data Manipulations with Parameters", "Conditional Expressions, Assignments and
-- Equations", "Sets as Sequences: Ordered Sets").
use Rattle.std.specs.Prelude.{ℕ, Bool, true, false, not, List, [], ◌∷◌, length, map, Option, Some, None, Ok, if◌then◌else◌}
use Rattle.gms_labels.specs.declared.place.Place.{Place}
use Rattle.gq_number.specs.Number.{Number}
use Rattle.gq_extended.specs.Extended.{Extended, number, plus_infinity, na, negated}
use Rattle.gms_ast.specs.declared.expression.Index.{Index}
use Rattle.gms_ast.specs.TreeView.{index_tree}
use Rattle.gms_ast.specs.Trees as tree
use Rattle.gms_store.specs.State.{State, members_of}
use Rattle.gms_eval.specs.Nodes.{Marked, unmarked, is_so, truth, chain, sum_step, product_step, power_step, relation_step, all_step, one_step, called, count_value, folded, in_order, each_holds}
use Rattle.gms_eval.specs.Bindings.{Pairs, label_of, controlled}
use Rattle.gms_eval.specs.Domain.{elements, sized, those_where}
use Rattle.gms_eval.specs.Faults.{Answer, nothing, ◌and_then◌}
use Rattle.gms_eval.specs.References.{reached_label, tuple_of, place_in_set, entry_or_zero}

-- the sets of a control; a control is the sets over which an operation such as `sum`, a loop or an
-- assignment runs, with a condition if there is one
abbrev pub sets_of : {F : Type 0} → tree.Control F → List ℕ
sets_of (tree.over sets) = sets
sets_of (tree.over_where sets condition) = sets

-- the control of an operation such as `sum`, a loop or an assignment that runs over these sets,
-- with the condition if there is one (Some)
abbrev pub control_over : {F : Type 0} → List ℕ → Option (tree.Tree F) → tree.Control F
control_over sets None = tree.over sets
control_over sets (Some condition) = tree.over_where sets condition

-- whether a condition holds, from the answer of its value: the value is not the number 0; a fault
-- remains the answer
abbrev pub when_so : Answer Extended → Answer Bool
when_so answer = answer and_then λ x. Ok (is_so x)

module _ {F : Type 0} (number_of : F → Number) (limit : ℕ) (state : State) where
  abbrev mutual
    -- the value of an expression under a binding, or its first fault
    pub value : Pairs → tree.Tree F → Answer Extended
    value binding (tree.number n) = Ok (number (number_of n))
    value binding tree.plus_infinity = Ok plus_infinity
    value binding tree.not_available = Ok na
    value binding tree.yes = Ok (truth true)
    value binding tree.no = Ok (truth false)
    value binding (tree.reference at name suffix indices) =
        in_order (labels binding indices) and_then λ those. entry_or_zero limit state binding at name suffix (tuple_of those)
    value binding (tree.place_in_set at set) = count_value limit binding at (place_in_set state binding set)
    value binding (tree.size_of_set at set) = count_value limit binding at (length (members_of state set))
    value binding (tree.call at function args) =
        in_order (unmarked (values binding args)) and_then λ xs. called limit binding at function xs
    value binding (tree.fold_over at op control body) =
        domain binding at control and_then λ those. folded limit binding op at (map (λ element. (tree.plain, value (controlled binding (sets_of control) element) body)) those)
    value binding (tree.negated operand) = value binding operand and_then λ x. Ok (negated x)
    value binding (tree.sum parts) = chain (sum_step limit binding) (values binding parts)
    value binding (tree.product parts) = chain (product_step limit binding) (values binding parts)
    value binding (tree.power parts) = chain (power_step limit binding) (values binding parts)
    value binding (tree.relation parts) = chain relation_step (values binding parts)
    value binding (tree.not_so operand) = value binding operand and_then λ x. Ok (truth (not (is_so x)))
    value binding (tree.all_of parts) = chain all_step (values binding parts)
    value binding (tree.one_of parts) = chain one_step (values binding parts)
    value binding (tree.guarded operand guards) =
        each_holds (unmarked (values binding guards)) and_then λ hold. if hold then value binding operand else Ok nothing

    -- the answers of the operands of a node, each with its mark
    pub values : Pairs → tree.Parts F → Marked
    values binding tree.no_part = []
    values binding (tree.part mark part rest) = (mark, value binding part) ∷ values binding rest

    -- the label of each index, or a fault: that of the amount of its lag, or that the amount is no
    -- integer; None if a lag reaches no label (`reached_label`), or a set has no label
    pub labels : Pairs → tree.Indices F → List (Answer (Option ℕ))
    labels binding tree.no_index = []
    labels binding (tree.label label rest) = Ok (Some label) ∷ labels binding rest
    labels binding (tree.set set rest) = Ok (label_of binding set) ∷ labels binding rest
    labels binding (tree.lagged set op at amount rest) =
        (value binding amount and_then λ x. reached_label state binding set op at x) ∷ labels binding rest

    -- the elements of a control: those of the product of its sets for which its condition, if any,
    -- holds under the binding with the element, or the first fault of the condition; a product that
    -- is too large is a fault at the place `at`
    pub domain : Pairs → Place → tree.Control F → Answer (List (List ℕ))
    domain binding at (tree.over sets) = sized at binding (elements state sets)
    domain binding at (tree.over_where sets condition) =
        sized at binding (elements state sets) and_then λ all. those_where (λ element. when_so (value (controlled binding sets element) condition)) all

  -- the label of the first of these indices, or a fault: that of the amount of its lag, or that the
  -- amount is no integer; None without indices, if the lag reaches no label (`reached_label`), or
  -- if the set has no label
  abbrev pub first_label : Pairs → tree.Indices F → Answer (Option ℕ)
  first_label binding tree.no_index = Ok None
  first_label binding (tree.label n rest) = Ok (Some n)
  first_label binding (tree.set name rest) = Ok (label_of binding name)
  first_label binding (tree.lagged name op at amount rest) = value binding amount and_then λ x. reached_label state binding name op at x

  -- the label of an index, or a fault: that of the amount of its lag, or that the amount is no
  -- integer; None if the lag reaches no label (`reached_label`), or if the set has no label
  abbrev pub label_answer : Pairs → Index F → Answer (Option ℕ)
  label_answer binding index = first_label binding (index_tree index tree.no_index)
