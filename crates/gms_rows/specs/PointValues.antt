-- The value of an expression at a point, which gives each element of a variable a number: its
-- variables are read there (GAMS User's Guide, "Equations"; Chvatal, "Linear Programming", chapter
-- 1). An operand without variables has its usual value; the steps that join operands with variables
-- are those of exact numbers, without limit.
use Rattle.std.specs.Prelude.{ℕ, Bool, true, false, not, ◌&&◌, ◌||◌, List, [], ◌∷◌, map, Option, Some, None, Ok, Err, if◌then◌else◌}
use Rattle.gms_labels.specs.declared.place.Place.{Place}
use Rattle.gq_number.specs.Number.{Number, ◌+ℚ◌, ◌-ℚ◌, ◌*ℚ◌, ◌/ℚ◌}
use Rattle.gq_extended.specs.Extended.{Extended, number, Outcome, is_zero, negated, sum, difference, product, quotient}
use Rattle.gq_extended.specs.ExtendedOrder.{lesser, greater}
use Rattle.gq_extended.specs.declared.fault.ExtendedFault.TheVariants.{Divide}
use Rattle.gms_ast.specs.declared.expression.FoldOp.{FoldOp}
use Rattle.gms_ast.specs.declared.expression.FoldOp.TheVariants.{Sum, Prod, Smin, Smax}
use Rattle.gms_ast.specs.Trees.{Mark, plain, signed}
use Rattle.gms_ast.specs.Trees as tree
use Rattle.gms_store.specs.State.{State}
use Rattle.gms_eval.specs.Nodes.{Marked, ValueStep, unmarked, chain, in_order, each_holds, start_of}
use Rattle.gms_eval.specs.Nodes as nodes
use Rattle.gms_eval.specs.Bindings.{Pairs, controlled}
use Rattle.gms_eval.specs.Faults.{Answer, nothing, faulted, taken, ◌and_then◌}
use Rattle.gms_eval.specs.References.{tuple_of}
use Rattle.gms_eval.specs.Value.{value, values, labels, domain, sets_of}
use Rattle.gms_eval.specs.declared.stop.StopKind.TheVariants.{EmptyExtreme}
use Rattle.lp_form.specs.declared.key.Key.{Key}
use Rattle.gms_rows.specs.Affine.{has_variables, some_has_variables, is_inverse}

-- ---- steps without limit

-- the sum of two numbers, under no limit; if one is an infinity or NA, their sum as extended
-- numbers, on which the limit 0 has no effect
abbrev pub exact_sum : Extended → Extended → Outcome
exact_sum (number x) (number y) = Ok (number (x +ℚ y))
exact_sum x y = sum 0 x y

-- the difference of two numbers, under no limit; if one is an infinity or NA, their difference as
-- extended numbers, on which the limit 0 has no effect
abbrev pub exact_difference : Extended → Extended → Outcome
exact_difference (number x) (number y) = Ok (number (x -ℚ y))
exact_difference x y = difference 0 x y

-- the product of two numbers, under no limit; if one is an infinity or NA, their product as
-- extended numbers, on which the limit 0 has no effect
abbrev pub exact_product : Extended → Extended → Outcome
exact_product (number x) (number y) = Ok (number (x *ℚ y))
exact_product x y = product 0 x y

-- the quotient of two numbers, under no limit, or the fault Divide if the second is 0; if one is an
-- infinity or NA, their quotient as extended numbers, on which the limit 0 has no effect
abbrev pub exact_quotient : Extended → Extended → Outcome
exact_quotient (number x) (number y) = if is_zero y then Err Divide else Ok (number (x /ℚ y))
exact_quotient x y = quotient 0 x y

module _ (binding : Pairs) where
  -- the step that joins the sum so far, x, with the next term: their sum, or their difference if
  -- the term's mark says that it is subtracted; if the mark is not `signed`, only the next term
  abbrev pub exact_sum_step : ValueStep
  exact_sum_step (signed at subtracts) x answer =
      answer and_then λ y. taken at binding x y (if subtracts then exact_difference x y else exact_sum x y)
  exact_sum_step mark x answer = answer

  -- the step that joins the product so far, x, with the next factor: their product, or their
  -- quotient if the factor's mark says that it divides; if the mark is not `signed`, only the next
  -- factor
  abbrev pub exact_product_step : ValueStep
  exact_product_step (signed at divides) x answer =
      answer and_then λ y. taken at binding x y (if divides then exact_quotient x y else exact_product x y)
  exact_product_step mark x answer = answer

  -- the step of a fold at this place: the operation of the fold on the value so far, x, and the
  -- value of the next body, y
  abbrev pub exact_join : FoldOp → Place → Extended → Extended → Answer Extended
  exact_join Sum at x y = taken at binding x y (exact_sum x y)
  exact_join Prod at x y = taken at binding x y (exact_product x y)
  exact_join Smin at x y = Ok (lesser x y)
  exact_join Smax at x y = Ok (greater x y)

  -- the step of a fold that joins the value so far, x, with the value of the next body
  -- (`exact_join`); if the body has a fault, this fault is the result
  abbrev pub exact_fold_step : FoldOp → Place → ValueStep
  exact_fold_step op at mark x answer = answer and_then λ y. exact_join op at x y

  -- the result of a fold: the values of its bodies, joined in order by its operation `op`, from 0
  -- for Sum and 1 for Prod (`start_of`); without a body, that number, or for Smin and Smax the
  -- fault EmptyExtreme at this place; or the first fault
  abbrev pub exact_folded : FoldOp → Place → Marked → Answer Extended
  exact_folded op at bodies =
      nodes.joined (exact_fold_step op at) (Err (faulted EmptyExtreme at binding nothing nothing)) (start_of op) bodies

-- ---- the value at a point

-- the number of an element of a variable at the point; 0 if there is no tuple, as a lag goes past
-- the ends of its set
abbrev pub element_at : (Key → Number) → ℕ → Option (List ℕ) → Extended
element_at point name None = nothing
element_at point name (Some t) = number (point (record { symbol = name; tuple = t }))

module _ {F : Type 0} (number_of : F → Number) (limit : ℕ) (state : State) (point : Key → Number) where
  abbrev mutual
    -- the value of an expression with variables, which are read at the point, under a binding of
    -- sets to labels; or the first fault. An operand under a guard that does not hold is 0.
    pub read_at : Pairs → tree.Tree F → Answer Extended
    read_at binding (tree.reference at name suffix indices) =
        in_order (labels number_of limit state binding indices) and_then λ those. Ok (element_at point name (tuple_of those))
    read_at binding (tree.fold_over at op control body) =
        domain number_of limit state binding at control and_then λ elements.
        exact_folded binding op at (map (λ element. (plain, read_at (controlled binding (sets_of control) element) body)) elements)
    read_at binding (tree.negated operand) = read_at binding operand and_then λ x. Ok (negated x)
    read_at binding (tree.sum parts) = chain (exact_sum_step binding) (values_at binding parts)
    read_at binding (tree.product parts) = chain (exact_product_step binding) (values_at binding parts)
    read_at binding (tree.guarded operand guards) =
        each_holds (unmarked (values number_of limit state binding guards)) and_then λ hold. if hold then read_at binding operand else Ok nothing
    read_at binding other = value number_of limit state binding other

    -- the values of the terms of a sum or the factors of a product at the point, each with its mark
    pub values_at : Pairs → tree.Parts F → Marked
    values_at binding tree.no_part = []
    values_at binding (tree.part mark part rest) =
        (mark, (if has_variables state part then read_at binding part else value number_of limit state binding part)) ∷ values_at binding rest

  -- the value of an expression at the point, under a binding of sets to labels; or the first fault
  abbrev pub value_at : Pairs → tree.Tree F → Answer Extended
  value_at binding e = if has_variables state e then read_at binding e else value number_of limit state binding e

-- ---- expressions that are linear in the variables

-- whether a mark is that of a term or a factor: it has a place, and says whether the term is
-- subtracted or the factor divides
abbrev pub is_signed : Mark → Bool
is_signed (signed at inverse) = true
is_signed mark = false

-- whether a fold is a sum
abbrev pub is_sum_fold : FoldOp → Bool
is_sum_fold Sum = true
is_sum_fold op = false

module _ {F : Type 0} (state : State) where
  -- whether of these factors, none of which is the first, at most one has variables, and that one
  -- does not divide
  abbrev pub are_later_factors : tree.Parts F → Bool
  are_later_factors tree.no_part = true
  are_later_factors (tree.part mark part rest) =
      if has_variables state part then not (is_inverse mark) && not (some_has_variables state rest) else are_later_factors rest

  -- whether of the factors of a product at most one has variables, and that one, unless it is the
  -- first, does not divide
  abbrev pub are_factors : tree.Parts F → Bool
  are_factors tree.no_part = true
  are_factors (tree.part mark part rest) =
      if has_variables state part then not (some_has_variables state rest) else are_later_factors rest

  abbrev mutual
    -- whether an expression is linear in the variables: in a product at most one factor has any,
    -- and it does not divide unless it is the first; of folds, only the body of a sum has any, and
    -- then it is linear. Each operand is linear, in a sum or product marked as a term or factor
    -- (`is_signed`). All else is linear.
    pub is_linear : tree.Tree F → Bool
    is_linear (tree.fold_over at op control body) = not (has_variables state body) || (is_sum_fold op && is_linear body)
    is_linear (tree.negated operand) = is_linear operand
    is_linear (tree.sum parts) = are_linear parts
    is_linear (tree.product parts) = are_linear parts && are_factors parts
    is_linear (tree.guarded operand guards) = is_linear operand
    is_linear other = true

    -- whether each operand of a sum or a product is linear in the variables and has the mark of a
    -- term, plus or minus, or of a factor, times or divided by (`is_signed`)
    pub are_linear : tree.Parts F → Bool
    are_linear tree.no_part = true
    are_linear (tree.part mark part rest) = is_signed mark && (is_linear part && are_linear rest)
