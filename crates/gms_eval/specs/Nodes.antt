-- How the answer of an expression results from those of its operands (GAMS User's Guide, "Data
-- Manipulations with Parameters", "Conditional Expressions, Assignments and Equations"). The order
-- in which faults are found is this project's own rule: operands from the left to the right, guards
-- from the last to the first.
use Rattle.std.specs.Prelude.{ℕ, pos, Bool, true, false, not, ◌&&◌, List, [], ◌∷◌, map, fold, Option, Some, None, Ok, Err, if◌then◌else◌}
use Rattle.gms_labels.specs.declared.place.Place.{Place}
use Rattle.gq_number.specs.Number.{whole}
use Rattle.gq_field.specs.Fits.{fits}
use Rattle.gq_extended.specs.Extended.{Extended, number, number_if, is_zero, magnitude, sign, sum, difference, product, quotient, nearest, floor, ceiling, truncation, power}
use Rattle.gq_extended.specs.ExtendedOrder.{equals, differs, is_less, is_at_most, is_greater, is_at_least, lesser, greater}
use Rattle.gms_ast.specs.Trees.{Mark, placed, signed, related, chosen}
use Rattle.gms_ast.specs.declared.expression.FoldOp.{FoldOp}
use Rattle.gms_ast.specs.declared.expression.FoldOp.TheVariants.{Sum, Prod, Smin, Smax}
use Rattle.gms_ast.specs.declared.expression.RelOp.{RelOp}
use Rattle.gms_ast.specs.declared.expression.RelOp.TheVariants.{Lt, Le, Eq, Ne, Ge, Gt}
use Rattle.gms_ast.specs.declared.expression.Function.{Function}
use Rattle.gms_ast.specs.declared.expression.Function.TheVariants as function
use Rattle.gms_eval.specs.Bindings.{Pairs}
use Rattle.gms_eval.specs.Faults.{Answer, nothing, faulted, taken, ◌and_then◌}
use Rattle.gms_eval.specs.declared.steps.Signed.{Signed}
use Rattle.gms_eval.specs.declared.steps.Signed.TheVariants as signs
use Rattle.gms_eval.specs.declared.stop.StopKind.TheVariants.{EmptyExtreme}

-- ---- truth

-- whether a value holds as a condition: it is not the number 0
abbrev pub is_so : Extended → Bool
is_so (number x) = not (is_zero x)
is_so value = true

-- 1 for true and 0 for false
abbrev pub truth : Bool → Extended
truth true = number (whole (pos 1))
truth false = number (whole (pos 0))

-- whether a relation holds between two values
abbrev pub holds_between : RelOp → Extended → Extended → Bool
holds_between Lt x y = is_less x y
holds_between Le x y = is_at_most x y
holds_between Eq x y = equals x y
holds_between Ne x y = differs x y
holds_between Ge x y = is_at_least x y
holds_between Gt x y = is_greater x y

-- ---- parts in sequence

-- the answers of the operands of a node, each with its mark: the sign, relation or place that comes
-- with the operand
abbrev pub Marked : Type 0
Marked = List (Mark × Answer Extended)

-- the answers without their marks
abbrev pub unmarked : Marked → List (Answer Extended)
unmarked parts = map (λ part. part.1) parts

-- an operation of a chain: from the mark of the next operand, the value so far and the answer of
-- that operand to the next value
abbrev pub ValueStep : Type 0
ValueStep = Mark → Extended → Answer Extended → Answer Extended

-- the answer of a chain from here on: each operand is joined to the value so far by `step`. Without
-- a value so far the first operand is that value; without operands either, the answer is `empty`
abbrev pub joined : ValueStep → Answer Extended → Option Extended → Marked → Answer Extended
joined step empty None [] = empty
joined step empty (Some x) [] = Ok x
joined step empty None (part ∷ parts) = part.1 and_then λ x. joined step empty (Some x) parts
joined step empty (Some x) (part ∷ parts) = step part.0 x part.1 and_then λ y. joined step empty (Some y) parts

-- the answer of a chain: the first operand, joined with each further one by `step`; 0 without
-- operands
abbrev pub chain : ValueStep → Marked → Answer Extended
chain step parts = joined step (Ok nothing) None parts

-- the values of answers, in order, or the first fault
abbrev pub in_order : {A : Type 0} → List (Answer A) → Answer (List A)
in_order [] = Ok []
in_order (answer ∷ answers) = answer and_then λ x. in_order answers and_then λ xs. Ok (x ∷ xs)

-- whether all guards hold, or the first fault: they are evaluated from the last to the first, up to
-- one that does not hold
abbrev pub each_holds : List (Answer Extended) → Answer Bool
each_holds [] = Ok true
each_holds (guard ∷ guards) = each_holds guards and_then λ hold. if hold then guard and_then (λ x. Ok (is_so x)) else Ok false

-- ---- values

-- the best of some values, where `better` gives the better of two; 0 without values
abbrev pub extreme : (Extended → Extended → Extended) → List Extended → Extended
extreme better [] = nothing
extreme better (x ∷ xs) = fold better x xs

-- the initial value of a fold; `smin` and `smax` have none
abbrev pub start_of : FoldOp → Option Extended
start_of Sum = Some (number (whole (pos 0)))
start_of Prod = Some (number (whole (pos 1)))
start_of Smin = None
start_of Smax = None

-- ---- steps that have no fault

-- the operation of a relation, for a mark `related op`: 1 if the value so far, which may be the
-- result of a relation before, has the relation `op` to the operand, otherwise 0; for a mark of
-- another kind, the answer of the operand
abbrev pub relation_step : ValueStep
relation_step (related op) x answer = answer and_then λ y. Ok (truth (holds_between op x y))
relation_step mark x answer = answer

-- the operation `and`: 1 if both operands hold, otherwise 0. The right one is not evaluated if the
-- left is 0
abbrev pub all_step : ValueStep
all_step mark x answer = if is_so x then answer and_then (λ y. Ok (truth (is_so y))) else Ok (truth false)

-- whether exactly one of two values is not the number 0
abbrev pub exclusive_or : Extended → Extended → Bool
exclusive_or x y = if is_so x then not (is_so y) else is_so y

-- the operation `or`, for a mark `chosen exclusive`: 1 if an operand holds, otherwise 0, where the
-- right one is not evaluated if the left holds; or, if `exclusive`, `xor`: 1 if exactly one holds,
-- otherwise 0. For a mark of another kind, the answer of the right operand
abbrev pub one_step : ValueStep
one_step (chosen exclusive) x answer =
    if not exclusive && is_so x then Ok (truth true) else answer and_then λ y. Ok (truth (exclusive_or x y))
one_step mark x answer = answer

-- ---- steps under a limit, at a place and under a binding

module _ (limit : ℕ) (binding : Pairs) where
  -- the operation of a sum, for a mark `signed at subtracts`: the operand is added to the value so
  -- far, or subtracted from it if `subtracts`; or the fault of the operand, or else that of this
  -- operation, at the place `at`. For a mark of another kind, the answer of the operand
  abbrev pub sum_step : ValueStep
  sum_step (signed at subtracts) x answer =
      answer and_then λ y. taken at binding x y (if subtracts then difference limit x y else sum limit x y)
  sum_step mark x answer = answer

  -- the operation of a product, for a mark `signed at divides`: the value so far is multiplied by
  -- the operand, or divided by it if `divides`; for a mark of another kind, the answer of the
  -- operand
  abbrev pub product_step : ValueStep
  product_step (signed at divides) x answer =
      answer and_then λ y. taken at binding x y (if divides then quotient limit x y else product limit x y)
  product_step mark x answer = answer

  -- the operation of a sum, or that of a product
  abbrev pub signed_step : Signed → ValueStep
  signed_step signs.Sum = sum_step
  signed_step signs.Product = product_step

  -- the operation of a power, for a mark `placed at`: the value so far raised to the operand; for a
  -- mark of another kind, the answer of the operand
  abbrev pub power_step : ValueStep
  power_step (placed at) x answer = answer and_then λ y. taken at binding x y (power limit x y)
  power_step mark x answer = answer

  -- the remainder of the division of x by y: x minus y times the truncated quotient. A fault of one
  -- of these operations is at the place of the function
  abbrev pub remainder_of : Place → Extended → Extended → Answer Extended
  remainder_of at x y =
      taken at binding x y (quotient limit x y) and_then λ q. taken at binding y (truncation q) (product limit y (truncation q)) and_then λ p. taken at binding x p (difference limit x p)

  -- the value of a function of one argument, or its fault at the place `at`; 0 of any other
  -- function
  abbrev pub of_one : Place → Function → Extended → Answer Extended
  of_one at function.Abs x = Ok (magnitude x)
  of_one at function.Sqr x = taken at binding x x (product limit x x)
  of_one at function.Round x = Ok (nearest x)
  of_one at function.Floor x = Ok (floor x)
  of_one at function.Ceil x = Ok (ceiling x)
  of_one at function.Trunc x = Ok (truncation x)
  of_one at function.Sign x = Ok (sign x)
  of_one at function x = Ok nothing

  -- the value of a function of two arguments, or its fault at the place `at`; 0 of any other
  -- function
  abbrev pub called_with_two : Place → Function → Extended → Extended → Answer Extended
  called_with_two at function.Mod x y = remainder_of at x y
  called_with_two at function.Power x y = taken at binding x y (power limit x y)
  called_with_two at function x y = Ok nothing

  -- the value of a function of its arguments, or its fault at the place `at`; `max` and `min` admit
  -- any number of arguments. The value is 0 if any other function has a wrong number of arguments,
  -- or is one of GAMS that this language does not have, such as `exp`
  abbrev pub called : Place → Function → List Extended → Answer Extended
  called at function.Max xs = Ok (extreme greater xs)
  called at function.Min xs = Ok (extreme lesser xs)
  called at function (x ∷ []) = of_one at function x
  called at function (x ∷ y ∷ []) = called_with_two at function x y
  called at function xs = Ok nothing

  -- the number n as a value; the fault Limit if it does not fit under the limit of the size of
  -- numbers
  abbrev pub count_value : Place → ℕ → Answer Extended
  count_value at n = taken at binding nothing nothing (number_if (fits limit (whole (pos n))) (whole (pos n)))

  -- the value so far of a fold joined with that of its next body: their sum, product, lesser or
  -- greater; or the fault of the sum or the product, at the place `at`
  abbrev pub fold_join : FoldOp → Place → Extended → Extended → Answer Extended
  fold_join Sum at x y = taken at binding x y (sum limit x y)
  fold_join Prod at x y = taken at binding x y (product limit x y)
  fold_join Smin at x y = Ok (lesser x y)
  fold_join Smax at x y = Ok (greater x y)

  -- the operation of a fold: the value so far, x, is joined with y, the value of the next body; if
  -- that body has a fault, this fault is the result
  abbrev pub fold_step : FoldOp → Place → ValueStep
  fold_step op at mark x answer = answer and_then λ y. fold_join op at x y

  -- the sum, product, least or greatest value of a fold's bodies, each the answer for one element;
  -- or the first fault, that of a body, or that of a sum or product, at the place `at` of the fold.
  -- `smin` and `smax` of no bodies have the fault EmptyExtreme
  abbrev pub folded : FoldOp → Place → Marked → Answer Extended
  folded op at bodies =
      joined (fold_step op at) (Err (faulted EmptyExtreme at binding nothing nothing)) (start_of op) bodies
