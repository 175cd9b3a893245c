-- The affine form of an expression that is linear in the variables (GAMS User's Guide,
-- "Equations"). An operand without variables has its value, which has to be a number; all other
-- steps are done entry by entry. The order in which faults are found is this project's own rule.
use Rattle.std.specs.Prelude.{ℕ, ◌+◌, pos, Bool, true, false, ◌&&◌, ◌||◌, List, [], ◌∷◌, map, take, drop, Option, Some, None, unwrap_or, Ok, Err, if◌then◌else◌}
use Rattle.gms_labels.specs.declared.place.Place.{Place}
use Rattle.gq_number.specs.Number.{Number, whole, neg_ℚ}
use Rattle.gq_extended.specs.Extended.{Extended, number}
use Rattle.gms_ast.specs.declared.expression.Suffix.{Suffix}
use Rattle.gms_ast.specs.declared.expression.Suffix.TheVariants as suffix
use Rattle.gms_ast.specs.Trees.{Mark, signed}
use Rattle.gms_ast.specs.Trees as tree
use Rattle.gms_store.specs.State.{State, Content, variable_of, symbol_at}
use Rattle.gms_eval.specs.Nodes.{Marked, ValueStep, unmarked, chain, sum_step, product_step, in_order, each_holds}
use Rattle.gms_eval.specs.Bindings.{Pairs, controlled}
use Rattle.gms_eval.specs.Faults.{Answer, nothing, faulted, ◌and_then◌}
use Rattle.gms_eval.specs.References.{tuple_of}
use Rattle.gms_eval.specs.Value.{value, values, labels, domain, sets_of}
use Rattle.gms_eval.specs.declared.stop.StopKind.TheVariants.{Undefined}
use Rattle.gms_rows.specs.Forms.{Form, constant_form, zero_form, column_form, sum_of_forms, scaled_form, product_of_forms, quotient_of}

-- ---- what has variables

-- whether a symbol's content is that of a variable
abbrev pub is_variable_content : Content → Bool
is_variable_content (variable_of type entries) = true
is_variable_content content = false

-- whether there is no suffix
abbrev pub is_plain : Suffix → Bool
is_plain suffix.None = true
is_plain other = false

module _ {F : Type 0} (state : State) where
  abbrev mutual
    -- whether a variable without a suffix, whose value is unknown, occurs in an expression;
    -- conditions, relations, operands of logic, powers, arguments of functions and amounts of lags
    -- are not searched, since an accepted program has no such variable there
    pub has_variables : tree.Tree F → Bool
    has_variables (tree.reference at name suffix indices) = is_plain suffix && is_variable_content (symbol_at state name).content
    has_variables (tree.fold_over at op control body) = has_variables body
    has_variables (tree.negated operand) = has_variables operand
    has_variables (tree.sum parts) = some_has_variables parts
    has_variables (tree.product parts) = some_has_variables parts
    has_variables (tree.guarded operand guards) = has_variables operand
    has_variables other = false

    -- whether a variable without a suffix occurs in one of these terms or factors
    pub some_has_variables : tree.Parts F → Bool
    some_has_variables tree.no_part = false
    some_has_variables (tree.part mark part rest) = has_variables part || some_has_variables rest

  -- how many terms or factors come before the first that has variables; all of them, if none has
  abbrev pub values_first : tree.Parts F → ℕ
  values_first tree.no_part = 0
  values_first (tree.part mark part rest) = if has_variables part then 0 else values_first rest + 1

-- ---- sums and products

-- the constant form of a value; if the value is no number, the fault Undefined at this place, which
-- reports the binding of sets to labels
abbrev pub form_of : Place → Pairs → Extended → Answer Form
form_of at binding (number x) = Ok (constant_form x)
form_of at binding x = Err (faulted Undefined at binding x nothing)

-- the place in the source of a term or factor with this mark; line 0 and column 0 if the mark is
-- not `signed`
abbrev pub part_place : Mark → Place
part_place (signed at inverse) = at
part_place mark = record { line = 0; column = 0 }

-- whether a term with this mark is subtracted, or a factor with it divides
abbrev pub is_inverse : Mark → Bool
is_inverse (signed at inverse) = inverse
is_inverse mark = false

-- a step that joins the form so far with that of the next term or factor, whose mark says whether
-- it is subtracted or divides
abbrev pub Join : Type 0
Join = Mark → Form → Form → Answer Form

-- the form so far joined with the form of the next term or factor; the latter form, if there is
-- none so far
abbrev pub with_next : Join → Mark → Option Form → Form → Answer Form
with_next join mark None form = Ok form
with_next join mark (Some left) form = join mark left form

-- the form so far joined in sequence with those of these terms or factors, or the first fault; the
-- form 0 if there is no form at all
abbrev pub joined_forms : Join → Option Form → List (Mark × Answer Form) → Answer Form
joined_forms join so_far [] = Ok (unwrap_or so_far zero_form)
joined_forms join so_far (part ∷ parts) = part.1 and_then λ form. with_next join part.0 so_far form and_then λ next. joined_forms join (Some next) parts

-- the constant form of the number to which `step` joins these marked values from the left; None
-- without values; or the first fault: that of a value or a step or, if there is none but the joined
-- value is no number, Undefined at the place of the first value, with the binding of sets to labels
abbrev pub prefix : Pairs → ValueStep → Marked → Answer (Option Form)
prefix binding step [] = Ok None
prefix binding step (first ∷ rest) = chain step (first ∷ rest) and_then λ x. form_of (part_place first.0) binding x and_then λ form. Ok (Some form)

-- the form of a sum or a product: the first `count` operands, which have no variables, are joined
-- as values by `step`, then each later one by `join`, a step on forms; or the first fault. `values`
-- and `forms` have those of all operands, each with its mark. If the value of the first `count` is
-- no number, the fault is Undefined, with the binding `binding` of sets to labels.
abbrev pub chained : Pairs → ValueStep → Join → ℕ → Marked → List (Mark × Answer Form) → Answer Form
chained binding step join count values forms = prefix binding step (take count values) and_then λ so_far. joined_forms join so_far (drop count forms)

module _ (limit : ℕ) (binding : Pairs) where
  -- the sum of the form so far and the next term's, or their difference if the term is subtracted
  abbrev pub plus : Join
  plus mark left right = sum_of_forms limit (part_place mark) binding (is_inverse mark) left right

  -- the product of `left`, the form so far, and `right`, the next factor's: `left` times the
  -- constant of `right` if `right` is constant, otherwise `right` times the constant of `left`. If
  -- the factor divides, `left` over the constant of `right`. The fault is Divide if this divisor is
  -- 0, and Limit if a result exceeds the limit of the size of numbers
  abbrev pub times : Join
  times mark left right =
      if is_inverse mark then quotient_of limit (part_place mark) binding left right.constant else product_of_forms limit (part_place mark) binding left right

-- ---- expressions

-- the form of the element of a variable at a tuple; the form 0 without a tuple (None), for example
-- because a lead or a lag in the indices reaches no label
abbrev pub element_form : ℕ → Option (List ℕ) → Form
element_form name None = zero_form
element_form name (Some t) = column_form (record { symbol = name; tuple = t })

module _ {F : Type 0} (number_of : F → Number) (limit : ℕ) (state : State) where
  -- the constant form of an expression without variables, whose first character is at this place,
  -- under a binding of sets to labels; or the first fault, which is Undefined at this place if the
  -- value is no number
  abbrev pub form_of_constant : Place → Pairs → tree.Tree F → Answer Form
  form_of_constant at binding e = value number_of limit state binding e and_then form_of at binding

  abbrev mutual
    -- the linear form of an expression that contains a variable without suffix and begins at this
    -- place, under a binding of sets to labels; or the first fault. Each fold is read as a sum: any
    -- other fold is not linear if its body has variables. An operand under a guard that does not
    -- hold has the form 0.
    pub linear : Place → Pairs → tree.Tree F → Answer Form
    linear at binding (tree.reference place name suffix indices) =
        in_order (labels number_of limit state binding indices) and_then λ those. Ok (element_form name (tuple_of those))
    linear at binding (tree.fold_over place op control body) =
        domain number_of limit state binding place control and_then λ elements.
        joined_forms (plus limit binding) (Some zero_form) (map (λ element. (signed place false, linear place (controlled binding (sets_of control) element) body)) elements)
    linear at binding (tree.negated operand) =
        linear at binding operand and_then λ form. scaled_form limit at binding false form (neg_ℚ (whole (pos 1)))
    linear at binding (tree.sum parts) =
        chained binding (sum_step limit binding) (plus limit binding) (values_first state parts) (values number_of limit state binding parts) (forms binding parts)
    linear at binding (tree.product parts) =
        chained binding (product_step limit binding) (times limit binding) (values_first state parts) (values number_of limit state binding parts) (forms binding parts)
    linear at binding (tree.guarded operand guards) =
        each_holds (unmarked (values number_of limit state binding guards)) and_then λ hold. if hold then linear at binding operand else Ok zero_form
    linear at binding other = form_of_constant at binding other

    -- the forms of the terms of a sum or the factors of a product, each with its mark
    pub forms : Pairs → tree.Parts F → List (Mark × Answer Form)
    forms binding tree.no_part = []
    forms binding (tree.part mark part rest) =
        (mark, (if has_variables state part then linear (part_place mark) binding part else form_of_constant (part_place mark) binding part)) ∷ forms binding rest

  -- the affine form of an expression whose first character is at this place, under a binding of
  -- sets to labels; or the first fault
  abbrev pub affine : Place → Pairs → tree.Tree F → Answer Form
  affine at binding e = if has_variables state e then linear at binding e else form_of_constant at binding e
