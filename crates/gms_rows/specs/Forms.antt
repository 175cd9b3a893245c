-- Affine forms over exact numbers, and steps on them: on the constants, and on the numbers at each
-- key (Chvatal, "Linear Programming", chapter 1).
use Rattle.std.specs.Prelude.{ℕ, pos, Bool, true, false, not, ◌==◌, List, [], ◌∷◌, ◌++◌, length, map, find, Option, Some, None, unwrap_or, Result, Ok, Err, if◌then◌else◌}
use Rattle.std.specs.FinMap as finite
use Rattle.gq_number.specs.Number.{Number, whole}
use Rattle.gms_labels.specs.declared.place.Place.{Place}
use Rattle.gms_store.specs.State.{same_number}
use Rattle.gq_extended.specs.Extended.{Extended, number}
use Rattle.gms_eval.specs.Bindings.{Pairs}
use Rattle.gms_eval.specs.Faults.{Answer, faulted}
use Rattle.gms_eval.specs.declared.stop.StopKind.TheVariants.{Limit, Divide}
use Rattle.lp_form.specs.declared.key.Key.{Key}
use Rattle.lp_form.specs.Keys.{key_cmp}
use Rattle.lp_form.specs.Affine.{Affine}
use Rattle.lp_form.specs.Forms.{Step, sum_form_step, difference_step, product_form_step, quotient_step}

-- An affine form: a constant, and a number for each of finitely many elements of variables, in the
-- order of keys.
pub record Form : Type 0 where
  pub constant : Number
  pub numbers : finite.FinMap key_cmp Number

-- each key with the number that the value at its position in the other list means; what the longer
-- list has beyond the shorter is left out
abbrev pub keyed : {F : Type 0} → (F → Number) → List Key → List F → List (Key × Number)
keyed value [] numbers = []
keyed value (key ∷ keys) [] = []
keyed value (key ∷ keys) (x ∷ numbers) = (key, value x) ∷ keyed value keys numbers

-- the affine form that an `Affine` of the code represents, by its constant and its lists of keys
-- and of values; `value` gives the number that a value means
abbrev pub form_in : {F : Type 0} → (F → Number) → Affine F → Form
form_in value form =
    record { constant = value form.constant; numbers = finite.from_entries {R = key_cmp} (keyed value form.keys form.numbers) }

-- the form that is this constant: it has no element of a variable
abbrev pub constant_form : Number → Form
constant_form x = record { constant = x; numbers = finite.empty }

-- the form of 0
abbrev pub zero_form : Form
zero_form = constant_form (whole (pos 0))

-- the form that has the number 1 at one element of a variable, and the constant 0
abbrev pub column_form : Key → Form
column_form key = record { constant = whole (pos 0); numbers = finite.insert finite.empty key (whole (pos 1)) }

-- the number of a form at a key; 0 if the form does not have the key
abbrev pub number_of_key : Form → Key → Number
number_of_key form key = unwrap_or (finite.get form.numbers key) (whole (pos 0))

-- whether a form is constant: it has no element of a variable
abbrev pub is_number : Form → Bool
is_number form = length (finite.keys form.numbers) == 0

-- whether a number is not 0
abbrev pub is_not_zero : Number → Bool
is_not_zero x = not (same_number x (whole (pos 0)))

-- the keys with the numbers that `number_at` gives them, without those whose number is 0
abbrev pub numbers_at : (Key → Number) → List Key → finite.FinMap key_cmp Number
numbers_at number_at keys =
    let all = finite.from_entries {R = key_cmp} (map (λ key. (key, number_at key)) keys) in
    finite.retain_keys all (λ key. is_not_zero (number_at key))

-- the keys of two forms, in order, without repetition
abbrev pub keys_of_two : Form → Form → List Key
keys_of_two a b = finite.keys (finite.from_entries {R = key_cmp} (finite.entries a.numbers ++ finite.entries b.numbers))

-- A step has a resulting number, and a flag whether its integers stay within a limit, that is,
-- whether it fits. Ok: the form with the results of the step `constant` on the constant and of the
-- step `at` at each of these keys; a key with the result 0 is left out. Err: the first step that
-- does not fit, that of the constant (None) or of a key; the constant comes first.
abbrev pub entrywise : Step → (Key → Step) → List Key → Result Form (Option Key)
entrywise constant at keys =
    if not constant.fits then Err None else
    elim (find (λ key. not (at key).fits) keys) [
      | Some key ↦ Err (Some key)
      | None ↦ Ok (record { constant = constant.number; numbers = numbers_at (λ key. (at key).number) keys })
    ]

-- a binary step applied to the constants of two forms, and to their numbers at each key of either,
-- with the result of `entrywise`: the form of the results, or the first step that does not fit
abbrev pub entries_of_two : (Number → Number → Step) → Form → Form → Result Form (Option Key)
entries_of_two step a b =
    entrywise (step a.constant b.constant) (λ key. step (number_of_key a key) (number_of_key b key)) (keys_of_two a b)

-- a binary step with the number x as its right operand, applied to the constant of a form and to
-- the form's number at each key, with the result of `entrywise`: the form of the results, or the
-- first step that does not fit
abbrev pub entries_by : (Number → Number → Step) → Form → Number → Result Form (Option Key)
entries_by step a x = entrywise (step a.constant x) (λ key. step (number_of_key a key) x) (finite.keys a.numbers)

-- the operand of a step on a form: the constant for None, else the form's number at this key
abbrev pub number_in_form : Form → Option Key → Extended
number_in_form form None = number form.constant
number_in_form form (Some key) = number (number_of_key form key)

-- the resulting form; or the fault Limit at this place, under this binding of sets to labels, of
-- the step that does not fit: `left` and `right` give its operands, by its key, or None for the
-- step on the constant
abbrev pub where_fits : Place → Pairs → (Option Key → Extended) → (Option Key → Extended) → Result Form (Option Key) → Answer Form
where_fits at binding left right (Ok form) = Ok form
where_fits at binding left right (Err key) = Err (faulted Limit at binding (left key) (right key))

module _ (limit : ℕ) (at : Place) (binding : Pairs) where
  -- the sum of the forms `a` and `b`, or, if `subtracts` is true, their difference; or the fault
  -- Limit of the first addition or subtraction, on the constants or on the numbers at a key, that
  -- exceeds the limit of the size of numbers
  abbrev pub sum_of_forms : Bool → Form → Form → Answer Form
  sum_of_forms subtracts a b =
      where_fits at binding (number_in_form a) (number_in_form b) (entries_of_two (if subtracts then difference_step limit else sum_form_step limit) a b)

  -- a form times a number, or, if `divides` is true, over a number other than 0; or the fault Limit
  -- if a product or a quotient exceeds the limit of the size of numbers
  abbrev pub scaled_form : Bool → Form → Number → Answer Form
  scaled_form divides a x =
      where_fits at binding (number_in_form a) (λ key. number x) (entries_by (if divides then quotient_step limit else product_form_step limit) a x)

  -- a number times a form; or, if a product exceeds the limit of the size of numbers, the fault
  -- Limit, whose left operand is the number, and whose right one is the form's constant or its
  -- number at a key
  abbrev pub multiple : Number → Form → Answer Form
  multiple x a = where_fits at binding (λ key. number x) (number_in_form a) (entries_by (product_form_step limit) a x)

  -- the product of two forms, one of which is constant; or the fault Limit if a product of their
  -- numbers exceeds the limit of the size of numbers
  abbrev pub product_of_forms : Form → Form → Answer Form
  product_of_forms a b = if is_number b then scaled_form false a b.constant else multiple a.constant b

  -- a form over a number; the fault Divide if the number is 0, and Limit if a quotient exceeds the
  -- limit of the size of numbers
  abbrev pub quotient_of : Form → Number → Answer Form
  quotient_of a x = if is_not_zero x then scaled_form true a x else Err (faulted Divide at binding (number a.constant) (number x))
