-- The results of the calls on affine forms: one step for the constants, and one for each key.
use Rattle.std.specs.Prelude.{◌≡◌, ℕ, pos, Bool, true, false, List, [], ◌∷◌, Some, None, Result, Ok, Err, map, if◌then◌else◌}
use Rattle.std.specs.declared.cmp.Ordering.TheVariants.{Less}
use Rattle.gq_number.specs.Number.{Number, whole, ◌+ℚ◌, ◌-ℚ◌, ◌*ℚ◌, ◌/ℚ◌, neg_ℚ}
use Rattle.gq_field.specs.Fits.{fits, sum_fits}
use Rattle.lp_form.specs.declared.key.Key.{Key}
use Rattle.lp_form.specs.declared.fault.FormFault.{FormFault}
use Rattle.lp_form.specs.declared.fault.FormFault.TheVariants as fault
use Rattle.lp_form.specs.Keys.{key_cmp, same_key}
use Rattle.lp_form.specs.Affine.{Affine, IsForm}

-- the number of a key in parallel lists: the keys, and a value of the field `F` for each, of which
-- `value` gives the number; 0 if the key has no value in them
abbrev pub number_at : {F : Type 0} → (F → Number) → List Key → List F → Key → Number
number_at value [] numbers key = whole (pos 0)
number_at value (k ∷ keys) [] key = whole (pos 0)
number_at value (k ∷ keys) (x ∷ numbers) key = if same_key k key then value x else number_at value keys numbers key

-- the number that a form has at a key, as `value` gives it; 0 if the form does not have the key
abbrev pub coefficient : {F : Type 0} → (F → Number) → Affine F → Key → Number
coefficient value form key = number_at value form.keys form.numbers key

-- A step of arithmetic: the number that it gives, and whether it fits. Each kind of step tells when
-- it fits: certain integers of its computation are at most a limit in magnitude.
pub record Step : Type 0 where
  pub number : Number
  pub fits : Bool

-- A step of arithmetic that gives the constant of a form, and one that gives the number at each
-- key.
pub record Entrywise : Type 0 where
  pub constant : Step
  pub at : Key → Step

-- the step that adds two numbers; it fits if each integer that the addition of the two fractions
-- computes (`sum_fits`) is at most `limit` in magnitude
abbrev pub sum_form_step : ℕ → Number → Number → Step
sum_form_step limit x y = record { number = x +ℚ y; fits = sum_fits limit x y }

-- the step that subtracts y from x; it fits under the same condition as the step that adds the
-- negated y to x (`sum_form_step`)
abbrev pub difference_step : ℕ → Number → Number → Step
difference_step limit x y = record { number = x -ℚ y; fits = sum_fits limit x (neg_ℚ y) }

-- the step that multiplies two numbers; it fits if the product's numerator and denominator are at
-- most `limit` in magnitude
abbrev pub product_form_step : ℕ → Number → Number → Step
product_form_step limit x y = record { number = x *ℚ y; fits = fits limit (x *ℚ y) }

-- the step that divides x by y, with the quotient 0 if y is 0; it fits if the quotient's numerator
-- and denominator are at most `limit` in magnitude
abbrev pub quotient_step : ℕ → Number → Number → Step
quotient_step limit x y = record { number = x /ℚ y; fits = fits limit (x /ℚ y) }

-- a binary step applied to the constants of two forms, and to their numbers at each key
abbrev pub of_two : {F : Type 0} → (Number → Number → Step) → (F → Number) → Affine F → Affine F → Entrywise
of_two step value a b = record { constant = step (value a.constant) (value b.constant); at = λ key. step (coefficient value a key) (coefficient value b key) }

-- a binary step with the number x as its right operand, applied to the constant of a form and to
-- the form's number at each key
abbrev pub by_number : {F : Type 0} → (Number → Number → Step) → (F → Number) → Affine F → Number → Entrywise
by_number step value a x = record { constant = step (value a.constant) x; at = λ key. step (coefficient value a key) x }

-- Ok: all steps fit, and the form, which satisfies `IsForm`, has the numbers that they give. Limit:
-- the first step that does not fit, that of the constant (None) or of a key; the constant comes
-- first, then the keys in order. Memory may be the answer whatever the steps are.
abbrev pub IsEntrywiseAnswer : {F : Type 0} → (F → Number) → Entrywise → Result (Affine F) FormFault → Type 0
IsEntrywiseAnswer value steps (Ok form) =
    (value form.constant ≡ steps.constant.number) × ((key : Key) → coefficient value form key ≡ (steps.at key).number) × (steps.constant.fits ≡ true) × ((key : Key) → (steps.at key).fits ≡ true) × IsForm value form
IsEntrywiseAnswer value steps (Err (fault.Limit None)) = steps.constant.fits ≡ false
IsEntrywiseAnswer value steps (Err (fault.Limit (Some key))) =
    (steps.constant.fits ≡ true) × ((before : Key) → key_cmp before key ≡ Less → (steps.at before).fits ≡ true) × ((steps.at key).fits ≡ false)
IsEntrywiseAnswer value steps (Err fault.Memory) = Unit {0}

-- a step applied to the constant of a form and to its number at each key
abbrev pub changed_form : {F : Type 0} → (F → Number) → (Number → Step) → Affine F → Entrywise
changed_form value step a = record { constant = step (value a.constant); at = λ key. step (coefficient value a key) }

-- The form b is the form a with the constant and each number negated.
pub record IsNegated {F : Type 0} (value : F → Number) (a b : Affine F) : Type 0 where
  pub constant : value b.constant ≡ neg_ℚ (value a.constant)
  pub keys : b.keys ≡ a.keys
  pub numbers : map value b.numbers ≡ map (λ x. neg_ℚ (value x)) a.numbers
