-- What an operation does with a number.
use Rattle.std.specs.Prelude.{◌≢◌, ℕ, pos}
use Rattle.gq_number.specs.Number.{Number, whole}
use Rattle.lp_form.specs.declared.terms.Operation.{Operation}
use Rattle.lp_form.specs.declared.terms.Operation.TheVariants.{Times, Over}
use Rattle.lp_form.specs.Forms.{Step, product_form_step, quotient_step}

-- the step on a number
abbrev pub step_by : {F : Type 0} → (F → Number) → ℕ → Operation F → Number → Step
step_by value limit (Times y) x = product_form_step limit x (value y)
step_by value limit (Over y) x = quotient_step limit x (value y)

-- an operation does not divide by 0
abbrev pub CanDivide : {F : Type 0} → (F → Number) → Operation F → Type 0
CanDivide value (Times y) = Unit {0}
CanDivide value (Over y) = value y ≢ whole (pos 0)
