-- The contracts of the steps by which values are joined.
use Rattle.std.specs.Prelude.{ℕ, Bool, false, not, ◌&&◌, Option, Some, None, Ok, if◌then◌else◌}
use Rattle.gq_extended.specs.Extended.{Extended, Outcome, sum, difference, product, quotient}
use Rattle.gms_ast.specs.Trees.{Mark}
use Rattle.gms_eval.specs.Nodes.{ValueStep, is_so}
use Rattle.gms_eval.specs.Faults.{Answer}
use Rattle.gms_eval.specs.declared.steps.Signed.{Signed}
use Rattle.gms_eval.specs.declared.steps.Signed.TheVariants as signed

-- the value so far joined with that of the next part, which gives the first value
abbrev pub after : ValueStep → Mark → Option Extended → Extended → Answer Extended
after step mark None y = Ok y
after step mark (Some x) y = step mark x (Ok y)

-- a step of a sum or a product: the value so far with a part
abbrev pub signed_outcome : ℕ → Signed → Bool → Extended → Extended → Outcome
signed_outcome limit signed.Sum inverse x y = if inverse then difference limit x y else sum limit x y
signed_outcome limit signed.Product inverse x y = if inverse then quotient limit x y else product limit x y

-- whether `and` does not evaluate its right operand
abbrev pub is_left_by_and : Option Extended → Bool
is_left_by_and None = false
is_left_by_and (Some x) = not (is_so x)

-- whether `or`, or `xor`, does not evaluate its right operand
abbrev pub is_left_by_or : Bool → Option Extended → Bool
is_left_by_or exclusive None = false
is_left_by_or exclusive (Some x) = not exclusive && is_so x
