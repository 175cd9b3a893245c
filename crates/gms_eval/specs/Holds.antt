-- When a condition holds (GAMS User's Guide, "Conditional Expressions, Assignments and Equations").
use Rattle.std.specs.Prelude.{ℕ, Bool}
use Rattle.gq_number.specs.Number.{Number}
use Rattle.gms_ast.specs.Trees.{Tree}
use Rattle.gms_store.specs.State.{State}
use Rattle.gms_eval.specs.Bindings.{Pairs}
use Rattle.gms_eval.specs.Faults.{Answer}
use Rattle.gms_eval.specs.Value.{value, when_so}

-- whether a condition holds in a state, under a binding: its value is not the number 0. If its
-- evaluation has a fault, the answer is the first fault. `number_of` gives the numbers that the
-- constants in the condition mean, and `limit` is the limit of the size of numbers
abbrev pub holds : {F : Type 0} → (F → Number) → ℕ → State → Pairs → Tree F → Answer Bool
holds number_of limit state binding condition = when_so (value number_of limit state binding condition)
