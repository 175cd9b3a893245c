use Rattle.gms_ast.specs.TreeView.{tree_of, control_tree}
use Rattle.gms_ast.specs.Numbers.{in_numbers, control_in_numbers}
use Rattle.gms_grammar.specs.GamsGrammar.{Expression, Primary, Control, Target}
use Rattle.gms_expressions.specs.ExpressionTrees as trees
use Rattle.gms_laws.specs.Parts.{meant_target}
use Rattle.gms_laws.proofs.OnePart.{one_part, one_fault, not_both, not_neither, same_meaning}
use Rattle.gms_laws.proofs.parts.part_laws.Goals as goal

pub returns-clause-one_part : goal.returns-clause-one_part
returns-clause-one_part g c limit source n before after later tokens rest others one other p q = one_part limit source n before tokens after later rest others one other p q

pub returns-clause-one_expression : goal.returns-clause-one_expression
returns-clause-one_expression g c source before after later tokens rest others one other p q =
    same_meaning g.F.ExactField.limit source Expression (λ part. in_numbers g.F.ExactField.value (tree_of part)) (trees.expression source) before after later tokens rest others one other p q

pub returns-clause-one_primary : goal.returns-clause-one_primary
returns-clause-one_primary g c source before after later tokens rest others one other p q =
    same_meaning g.F.ExactField.limit source Primary (λ part. in_numbers g.F.ExactField.value (tree_of part)) (trees.primary source) before after later tokens rest others one other p q

pub returns-clause-one_control : goal.returns-clause-one_control
returns-clause-one_control g c source before after later tokens rest others one other p q =
    same_meaning g.F.ExactField.limit source Control (λ part. control_in_numbers g.F.ExactField.value (control_tree part)) (trees.control source) before after later tokens rest others one other p q

pub returns-clause-one_target : goal.returns-clause-one_target
returns-clause-one_target g c source before after later tokens rest others one other p q =
    same_meaning g.F.ExactField.limit source Target (meant_target g.F.ExactField.value) (trees.target source) before after later tokens rest others one other p q

pub returns-clause-one_fault : goal.returns-clause-one_fault
returns-clause-one_fault g c limit source n before tokens one other f h = one_fault limit source n before tokens one other f h

pub returns-clause-not_both : goal.returns-clause-not_both
returns-clause-not_both g c limit source n before after tokens rest part fault p f = not_both limit source n before tokens after rest part fault p f

pub returns-clause-not_neither : goal.returns-clause-not_neither
returns-clause-not_neither g c limit source n before tokens none = not_neither limit source n before tokens none
