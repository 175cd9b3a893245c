use Rattle.std.proofs.Common.{◌≡◌}
use Rattle.gms_grammar.specs.GamsGrammar.{Expression}
use Rattle.gms_ast.specs.TreeView.{tree_of}
use Rattle.gms_ast.specs.Numbers.{in_numbers}
use Rattle.gms_expressions.specs.InnerReadings.{IsMeant}
use Rattle.gms_expressions.specs.ExpressionTrees as trees
use Rattle.gms_expressions.proofs.Opening.{said_of, went_on}
use Rattle.gms_expressions.proofs.read.expression.Goals as goal

pub returns-clause-read : goal.returns-clause-read
returns-clause-read g c = said_of g.F.ExactField.limit (λ source. IsMeant g.F.ExactField.value source trees.expression) Expression
    (λ source names labels tree part. in_numbers g.F.ExactField.value (tree_of part) ≡ trees.expression source names labels tree) (λ source names labels tree part m. m.is)
    c.reader.result c.args.from c.taken-tables.result c.nested-read.new.tables c.nested-read.result c.reader.ensures.source c.reader.ensures.tokens c.reader.ensures.unclosed c.taken-tables.ensures.names c.taken-tables.ensures.labels c.give_back.ensures.names c.give_back.ensures.labels c.nested-read.ensures

pub returns-clause-extended : goal.returns-clause-extended
returns-clause-extended g c =
    went_on _ _ _ c.reader.result c.args.from c.taken-tables.result c.nested-read.new.tables c.nested-read.result c.taken-tables.ensures.names c.taken-tables.ensures.labels c.give_back.ensures.names c.give_back.ensures.labels c.nested-read.ensures
