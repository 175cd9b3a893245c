use Rattle.std.proofs.Common.{◌≡◌}
use Rattle.gms_grammar.specs.GamsGrammar.{Primary}
use Rattle.gms_ast.specs.TreeView.{tree_of}
use Rattle.gms_ast.specs.Numbers.{in_numbers}
use Rattle.gms_expressions.specs.InnerReadings.{IsMeant}
use Rattle.gms_expressions.specs.ExpressionTrees as trees
use Rattle.gms_expressions.proofs.Opening.{said_of, went_on}
use Rattle.gms_expressions.proofs.read.primary.Goals as goal

pub returns-clause-read : goal.returns-clause-read
returns-clause-read g c = said_of g.F.ExactField.limit (λ source. IsMeant g.F.ExactField.value source trees.primary) Primary
    (λ source names labels tree part. in_numbers g.F.ExactField.value (tree_of part) ≡ trees.primary source names labels tree) (λ source names labels tree part m. m.is)
    c.reader.result c.args.from c.taken-tables.result c.primary-read.new.tables c.primary-read.result c.reader.ensures.source c.reader.ensures.tokens c.reader.ensures.unclosed c.taken-tables.ensures.names c.taken-tables.ensures.labels c.give_back.ensures.names c.give_back.ensures.labels c.primary-read.ensures

pub returns-clause-extended : goal.returns-clause-extended
returns-clause-extended g c =
    went_on _ _ _ c.reader.result c.args.from c.taken-tables.result c.primary-read.new.tables c.primary-read.result c.taken-tables.ensures.names c.taken-tables.ensures.labels c.give_back.ensures.names c.give_back.ensures.labels c.primary-read.ensures
