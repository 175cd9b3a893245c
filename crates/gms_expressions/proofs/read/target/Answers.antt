use Rattle.std.proofs.Common.{◌≡◌, map}
use Rattle.gms_grammar.specs.GamsGrammar.{Target}
use Rattle.gms_ast.specs.Trees.{reference}
use Rattle.gms_ast.specs.TreeView.{indices_of, index_tree}
use Rattle.gms_ast.specs.Numbers.{indices_in_numbers}
use Rattle.gms_expressions.specs.InnerReadings.{IsTarget}
use Rattle.gms_expressions.specs.ExpressionTrees as trees
use Rattle.gms_expressions.proofs.Opening.{said_of, went_on}
use Rattle.gms_expressions.proofs.read.target.Goals as goal

pub returns-clause-read : goal.returns-clause-read
returns-clause-read g c = said_of g.F.ExactField.limit (λ source. IsTarget g.F.ExactField.value source) Target
    (λ source names labels tree part. reference part.at part.name part.suffix (indices_in_numbers g.F.ExactField.value (indices_of (map index_tree part.indices))) ≡ trees.target source names labels tree) (λ source names labels tree part m. m)
    c.reader.result c.args.from c.taken-tables.result c.target-read.new.tables c.target-read.result c.reader.ensures.source c.reader.ensures.tokens c.reader.ensures.unclosed c.taken-tables.ensures.names c.taken-tables.ensures.labels c.give_back.ensures.names c.give_back.ensures.labels c.target-read.ensures

pub returns-clause-extended : goal.returns-clause-extended
returns-clause-extended g c =
    went_on _ _ _ c.reader.result c.args.from c.taken-tables.result c.target-read.new.tables c.target-read.result c.taken-tables.ensures.names c.taken-tables.ensures.labels c.give_back.ensures.names c.give_back.ensures.labels c.target-read.ensures
