use Rattle.std.proofs.Common.{◌≡◌}
use Rattle.gms_grammar.specs.GamsGrammar.{Control}
use Rattle.gms_ast.specs.TreeView.{control_tree}
use Rattle.gms_ast.specs.Numbers.{control_in_numbers}
use Rattle.gms_expressions.specs.InnerReadings.{IsControl}
use Rattle.gms_expressions.specs.ExpressionTrees as trees
use Rattle.gms_expressions.proofs.Opening.{said_of, went_on}
use Rattle.gms_expressions.proofs.read.control.Goals as goal

pub returns-clause-read : goal.returns-clause-read
returns-clause-read g c = said_of g.F.ExactField.limit (λ source. IsControl g.F.ExactField.value source) Control
    (λ source names labels tree part. control_in_numbers g.F.ExactField.value (control_tree part) ≡ trees.control source names labels tree) (λ source names labels tree part m. m)
    c.reader.result c.args.from c.taken-tables.result c.control-read.new.tables c.control-read.result c.reader.ensures.source c.reader.ensures.tokens c.reader.ensures.unclosed c.taken-tables.ensures.names c.taken-tables.ensures.labels c.give_back.ensures.names c.give_back.ensures.labels c.control-read.ensures

pub returns-clause-extended : goal.returns-clause-extended
returns-clause-extended g c =
    went_on _ _ _ c.reader.result c.args.from c.taken-tables.result c.control-read.new.tables c.control-read.result c.taken-tables.ensures.names c.taken-tables.ensures.labels c.give_back.ensures.names c.give_back.ensures.labels c.control-read.ensures
