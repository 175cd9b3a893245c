use Rattle.std.proofs.Common.{sym, subst}
use Rattle.gms_grammar.specs.Grammar.{the}
use Rattle.gms_parse.specs.declared.declaration.Form.{Form}
use Rattle.gms_parse.specs.InnerReadings.{AnswersPart}
use Rattle.gms_parse.specs.InnerMeanings.{IsDeclared, item_part}
use Rattle.gms_parse.proofs.reader.Reader.item.Goals as goal

pub returns-in-Set : goal.returns-in-Set
returns-in-Set g c = subst (λ (form : Form). AnswersPart g.F.ExactField.limit (IsDeclared g.F.ExactField.value c.args.self.now.source.now form) (the (item_part form)) c.args.self.now c.args.at c.args.tables.now c.data_item.new.tables c.data_item.result) (sym c.in-Set.is) c.data_item.ensures

pub returns-in-Parameter : goal.returns-in-Parameter
returns-in-Parameter g c = subst (λ (form : Form). AnswersPart g.F.ExactField.limit (IsDeclared g.F.ExactField.value c.args.self.now.source.now form) (the (item_part form)) c.args.self.now c.args.at c.args.tables.now c.data_item-in-Parameter.new.tables c.data_item-in-Parameter.result) (sym c.in-Parameter.is) c.data_item-in-Parameter.ensures

pub returns-in-Scalar : goal.returns-in-Scalar
returns-in-Scalar g c = subst (λ (form : Form). AnswersPart g.F.ExactField.limit (IsDeclared g.F.ExactField.value c.args.self.now.source.now form) (the (item_part form)) c.args.self.now c.args.at c.args.tables.now c.scalar_item.new.tables c.scalar_item.result) (sym c.in-Scalar.is) c.scalar_item.ensures

pub returns-in-Plain : goal.returns-in-Plain
returns-in-Plain g c = subst (λ (form : Form). AnswersPart g.F.ExactField.limit (IsDeclared g.F.ExactField.value c.args.self.now.source.now form) (the (item_part form)) c.args.self.now c.args.at c.args.tables.now c.plain_item.new.tables c.plain_item.result) (sym c.in-Plain.is) c.plain_item.ensures
