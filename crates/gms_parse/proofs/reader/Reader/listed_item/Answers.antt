use Rattle.std.proofs.Common.{sym, subst}
use Rattle.gms_grammar.specs.Grammar.{the}
use Rattle.gms_parse.specs.declared.data.ListOf.{ListOf}
use Rattle.gms_parse.specs.InnerReadings.{AnswersData}
use Rattle.gms_parse.specs.InnerMeanings.{IsListed, listed_part}
use Rattle.gms_parse.proofs.reader.Reader.listed_item.Goals as goal

pub returns-in-Elements : goal.returns-in-Elements
returns-in-Elements g c = subst (λ (list : ListOf). AnswersData g.F.ExactField.limit (IsListed g.F.ExactField.value c.args.self.now.source.now list) (the (listed_part list)) c.args.self.now c.args.at c.args.tables.now c.lone_element.new.tables c.lone_element.result) (sym c.in-Elements.is) c.lone_element.ensures

pub returns-in-Entries : goal.returns-in-Entries
returns-in-Entries g c = subst (λ (list : ListOf). AnswersData g.F.ExactField.limit (IsListed g.F.ExactField.value c.args.self.now.source.now list) (the (listed_part list)) c.args.self.now c.args.at c.args.tables.now c.entry.new.tables c.entry.result) (sym c.in-Entries.is) c.entry.ensures
