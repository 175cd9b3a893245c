use Rattle.std.proofs.Common.{sym, subst}
use Rattle.gms_grammar.specs.Grammar.{the}
use Rattle.gms_expressions.specs.declared.grammar.Inner.{Inner}
use Rattle.gms_expressions.specs.InnerReadings.{IsExpression, meaning_of, nonterminal_of}
use Rattle.gms_expressions.proofs.grammar.+nested.Goals as goal

pub returns-in-Expression : goal.returns-in-Expression
returns-in-Expression g c = λ d. subst (λ (what : Inner). IsExpression g.F.ExactField.limit g.F.ExactField.value (meaning_of what) (the (nonterminal_of what)) d.args.reader d.args.at d.args.tables.now d.choice.new.tables d.choice.result) (sym d.in-Expression.is) d.choice.ensures

pub returns-in-Condition : goal.returns-in-Condition
returns-in-Condition g c = λ d. subst (λ (what : Inner). IsExpression g.F.ExactField.limit g.F.ExactField.value (meaning_of what) (the (nonterminal_of what)) d.args.reader d.args.at d.args.tables.now d.condition.new.tables d.condition.result) (sym d.in-Condition.is) d.condition.ensures
