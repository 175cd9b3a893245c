use Rattle.std.proofs.Common.{true, false, [], ◌∷◌, refl}
use Rattle.gms_grammar.specs.Grammar.{the, ◌∣◌}
use Rattle.gms_grammar.specs.GamsGrammar.{LagAmount, Expression, token, name, bracketed}
use Rattle.gms_grammar.specs.declared.terminal.Terminal.TheVariants.{Number, Name, Suffix, LeftParen}
use Rattle.gms_grammar.specs.Reading.{in_neither}
use Rattle.gms_expressions.specs.ExpressionTrees.{lag_amount}
use Rattle.gms_expressions.specs.InnerReadings.{seen_from}
use Rattle.gms_expressions.proofs.Parts.{in_node, in_right}
use Rattle.gms_expressions.proofs.Signs.{answered, got_the, got_left, got_right}
use Rattle.gms_expressions.proofs.Steps.{refuses_at, refuses_the, refuses_left, refuses_right}
use Rattle.gms_expressions.proofs.Leading.{leads_of, named_leads, IsNone, leads_of_none}
use Rattle.gms_expressions.proofs.Extending.{went_same}
use Rattle.gms_expressions.proofs.grammar.Grammar.lag_amount.Goals as goal

pub returns-in-Number : goal.returns-in-Number
returns-in-Number g c =
    let led = leads_of (token Number) (seen_from c.args.self.now.reader c.args.at) Number refl c.next.ensures c.in-Number.is in
    answered c.number.result (c.number.ensures c.args.tables.now)
    (λ b got. got_the LagAmount (got_left {whole = in_node lag_amount} led got (λ sense. refl)) (λ sense. refl))
    (λ e r. refuses_the LagAmount (refuses_left led r))

pub returns-in-Name : goal.returns-in-Name
returns-in-Name g c =
    let other = named_leads (token Number) (seen_from c.args.self.now.reader c.args.at) false refl c.next.ensures c.in-Name.is refl refl in
    let led = named_leads name (seen_from c.args.self.now.reader c.args.at) true refl c.next.ensures c.in-Name.is refl refl in
    let any = named_leads (name ∣ bracketed (the Expression)) (seen_from c.args.self.now.reader c.args.at) true refl c.next.ensures c.in-Name.is refl refl in
    answered c.scalar.result c.scalar.ensures
    (λ b got. got_the LagAmount (got_right {whole = in_node lag_amount} other any (got_left {whole = in_right (in_node lag_amount)} led got (λ sense. refl)) (λ sense. refl)) (λ sense. refl))
    (λ e r. refuses_the LagAmount (refuses_right other any (refuses_left led r)))

pub returns-in-LeftParen : goal.returns-in-LeftParen
returns-in-LeftParen g c =
    let other = leads_of (token Number) (seen_from c.args.self.now.reader c.args.at) LeftParen refl c.next.ensures c.in-LeftParen.is in
    let unnamed = leads_of name (seen_from c.args.self.now.reader c.args.at) LeftParen refl c.next.ensures c.in-LeftParen.is in
    let led = leads_of (bracketed (the Expression)) (seen_from c.args.self.now.reader c.args.at) LeftParen refl c.next.ensures c.in-LeftParen.is in
    let any = leads_of (name ∣ bracketed (the Expression)) (seen_from c.args.self.now.reader c.args.at) LeftParen refl c.next.ensures c.in-LeftParen.is in
    answered c.bracketed.result c.bracketed.ensures
    (λ b got. got_the LagAmount (got_right {whole = in_node lag_amount} other any (got_right {whole = in_right (in_node lag_amount)} unnamed led got (λ sense. refl)) (λ sense. refl)) (λ sense. refl))
    (λ e r. refuses_the LagAmount (refuses_right other any (refuses_right unnamed led r)))

pub returns-in_default : goal.returns-in_default
returns-in_default g c =
    let none : IsNone (Number ∷ Name ∷ Suffix ∷ LeftParen ∷ []) c.next.result = (c.in_default.not-Number, (c.in_default.not-Name, (c.in_default.not-Suffix, (c.in_default.not-LeftParen, tt)))) in
    let first = leads_of_none (token Number) (seen_from c.args.self.now.reader c.args.at) (Number ∷ Name ∷ Suffix ∷ LeftParen ∷ []) refl refl c.next.ensures none in
    let others = leads_of_none (name ∣ bracketed (the Expression)) (seen_from c.args.self.now.reader c.args.at) (Number ∷ Name ∷ Suffix ∷ LeftParen ∷ []) refl refl c.next.ensures none in
    refuses_the LagAmount (refuses_at (went_same c.args.tables.now) (in_neither first others) c.unexpected.ensures)
