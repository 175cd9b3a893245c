use Rattle.std.proofs.Common.{true, false, [], ◌∷◌, refl}
use Rattle.gms_grammar.specs.Grammar.{the, ◌·◌, ◌∣◌}
use Rattle.gms_grammar.specs.Reading.{in_neither}
use Rattle.gms_grammar.specs.GamsGrammar.{Primary, Target, Call, Fold, Expression, ExpressionList, token, name, any_of, bracketed}
use Rattle.gms_grammar.specs.declared.terminal.Terminal.TheVariants.{Number, Infinity, NotAvailable, YesNo, Name, Suffix, Function, OrdCard, FoldOp, LeftParen}
use Rattle.gms_expressions.specs.ExpressionTrees.{primary, call_of}
use Rattle.gms_expressions.specs.InnerReadings.{seen_from}
use Rattle.gms_expressions.proofs.Parts.{in_node, in_right}
use Rattle.gms_expressions.proofs.Signs.{answered, got_the, got_left, got_right}
use Rattle.gms_expressions.proofs.Steps.{refuses_at, refuses_the, refuses_left, refuses_right}
use Rattle.gms_expressions.proofs.Leading.{leads_of, constant_leads, named_leads, IsNone, leads_of_none}
use Rattle.gms_expressions.proofs.Extending.{went_same}
use Rattle.gms_expressions.proofs.grammar.Grammar.primary.Goals as goal

pub returns-in-Number : goal.returns-in-Number
returns-in-Number g c =
    let led = constant_leads (any_of (Number ∷ Infinity ∷ NotAvailable ∷ YesNo ∷ [])) (seen_from c.args.self.now.reader c.args.at) refl c.next.ensures c.in-Number.is refl refl refl refl in
    answered c.constant.result (c.constant.ensures c.args.tables.now)
    (λ b got. got_the Primary (got_left {whole = in_node primary} led got (λ sense. refl)) (λ sense. refl))
    (λ e r. refuses_the Primary (refuses_left led r))

pub returns-in-Name : goal.returns-in-Name
returns-in-Name g c =
    let other = named_leads (any_of (Number ∷ Infinity ∷ NotAvailable ∷ YesNo ∷ [])) (seen_from c.args.self.now.reader c.args.at) false refl c.next.ensures c.in-Name.is refl refl in
    let any = named_leads (the Target ∣ the Call ∣ the Fold ∣ bracketed (the Expression)) (seen_from c.args.self.now.reader c.args.at) true refl c.next.ensures c.in-Name.is refl refl in
    let led = named_leads (the Target) (seen_from c.args.self.now.reader c.args.at) true refl c.next.ensures c.in-Name.is refl refl in
    answered c.reference.result c.reference.ensures
    (λ b got. got_the Primary (got_right {whole = in_node primary} other any (got_left {whole = in_right (in_node primary)} led got (λ sense. refl)) (λ sense. refl)) (λ sense. refl))
    (λ e r. refuses_the Primary (refuses_right other any (refuses_left led r)))

pub returns-in-Function : goal.returns-in-Function
returns-in-Function g c =
    let other = leads_of (any_of (Number ∷ Infinity ∷ NotAvailable ∷ YesNo ∷ [])) (seen_from c.args.self.now.reader c.args.at) Function refl c.next.ensures c.in-Function.is in
    let any = leads_of (the Target ∣ the Call ∣ the Fold ∣ bracketed (the Expression)) (seen_from c.args.self.now.reader c.args.at) Function refl c.next.ensures c.in-Function.is in
    let unnamed = leads_of (the Target) (seen_from c.args.self.now.reader c.args.at) Function refl c.next.ensures c.in-Function.is in
    let more = leads_of (the Call ∣ the Fold ∣ bracketed (the Expression)) (seen_from c.args.self.now.reader c.args.at) Function refl c.next.ensures c.in-Function.is in
    let calls = leads_of (the Call) (seen_from c.args.self.now.reader c.args.at) Function refl c.next.ensures c.in-Function.is in
    let led = leads_of (token Function · bracketed (the ExpressionList)) (seen_from c.args.self.now.reader c.args.at) Function refl c.next.ensures c.in-Function.is in
    answered c.call.result c.call.ensures
    (λ b got. got_the Primary (got_right {whole = in_node primary} other any (got_right {whole = in_right (in_node primary)} unnamed more (got_left {whole = in_right (in_right (in_node primary))} calls (got_the {whole = call_of} Call (got_left {whole = in_node call_of} led got (λ sense. refl)) (λ sense. refl)) (λ sense. refl)) (λ sense. refl)) (λ sense. refl)) (λ sense. refl))
    (λ e r. refuses_the Primary (refuses_right other any (refuses_right unnamed more (refuses_left calls (refuses_the Call (refuses_left led r))))))

pub returns-in-OrdCard : goal.returns-in-OrdCard
returns-in-OrdCard g c =
    let other = leads_of (any_of (Number ∷ Infinity ∷ NotAvailable ∷ YesNo ∷ [])) (seen_from c.args.self.now.reader c.args.at) OrdCard refl c.next.ensures c.in-OrdCard.is in
    let any = leads_of (the Target ∣ the Call ∣ the Fold ∣ bracketed (the Expression)) (seen_from c.args.self.now.reader c.args.at) OrdCard refl c.next.ensures c.in-OrdCard.is in
    let unnamed = leads_of (the Target) (seen_from c.args.self.now.reader c.args.at) OrdCard refl c.next.ensures c.in-OrdCard.is in
    let more = leads_of (the Call ∣ the Fold ∣ bracketed (the Expression)) (seen_from c.args.self.now.reader c.args.at) OrdCard refl c.next.ensures c.in-OrdCard.is in
    let calls = leads_of (the Call) (seen_from c.args.self.now.reader c.args.at) OrdCard refl c.next.ensures c.in-OrdCard.is in
    let unled = leads_of (token Function · bracketed (the ExpressionList)) (seen_from c.args.self.now.reader c.args.at) OrdCard refl c.next.ensures c.in-OrdCard.is in
    let led = leads_of (token OrdCard · bracketed name) (seen_from c.args.self.now.reader c.args.at) OrdCard refl c.next.ensures c.in-OrdCard.is in
    answered c.set_call.result c.set_call.ensures
    (λ b got. got_the Primary (got_right {whole = in_node primary} other any (got_right {whole = in_right (in_node primary)} unnamed more (got_left {whole = in_right (in_right (in_node primary))} calls (got_the {whole = call_of} Call (got_right {whole = in_node call_of} unled led got (λ sense. refl)) (λ sense. refl)) (λ sense. refl)) (λ sense. refl)) (λ sense. refl)) (λ sense. refl))
    (λ e r. refuses_the Primary (refuses_right other any (refuses_right unnamed more (refuses_left calls (refuses_the Call (refuses_right unled led r))))))

pub returns-in-FoldOp : goal.returns-in-FoldOp
returns-in-FoldOp g c =
    let other = leads_of (any_of (Number ∷ Infinity ∷ NotAvailable ∷ YesNo ∷ [])) (seen_from c.args.self.now.reader c.args.at) FoldOp refl c.next.ensures c.in-FoldOp.is in
    let any = leads_of (the Target ∣ the Call ∣ the Fold ∣ bracketed (the Expression)) (seen_from c.args.self.now.reader c.args.at) FoldOp refl c.next.ensures c.in-FoldOp.is in
    let unnamed = leads_of (the Target) (seen_from c.args.self.now.reader c.args.at) FoldOp refl c.next.ensures c.in-FoldOp.is in
    let more = leads_of (the Call ∣ the Fold ∣ bracketed (the Expression)) (seen_from c.args.self.now.reader c.args.at) FoldOp refl c.next.ensures c.in-FoldOp.is in
    let uncalled = leads_of (the Call) (seen_from c.args.self.now.reader c.args.at) FoldOp refl c.next.ensures c.in-FoldOp.is in
    let rest = leads_of (the Fold ∣ bracketed (the Expression)) (seen_from c.args.self.now.reader c.args.at) FoldOp refl c.next.ensures c.in-FoldOp.is in
    let led = leads_of (the Fold) (seen_from c.args.self.now.reader c.args.at) FoldOp refl c.next.ensures c.in-FoldOp.is in
    answered c.fold.result c.fold.ensures
    (λ b got. got_the Primary (got_right {whole = in_node primary} other any (got_right {whole = in_right (in_node primary)} unnamed more (got_right {whole = in_right (in_right (in_node primary))} uncalled rest (got_left {whole = in_right (in_right (in_right (in_node primary)))} led got (λ sense. refl)) (λ sense. refl)) (λ sense. refl)) (λ sense. refl)) (λ sense. refl))
    (λ e r. refuses_the Primary (refuses_right other any (refuses_right unnamed more (refuses_right uncalled rest (refuses_left led r)))))

pub returns-in-LeftParen : goal.returns-in-LeftParen
returns-in-LeftParen g c =
    let other = leads_of (any_of (Number ∷ Infinity ∷ NotAvailable ∷ YesNo ∷ [])) (seen_from c.args.self.now.reader c.args.at) LeftParen refl c.next.ensures c.in-LeftParen.is in
    let any = leads_of (the Target ∣ the Call ∣ the Fold ∣ bracketed (the Expression)) (seen_from c.args.self.now.reader c.args.at) LeftParen refl c.next.ensures c.in-LeftParen.is in
    let unnamed = leads_of (the Target) (seen_from c.args.self.now.reader c.args.at) LeftParen refl c.next.ensures c.in-LeftParen.is in
    let more = leads_of (the Call ∣ the Fold ∣ bracketed (the Expression)) (seen_from c.args.self.now.reader c.args.at) LeftParen refl c.next.ensures c.in-LeftParen.is in
    let uncalled = leads_of (the Call) (seen_from c.args.self.now.reader c.args.at) LeftParen refl c.next.ensures c.in-LeftParen.is in
    let rest = leads_of (the Fold ∣ bracketed (the Expression)) (seen_from c.args.self.now.reader c.args.at) LeftParen refl c.next.ensures c.in-LeftParen.is in
    let unled = leads_of (the Fold) (seen_from c.args.self.now.reader c.args.at) LeftParen refl c.next.ensures c.in-LeftParen.is in
    let led = leads_of (bracketed (the Expression)) (seen_from c.args.self.now.reader c.args.at) LeftParen refl c.next.ensures c.in-LeftParen.is in
    answered c.bracketed.result c.bracketed.ensures
    (λ b got. got_the Primary (got_right {whole = in_node primary} other any (got_right {whole = in_right (in_node primary)} unnamed more (got_right {whole = in_right (in_right (in_node primary))} uncalled rest (got_right {whole = in_right (in_right (in_right (in_node primary)))} unled led got (λ sense. refl)) (λ sense. refl)) (λ sense. refl)) (λ sense. refl)) (λ sense. refl))
    (λ e r. refuses_the Primary (refuses_right other any (refuses_right unnamed more (refuses_right uncalled rest (refuses_right unled led r)))))

pub returns-in_default : goal.returns-in_default
returns-in_default g c =
    let none : IsNone (Number ∷ Infinity ∷ NotAvailable ∷ YesNo ∷ Name ∷ Suffix ∷ Function ∷ OrdCard ∷ FoldOp ∷ LeftParen ∷ []) c.next.result = (c.in_default.not-Number, (c.in_default.not-Infinity, (c.in_default.not-NotAvailable, (c.in_default.not-YesNo, (c.in_default.not-Name, (c.in_default.not-Suffix, (c.in_default.not-Function, (c.in_default.not-OrdCard, (c.in_default.not-FoldOp, (c.in_default.not-LeftParen, tt)))))))))) in
    let first = leads_of_none (any_of (Number ∷ Infinity ∷ NotAvailable ∷ YesNo ∷ [])) (seen_from c.args.self.now.reader c.args.at) (Number ∷ Infinity ∷ NotAvailable ∷ YesNo ∷ Name ∷ Suffix ∷ Function ∷ OrdCard ∷ FoldOp ∷ LeftParen ∷ []) refl refl c.next.ensures none in
    let others = leads_of_none (the Target ∣ the Call ∣ the Fold ∣ bracketed (the Expression)) (seen_from c.args.self.now.reader c.args.at) (Number ∷ Infinity ∷ NotAvailable ∷ YesNo ∷ Name ∷ Suffix ∷ Function ∷ OrdCard ∷ FoldOp ∷ LeftParen ∷ []) refl refl c.next.ensures none in
    refuses_the Primary (refuses_at (went_same c.args.tables.now) (in_neither first others) c.unexpected.ensures)
