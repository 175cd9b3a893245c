use Rattle.gms_expressions.proofs.Signs.{handed_on}
use Rattle.std.proofs.Common.{refl, sym, ◌∙◌}
use Rattle.gms_grammar.specs.Grammar.{the}
use Rattle.gms_grammar.specs.GamsGrammar.{NamedStatement}
use Rattle.gms_parse.specs.InnerReadings.{seen_from}
use Rattle.gms_parse.proofs.Ends.{led_within}
use Rattle.gms_parse.proofs.Steps.{refuses_memory}
use Rattle.gms_parse.proofs.Segments.{leads_named, named_none, named_refused, named_got}
use Rattle.gms_parse.proofs.reader.Reader.named_statement.Goals as goal

pub returns-then-not-is_any_next : goal.returns-then-not-is_any_next
returns-then-not-is_any_next g c read_state s other = named_none g.F.ExactField.value s (sym c.is_any_next.ensures ∙ c.if-not-is_any_next.true) c.args.statements.now

pub assignment_or_definition-requires-clause-within : goal.assignment_or_definition-requires-clause-within
assignment_or_definition-requires-clause-within g c = led_within (the NamedStatement) c.args.self.now c.args.at (leads_named (seen_from c.args.self.now c.args.at) ∙ sym c.is_any_next.ensures ∙ c.if-not-is_any_next.false)

pub returns-in_err-act : goal.returns-in_err-act
returns-in_err-act g c read_state s other =
    handed_on _ _ c.from_residual.result _ c.from_residual.ensures.1 (named_refused (seen_from c.args.self.now c.args.at) (sym c.is_any_next.ensures ∙ c.if-not-is_any_next.false) (c.in_err-act.ensures read_state s other))

pub returns-in_err-push : goal.returns-in_err-push
returns-in_err-push g c read_state s other = handed_on _ _ c.from_residual-in_err-push.result _ c.from_residual-in_err-push.ensures.1 (refuses_memory refl)

pub returns : goal.returns
returns g c read_state s other =
    named_got g.F.ExactField.value (sym c.is_any_next.ensures ∙ c.if-not-is_any_next.false) (c.in_ok-act.ensures read_state s other) _ c.place.ensures refl c.args.statements.now _ c.in_ok-push.ensures.items
