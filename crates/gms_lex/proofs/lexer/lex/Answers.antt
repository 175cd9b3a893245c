-- The earlier fault of both passes, or the tokens.
use Rattle.std.proofs.Common.{◌≡◌, ◌∙◌, sym, ap, subst, length, List, ℕ}
use Rattle.gms_grammar.specs.Lines.{code_text}
use Rattle.gms_labels.specs.declared.place.Place.{Place}
use Rattle.gms_lex.specs.InnerReadings.{IsReading}
use Rattle.gms_lex.specs.Tokens.{IsLexFault}
use Rattle.gms_lex.proofs.AnswerLemmas.{answers_tokens, answers_fault, answers_within}
use Rattle.gms_lex.proofs.lexer.lex.Goals as goal

pub returns-in-None : goal.returns-in-None
returns-in-None c =
    let source = c.args.source.now in
    let code : c.as_slice.result.now ≡ code_text source = c.as_slice.ensures.value ∙ c.in_ok-code.ensures.text in
    let read : IsReading source (code_text source) c.in_ok-reading.reading.tokens.items c.in_ok-reading.reading.fault = subst (λ (t : List ℕ). IsReading source t c.in_ok-reading.reading.tokens.items c.in_ok-reading.reading.fault) code c.in_ok-reading.ensures in
    answers_tokens source c.in_ok-code.code.fault c.in_ok-reading.reading.tokens.items c.in_ok-reading.reading.fault c.in_ok-code.ensures.fault read (sym c.earlier.ensures ∙ c.in-None.is)

pub place_of-requires-clause-within : goal.place_of-requires-clause-within
place_of-requires-clause-within c =
    let source = c.args.source.now in
    let code : c.as_slice.result.now ≡ code_text source = c.as_slice.ensures.value ∙ c.in_ok-code.ensures.text in
    let read : IsReading source (code_text source) c.in_ok-reading.reading.tokens.items c.in_ok-reading.reading.fault = subst (λ (t : List ℕ). IsReading source t c.in_ok-reading.reading.tokens.items c.in_ok-reading.reading.fault) code c.in_ok-reading.ensures in
    answers_within source c.in_ok-code.code.fault c.in_ok-reading.reading.tokens.items c.in_ok-reading.reading.fault c.in-Some.fault (ap length (sym c.in_ok-code.ensures.text) ∙ c.in_ok-code.ensures.as_long) c.in_ok-code.ensures.fault read (sym c.earlier.ensures ∙ c.in-Some.is)

pub returns : goal.returns
returns c =
    let source = c.args.source.now in
    let code : c.as_slice.result.now ≡ code_text source = c.as_slice.ensures.value ∙ c.in_ok-code.ensures.text in
    let read : IsReading source (code_text source) c.in_ok-reading.reading.tokens.items c.in_ok-reading.reading.fault = subst (λ (t : List ℕ). IsReading source t c.in_ok-reading.reading.tokens.items c.in_ok-reading.reading.fault) code c.in_ok-reading.ensures in
    let fault = answers_fault source c.in_ok-code.code.fault c.in_ok-reading.reading.tokens.items c.in_ok-reading.reading.fault c.in-Some.fault c.in_ok-code.ensures.fault read (sym c.earlier.ensures ∙ c.in-Some.is) in
    subst (λ (at : Place). IsLexFault source record { error = c.in-Some.fault.error; at = at }) (sym c.place_of.ensures) fault
