use Rattle.std.proofs.Common.{length, refl, sym, ap, ◌∙◌, arith}
use Rattle.gms_expressions.proofs.Signs.{handed_on}
use Rattle.gms_parse.proofs.Sources.{ready_of, refusal_of, program_of}
use Rattle.gms_parse.proofs.source.parse.Goals as goal

pub program-requires-clause-ready : goal.program-requires-clause-ready
program-requires-clause-ready g c =
    ready_of _ c.in_ok-tokens.tokens.items c.len.result c.index.result.now c.in_ok-tokens.ensures c.as_slice.ensures.value (c.len.ensures ∙ sym c.as_slice.ensures.len ∙ ap length c.as_slice.ensures.value) c.index.ensures refl (omega arith)

pub returns-in_err-statements : goal.returns-in_err-statements
returns-in_err-statements g c =
    let ready = ready_of (record { alloc = c.args.alloc; source = c.args.source; tokens = c.as_slice.result; end = c.index.result.now.at; unclosed = 0 }) c.in_ok-tokens.tokens.items c.len.result c.index.result.now c.in_ok-tokens.ensures c.as_slice.ensures.value (c.len.ensures ∙ sym c.as_slice.ensures.len ∙ ap length c.as_slice.ensures.value) c.index.ensures refl (omega arith) in
    handed_on _ _ c.from_residual-in_err-statements.result _ c.from_residual-in_err-statements.ensures.1 (refusal_of _ _ ready c.if-source-gt-MOST_BYTES.false c.in_err-statements.ensures)

pub returns : goal.returns
returns g c =
    let ready = ready_of (record { alloc = c.args.alloc; source = c.args.source; tokens = c.as_slice.result; end = c.index.result.now.at; unclosed = 0 }) c.in_ok-tokens.tokens.items c.len.result c.index.result.now c.in_ok-tokens.ensures c.as_slice.ensures.value (c.len.ensures ∙ sym c.as_slice.ensures.len ∙ ap length c.as_slice.ensures.value) c.index.ensures refl (omega arith) in
    record { short = c.if-source-gt-MOST_BYTES.false; tokens = c.as_slice.result.now; are_tokens = ready.tokens; is = program_of g.F.ExactField.value ready c.in_ok-statements.ensures }
