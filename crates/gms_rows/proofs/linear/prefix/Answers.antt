use Rattle.std.proofs.Common.{Some, option_map, map, Ok, ap, ◌∙◌}
use Rattle.gms_eval.specs.Faults.{◌and_then◌}
use Rattle.gms_eval.specs.Nodes.{chain, signed_step}
use Rattle.gms_eval.proofs.Answering.{handed_on, stops-same, stops-then}
use Rattle.gms_rows.specs.Forms.{form_in}
use Rattle.gms_rows.proofs.Parts.{part_mark, part_value, numbered, prefix-none, prefix-some}
use Rattle.gms_rows.proofs.linear.prefix.Goals as goal

pub returns-in_default : goal.returns-in_default
returns-in_default g c =
    prefix-none g.F.ExactField.value g.F.ExactField.limit c.args.store.now c.args.b.now c.args.kind c.args.parts.now c.in_default.ensures.cases

pub returns-in_err-value : goal.returns-in_err-value
returns-in_err-value g c =
    let v = g.F.ExactField.value in
    let limit = g.F.ExactField.limit in
    let state = c.args.store.now in
    let b = c.args.b.now in
    let stop = c.in_err-value.field-0.0 in
    handed_on v (option_map (form_in v)) c.from_residual.result stop _ c.from_residual.ensures.1 (stops-same v stop _ _ (prefix-some v limit state b c.args.kind c.args.parts.now _ c.in-Some.first.now c.in-Some.ensures.cases.0) (stops-then v stop (chain (signed_step limit b c.args.kind) (map (λ p. (part_mark p, part_value v limit state b p)) c.args.parts.now)) (numbered v limit state b c.in-Some.first.now.0) c.in_err-value.ensures))

pub returns-in_err-form : goal.returns-in_err-form
returns-in_err-form g c =
    let v = g.F.ExactField.value in
    let limit = g.F.ExactField.limit in
    let state = c.args.store.now in
    let b = c.args.b.now in
    let stop = c.in_err-form.field-0.0 in
    handed_on v (option_map (form_in v)) c.from_residual-in_err-form.result stop _ c.from_residual-in_err-form.ensures.1 (stops-same v stop _ _ (prefix-some v limit state b c.args.kind c.args.parts.now _ c.in-Some.first.now c.in-Some.ensures.cases.0 ∙ ap (λ a. a and_then numbered v limit state b c.in-Some.first.now.0) c.in_ok-value.ensures) (stops-then v stop _ (λ form. Ok (Some form)) c.in_err-form.ensures))

pub returns : goal.returns
returns g c =
    let v = g.F.ExactField.value in
    let limit = g.F.ExactField.limit in
    let state = c.args.store.now in
    let b = c.args.b.now in
    prefix-some v limit state b c.args.kind c.args.parts.now _ c.in-Some.first.now c.in-Some.ensures.cases.0
    ∙ ap (λ a. a and_then numbered v limit state b c.in-Some.first.now.0) c.in_ok-value.ensures
    ∙ ap (λ a. a and_then λ form. Ok (Some form)) c.in_ok-form.ensures
