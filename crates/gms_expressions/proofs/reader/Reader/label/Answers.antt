use Rattle.std.proofs.Common.{Err, refl, sym, ap, ◌∙◌, subst}
use Rattle.std.proofs.lemmas.Str.{IsUtf8-from_ascii}
use Rattle.std.specs.Str.{IsUtf8}
use Rattle.gms_labels.specs.declared.fault.LabelFault.{LabelFault}
use Rattle.gms_lex.specs.TokenTexts.{unquoted}
use Rattle.gms_expressions.proofs.Signs.{handed_on}
use Rattle.gms_expressions.proofs.Nexts.{refuses_lacking}
use Rattle.gms_expressions.proofs.Spelled.{label_spelled}
use Rattle.gms_expressions.proofs.Entering.{label_entered, label_not_entered}
use Rattle.gms_expressions.proofs.reader.Reader.label.Goals as goal

pub returns-in_err-token : goal.returns-in_err-token
returns-in_err-token c limit = handed_on _ _ c.from_residual.result _ c.from_residual.ensures.1 (refuses_lacking c.in_err-token.ensures)

pub returns-in_default : goal.returns-in_default
returns-in_default c limit =
    absurd (c.in_default.ensures.cases.0 (subst IsUtf8 (sym (c.unquoted.ensures ∙ ap unquoted c.text.ensures)) (IsUtf8-from_ascii _ (label_spelled c.in_ok-token.ensures).0)))

pub enter-requires : goal.enter-requires
enter-requires c = rw (c.in-Ok.ensures.cases.0 ∙ (c.unquoted.ensures ∙ ap unquoted c.text.ensures)) ((label_spelled c.in_ok-token.ensures).1)

pub returns-in-Ok-enter : goal.returns-in-Ok-enter
returns-in-Ok-enter c limit =
    label_entered c.args.tables.now c.in_ok-token.ensures c.in-Ok.text.now (c.in-Ok.ensures.cases.0 ∙ (c.unquoted.ensures ∙ ap unquoted c.text.ensures)) (record { names = c.args.tables.now.names; labels = c.enter.new.self }) c.in-Ok-enter.number refl c.in-Ok-enter.ensures.ok (λ full. let e = c.in-Ok-enter.ensures.full.1 full in cc) c.in-Ok-enter.ensures.place

pub returns-in-Err : goal.returns-in-Err
returns-in-Err c limit =
    label_not_entered c.args.tables.now c.in_ok-token.ensures c.in-Ok.text.now (c.in-Ok.ensures.cases.0 ∙ (c.unquoted.ensures ∙ ap unquoted c.text.ensures)) c.in-Err.fault c.not_entered.result (λ is. c.in-Err.ensures.full.0 (ap (λ (x : LabelFault). Err x) is)) c.not_entered.ensures (record { names = c.args.tables.now.names; labels = c.enter.new.self }) refl c.in-Err.ensures.err
