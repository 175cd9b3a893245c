use Rattle.std.proofs.Common.{sym, ap, ◌∙◌}
use Rattle.gq_extended.specs.Extended.{number}
use Rattle.gms_rows.specs.Forms.{form_in, number_in_form}
use Rattle.gms_rows.proofs.Entries.{number-of_key}
use Rattle.gms_rows.proofs.steps.entry_of_sum.Goals as goal

pub returns-in-None : goal.returns-in-None
returns-in-None g c =
    ap (λ x. number (g.F.ExactField.value x)) c.offset-constant.ensures.constant ∙ ap (number_in_form (form_in g.F.ExactField.value c.args.sum.now)) (sym c.in-None.is)

pub returns-in-Some : goal.returns-in-Some
returns-in-Some g c =
    ap number (c.get.ensures ∙ sym (number-of_key g.F.ExactField.value c.args.sum.now c.in-Some.key c.offset-constant.ensures.form)) ∙ ap (number_in_form (form_in g.F.ExactField.value c.args.sum.now)) (sym c.in-Some.is)
