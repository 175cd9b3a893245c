use Rattle.gms_rows.proofs.Entries.{shown-same}
use Rattle.gms_rows.proofs.steps.finished.Goals as goal

pub returns : goal.returns
returns g c =
    shown-same g.F.ExactField.value c.in_ok-form.form c.args.sum c.keys.ensures.form c.offset.ensures.form c.in_ok-form.ensures.constant c.in_ok-form.ensures.numbers
