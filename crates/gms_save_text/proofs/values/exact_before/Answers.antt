use Rattle.gq_text.specs.ExactText.{exact_text}
use Rattle.gms_save_text.proofs.Finding.{handed_on}
use Rattle.gms_save_text.proofs.Numbers.{none-exact}
use Rattle.gms_save_text.proofs.values.exact_before.Goals as goal

pub returns-in_err-word : goal.returns-in_err-word
returns-in_err-word g c x rest fits is =
    handed_on _ _ _ _ c.from_residual.ensures.1 (c.in_err-word.ensures (exact_text x) rest (none-exact c.args.byte g.F.ExactField.limit x c.requires g.met.F.ExactField.limit_range.1 fits) is)

pub returns-in_err-number : goal.returns-in_err-number
returns-in_err-number g c x rest fits is =
    let found = c.in_ok-word.ensures (exact_text x) rest (none-exact c.args.byte g.F.ExactField.limit x c.requires g.met.F.ExactField.limit_range.1 fits) is in
    handed_on _ _ _ _ c.from_residual-in_err-number.ensures.1 (c.in_err-number.ensures x fits found.0)

pub returns : goal.returns
returns g c x rest fits is =
    let found = c.in_ok-word.ensures (exact_text x) rest (none-exact c.args.byte g.F.ExactField.limit x c.requires g.met.F.ExactField.limit_range.1 fits) is in
    (c.in_ok-number.ensures x fits found.0, found.1)
