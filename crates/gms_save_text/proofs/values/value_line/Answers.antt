use Rattle.std.proofs.Common.{◌∙◌}
use Rattle.gms_save_text.specs.SavedState.{value_text}
use Rattle.gms_save_text.proofs.Finding.{handed_on}
use Rattle.gms_save_text.proofs.Lines.{line_end}
use Rattle.gms_save_text.proofs.Numbers.{none-value}
use Rattle.gms_save_text.proofs.values.value_line.Goals as goal

pub returns-in_err-word : goal.returns-in_err-word
returns-in_err-word g c x rest fits is =
    handed_on _ _ _ _ c.from_residual.ensures.1 (c.in_err-word.ensures (value_text x) rest (none-value g.F.ExactField.limit x g.met.F.ExactField.limit_range.1 fits) (is ∙ line_end (value_text x) rest))

pub returns-in_err-value : goal.returns-in_err-value
returns-in_err-value g c x rest fits is =
    let found = c.in_ok-word.ensures (value_text x) rest (none-value g.F.ExactField.limit x g.met.F.ExactField.limit_range.1 fits) (is ∙ line_end (value_text x) rest) in
    handed_on _ _ _ _ c.from_residual-in_err-value.ensures.1 (c.in_err-value.ensures x fits found.0)

pub returns : goal.returns
returns g c x rest fits is =
    let found = c.in_ok-word.ensures (value_text x) rest (none-value g.F.ExactField.limit x g.met.F.ExactField.limit_range.1 fits) (is ∙ line_end (value_text x) rest) in
    (c.in_ok-value.ensures x fits found.0, found.1)
