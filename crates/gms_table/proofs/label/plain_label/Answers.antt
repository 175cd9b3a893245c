use Rattle.std.proofs.Common.{sym, ◌∙◌}
use Rattle.gms_table.proofs.TextLemmas.{plain-labels}
use Rattle.gms_table.proofs.label.plain_label.Goals as goal

pub plain_text-requires : goal.plain_text-requires
plain_text-requires c = plain-labels c.args.text.now (sym c.label_length.ensures.value ∙ c.if-label_length-text.true)
